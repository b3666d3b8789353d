use Rattle.std.proofs.Common.{rules, ◌≡◌, ℕ, ap, ◌∙◌, bit_or}
use Rattle.std.specs.Prelude.{◌==◌, slice_range}
use Rattle.std.specs.List.{fold}
use Rattle.qg_num.proofs.Zeros.{zero-fold-bit_or}
use Rattle.qg_num.proofs.reading.is_zero.Goals as goal

pub returns : goal.returns
returns c =
    let piece = slice_range c.args.bytes.now c.args.from c.args.to in
    let all : c.fold.result ≡ fold bit_or 0 piece = search rules in
    ap (λ (n : ℕ). n == 0) all ∙ zero-fold-bit_or piece
