use Rattle.std.proofs.Common.{◌≡◌, ℕ, ◌+◌, ◌^◌, ◌<◌, ◌≤◌, List, [], ◌∷◌, drop, sym, ap, ◌∙◌, arith, rules}
use Rattle.std.proofs.lemmas.Bool.{true≢false}
use Rattle.std.proofs.Math.ListN.{drop_of_length-le}
use Rattle.std.proofs.lemmas.List.{drop_more}
use Rattle.qg_num.specs.declared.piece.Piece.{Piece}
use Rattle.qg_inodes.proofs.Judging.{apart-first, apart-none, piece-begins, piece-within, pieces-behind}
use Rattle.qg_inodes.proofs.apart.are_apart.Goals.{then-piece-end-via-then-piece-end}
use Rattle.qg_inodes.proofs.apart.are_apart.Goals.{then-piece-end-via-else-piece-end+then-not-is_within_sizes}
use Rattle.qg_inodes.proofs.apart.are_apart.Goals as goal

pub returns-then-piece-end-clause-every : goal.returns-then-piece-end-clause-every
returns-then-piece-end-clause-every c size small are =
    let pieces = c.args.pieces.now in
    let i = c.loop-piece.piece-index in
    let piece = c.piece-item.result in
    let cut : drop i pieces ≡ piece ∷ drop (i + 1) pieces =
    drop_more pieces i piece (omega arith) ∙ ap (λ (p : Piece). p ∷ drop (i + 1) pieces) (sym c.piece-item.is)
    in
    let here = c.loop-piece.invariant.each size are in
    let begins = piece-begins c.loop-piece.end size piece (drop i pieces) (drop (i + 1) pieces) cut here in
    let within = piece-within c.loop-piece.end size piece (drop i pieces) (drop (i + 1) pieces) cut here small in
    elim c.then-piece-end.branch [
      | then-piece-end-via-then-piece-end w ↦ absurd (let less = w.if-piece-end.true in omega arith)
      | then-piece-end-via-else-piece-end+then-not-is_within_sizes w ↦
          absurd (true≢false (sym (w.is_within_sizes.ensures.within.1 (within w.is_within_sizes.ensures.fits))
          ∙ w.if-not-is_within_sizes.true))
    ]

pub loop-piece-preserved : goal.loop-piece-preserved
loop-piece-preserved c =
    let pieces = c.args.pieces.now in
    let i = c.loop-piece.piece-index in
    let piece = c.piece-item.result in
    let cut : drop i pieces ≡ piece ∷ drop (i + 1) pieces =
    drop_more pieces i piece (omega arith) ∙ ap (λ (p : Piece). p ∷ drop (i + 1) pieces) (sym c.piece-item.is)
    in
    record {
      whole = λ behind.
          c.loop-piece.invariant.whole
          (apart-first c.loop-piece.end piece (drop i pieces) (drop (i + 1) pieces) cut (omega arith)
          (c.is_within_sizes.ensures.within.0 c.if-not-is_within_sizes.false) behind);
      each = λ size are.
          pieces-behind c.loop-piece.end size piece (drop i pieces) (drop (i + 1) pieces) cut
          (c.loop-piece.invariant.each size are);
    }

pub returns-clause-apart : goal.returns-clause-apart
returns-clause-apart c is =
    c.loop-piece.invariant.whole (apart-none c.loop-piece.end (drop c.loop-piece.piece-index c.args.pieces.now)
    (drop_of_length-le c.args.pieces.now (omega arith)))
