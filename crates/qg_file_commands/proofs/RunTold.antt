-- The free run that is found is the machine's. Lengths are in bytes.
use Rattle.std.proofs.Common.{◌≡◌, ℕ, ◌*◌, ◌/◌, ◌%◌, true, List, None, Some, Option, sym, ap, ◌∙◌, arith}
use Rattle.std.specs.Prelude.{IfSome, IsTrue}
use Rattle.std.proofs.lemmas.Bool.{eqb-true}
use Rattle.qg_device.specs.History.{History}
use Rattle.qg_super.specs.Places.{sector}
use Rattle.qg_image.specs.FilesOf.{is_aligned}
use Rattle.qg_image.specs.State.{State}
use Rattle.qg_image.specs.Space as present
use Rattle.qg_space.specs.Holding.{Holding, first_run, is_free_run}
use Rattle.qg_space.proofs.Firsts.{is_free_run-first}
use Rattle.qg_extents.specs.Table.{IsTable}
use Rattle.qg_open_image.proofs.Free.{space-told}
use Rattle.qg_open_image.specs.declared.open_image.OpenImage.{OpenImage}
use Rattle.qg_open_image.specs.Keeping.{IsKept, IsKeptOf}
use Rattle.qg_open_image.proofs.Stepped.{tree-kept}

-- a length of whole sectors, by their number
whole-sectors : (len : ℕ) → is_aligned len ≡ true → len / sector * sector ≡ len
whole-sectors len aligned = let none = eqb-true (len % sector) 0 aligned in omega (arith, none)

module _ (len : ℕ) (found : Option ℕ) (aligned : is_aligned len ≡ true) where
  pub run-first : (space : Holding) → found ≡ first_run space (len / sector * sector) → found ≡ first_run space len
  run-first space is = is ∙ ap (first_run space) (whole-sectors len aligned)

  pub run-told : (kept : OpenImage) (state : State) (history : History) (bytes : ℕ) → IsKept kept history bytes
      → IsKeptOf kept state history → IsTable kept.fs.refs.refs
      → found ≡ first_run kept.fs.land.space (len / sector * sector) → found ≡ present.first_run state len
  run-told kept state history bytes fits keeps table is =
      run-first kept.fs.land.space is
      ∙ (space-told kept.fs history bytes state keeps.mine keeps.files
      (tree-kept kept state history bytes fits keeps table) keeps.keeps).first len

pub run-free : (space : Holding) (len : ℕ) (found : Option ℕ) → found ≡ first_run space len
    → IfSome found (λ run. IsTrue (is_free_run space run len))
run-free space len None is = tt
run-free space len (Some run) is = is_free_run-first space len run (sym is)
