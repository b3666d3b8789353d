use Rattle.std.proofs.Common.{Option, Some, None, Bool, true, false, cond, sym, subst}
use Rattle.std.specs.Prelude.{IfSome, IsTrue, nat_lt}
use Rattle.qg_super.specs.declared.superblock.Super.{Super}
use Rattle.qg_super.specs.Places.{is_served}
use Rattle.qg_super.specs.SuperText.{sizes_of, choose}
use Rattle.qg_super.proofs.Served.{SuperFits-is_super}
use Rattle.qg_check.specs.Stages.{FieldsFit}
use Rattle.qg_check.proofs.places.SuperblockPlaces.chosen.Goals as goal

served : (found : Option Super) → IfSome found FieldsFit → IfSome found (λ super. IsTrue (is_served (sizes_of super)))
served None fits = tt
served (Some super) fits = (SuperFits-is_super super fits).served

chosen : (first second : Option Super) → IfSome first FieldsFit → IfSome second FieldsFit
    → IfSome (choose first second) FieldsFit
chosen None second fits fits' = fits'
chosen (Some a) None fits fits' = fits
chosen (Some a) (Some b) fits fits' = either (nat_lt a.generation b.generation) where
  either : (less : Bool) → IfSome (cond less (Some b) (Some a)) FieldsFit
  either true = fits'
  either false = fits

pub returns-clause-served : goal.returns-clause-served
returns-clause-served c =
    served c.choose.result (subst (λ (found : Option Super). IfSome found FieldsFit) (sym c.choose.ensures)
    (chosen c.args.self.now.first c.args.self.now.second c.requires.first c.requires.second))
