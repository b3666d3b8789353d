use Rattle.std.proofs.Common.{List, subst, sym, ap}
use Rattle.std.specs.List.{All, Contains}
use Rattle.qg_image.specs.declared.element.Element.{Element}
use Rattle.qg_space.specs.Holding.{Holding}
use Rattle.qg_space.proofs.space.Space.give_runs.Goals as goal

pub take_out_runs-self-inside-requires-clause-there : goal.take_out_runs-self-inside-requires-clause-there
take_out_runs-self-inside-requires-clause-there c =
    let There : List Element → Type 0 = λ runs. All (Contains runs) c.args.extents.now in
    subst There (sym (ap (λ (h : Holding). h.runs) c.self.view_is)) c.requires
