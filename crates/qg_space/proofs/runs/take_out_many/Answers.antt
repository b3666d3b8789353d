use Rattle.std.proofs.Common.{List, map, subst, sym, ap, ◌∙◌}
use Rattle.std.specs.List.{All, Contains}
use Rattle.std.proofs.lemmas.List.{with_items_is}
use Rattle.qg_space.specs.Run.{Run}
use Rattle.qg_space.specs.Lying.{given_back, present_of}
use Rattle.qg_space.proofs.Given.{AreTakenOut, taken_out_all}
use Rattle.qg_space.proofs.runs.take_out_many.Goals as goal
use Rattle.qg_space.proofs.runs.take_out_many.Goals.{After-keep_used}

pub give_back-requires-clause-there : goal.give_back-requires-clause-there
give_back-requires-clause-there c =
    let There : List Run → Type 0 = λ runs. All (Contains (present_of runs)) c.args.extents.now in
    subst There (sym c.deref_mut.ensures.value) c.requires.there

taken : (c : After-keep_used)
    → AreTakenOut c.args.sizes.now c.args.runs.now.items c.keep_used.new.runs.items c.args.extents.now
taken c =
    let marks = with_items_is c.args.runs.now c.give_back.new.runs (c.give_back.auto.runs ∙ c.deref_mut.ensures.len)
    ∙ c.give_back.ensures ∙ ap (map (given_back c.args.extents.now)) c.deref_mut.ensures.value in
    taken_out_all c.args.sizes.now c.args.runs.now.items _ c.keep_used.new.runs.items c.args.extents.now
    c.requires.apart marks c.keep_used.ensures

pub returns-clause-apart : goal.returns-clause-apart
returns-clause-apart c = (taken c).apart

pub returns-clause-present : goal.returns-clause-present
returns-clause-present c = (taken c).present

pub returns-clause-held : goal.returns-clause-held
returns-clause-held c = (taken c).held
