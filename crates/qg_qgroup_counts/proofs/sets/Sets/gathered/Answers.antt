use Rattle.std.proofs.Common.{ℕ, List, take, sym, subst, ◌⊎◌, ◌↔◌}
use Rattle.std.proofs.lemmas.List.{take_all}
use Rattle.qg_qgroup_counts.specs.Sets.{HasMember}
use Rattle.qg_qgroup_counts.proofs.Uniting.{Gathered, gathered_none, gathered_more}
use Rattle.qg_qgroup_counts.proofs.sets.Sets.gathered.Goals as goal

pub loop-set-init : goal.loop-set-init
loop-set-init c =
    let rows = c.args.self.now.rows.items in
    let own = c.args.own.now in
    let sets = c.args.sets.now in
    subst (Gathered rows own (take 0 sets)) (sym c.in_ok-row.ensures) (gathered_none rows own sets)

pub loop-set-preserved : goal.loop-set-preserved
loop-set-preserved c =
    let old = c.loop-set.row in
    let new = c.add_members.new.row in
    let step =
    subst (λ (more : List ℕ). (member : ℕ) → HasMember new member ↔ (HasMember old member ⊎ HasMember more member))
    c.row.ensures c.in_ok-add_members.ensures in
    gathered_more c.args.self.now.rows.items c.args.own.now c.args.sets.now old new c.loop-set.set-index
    c.set-item.result c.loop-set-test.true c.set-item.is c.loop-set.invariant step

pub returns : goal.returns
returns c =
    subst (λ (sets : List ℕ). Gathered c.args.self.now.rows.items c.args.own.now sets c.loop-set.row)
    (take_all c.loop-set.set-index c.args.sets.now c.loop-set-test.false) c.loop-set.invariant
