use Rattle.std.proofs.Common.{◌≡◌, ℕ, ◌<◌, true, List, take, get_or, refl, ap, sym, ◌∙◌, arith}
use Rattle.std.specs.Prelude.{IsTrue}
use Rattle.std.specs.List.{fold}
use Rattle.std.proofs.lemmas.List.Elements.{All-get_or}
use Rattle.std.proofs.lemmas.List.Sums.{fold_more}
use Rattle.qg_image.specs.Table.{keys_of}
use Rattle.qg_image.specs.declared.quota.Group.{Group}
use Rattle.qg_image.specs.declared.quota.Quota.{Quota}
use Rattle.qg_image.specs.Members.{hierarchy_of, level_of_group}
use Rattle.qg_machine.specs.GroupChange.{assigned, has_pair}
use Rattle.qg_qgroups.specs.Groups.{has_number, is_kept}
use Rattle.qg_qgroups.proofs.RelatedPairs.{free-assign, join-next, named-first}
use Rattle.qg_qgroups.proofs.state.QuotaState.assign_all.Goals as goal

pub loop-parent-init : goal.loop-parent-init
loop-parent-init c = record {
  tracked = c.requires.tracked;
  quota = refl;
  groups = refl;
  pairs = c.requires.member.free;
  held = λ group. refl;
}

pub loop-parent-preserved : goal.loop-parent-preserved
loop-parent-preserved c =
    let member = c.args.member in
    let one = c.parent-item.result in
    let i = c.loop-parent.parent-index in
    let parents = c.args.parents.now in
    let before = c.loop-parent.invariant in
    let after = c.in_ok-assign.ensures in
    record {
      tracked = after.tracked;
      quota = after.quota ∙ ap (λ (q : Quota). assigned member one q) before.quota
          ∙ ap (λ (p : ℕ). assigned member p (fold (λ made parent. assigned member parent made) c.args.self.now.quota
          (take i parents))) c.parent-item.is
          ∙ sym (fold_more (λ (made : Quota) (parent : ℕ). assigned member parent made) c.args.self.now.quota parents i
          one c.loop-parent-test.true);
      groups = ap (λ (q : Quota). q.groups) after.quota ∙ before.groups;
      pairs = λ parent. ap (λ (q : Quota). has_pair member parent q.pairs) after.quota
          ∙ join-next member parent parents i one c.loop-parent.self.quota.pairs c.loop-parent-test.true
          c.parent-item.is (before.pairs parent);
      held = λ group. after.held group ∙ before.held group;
    }

pub assign-requires : goal.assign-requires
assign-requires c =
    let member = c.args.member in
    let one = c.parent-item.result in
    let i = c.loop-parent.parent-index in
    let parents = c.args.parents.now in
    let before = c.loop-parent.invariant in
    let into = c.requires.member.parents in
    let above : 0 < level_of_group (get_or parents i one) =
    All-get_or (λ (p : ℕ). 0 < level_of_group p) parents i one c.loop-parent-test.true into.above in
    let level : level_of_group one ≡ level_of_group (get_or parents i one) =
    ap (λ (p : ℕ). level_of_group p) c.parent-item.is in
    let rises : level_of_group member < level_of_group one = omega (arith, above, level, c.requires.member.level) in
    let there : is_kept (hierarchy_of c.args.self.now.quota) (get_or parents i one) ≡ true =
    All-get_or (λ (p : ℕ). IsTrue (is_kept (hierarchy_of c.args.self.now.quota) p)) parents i one
    c.loop-parent-test.true into.there in
    record {
      tracked = before.tracked;
      free = free-assign (hierarchy_of c.loop-parent.self.quota) member one rises
          (ap (λ (gs : List (ℕ × Group)). has_number member (keys_of gs)) before.groups ∙ c.requires.member.there)
          (ap (λ (gs : List (ℕ × Group)). has_number one (keys_of gs)) before.groups
          ∙ ap (λ (p : ℕ). is_kept (hierarchy_of c.args.self.now.quota) p) c.parent-item.is ∙ there)
          (before.pairs one ∙ named-first parents i one into.distinct c.loop-parent-test.true c.parent-item.is);
    }
