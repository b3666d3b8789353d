use Rattle.std.proofs.Common.{◌≡◌, ◌≤◌, ℕ, ◌+◌, List, length, sym, ap, subst, ◌∙◌, arith}
use Rattle.std.proofs.lemmas.List.{take_at}
use Rattle.qg_owner_rule.proofs.Listed.{at_read}
use Rattle.qg_qgroup_counts.specs.Groups.{AreWithin}
use Rattle.qg_qgroup_counts.specs.Namers.{HasAtMost, HasNoted}
use Rattle.qg_qgroup_counts.proofs.Noting.{NamersFirst, within_none, within_more, within_all, namers_none, namers_more}
use Rattle.qg_qgroup_counts.proofs.Noting.{namers_all}
use Rattle.qg_qgroup_counts.proofs.namers.namers_of.Goals as goal

pub loop-i-init : goal.loop-i-init
loop-i-init c = record {
  same = c.in_ok-lists.ensures.same;
  within = within_none c.in_ok-lists.lists.items c.in_ok-lists.ensures.empty;
  namers = λ up. namers_none c.args.nodes.now c.args.extents.now c.in_ok-lists.lists.items c.in_ok-lists.ensures.empty;
}

pub loop-i-preserved : goal.loop-i-preserved
loop-i-preserved c =
    let nodes = c.args.nodes.now in
    let extents = c.args.extents.now in
    let i = c.loop-i.i in
    let node = c.index-nodes-i.result in
    let here = at_read nodes i node c.loop-i-test.true c.index-nodes-i.is in
    let lists = c.loop-i.lists in
    let new = c.note.new.lists in
    let value = c.as_mut_slice.ensures.value in
    let named = c.as_slice.ensures in
    let before = c.loop-i.invariant in
    let same = c.in_ok-note.ensures.same ∙ ap (λ (list : List (List ℕ)). length list) value in
    let written = sym (take_at new _ lists.len (same ∙ sym lists.ok.0)) in
    let most = subst (λ (old : List (List ℕ)). HasAtMost i old new) value c.in_ok-note.ensures.most in
    record {
      same = subst (λ (list : List (List ℕ)). length list ≡ length extents) written (same ∙ before.same);
      within = subst (AreWithin (i + 1)) written (within_more i lists.items new before.within most);
      namers = λ up.
          let noted =
          subst (λ (list : List ℕ). HasNoted extents list i lists.items new) named
          (subst (λ (old : List (List ℕ)). HasNoted extents c.as_slice.result.now i old new) value
          (c.in_ok-note.ensures.noted up)) in
          subst (NamersFirst nodes extents (i + 1)) written
          (namers_more nodes extents i node lists.items new here (before.namers up) noted);
    }

pub returns-clause-within : goal.returns-clause-within
returns-clause-within c =
    let end : c.loop-i.i ≤ length c.args.nodes.now = omega arith in
    within_all c.loop-i.i (length c.args.nodes.now) c.loop-i.lists.items end c.loop-i.invariant.within

pub returns-clause-namers : goal.returns-clause-namers
returns-clause-namers c = λ up.
    namers_all c.args.nodes.now c.args.extents.now c.loop-i.i c.loop-i.lists.items c.loop-i-test.false
    (c.loop-i.invariant.namers up)
