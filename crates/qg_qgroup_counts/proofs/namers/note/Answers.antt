use Rattle.std.proofs.Common.{ℕ, ◌+◌, ◌<◌, List, [], ◌∷◌, ◌++◌, length, take, set, sym, ap, subst, ◌∙◌, arith}
use Rattle.std.proofs.lemmas.List.{take_all, get_or_default}
use Rattle.std.proofs.lemmas.Option.{slice_get_within}
use Rattle.qg_qgroup_counts.specs.Namers.{HasAtMost, HasNoted}
use Rattle.qg_qgroup_counts.proofs.Noting.{most_same, most_more, noted_none, noted_more, noted_other}
use Rattle.qg_qgroup_counts.proofs.namers.note.Goals as goal
use Rattle.qg_qgroup_counts.proofs.namers.note.Goals.{in-Some+in_ok-push, in_default}

pub loop-address-init : goal.loop-address-init
loop-address-init c = record {
  most = most_same c.args.index c.args.lists.now;
  noted = λ up. noted_none c.args.extents.now c.args.named.now c.args.index c.args.lists.now;
}

pub loop-address-preserved : goal.loop-address-preserved
loop-address-preserved c =
    let extents = c.args.extents.now in
    let named = c.args.named.now in
    let old = c.args.lists.now in
    let lists = c.loop-address.lists in
    let index = c.args.index in
    let i = c.loop-address.address-index in
    let address = c.address-item.result in
    let short = c.loop-address-test.true in
    let is = c.address-item.is in
    let before = c.loop-address.invariant in
    elim c.match-place_from.branch [
      | in-Some+in_ok-push w ↦
          let at = w.in-Some.place in
          let stands = w.in-Some.ensures.there in
          let within = slice_get_within extents at stands.0 stands.1 in
          let inside : at < length lists = omega (arith, within, c.requires, c.loop-address.auto.lists) in
          let list = get_or_default lists at w.index-lists-place.result [] inside in
          let pushed = w.in_ok-push.ensures.ok ∙ ap (λ (l : List ℕ). l ++ index ∷ []) list in
          let written = w.lists-is ∙ ap (λ (l : List ℕ). set lists at l) pushed in
          record {
            most = subst (HasAtMost index old) (sym written)
                (most_more extents named i address short is index old lists at inside before.most);
            noted = λ up.
                subst (HasNoted extents (take (i + 1) named) index old) (sym written)
                (noted_more extents named i address short is index old lists at inside up stands (before.noted up));
          }
      | in_default w ↦
          record {
            most = subst (HasAtMost index old) (sym w.lists-is) before.most;
            noted = λ up.
                subst (HasNoted extents (take (i + 1) named) index old) (sym w.lists-is)
                (noted_other extents named i address short is index old lists (w.in_default.ensures.absent up)
                (before.noted up));
          }
    ]

pub returns-clause-noted : goal.returns-clause-noted
returns-clause-noted c = λ up.
    subst (λ (named : List ℕ). HasNoted c.args.extents.now named c.args.index c.args.lists.now c.loop-address.lists)
    (take_all c.loop-address.address-index c.args.named.now c.loop-address-test.false)
    (c.loop-address.invariant.noted up)
