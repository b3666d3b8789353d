use Rattle.std.proofs.Common.{ℕ, Bool, List, [], ◌++◌, length, refl, sym, ap, subst, ◌∙◌, append_assoc, append-nil}
use Rattle.std.proofs.lemmas.Bool.{eqb-true}
use Rattle.std.proofs.lemmas.List.{take_at, length-map, nil_from_length}
use Rattle.qg_owner_rule.specs.declared.linked.Linked.{Linked}
use Rattle.qg_owner_rule.specs.Housed.{AreHoused, AreHousedAmong, AreHousedSoundly, AreHousedToo}
use Rattle.qg_owner_rule.proofs.Ascending.{front_ascends, back_ascends}
use Rattle.qg_owner_rule.proofs.Housing.{housed_none}
use Rattle.qg_owner_rule.proofs.Owning.{among_all, among_more, among_none}
use Rattle.qg_owner_rule.proofs.Homes.{homeless_found}
use Rattle.qg_owner_rule.proofs.home.homeless.Goals as goal

pub loop-later-init : goal.loop-later-init
loop-later-init c =
    let nodes = c.args.nodes.now in
    let roots = c.args.roots.now in
    let housed = c.in_ok-housed.housed in
    let value = c.as_mut_slice.ensures.value in
    let new = c.house_own.new.housed in
    let same = c.house_own.auto.housed ∙ ap (λ (list : List Bool). length list) value ∙ sym housed.ok.0 in
    let soundly =
    subst (λ (old : List Bool). AreHousedSoundly nodes roots old new) value c.in_ok-house_own.ensures in
    record {
      same = housed.ok.0 ∙ ap (λ (list : List Bool). length list) c.in_ok-housed.ensures
          ∙ length-map nodes (λ (node : Linked). node.full);
      taken = (
        [],
        refl,
        subst (AreHousedAmong nodes roots []) (sym (take_at new _ housed.len same))
            (among_none nodes roots housed.items new (housed_none nodes housed.items c.in_ok-housed.ensures) soundly),
      );
    }

pub house-requires-clause-numbers : goal.house-requires-clause-numbers
house-requires-clause-numbers c =
    let taken = c.loop-later.invariant.taken in
    let later =
    back_ascends (λ (root : ℕ × ℕ). root.0)
    taken.0 c.loop-later.later.now c.args.roots.now taken.1 c.requires.roots in
    front_ascends (λ (root : ℕ × ℕ). root.0)
    c.split_at.result.0.now c.split_at.result.1.now c.loop-later.later.now c.split_at.ensures.by_index.0 later

pub loop-later-preserved : goal.loop-later-preserved
loop-later-preserved c =
    let nodes = c.args.nodes.now in
    let roots = c.args.roots.now in
    let housed = c.loop-later.housed in
    let taken = c.loop-later.invariant.taken in
    let group = c.split_at.result.0.now in
    let others = c.split_at.result.1.now in
    let value = c.as_mut_slice-in-loop-later.ensures.value in
    let new = c.house.new.housed in
    let same = c.house.auto.housed ∙ ap (λ (list : List Bool). length list) value ∙ sym housed.ok.0 in
    let too = subst (λ (old : List Bool). AreHousedToo nodes group old new) value c.in_ok-house.ensures in
    let parts =
    taken.1 ∙ ap (λ (list : List (ℕ × ℕ)). taken.0 ++ list) c.split_at.ensures.by_index.0
    ∙ sym (append_assoc taken.0 group others) in
    record {
      same = c.loop-later.invariant.same;
      taken = (
        taken.0 ++ group,
        parts,
        subst (AreHousedAmong nodes roots (taken.0 ++ group)) (sym (take_at new _ housed.len same))
            (among_more nodes roots taken.0 group others housed.items new parts taken.2 too),
      );
    }

pub returns : goal.returns
returns c layout links =
    let nodes = c.args.nodes.now in
    let roots = c.args.roots.now in
    let taken = c.loop-later.invariant.taken in
    let housed = c.loop-later.housed.items in
    let empty = eqb-true (length c.loop-later.later.now) 0 (sym c.is_empty.ensures ∙ c.loop-later-test.false) in
    let all =
    taken.1 ∙ ap (λ (list : List (ℕ × ℕ)). taken.0 ++ list) (nil_from_length c.loop-later.later.now empty)
    ∙ append-nil taken.0 in
    let among =
    subst (λ (subvolumes : List (ℕ × ℕ)). AreHousedAmong nodes roots subvolumes housed) (sym all) taken.2 in
    homeless_found layout roots nodes links c.requires.nodes c.requires.roots c.as_slice-2.result.now
    c.first_homeless.result
    (subst (AreHoused nodes roots) (sym c.as_slice-2.ensures.value) (among_all nodes roots housed among))
    c.first_homeless.ensures
