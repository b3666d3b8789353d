use Rattle.std.proofs.Common.{ℕ, List, ◌∷◌, sym, ap, subst, ◌∙◌}
use Rattle.std.specs.Prelude.{◌&&◌}
use Rattle.std.specs.List.{list_any}
use Rattle.std.specs.List.Sorted.{IsStrictlySortedBy}
use Rattle.std.specs.Ordering.{nat_cmp}
use Rattle.qg_image.specs.Members.{is_member}
use Rattle.qg_image.specs.Table.{keys_of}
use Rattle.qg_qgroups.specs.Groups.{is_kept}
use Rattle.qg_account.specs.Moves.{OwnerChange}
use Rattle.qg_account.specs.Updating.{CanTake, HaveMovedInPart}
use Rattle.qg_account.proofs.MovedGroups.{HaveMoved, broken-handed, keys-moved, moved-broken, moved-more, moved-none}
use Rattle.qg_account.proofs.MovedGroups.{moved-not, on-err}
use Rattle.qg_account.proofs.updating.update.Goals as goal

pub returns-in_err-found-clause-err : goal.returns-in_err-found-clause-err
returns-in_err-found-clause-err c =
    let hierarchy = c.args.hierarchy.now in
    let change : OwnerChange = record { bytes = c.args.bytes; before = c.args.before.now; now = c.args.now.now } in
    on-err (HaveMovedInPart hierarchy change c.args.counters.now c.args.counters.now) c.from_residual.result
    (moved-not hierarchy change c.args.counters.now)

pub returns-in_err-left-clause-err : goal.returns-in_err-left-clause-err
returns-in_err-left-clause-err c =
    let hierarchy = c.args.hierarchy.now in
    let change : OwnerChange = record { bytes = c.args.bytes; before = c.args.before.now; now = c.args.now.now } in
    on-err (HaveMovedInPart hierarchy change c.args.counters.now c.args.counters.now)
    c.from_residual-in_err-left.result (moved-not hierarchy change c.args.counters.now)

pub loop-number-init : goal.loop-number-init
loop-number-init c =
    let hierarchy = c.args.hierarchy.now in
    let change : OwnerChange = record { bytes = c.args.bytes; before = c.args.before.now; now = c.args.now.now } in
    record {
      moved =
          moved-none hierarchy change c.args.counters.now c.in_ok-found.found c.in_ok-left.left.keys
          c.in_ok-found.ensures c.requires.groups
          (λ group. c.in_ok-left.ensures.has group
          ∙ ap (λ (subs : List ℕ). list_any (is_member hierarchy group) subs && is_kept hierarchy group)
          c.as_slice.ensures);
      ordered = c.in_ok-left.ensures.ordered;
    }

pub update_group-requires-clause-groups : goal.update_group-requires-clause-groups
update_group-requires-clause-groups c =
    let hierarchy = c.args.hierarchy.now in
    let change : OwnerChange = record { bytes = c.args.bytes; before = c.args.before.now; now = c.args.now.now } in
    keys-moved hierarchy change c.args.counters.now c.loop-number.left.keys c.loop-number.counters
    c.loop-number.invariant.moved ∙ c.requires.groups

pub loop-number-preserved : goal.loop-number-preserved
loop-number-preserved c =
    let hierarchy = c.args.hierarchy.now in
    let change : OwnerChange = record { bytes = c.args.bytes; before = c.args.before.now; now = c.args.now.now } in
    let group = c.from_number-group.result in
    let left = c.take_least.new.numbers.keys in
    let taken =
    c.in-Some.ensures.taken ∙ ap (λ (n : ℕ). n ∷ left) (sym c.from_number-group.ensures) in
    record {
      moved =
          moved-more hierarchy change c.args.counters.now group left
          (subst (IsStrictlySortedBy nat_cmp) taken c.loop-number.invariant.ordered) c.loop-number.counters
          (subst (λ (ns : List ℕ). HaveMoved hierarchy change c.args.counters.now ns c.loop-number.counters) taken
          c.loop-number.invariant.moved)
          c.update_group.new.counters c.in_ok-update_group.ensures.moved c.in_ok-update_group.ensures.taken;
      ordered = c.take_least.ensures.ordered;
    }

pub returns-in_err-update_group-clause-broken : goal.returns-in_err-update_group-clause-broken
returns-in_err-update_group-clause-broken c =
    let hierarchy = c.args.hierarchy.now in
    let change : OwnerChange = record { bytes = c.args.bytes; before = c.args.before.now; now = c.args.now.now } in
    let group = c.from_number-group.result in
    let left = c.take_least.new.numbers.keys in
    let taken =
    c.in-Some.ensures.taken ∙ ap (λ (n : ℕ). n ∷ left) (sym c.from_number-group.ensures) in
    broken-handed c.from_residual-in_err-update_group.result c.in_err-update_group.field-0.0
    (CanTake hierarchy change c.args.counters.now → ⊥)
    c.from_residual-in_err-update_group.ensures.1
    (λ broken could.
    let one = c.in_err-update_group.ensures.broken broken in
    moved-broken hierarchy change c.args.counters.now group left
    (subst (IsStrictlySortedBy nat_cmp) taken c.loop-number.invariant.ordered) c.loop-number.counters
    (subst (λ (ns : List ℕ). HaveMoved hierarchy change c.args.counters.now ns c.loop-number.counters) taken
    c.loop-number.invariant.moved)
    one.0 one.1 one.2 could)

pub returns-in_err-update_group-clause-groups : goal.returns-in_err-update_group-clause-groups
returns-in_err-update_group-clause-groups c =
    let hierarchy = c.args.hierarchy.now in
    let change : OwnerChange = record { bytes = c.args.bytes; before = c.args.before.now; now = c.args.now.now } in
    ap keys_of c.in_err-update_group.ensures.err
    ∙ keys-moved hierarchy change c.args.counters.now c.loop-number.left.keys c.loop-number.counters
    c.loop-number.invariant.moved ∙ c.requires.groups

pub returns-clause-groups : goal.returns-clause-groups
returns-clause-groups c =
    let hierarchy = c.args.hierarchy.now in
    let change : OwnerChange = record { bytes = c.args.bytes; before = c.args.before.now; now = c.args.now.now } in
    keys-moved hierarchy change c.args.counters.now c.loop-number.left.keys c.loop-number.counters
    c.loop-number.invariant.moved ∙ c.requires.groups
