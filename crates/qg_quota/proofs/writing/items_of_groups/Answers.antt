use Rattle.std.proofs.Common.{◌≡◌, ℕ, ◌<◌, List, [], ◌∷◌, ◌++◌, length, map, take, ap, subst, sym, ◌∙◌}
use Rattle.std.specs.Prelude.{All}
use Rattle.std.proofs.lemmas.List.{append-nil, take_all}
use Rattle.std.proofs.lemmas.List.Elements.{All-more, All-nil}
use Rattle.qg_node.specs.declared.item.Item.{Item}
use Rattle.qg_image.specs.declared.quota.Group.{Group}
use Rattle.qg_quota.specs.Writable.{CountersFit, LimitsFit}
use Rattle.qg_quota.specs.Written.{item_of_info, item_of_limit, item_of_status}
use Rattle.qg_quota.proofs.Items.{item-put}
use Rattle.qg_quota.proofs.writing.items_of_groups.Goals as goal

abbrev HasLimits : ℕ × Group → Type 0
HasLimits entry = LimitsFit entry.1.max_rfer entry.1.max_excl

pub loop-entry-preserved : goal.loop-entry-preserved
loop-entry-preserved c =
    let groups = c.args.groups.now in
    let i = c.loop-entry.entry-index in
    let entry = c.entry-item.result in
    let inside : i < length groups = c.loop-entry-test.true in
    let put : c.push-in-loop-entry.new.self ≡ c.loop-entry.items ++ item_of_info entry ∷ [] =
    c.in_ok-push-2.ensures.ok ∙ ap (λ (item : Item). c.loop-entry.items ++ item ∷ []) c.in_ok-info_item.ensures.exact in
    record {
      items = item-put item_of_info (item_of_status c.args.status.now ∷ []) c.loop-entry.items
          c.push-in-loop-entry.new.self
          groups i entry inside c.entry-item.is c.loop-entry.invariant.items put;
      fits = All-more CountersFit groups i entry inside c.loop-entry.invariant.fits
          (subst CountersFit c.entry-item.is c.info_item.ensures.fits);
    }

pub loop-limited-init : goal.loop-limited-init
loop-limited-init c =
    let groups = c.args.groups.now in
    let all : take c.loop-entry.entry-index groups ≡ groups =
    take_all c.loop-entry.entry-index groups c.loop-entry-test.false in
    record {
      items = c.loop-entry.invariant.items
          ∙ ap (λ (list : List (ℕ × Group)). item_of_status c.args.status.now ∷ map item_of_info list) all
          ∙ sym (append-nil (item_of_status c.args.status.now ∷ map item_of_info groups));
      fits = All-nil HasLimits;
    }

pub loop-limited-preserved : goal.loop-limited-preserved
loop-limited-preserved c =
    let groups = c.args.groups.now in
    let i = c.loop-limited.limited-index in
    let entry = c.limited-item.result in
    let inside : i < length groups = c.loop-limited-test.true in
    let put : c.push-in-loop-limited.new.self ≡ c.loop-limited.items ++ item_of_limit entry ∷ [] =
    c.in_ok-push-3.ensures.ok
    ∙ ap (λ (item : Item). c.loop-limited.items ++ item ∷ []) c.in_ok-limit_item.ensures.exact in
    record {
      items = item-put item_of_limit (item_of_status c.args.status.now ∷ map item_of_info groups) c.loop-limited.items
          c.push-in-loop-limited.new.self groups i entry inside c.limited-item.is c.loop-limited.invariant.items put;
      fits = All-more HasLimits groups i entry inside c.loop-limited.invariant.fits
          (subst HasLimits c.limited-item.is c.limit_item.ensures.fits);
    }

pub returns-clause-exact : goal.returns-clause-exact
returns-clause-exact c =
    let groups = c.args.groups.now in
    let all : take c.loop-limited.limited-index groups ≡ groups =
    take_all c.loop-limited.limited-index groups c.loop-limited-test.false in
    c.loop-limited.invariant.items
    ∙ ap (λ (list : List (ℕ × Group)). item_of_status c.args.status.now ∷ map item_of_info groups
    ++ map item_of_limit list) all

pub returns-clause-fits : goal.returns-clause-fits
returns-clause-fits c =
    let groups = c.args.groups.now in
    let counted : take c.loop-entry.entry-index groups ≡ groups =
    take_all c.loop-entry.entry-index groups c.loop-entry-test.false in
    let limited : take c.loop-limited.limited-index groups ≡ groups =
    take_all c.loop-limited.limited-index groups c.loop-limited-test.false in
    let counters = subst (λ (list : List (ℕ × Group)). All CountersFit list) counted c.loop-entry.invariant.fits in
    let limits = subst (λ (list : List (ℕ × Group)). All HasLimits list) limited c.loop-limited.invariant.fits in
    λ k d inside. record { counters = counters k d inside; limits = limits k d inside }
