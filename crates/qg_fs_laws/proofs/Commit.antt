-- A commit whose other trees tell the state that it leaves is one of the machine.
use Rattle.std.proofs.Common.{◌≡◌, ℕ, Bool, true, false, List, [], ◌∷◌, map, Option, None, Some, refl, sym, ap, ◌∙◌}
use Rattle.std.proofs.Common.{inl, inr}
use Rattle.std.specs.Prelude.{◌⊎◌, ◌==◌, ◌&&◌, not, if◌then◌else◌, All}
use Rattle.std.specs.List.{AllByRecursion, Contains, list_any}
use Rattle.std.specs.Option.{option_map}
use Rattle.std.proofs.lemmas.Bool.{and_parts, cases_Bool, cond-false, cond-true, eqb-true, not-true}
use Rattle.std.proofs.lemmas.List.Elements.{All-contains}
use Rattle.qg_num.specs.declared.counters.Counters.{Counters}
use Rattle.qg_node.specs.declared.node.Node.{Node}
use Rattle.qg_node.specs.Nodes.{header_of}
use Rattle.qg_super.specs.Places.{is_slot}
use Rattle.qg_image.specs.Table.{has_key}
use Rattle.qg_image.specs.declared.quota.Group.{Group}
use Rattle.qg_image.specs.declared.quota.Quota.{Quota}
use Rattle.qg_image.specs.Counts.{due_counters}
use Rattle.qg_image.specs.Space.{is_free_slot}
use Rattle.qg_image.specs.State.{Layout, State, layout_of, next_generation}
use Rattle.qg_image.proofs.Contained.{contains_here, contains_later}
use Rattle.qg_image.specs.ImageState.{addresses_of, as_committed}
use Rattle.qg_machine.specs.GroupChange.{recounted, recounted_group, same_counters}
use Rattle.qg_machine.specs.Layout.{LiesInOtherSlot}
use Rattle.qg_machine.specs.Step.{Commits, settled}
use Rattle.qg_commit.specs.Types.{OtherTrees}
use Rattle.qg_commit.specs.Sound.{committed}
use Rattle.qg_commit.specs.Telling.{AreToldBy}
use Rattle.qg_commit.specs.Trees.{stamp_after}
use Rattle.qg_fs_laws.specs.Keeping.{AreDueCounters, group_after, quota_after, quota_laid}

-- ---- the group

-- a group is counted as the machine counts it
group_is : (layout : Layout) (quota : Quota) (generation : ℕ) (counters : ℕ → Counters) (entry : ℕ × Group)
    → counters entry.0 ≡ due_counters layout quota entry.0
    → recounted_group layout quota generation entry ≡ group_after generation counters entry
group_is layout quota generation counters entry count =
    ap (λ (c : Counters). if same_counters entry.1.counters c then entry
    else (entry.0, record entry.1 { counters = c; stamp = generation })) (sym count)
    ∙ entry_is (counters entry.0) (cases_Bool (same_counters entry.1.counters (counters entry.0))) where
      entry_is : (new : Counters)
          → (same_counters entry.1.counters new ≡ true) ⊎ (same_counters entry.1.counters new ≡ false)
          → (if same_counters entry.1.counters new then entry
          else (entry.0, record entry.1 { counters = new; stamp = generation }))
          ≡ (
            entry.0,
            record entry.1 {
              counters = new;
              stamp = stamp_after entry.1.counters new entry.1.stamp generation;
            },
          )
      entry_is new (inl same) =
          let parts = and_parts (entry.1.counters.rfer == new.rfer) (entry.1.counters.excl == new.excl) same in
          let rfer = eqb-true entry.1.counters.rfer new.rfer parts.0 in
          let excl = eqb-true entry.1.counters.excl new.excl parts.1 in
          let alike : entry.1.counters ≡ new = λ i. record { rfer = rfer i; excl = excl i } in
          let stays : stamp_after entry.1.counters new entry.1.stamp generation ≡ entry.1.stamp =
          cond-true _ _ _ same in
          cond-true _ _ _ same
          ∙ (λ i. (entry.0, record entry.1 { counters = alike i; stamp = sym stays i }))
      entry_is new (inr differ) =
          let goes : stamp_after entry.1.counters new entry.1.stamp generation ≡ generation =
          cond-false _ _ _ differ in
          cond-false _ _ _ differ
          ∙ (λ i. (entry.0, record entry.1 { counters = new; stamp = sym goes i }))

map_each : {A B : Type 0} (f g : A → B) (xs : List A) → ((x : A) → Contains xs x → f x ≡ g x) → map f xs ≡ map g xs
map_each f g [] same = refl
map_each {A} {B} f g (x ∷ xs) same =
    ap (λ (y : B). y ∷ map f xs) (same x (contains_here x xs))
    ∙ ap (λ (ys : List B). g x ∷ ys) (map_each f g xs (λ y has. same y (contains_later x xs y has)))

module _ (old : State) (counters : ℕ → Counters) (counts : AreDueCounters old counters) where
  recounted_is : (quota : Quota) → old.quota ≡ Some quota
      → recounted (layout_of old) (next_generation old) quota ≡ quota_after (next_generation old) counters quota
  unfolding recounted
  recounted_is quota is =
      ap (λ (groups : List (ℕ × Group)). record quota { groups = groups })
      (map_each (recounted_group (layout_of old) quota (next_generation old))
      (group_after (next_generation old) counters) quota.groups
      (λ entry has. group_is (layout_of old) quota (next_generation old) counters entry
      (counts quota is entry has)))

  quota_by : (quota : Option Quota) → old.quota ≡ quota
      → option_map (recounted (layout_of old) (next_generation old)) quota
      ≡ quota_laid (next_generation old) counters quota
  quota_by None is = refl
  quota_by (Some quota) is = ap (λ (q : Quota). Some q) (recounted_is quota is)

  quota_is : option_map (recounted (layout_of old) (next_generation old)) old.quota
      ≡ quota_laid (next_generation old) counters old.quota
  quota_is = quota_by old.quota refl

  pub committed-is : (others : List Node)
      → committed others old (quota_laid (next_generation old) counters old.quota) ≡ as_committed others (settled old)
  committed-is others = ap (committed others old) (sym quota_is)

-- ---- slots

lies_in_slot : (old : State) (node : Node) → is_free_slot old (header_of node).address ≡ true
    → LiesInOtherSlot old old node
unfolding is_free_slot
lies_in_slot old node free =
    let at = (header_of node).address in
    let taken = list_any (λ held. held == at) old.held.nodes in
    let parts = and_parts (is_slot old.sizes at && not (has_key at old.layout)) (not taken) free in
    let both = and_parts (is_slot old.sizes at) (not (has_key at old.layout)) parts.0 in
    record { slot = both.0; left = not-true (has_key at old.layout) both.1; free_or_held = inl free }

each_lies : (old : State) (others : List Node)
    → ((at : ℕ) → Contains (addresses_of others) at → is_free_slot old at ≡ true)
    → AllByRecursion (LiesInOtherSlot old old) others
each_lies old [] free = tt
each_lies old (node ∷ others) free = (
  lies_in_slot old node
      (free (header_of node).address (contains_here (header_of node).address (addresses_of others))),
  each_lies old others
      (λ at has. free at (contains_later (header_of node).address (addresses_of others) at has)),
)

pub commit-of-machine : (old : State) (counters : ℕ → Counters) (slots : List ℕ) (trees : OtherTrees)
    (others : List Node) → AreDueCounters old counters → All (λ slot. is_free_slot old slot ≡ true) slots
    → AreToldBy (committed others old (quota_laid (next_generation old) counters old.quota)) slots trees others
    → Commits old (committed others old (quota_laid (next_generation old) counters old.quota))
commit-of-machine old counters slots trees others counts free told = record {
  others = others;
  slots = each_lies old others
      (λ at has. All-contains (λ slot. is_free_slot old slot ≡ true) slots at free (told.within at has));
  apart = told.apart;
  trees = told.tell;
  committed = committed-is old counters counts others;
}
