-- What holds of all that a tree's items say, where the tree may hold each.
use Rattle.std.proofs.Common.{◌≡◌, ◌≤◌, ℕ, Bool, true, false, List, [], ◌∷◌, map, length, get_or, refl, sym, ap, ◌∙◌}
use Rattle.std.proofs.Common.{subst}
use Rattle.std.specs.Prelude.{All, Option, Some, ◌&&◌, ◌==◌, nat_le}
use Rattle.std.specs.Bool.{then_some}
use Rattle.std.specs.List.{AllByRecursion, list_all}
use Rattle.std.proofs.lemmas.Bool.{and_parts, and_from, eqb-true, leb-true}
use Rattle.std.proofs.lemmas.List.Elements.{All-filter, All-from_recursion, filter_passes}
use Rattle.std.proofs.lemmas.Option.{same_Some, option_and_then_some}
use Rattle.std.proofs.lemmas.List.Sums.{AllPass-from_list_all}
use Rattle.qg_node.specs.declared.item.Item.{Item}
use Rattle.qg_items.specs.declared.root.RootItem.{RootItem}
use Rattle.qg_image.specs.declared.part.ExtentPart.{ExtentPart}
use Rattle.qg_image.specs.declared.part.QuotaPart.{QuotaPart}
use Rattle.qg_items.specs.ItemReading.{root_read}
use Rattle.qg_image.specs.ItemMeaning.{when, is_subvolume_number, some_passes, root_part, root_part_stamps, extent_part}
use Rattle.qg_image.specs.ItemMeaning.{extent_part_stamps, quota_part, quota_part_stamps}
use Rattle.qg_image.specs.declared.tree.TreeKind.TheVariants.{Roots, Extents, Quotas}
use Rattle.qg_image.specs.ImageState.{subvolume_roots}
use Rattle.qg_image.specs.Walk.{are_by, is_item_of, tells_generation}
use Rattle.qg_walk.specs.WalkKeeps.{AreHeld}
use Rattle.qg_image.specs.Verdict.{are_roots}
use Rattle.qg_node.specs.Nodes.{is_ascending}
use Rattle.qg_image.specs.Table.{keys_of}
use Rattle.qg_tree_items.specs.Keys.{root_key}
use Rattle.qg_root_items.specs.Writable.{IsRootBy}
use Rattle.qg_check.specs.Editable.{AreSubvolumes}
use Rattle.qg_check.proofs.Named.{are_roots_asked, top_there}
use Rattle.qg_check.proofs.Rising.{increases, subvolumes_ascend}

-- what is said passes a test, where all that the items may say does
said_passes : {P : Type 0} (meaning : Item → Option P) (test : P → Bool) (items : List Item) (parts : List P)
    → list_all (λ item. some_passes test (meaning item)) items ≡ true
    → map meaning items ≡ map (λ part. Some part) parts → list_all test parts ≡ true
said_passes meaning test [] [] all said = refl
said_passes meaning test [] (part ∷ parts) all said = absurd cc
said_passes meaning test (item ∷ items) [] all said = absurd cc
said_passes {P} meaning test (item ∷ items) (part ∷ parts) all said =
    let first : meaning item ≡ Some part = cc in
    let later : map meaning items ≡ map (λ part. Some part) parts = cc in
    let split = and_parts (some_passes test (meaning item)) (list_all (λ item. some_passes test (meaning item)) items)
    all in
    let here = subst (λ (found : Option P). some_passes test found ≡ true) first split.0 in
    and_from (test part) (list_all test parts) here (said_passes meaning test items parts split.1 later)

-- no root tells a generation past the image's
roots_by : (generation : ℕ) (parts : List (ℕ × RootItem)) → AreHeld Roots root_part generation parts
    → list_all (λ part. are_by generation (root_part_stamps part)) parts ≡ true
unfolding is_item_of
roots_by generation parts are =
    said_passes root_part (λ (part : ℕ × RootItem). are_by generation (root_part_stamps part)) are.items parts are.held
    are.said

-- no item of quota
pub quotas_by : (generation : ℕ) (parts : List QuotaPart) → AreHeld Quotas quota_part generation parts
    → list_all (λ part. are_by generation (quota_part_stamps part) && tells_generation generation part) parts ≡ true
unfolding is_item_of
quotas_by generation parts are =
    said_passes quota_part (λ (part : QuotaPart). are_by generation (quota_part_stamps part)
    && tells_generation generation part) are.items parts are.held are.said

-- no item of the extent tree
pub extents_by : (generation : ℕ) (parts : List ExtentPart) → AreHeld Extents extent_part generation parts
    → list_all (λ part. are_by generation (extent_part_stamps part)) parts ≡ true
unfolding is_item_of
extents_by generation parts are =
    said_passes extent_part (λ (part : ExtentPart). are_by generation (extent_part_stamps part)) are.items parts
    are.held are.said

-- ---- subvolumes

when_some : {A : Type 0} (test : Bool) (given : Option A) (x : A) → when test given ≡ Some x → given ≡ Some x
when_some true given x is = is
when_some false given x is = absurd cc

told_once : (same : Bool) (n : ℕ) (root : RootItem) (part : ℕ × RootItem) → (root.refs == 1) ≡ same
    → then_some same (n, root) ≡ Some part → part.1.refs ≡ 1
told_once true n root part is told =
    let one : (n, root) ≡ part = same_Some (n, root) part told in
    ap (λ (p : ℕ × RootItem). p.1.refs) (sym one) ∙ eqb-true root.refs 1 is
told_once false n root part is told = absurd cc

-- a ROOT_ITEM has one reference
root_once : (item : Item) (part : ℕ × RootItem) → root_part item ≡ Some part → part.1.refs ≡ 1
unfolding root_part
root_once item part is =
    option_and_then_some (λ (root : RootItem). then_some (root.refs == 1) (item.key.objectid, root))
    (root_read item.body) part (when_some _ _ part is)
    (λ root read told. told_once (root.refs == 1) item.key.objectid root part refl told)

roots_once : (items : List Item) (roots : List (ℕ × RootItem)) → map root_part items ≡ map (λ part. Some part) roots
    → AllByRecursion (λ (part : ℕ × RootItem). part.1.refs ≡ 1) roots
roots_once [] [] said = tt
roots_once [] (part ∷ roots) said = absurd cc
roots_once (item ∷ items) [] said = absurd cc
roots_once (item ∷ items) (part ∷ roots) said =
    let first : root_part item ≡ Some part = cc in
    let later : map root_part items ≡ map (λ part. Some part) roots = cc in
    (root_once item part first, roots_once items roots later)

-- no generation that a ROOT_ITEM tells is one to come
by_stamps : (generation : ℕ) (root : RootItem) → are_by generation (root.generation ∷ root.last_snapshot ∷ []) ≡ true
    → IsRootBy generation root
by_stamps generation root by =
    let stamps = and_parts (nat_le root.generation generation) (nat_le root.last_snapshot generation && true) by in
    record {
      made = leb-true root.generation generation stamps.0;
      copied = leb-true root.last_snapshot generation
          (and_parts (nat_le root.last_snapshot generation) true stamps.1).0;
    }

-- so the next commit can name the subvolumes that a root tree names
pub subvolumes_fit : (generation : ℕ) (roots : List (ℕ × RootItem)) → AreHeld Roots root_part generation roots
    → is_ascending (map root_key roots) ≡ true
    → are_roots roots ≡ true → length (subvolume_roots roots) ≤ 4096 → AreSubvolumes generation (subvolume_roots roots)
subvolumes_fit generation roots held ascending are few =
    let IsBy : ℕ × RootItem → Type 0 = λ part. are_by generation (root_part_stamps part) ≡ true in
    let HasOne : ℕ × RootItem → Type 0 = λ part. part.1.refs ≡ 1 in
    let test : ℕ × RootItem → Bool = λ entry. is_subvolume_number entry.0 in
    let asked = are_roots_asked roots are in
    let all : All IsBy (subvolume_roots roots) =
    All-filter test IsBy roots
    (AllPass-from_list_all (λ (part : ℕ × RootItem). are_by generation (root_part_stamps part)) roots
    (roots_by generation roots held)) in
    record {
      few = few;
      ascending = increases (keys_of (subvolume_roots roots)) (subvolumes_ascend roots ascending);
      numbers = filter_passes test roots;
      top_level = top_there roots asked.files;
      counted = All-filter test HasOne roots (All-from_recursion HasOne roots (roots_once held.items roots held.said));
      by = λ k d inside. by_stamps generation (get_or (subvolume_roots roots) k d).1 (all k d inside);
    }
