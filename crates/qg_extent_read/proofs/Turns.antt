-- Leaf after leaf: what was taken so far, and how many nodes that took.
use Rattle.std.proofs.Common.{◌≡◌, ℕ, ◌+◌, ◌≤◌, true, false, Bool, List, [], ◌++◌, length, Option, Some, None, refl}
use Rattle.std.proofs.Common.{sym, ap, subst, ◌∙◌, arith, append-nil}
use Rattle.std.specs.Prelude.{IfSome, if◌then◌else◌}
use Rattle.std.specs.List.{fold}
use Rattle.std.proofs.lemmas.List.{append_assoc, length-append}
use Rattle.std.proofs.lemmas.List.Sums.{fold-append}
use Rattle.qg_device.specs.History.{History}
use Rattle.qg_num.specs.declared.key.Key.{Key}
use Rattle.qg_node.specs.declared.item.Item.{Item}
use Rattle.qg_super.specs.Places.{is_served}
use Rattle.qg_blocks.specs.NodesInMemory.{Draft, Held}
use Rattle.qg_tree_items.specs.Types.{Extents}
use Rattle.qg_tree_read.specs.declared.way.Way.{Way}
use Rattle.qg_tree_read.specs.Reading.{is_upto, items_within, rest_within}
use Rattle.qg_tree_read.specs.Tree.{Root, TellsTree, super_of}
use Rattle.qg_tree_read.specs.Way.{next_within}
use Rattle.qg_tree_read.proofs.Ranges.{gathers}
use Rattle.qg_extent_read.specs.Leaves.{HasTakenLeaf, taken_within}
use Rattle.qg_extent_read.specs.Looked.{EachSays}
use Rattle.qg_extent_read.specs.Ways.{BeginsLeaf, HasReached}
use Rattle.qg_extent_read.proofs.Filled.{leaf-filled, part_says}
use Rattle.qg_extent_read.proofs.Ways.{begins-next}

-- ---- one leaf

begins_when : (root : Root) (draft : Draft) (history : History) (to : Key) (next : Option Key)
    → ((key : Key) → next ≡ Some key → BeginsLeaf root draft history key)
    → IfSome (next_within to next) (λ key. BeginsLeaf root draft history key)
begins_when root draft history to None each = tt
begins_when root draft history to (Some key) each = here (is_upto to key) where
  here : (b : Bool) → IfSome (if b then Some key else None) (λ key. BeginsLeaf root draft history key)
  here true = each key refl
  here false = tt

many_when : (to : Key) (next : Option Key) (count : ℕ)
    → ((key : Key) → next ≡ Some key → is_upto to key ≡ true → 8 ≤ count)
    → IfSome (next_within to next) (λ key. 8 ≤ count)
many_when to None count each = tt
many_when to (Some key) count each = here (is_upto to key) refl where
  here : (b : Bool) → is_upto to key ≡ b → IfSome (if b then Some key else None) (λ key. 8 ≤ count)
  here true upto = each key refl upto
  here false upto = tt

pub taken-leaf : {R : Type 0} (after : R → Item → R) (root : Root) (draft : Draft) (history : History)
    (from to : Key) (whole : List Item) (old new : R) (held : Held) (way : Way)
    → (reached : HasReached root draft history from held way) → TellsTree Extents root draft history whole
    → new ≡ taken_within after old from to reached.leaf.items
    → HasTakenLeaf after root draft history from to whole old new (next_within to way.expected.to)
taken-leaf after root draft history from to whole old new held way reached tells taken =
    let items = reached.leaf.items in
    let part = reached.leaf.part whole tells in
    let gathered = gathers from to way.expected.to whole items [] (items_within from to items) reached.leaf.past part
    refl in
    let leads = reached.leads whole tells in
    record {
      added = items_within from to items;
      whole_is = gathered.whole_is
          ∙ ap (λ (xs : List Item). xs ++ rest_within (next_within to way.expected.to) to whole) (sym gathered.more);
      taken = taken;
      begins = begins_when root draft history to way.expected.to (λ key is.
          begins-next root draft history whole from key way.expected way.address tells leads is reached.leaf.past);
      many = λ begins each served. many_when to way.expected.to (length (items_within from to items)) (λ key is upto.
          leaf-filled Extents (super_of root draft) draft.sizes way.expected way.address reached.leaf.header items from
          to key refl served reached.formed (begins way.expected way.address leads) is upto
          (part_says part.front items part.back (subst EachSays part.whole_is each)));
    }

-- ---- leaf after leaf

-- how many nodes may be read beside those that the items read so far have paid for: those of the first leaf, and once
-- the last one is read those of that one
abbrev pub unpaid : Option Key → ℕ
unpaid None = 16
unpaid (Some key) = 8

-- What was taken so far of the items from one key to another. The rest are those from `next` on, if it is told, at
-- which a leaf begins
pub record HasTaken {R : Type 0} (after : R → Item → R) (root : Root) (draft : Draft) (history : History)
    (from to : Key) (whole : List Item) (old new : R) (next : Option Key) (before now : ℕ) : Type 0 where
  pub found : List Item
  pub whole_is : items_within from to whole ≡ found ++ rest_within next to whole
  pub taken : new ≡ fold after old found
  pub begins : IfSome next (λ key. BeginsLeaf root draft history key)
  pub few : EachSays whole → is_served draft.sizes ≡ true → now ≤ before + (unpaid next + length found)

few_first : (next : Option Key) (before now count : ℕ) → now ≤ before + 8 → now ≤ before + (unpaid next + count)
few_first None before now count h = omega (arith, h)
few_first (Some key) before now count h = omega (arith, h)

few_more : (next : Option Key) (before now later found added : ℕ) → now ≤ before + (8 + found) → later ≤ now + 8
    → IfSome next (λ key. 8 ≤ added) → later ≤ before + (unpaid next + (found + added))
few_more None before now later found added h k many = omega (arith, h, k)
few_more (Some key) before now later found added h k many = omega (arith, h, k, many)

pub taken-first : {R : Type 0} (after : R → Item → R) (root : Root) (draft : Draft) (history : History)
    (from to : Key) (whole : List Item) (old new : R) (next : Option Key) (before now : ℕ)
    → HasTakenLeaf after root draft history from to whole old new next → now ≤ before + 8
    → HasTaken after root draft history from to whole old new next before now
taken-first after root draft history from to whole old new next before now leaf h = record {
  found = leaf.added;
  whole_is = leaf.whole_is;
  taken = leaf.taken;
  begins = leaf.begins;
  few = λ each served. few_first next before now (length leaf.added) h;
}

pub taken-more : {R : Type 0} (after : R → Item → R) (root : Root) (draft : Draft) (history : History)
    (from first to : Key) (whole : List Item) (old mid new : R) (next : Option Key) (before now later : ℕ)
    → HasTaken after root draft history from to whole old mid (Some first) before now
    → HasTakenLeaf after root draft history first to whole mid new next → later ≤ now + 8
    → HasTaken after root draft history from to whole old new next before later
taken-more {R} after root draft history from first to whole old mid new next before now later so_far leaf h = record {
  found = so_far.found ++ leaf.added;
  whole_is = so_far.whole_is ∙ ap (λ (xs : List Item). so_far.found ++ xs) leaf.whole_is
      ∙ sym (append_assoc so_far.found leaf.added (rest_within next to whole));
  taken = leaf.taken
      ∙ ap (λ (x : R). fold after x leaf.added) so_far.taken
      ∙ sym (fold-append after old so_far.found leaf.added);
  begins = leaf.begins;
  few = λ each served.
      let long : length (so_far.found ++ leaf.added) ≡ length so_far.found + length leaf.added =
      length-append so_far.found leaf.added in
      let few = few_more next before now later (length so_far.found) (length leaf.added) (so_far.few each served) h
      (leaf.many so_far.begins each served) in
      subst (λ (n : ℕ). later ≤ before + (unpaid next + n)) (sym long) few;
}

-- at the end
pub taken-all : {R : Type 0} (after : R → Item → R) (root : Root) (draft : Draft) (history : History)
    (from to : Key) (whole : List Item) (old new : R) (before now : ℕ)
    → HasTaken after root draft history from to whole old new None before now
    → new ≡ taken_within after old from to whole
taken-all after root draft history from to whole old new before now so_far =
    so_far.taken ∙ ap (fold after old) (sym (append-nil so_far.found) ∙ sym so_far.whole_is)

few_upto : (next : Option Key) (before now found rest all : ℕ) → all ≡ found + rest
    → now ≤ before + (unpaid next + found) → now ≤ before + (16 + all)
few_upto None before now found rest all is h = omega (arith, is, h)
few_upto (Some key) before now found rest all is h = omega (arith, is, h)

all_length : {R : Type 0} (after : R → Item → R) (root : Root) (draft : Draft) (history : History)
    (from to : Key) (whole : List Item) (old new : R) (next : Option Key) (before now : ℕ)
    → (so_far : HasTaken after root draft history from to whole old new next before now)
    → length (items_within from to whole) ≡ length so_far.found + length (rest_within next to whole)
all_length after root draft history from to whole old new next before now so_far =
    ap (λ (xs : List Item). length xs) so_far.whole_is ∙ length-append so_far.found (rest_within next to whole)

-- and whenever a leaf can't be read
pub few-last : {R : Type 0} (after : R → Item → R) (root : Root) (draft : Draft) (history : History)
    (from first to : Key) (whole : List Item) (old new : R) (before now later : ℕ)
    → HasTaken after root draft history from to whole old new (Some first) before now
    → EachSays whole → is_served draft.sizes ≡ true → later ≤ now + 8
    → later ≤ before + (16 + length (items_within from to whole))
few-last after root draft history from first to whole old new before now later so_far each served h =
    let all = all_length after root draft history from to whole old new (Some first) before now so_far in
    let few = so_far.few each served in
    omega (arith, all, few, h)

pub few-all : {R : Type 0} (after : R → Item → R) (root : Root) (draft : Draft) (history : History)
    (from to : Key) (whole : List Item) (old new : R) (next : Option Key) (before now : ℕ)
    → HasTaken after root draft history from to whole old new next before now
    → EachSays whole → is_served draft.sizes ≡ true
    → now ≤ before + (16 + length (items_within from to whole))
few-all after root draft history from to whole old new next before now so_far each served =
    few_upto next before now (length so_far.found) (length (rest_within next to whole))
    (length (items_within from to whole))
    (all_length after root draft history from to whole old new next before now so_far) (so_far.few each served)
