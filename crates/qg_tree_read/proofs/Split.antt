-- Of a node's pointers one is followed: what stands in front of the items under it, and behind.
use Rattle.std.proofs.Common.{◌≡◌, ℕ, true, List, [], ◌∷◌, ◌++◌, map, refl, sym, ap, ◌∙◌, Option, Some, None}
use Rattle.std.specs.List.{list_all}
use Rattle.std.specs.Ordering.{is_lt}
use Rattle.std.proofs.lemmas.Bool.{and_parts}
use Rattle.std.proofs.lemmas.List.{append_assoc, map-append}
use Rattle.std.proofs.lemmas.List.Folds.{list_all-map}
use Rattle.qg_num.specs.Key.{key_cmp}
use Rattle.qg_num.specs.declared.key.Key.{Key}
use Rattle.qg_node.specs.declared.item.Item.{Item}
use Rattle.qg_node.specs.declared.pointer.Pointer.{Pointer}
use Rattle.qg_node.specs.declared.node.Node.{Node}
use Rattle.qg_node.specs.Nodes.{is_ascending}
use Rattle.qg_super.specs.declared.superblock.Super.{Super}
use Rattle.qg_shape.proofs.Ascending.{all_before, all_behind, ascending_tail_of}
use Rattle.qg_blocks.specs.Types.{TreeKind}
use Rattle.qg_blocks.specs.Walk.{next_key}
use Rattle.qg_walk.specs.Added.{is_from, is_to}
use Rattle.qg_walk.specs.Standing.{expected_below}
use Rattle.qg_walk.proofs.KeyRanges.{is_to-earlier, list_all-both, list_all-weaker, not_less_behind}
use Rattle.qg_tree_read.specs.Way.{Follow}
use Rattle.qg_tree_read.proofs.Under.{AreUnder, BeginAt, IsUnder, all_from, all_to, begins-under, both-under}
use Rattle.qg_tree_read.proofs.Under.{from-pointers, from-under, none-under, to-under}

abbrev pub keys_to : List Pointer → List Key
keys_to pointers = map (λ pointer. pointer.key) pointers

-- items that begin at a key, and of which none is less
follow_from : (key : Key) (items : List Item) → BeginAt key items → all_from (Some key) items ≡ true
    → Follow (Some key) items
follow_from key [] begins from = absurd begins
follow_from key (item ∷ items) begins from = (begins, from)

begin_append : (key : Key) (front back : List Item) → BeginAt key front → BeginAt key (front ++ back)
begin_append key [] back h = absurd h
begin_append key (item ∷ front) back h = h

behind_keys : (key : Key) (pointers : List Pointer) → is_ascending (key ∷ keys_to pointers) ≡ true
    → list_all (λ pointer. is_from (Some key) pointer.key) pointers ≡ true
unfolding is_ascending
behind_keys key pointers ascending =
    sym (list_all-map (is_from (Some key)) (λ (pointer : Pointer). pointer.key) pointers)
    ∙ list_all-weaker (λ (later : Key). is_lt (key_cmp key later)) (is_from (Some key)) (not_less_behind key)
    (keys_to pointers) (all_behind key (keys_to pointers) ascending)

-- the items under pointers begin at the first pointer's key
pub follow-under : (tree : TreeKind) (super : Super) (nodes : ℕ → Option Node) (level : ℕ) (to : Option Key)
    (pointers : List Pointer) (items : List Item)
    → is_ascending (keys_to pointers) ≡ true → AreUnder tree super nodes level to pointers items
    → Follow (next_key None pointers) items
follow-under tree super nodes level to [] items ascending under = none-under tree super nodes level to items under
follow-under tree super nodes level to (pointer ∷ pointers) items ascending under =
    let both = both-under tree super nodes level to pointer pointers items under in
    let expected = expected_below level to pointer pointers in
    let begins = begins-under tree super nodes level expected pointer.child pointer.key both.first refl both.here in
    let first = from-under tree super nodes level expected pointer.child both.first both.here in
    let others = from-pointers tree super nodes level (Some pointer.key) to pointers both.others
    (behind_keys pointer.key pointers ascending) both.behind in
    let all = list_all-both (λ (item : Item). is_from (Some pointer.key) item.key) both.first both.others first
    others in
    rw both.items_are (follow_from pointer.key (both.first ++ both.others)
    (begin_append pointer.key both.first both.others begins) all)

-- The items under pointers, of which one is followed: those in front are less than its key, and those behind begin at
-- the next one's
pub record IsSplit (tree : TreeKind) (super : Super) (nodes : ℕ → Option Node) (level : ℕ) (to : Option Key)
    (before : List Pointer) (pointer : Pointer) (after : List Pointer) (items : List Item) : Type 0 where
  pub front : List Item
  pub mine : List Item
  pub back : List Item
  pub items_are : items ≡ front ++ (mine ++ back)
  pub under : IsUnder tree super nodes level (expected_below level to pointer after) pointer.child mine
  pub less : all_to (Some pointer.key) front ≡ true
  pub none : before ≡ [] → front ≡ []
  pub behind : Follow (next_key None after) back

-- what is less than the next key is less than the key of one behind
less_later : (before : List Pointer) (pointer : Pointer) (after : List Pointer) (to : Option Key) (items : List Item)
    → is_ascending (keys_to (before ++ pointer ∷ after)) ≡ true
    → all_to (next_key to (before ++ pointer ∷ after)) items ≡ true → all_to (Some pointer.key) items ≡ true
less_later [] pointer after to items ascending less = less
less_later (next ∷ before) pointer after to items ascending less =
    let keys : is_ascending (keys_to (next ∷ before) ++ pointer.key ∷ keys_to after) ≡ true =
    sym (ap is_ascending (map-append (λ (p : Pointer). p.key) (next ∷ before) (pointer ∷ after))) ∙ ascending in
    let first = (and_parts (is_lt (key_cmp next.key pointer.key)) _
    (all_before (keys_to (next ∷ before)) pointer.key (keys_to after) keys)).0 in
    list_all-weaker (λ (item : Item). is_to (Some next.key) item.key)
    (λ (item : Item). is_to (Some pointer.key) item.key)
    (λ item. is_to-earlier (Some pointer.key) next.key item.key first) items less

pub split-under : (tree : TreeKind) (super : Super) (nodes : ℕ → Option Node) (level : ℕ) (to : Option Key)
    (before : List Pointer) (pointer : Pointer) (after : List Pointer) (items : List Item)
    → is_ascending (keys_to (before ++ pointer ∷ after)) ≡ true
    → AreUnder tree super nodes level to (before ++ pointer ∷ after) items
    → IsSplit tree super nodes level to before pointer after items
split-under tree super nodes level to [] pointer after items ascending under =
    let both = both-under tree super nodes level to pointer after items under in
    record {
      front = [];
      mine = both.first;
      back = both.others;
      items_are = both.items_are;
      under = both.here;
      less = refl;
      none = λ same. refl;
      behind = follow-under tree super nodes level to after both.others
          (ascending_tail_of pointer.key (keys_to after) ascending) both.behind;
    }
split-under tree super nodes level to (first ∷ before) pointer after items ascending under =
    let rest = before ++ pointer ∷ after in
    let both = both-under tree super nodes level to first rest items under in
    let split = split-under tree super nodes level to before pointer after both.others
    (ascending_tail_of first.key (keys_to rest) ascending) both.behind in
    let here = to-under tree super nodes level (expected_below level to first rest) first.child both.first both.here in
    let less = less_later before pointer after to both.first (ascending_tail_of first.key (keys_to rest) ascending)
    here in
    record {
      front = both.first ++ split.front;
      mine = split.mine;
      back = split.back;
      items_are = both.items_are ∙ ap (λ (xs : List Item). both.first ++ xs) split.items_are
          ∙ sym (append_assoc both.first split.front (split.mine ++ split.back));
      under = split.under;
      less = list_all-both (λ (item : Item). is_to (Some pointer.key) item.key) both.first split.front less split.less;
      none = λ same. cc;
      behind = split.behind;
    }
