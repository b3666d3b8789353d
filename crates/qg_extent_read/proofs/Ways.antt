-- Which leaf a key leads to: the one behind a leaf begins at the next key on the way to it.
use Rattle.std.proofs.Common.{◌≡◌, ℕ, zero, suc, ◌+◌, true, false, List, [], ◌∷◌, ◌++◌, drop, take, arith}
use Rattle.std.proofs.Common.{refl, sym, ap, subst, ◌∙◌, Option, Some, None, inl, inr}
use Rattle.std.specs.Prelude.{Bool, ◌⊎◌, not}
use Rattle.std.specs.List.{list_all}
use Rattle.std.specs.Ordering.{is_lt}
use Rattle.std.proofs.lemmas.Bool.{and_parts, both_ways}
use Rattle.std.proofs.lemmas.List.{drop-map, map-append}
use Rattle.std.proofs.lemmas.List.Folds.{list_all-map}
use Rattle.qg_device.specs.History.{History}
use Rattle.qg_num.specs.Key.{key_cmp}
use Rattle.qg_num.specs.declared.key.Key.{Key}
use Rattle.qg_node.specs.declared.item.Item.{Item}
use Rattle.qg_node.specs.declared.node.Node.{Node}
use Rattle.qg_node.specs.declared.node.Node.TheVariants.{Inner}
use Rattle.qg_node.specs.declared.pointer.Pointer.{Pointer}
use Rattle.qg_node.specs.Nodes.{is_ascending, own_keys, own_pointers}
use Rattle.qg_super.specs.declared.superblock.Super.{Super}
use Rattle.qg_shape.proofs.Ascending.{all_before, ascending_tail_of, less_trans, not_itself}
use Rattle.qg_blocks.specs.IsShaped.{is_first}
use Rattle.qg_blocks.specs.NodesFound.{told}
use Rattle.qg_blocks.specs.NodesInMemory.{Draft}
use Rattle.qg_blocks.specs.Types.{Expected, TreeKind}
use Rattle.qg_blocks.specs.Walk.{next_key, root_expected}
use Rattle.qg_tree_items.specs.Types.{Extents}
use Rattle.qg_walk.specs.Added.{is_to}
use Rattle.qg_walk.specs.Standing.{expected_below}
use Rattle.qg_walk.proofs.Failures.{IsFormed-form}
use Rattle.qg_walk.proofs.KeyRanges.{ends_before-each, is_to-earlier, same_key-true}
use Rattle.qg_tree_read.specs.declared.way.Way.{Way}
use Rattle.qg_tree_read.specs.Reading.{is_upto}
use Rattle.qg_tree_read.specs.Tree.{Root, TellsTree, super_of}
use Rattle.qg_tree_read.specs.Way.{LeadsFor}
use Rattle.qg_tree_read.proofs.Leads.{cut_at, followed_upto, leads-past}
use Rattle.qg_tree_read.proofs.Split.{keys_to, split-under}
use Rattle.qg_tree_read.proofs.Under.{AreUnder, IsUnder, formed-first, under-inner}
use Rattle.qg_extent_read.specs.Ways.{BeginsLeaf, LeadsDown, LeadsToLeaf}

-- ---- one step more

pub down-step : (nodes : ℕ → Option Node) (key : Key) (level next : ℕ) (from : Expected) (address : ℕ) (node : Node)
    (way : Way) (leaf : Expected) (at : ℕ)
    → level ≡ suc next → nodes address ≡ Some node → is_ascending (own_keys node) ≡ true
    → LeadsFor (own_pointers node) from.to next key way → LeadsDown nodes key next way.expected way.address leaf at
    → LeadsDown nodes key level from address leaf at
unfolding LeadsDown
down-step nodes key level next from address node way leaf at is there ascending leads below =
    rw is (node, there, ascending, way, leads, below)

pub down-end : (nodes : ℕ → Option Node) (key : Key) (level : ℕ) (expected : Expected) (address : ℕ) → level ≡ 0
    → LeadsDown nodes key level expected address expected address
unfolding LeadsDown
down-end nodes key level expected address is = rw is (refl, refl)

-- ---- the pointers of a node, cut where a key leads on

never : (b : Bool) → b ≡ true → not b ≡ true → ⊥
never true h k = absurd cc
never false h k = absurd cc

record IsCut (pointers : List Pointer) (to : Option Key) (level : ℕ) (key : Key) (way : Way) : Type 0 where
  before : List Pointer
  pointer : Pointer
  after : List Pointer
  cut : pointers ≡ before ++ (pointer ∷ after)
  upto : (before ≡ []) ⊎ (is_upto key pointer.key ≡ true)
  past : list_all (λ (other : Pointer). is_lt (key_cmp key other.key)) after ≡ true
  expects : way.expected ≡ expected_below level to pointer after
  child : way.address ≡ pointer.child

upto_cut : (pointers : List Pointer) (to : Option Key) (level : ℕ) (key : Key) (way : Way)
    → (leads : LeadsFor pointers to level key way) → (n : ℕ) → leads.place ≡ n
    → (take n pointers ≡ []) ⊎ (is_upto key leads.pointer.key ≡ true)
upto_cut pointers to level key way leads zero is = inl refl
upto_cut pointers to level key way leads (suc n) is =
    inr (followed_upto key pointers to level way leads (omega (arith, is)))

cut_of : (pointers : List Pointer) (to : Option Key) (level : ℕ) (key : Key) (way : Way)
    → LeadsFor pointers to level key way → IsCut pointers to level key way
cut_of pointers to level key way leads =
    let after = drop (leads.place + 1) pointers in
    let keys : list_all (λ (other : Key). is_lt (key_cmp key other)) (keys_to after) ≡ true =
    ap (list_all (λ (other : Key). is_lt (key_cmp key other)))
    (sym (drop-map (λ (p : Pointer). p.key) (leads.place + 1) pointers)) ∙ leads.leads.past in
    record {
      before = take leads.place pointers;
      pointer = leads.pointer;
      after = after;
      cut = cut_at pointers leads.place leads.pointer leads.there;
      upto = upto_cut pointers to level key way leads leads.place refl;
      past = sym (list_all-map (λ (other : Key). is_lt (key_cmp key other)) (λ (p : Pointer). p.key) after) ∙ keys;
      expects = leads.expects;
      child = leads.child;
    }

-- ---- two keys among the pointers of one node, of which the first is less

-- both lead to the same pointer
record IsSame (pointer : Pointer) (after : List Pointer) (other : Pointer) (behind : List Pointer) : Type 0 where
  pointer_is : pointer ≡ other
  after_is : after ≡ behind

-- or the second leads to one behind: either to the next one, or past it
record IsRight (after before : List Pointer) (other : Pointer) : Type 0 where
  first : Pointer
  others : List Pointer
  after_is : after ≡ first ∷ others
  upto : (first ≡ other) ⊎ (is_lt (key_cmp first.key other.key) ≡ true)
  some : before ≡ [] → ⊥

-- or to one in front
record IsLeft (next : Key) (before : List Pointer) (pointer : Pointer) : Type 0 where
  some : before ≡ [] → ⊥
  past : is_lt (key_cmp next pointer.key) ≡ true

cons_some : (x : Pointer) (xs : List Pointer) → (x ∷ xs) ≡ [] → ⊥
cons_some x xs is = cc

past_here : (next : Key) (front : List Pointer) (pointer : Pointer) (back : List Pointer)
    → list_all (λ (other : Pointer). is_lt (key_cmp next other.key)) (front ++ (pointer ∷ back)) ≡ true
    → is_lt (key_cmp next pointer.key) ≡ true
past_here next [] pointer back h = (and_parts (is_lt (key_cmp next pointer.key)) _ h).0
past_here next (first ∷ front) pointer back h =
    past_here next front pointer back (and_parts (is_lt (key_cmp next first.key)) _ h).1

head_is : (x y : Pointer) (xs ys : List Pointer) → (x ∷ xs) ≡ (y ∷ ys) → x ≡ y
head_is x y xs ys is = cc

tail_is : (x y : Pointer) (xs ys : List Pointer) → (x ∷ xs) ≡ (y ∷ ys) → xs ≡ ys
tail_is x y xs ys is = cc

before_key : (front : List Pointer) (pointer : Pointer) (back : List Pointer)
    → is_ascending (keys_to (front ++ (pointer ∷ back))) ≡ true
    → list_all (λ (key : Key). is_lt (key_cmp key pointer.key)) (keys_to front) ≡ true
before_key front pointer back ascending =
    all_before (keys_to front) pointer.key (keys_to back)
    (sym (ap is_ascending (map-append (λ (p : Pointer). p.key) front (pointer ∷ back))) ∙ ascending)

-- the first of those behind
right_of : (next : Key) (after : List Pointer) (x : Pointer) (before : List Pointer) (other : Pointer)
    (behind : List Pointer) → after ≡ before ++ (other ∷ behind)
    → is_ascending (keys_to (before ++ (other ∷ behind))) ≡ true
    → IsRight after (x ∷ before) other
right_of next after x [] other behind is ascending =
    record { first = other; others = behind; after_is = is; upto = inl refl; some = cons_some x [] }
right_of next after x (first ∷ before) other behind is ascending =
    let less = before_key (first ∷ before) other behind ascending in
    record {
      first = first;
      others = before ++ (other ∷ behind);
      after_is = is;
      upto = inr (and_parts (is_lt (key_cmp first.key other.key)) _ less).0;
      some = cons_some x (first ∷ before);
    }

compare : (next : Key) (before : List Pointer) (pointer : Pointer) (after front : List Pointer) (other : Pointer)
    (behind : List Pointer)
    → before ++ (pointer ∷ after) ≡ front ++ (other ∷ behind)
    → is_ascending (keys_to (front ++ (other ∷ behind))) ≡ true
    → list_all (λ (p : Pointer). is_lt (key_cmp next p.key)) behind ≡ true
    → IsSame pointer after other behind ⊎ (IsRight after front other ⊎ IsLeft next before pointer)
compare next [] pointer after [] other behind is ascending past =
    inl (record {
      pointer_is = head_is pointer other after behind is;
      after_is = tail_is pointer other after behind is;
    })
compare next [] pointer after (x ∷ front) other behind is ascending past =
    inr (inl (right_of next after x front other behind (tail_is pointer x after (front ++ (other ∷ behind)) is)
    (ascending_tail_of x.key (keys_to (front ++ (other ∷ behind))) ascending)))
compare next (x ∷ before) pointer after [] other behind is ascending past =
    let rest = tail_is x other (before ++ (pointer ∷ after)) behind is in
    inr (inr (record {
      some = cons_some x before;
      past = past_here next before pointer after
          (ap (list_all (λ (p : Pointer). is_lt (key_cmp next p.key))) rest ∙ past);
    }))
compare next (x ∷ before) pointer after (y ∷ front) other behind is ascending past =
    let rest = tail_is x y (before ++ (pointer ∷ after)) (front ++ (other ∷ behind)) is in
    elim (compare next before pointer after front other behind rest
    (ascending_tail_of y.key (keys_to (front ++ (other ∷ behind))) ascending) past) [
      | inl same ↦ inl same
      | inr (inl right) ↦ inr (inl (record {
        first = right.first;
        others = right.others;
        after_is = right.after_is;
        upto = right.upto;
        some = cons_some y front;
      }))
      | inr (inr left) ↦ inr (inr (record { some = cons_some x before; past = left.past }))
    ]

-- ---- down from a node

not_less : (a b c : Key) → is_lt (key_cmp a b) ≡ true → is_upto b c ≡ true → is_lt (key_cmp b c) ≡ true → ⊥
not_less a b c h k m = never (is_lt (key_cmp b c)) m k

first_of : (key : Key) (pointers : List Pointer) (to : Option Key) (level : ℕ) (way : Way)
    → is_ascending (keys_to pointers) ≡ true → is_first key (keys_to pointers) ≡ true
    → IsCut pointers to level key way → way.expected.from ≡ Some key
first_of key pointers to level way ascending first cut =
    here cut.before cut.cut cut.upto where
      here : (before : List Pointer) → pointers ≡ before ++ (cut.pointer ∷ cut.after)
          → (before ≡ []) ⊎ (is_upto key cut.pointer.key ≡ true) → way.expected.from ≡ Some key
      here [] is upto =
          let keys : is_first key (keys_to (cut.pointer ∷ cut.after)) ≡ true =
          subst (λ (ps : List Pointer). is_first key (keys_to ps) ≡ true) is first in
          ap (λ (e : Expected). e.from) cut.expects ∙ ap Some (same_key-true cut.pointer.key key keys)
      here (x ∷ before) is (inl none) = absurd (cons_some x before none)
      here (x ∷ before) is (inr upto) =
          let keys : is_first key (keys_to (x ∷ (before ++ (cut.pointer ∷ cut.after)))) ≡ true =
          subst (λ (ps : List Pointer). is_first key (keys_to ps) ≡ true) is first in
          let same = same_key-true x.key key keys in
          let less = (and_parts (is_lt (key_cmp x.key cut.pointer.key)) _ (before_key (x ∷ before) cut.pointer cut.after
          (subst (λ (ps : List Pointer). is_ascending (keys_to ps) ≡ true) is ascending))).0 in
          absurd (never (is_lt (key_cmp key cut.pointer.key))
          (subst (λ (k : Key). is_lt (key_cmp k cut.pointer.key) ≡ true) same less) upto)

-- the next key on the way to a leaf is that on the way to a node above, or a lesser one
abbrev IsNoLater : Option Key → Option Key → Type 0
IsNoLater leaf above = (leaf ≡ above) ⊎ ((to : Key) × (leaf ≡ Some to) × (is_to above to ≡ true))

no_later : (above : Option Key) (pointers after : List Pointer) (before : List Pointer) (pointer : Pointer)
    → pointers ≡ before ++ (pointer ∷ after)
    → list_all (is_to above) (keys_to pointers) ≡ true → IsNoLater (next_key above after) above
no_later above pointers [] before pointer is ends = inl refl
no_later above pointers (next ∷ after) before pointer is ends =
    inr (
      next.key,
      refl,
      there before (subst (λ (ps : List Pointer). list_all (is_to above) (keys_to ps) ≡ true) is
          ends),
    ) where
      there : (front : List Pointer)
          → list_all (is_to above) (keys_to (front ++ (pointer ∷ (next ∷ after)))) ≡ true
          → is_to above next.key ≡ true
      there [] h = (and_parts (is_to above next.key) _ (and_parts (is_to above pointer.key) _ h).1).0
      there (x ∷ front) h = there front (and_parts (is_to above x.key) _ h).1

no_later_both : (leaf middle above : Option Key) → IsNoLater leaf middle → IsNoLater middle above
    → IsNoLater leaf above
no_later_both leaf middle above (inl same) later =
    subst (λ (o : Option Key). IsNoLater o above) (sym same) later
no_later_both leaf middle above (inr (to, is, less)) (inl same) =
    inr (to, is, subst (λ (o : Option Key). is_to o to ≡ true) same less)
no_later_both leaf middle above (inr (to, is, less)) (inr (mid, mid_is, mid_less)) =
    inr (
      to,
      is,
      is_to-earlier above mid to mid_less
          (subst (λ (o : Option Key). is_to o to ≡ true) mid_is less),
    )

-- the next key is no later than the first of those behind
next_upto : (leaf : Option Key) (next first : Key) → leaf ≡ Some next → IsNoLater leaf (Some first)
    → (next ≡ first) ⊎ (is_lt (key_cmp next first) ≡ true)
next_upto leaf next first is (inl same) = let e = sym is ∙ same in inl cc
next_upto leaf next first is (inr (to, to_is, less)) =
    let e = sym to_is ∙ is in
    let there : to ≡ next = cc in
    inr (subst (λ (k : Key). is_lt (key_cmp k first) ≡ true) there less)

-- where the second key leads to one behind, it leads to the next one, whose key it is
right_is : (next : Key) (leaf : Option Key) (after front : List Pointer) (other : Pointer) (to : Option Key)
    → leaf ≡ Some next → IsNoLater leaf (next_key to after) → IsRight after front other
    → (front ≡ []) ⊎ (is_upto next other.key ≡ true) → other.key ≡ next
right_is next leaf after front other to is later right (inl none) = absurd (right.some none)
right_is next leaf after front other to is later right (inr upto) =
    let first = next_upto leaf next right.first.key is
    (subst (λ (ps : List Pointer). IsNoLater leaf (next_key to ps)) right.after_is later) in
    here first right.upto where
      here : (next ≡ right.first.key) ⊎ (is_lt (key_cmp next right.first.key) ≡ true)
          → (right.first ≡ other) ⊎ (is_lt (key_cmp right.first.key other.key) ≡ true) → other.key ≡ next
      here (inl same) (inl that) = sym (same ∙ ap (λ (p : Pointer). p.key) that)
      here (inl same) (inr less) =
          absurd (never (is_lt (key_cmp next other.key))
          (subst (λ (k : Key). is_lt (key_cmp k other.key) ≡ true) (sym same) less) upto)
      here (inr less) (inl that) =
          absurd (never (is_lt (key_cmp next other.key))
          (subst (λ (p : Pointer). is_lt (key_cmp next p.key) ≡ true) that less) upto)
      here (inr less) (inr later) =
          absurd (never (is_lt (key_cmp next other.key))
          (less_trans next right.first.key other.key less later) upto)

left_not : (key next : Key) (before : List Pointer) (pointer : Pointer) → is_lt (key_cmp key next) ≡ true
    → (before ≡ []) ⊎ (is_upto key pointer.key ≡ true) → IsLeft next before pointer → ⊥
left_not key next before pointer less (inl none) left = left.some none
left_not key next before pointer less (inr upto) left =
    never (is_lt (key_cmp key pointer.key)) (less_trans key next pointer.key less left.past) upto

under_moved : (tree : TreeKind) (super : Super) (nodes : ℕ → Option Node) (level : ℕ) (expected other : Expected)
    (address place : ℕ) (items : List Item) → other ≡ expected → place ≡ address
    → IsUnder tree super nodes level expected address items → IsUnder tree super nodes level other place items
under_moved tree super nodes level expected other address place items same there under =
    subst (λ (at : ℕ). IsUnder tree super nodes level other at items) (sym there)
    (subst (λ (e : Expected). IsUnder tree super nodes level e address items) (sym same) under)

module _ (tree : TreeKind) (super : Super) (nodes : ℕ → Option Node) where
  -- what stands where the way goes on
  record IsBelow (level : ℕ) (expected : Expected) (address : ℕ) (items : List Item) (key : Key) (node : Node)
      (way : Way) : Type 0 where
    pointers : List Pointer
    pointers_are : own_pointers node ≡ pointers
    ascending : is_ascending (keys_to pointers) ≡ true
    first : (from : Key) → expected.from ≡ Some from → is_first from (keys_to pointers) ≡ true
    ends : list_all (is_to expected.to) (keys_to pointers) ≡ true
    cut : IsCut pointers expected.to level key way
    under : (mine : List Item) × IsUnder tree super nodes level way.expected way.address mine

  below : (level : ℕ) (expected : Expected) (address : ℕ) (items : List Item) (key : Key) (node : Node) (way : Way)
      → IsUnder tree super nodes (suc level) expected address items → nodes address ≡ Some node
      → is_ascending (own_keys node) ≡ true → LeadsFor (own_pointers node) expected.to level key way
      → IsBelow level expected address items key node way
  below level expected address items key node way under there ascends leads =
      let inner = under-inner tree super nodes level expected address items under in
      let same : node ≡ Inner inner.header inner.pointers = let e = sym there ∙ inner.here in cc in
      let ascending = subst (λ (n : Node). is_ascending (own_keys n) ≡ true) same ascends in
      let formed = IsFormed-form tree super expected address (Inner inner.header inner.pointers) inner.formed in
      let cut = cut_of inner.pointers expected.to level key way
      (subst (λ (n : Node). LeadsFor (own_pointers n) expected.to level key way) same leads) in
      let split = split-under tree super nodes level expected.to cut.before cut.pointer cut.after items
      (subst (λ (ps : List Pointer). is_ascending (keys_to ps) ≡ true) cut.cut ascending)
      (subst (λ (ps : List Pointer). AreUnder tree super nodes level expected.to ps items) cut.cut inner.below) in
      record {
        pointers = inner.pointers;
        pointers_are = ap own_pointers same;
        ascending = ascending;
        first = λ from told. formed-first tree super expected address from (Inner inner.header inner.pointers) told
            inner.formed;
        ends = sym (ends_before-each expected.to (keys_to inner.pointers)) ∙ formed.ends;
        cut = cut;
        under = (
          split.mine,
          under_moved tree super nodes level (expected_below level expected.to cut.pointer cut.after) way.expected
              cut.pointer.child way.address split.mine cut.expects cut.child split.under,
        );
      }

  -- a key leads to the leaf that begins at it, where the way begins at it
  stays : (level : ℕ) (expected : Expected) (address : ℕ) (items : List Item) (key : Key) (leaf : Expected) (at : ℕ)
      → IsUnder tree super nodes level expected address items → expected.from ≡ Some key
      → LeadsDown nodes key level expected address leaf at → leaf.from ≡ Some key
  unfolding LeadsDown
  stays zero expected address items key leaf at under from (leaf_is, at_is) =
      ap (λ (e : Expected). e.from) leaf_is ∙ from
  stays (suc level) expected address items key leaf at under from (node, there, ascends, way, leads, down) =
      let b = below level expected address items key node way under there ascends leads in
      stays level way.expected way.address b.under.0 key leaf at b.under.1
      (first_of key b.pointers expected.to level way b.ascending (b.first key from) b.cut) down

  ends_by : (level : ℕ) (expected : Expected) (address : ℕ) (items : List Item) (key : Key) (leaf : Expected) (at : ℕ)
      → IsUnder tree super nodes level expected address items
      → LeadsDown nodes key level expected address leaf at → IsNoLater leaf.to expected.to
  unfolding LeadsDown
  ends_by zero expected address items key leaf at under (leaf_is, at_is) = inl (ap (λ (e : Expected). e.to) leaf_is)
  ends_by (suc level) expected address items key leaf at under (node, there, ascends, way, leads, down) =
      let b = below level expected address items key node way under there ascends leads in
      let here = ends_by level way.expected way.address b.under.0 key leaf at b.under.1 down in
      no_later_both leaf.to way.expected.to expected.to here
      (subst (λ (o : Option Key). IsNoLater o expected.to) (sym (ap (λ (e : Expected). e.to) b.cut.expects))
      (no_later expected.to b.pointers b.cut.after b.cut.before b.cut.pointer b.cut.cut b.ends))

  -- The next key on the way to a leaf leads to a leaf that begins at it
  next_begins : (level : ℕ) (expected : Expected) (address : ℕ) (items : List Item) (key next : Key)
      (leaf : Expected) (at : ℕ) (other : Expected) (there : ℕ)
      → IsUnder tree super nodes level expected address items
      → LeadsDown nodes key level expected address leaf at → leaf.to ≡ Some next
      → is_lt (key_cmp key next) ≡ true → is_to expected.to next ≡ true
      → LeadsDown nodes next level expected address other there → other.from ≡ Some next
  unfolding LeadsDown
  next_begins zero expected address items key next leaf at other there under (leaf_is, at_is) is less within
      (other_is, there_is) =
      let to : expected.to ≡ Some next = sym (ap (λ (e : Expected). e.to) leaf_is) ∙ is in
      let itself : is_lt (key_cmp next next) ≡ true = subst (λ (o : Option Key). is_to o next ≡ true) to within in
      absurd (both_ways (is_lt (key_cmp next next)) (not_itself next) itself)
  next_begins (suc level) expected address items key next leaf at other there under
      (node, is_node, ascends, way, leads, down) is less within (node', is_node', ascends', way', leads', down') =
      let b = below level expected address items key node way under is_node ascends leads in
      let b' = below level expected address items next node' way' under is_node' ascends' leads' in
      let same_node : node ≡ node' = let e = sym is_node ∙ is_node' in cc in
      let same : b.pointers ≡ b'.pointers = sym b.pointers_are ∙ ap own_pointers same_node ∙ b'.pointers_are in
      let cut = b.cut in
      let cut' = b'.cut in
      let later = subst (λ (o : Option Key). IsNoLater leaf.to o) (ap (λ (e : Expected). e.to) cut.expects)
      (ends_by level way.expected way.address b.under.0 key leaf at b.under.1 down) in
      let ascending = subst (λ (ps : List Pointer). is_ascending (keys_to ps) ≡ true) cut'.cut b'.ascending in
      elim (compare next cut.before cut.pointer cut.after cut'.before cut'.pointer cut'.after
      (sym cut.cut ∙ same ∙ cut'.cut) ascending cut'.past) [
        | inl one ↦
            let expected_is : way'.expected ≡ way.expected =
            cut'.expects ∙ ap (λ (p : Pointer). expected_below level expected.to p cut'.after) (sym one.pointer_is)
            ∙ ap (λ (ps : List Pointer). expected_below level expected.to cut.pointer ps) (sym one.after_is)
            ∙ sym cut.expects in
            let address_is : way'.address ≡ way.address =
            cut'.child ∙ ap (λ (p : Pointer). p.child) (sym one.pointer_is) ∙ sym cut.child in
            let inside = leads-past next (own_pointers node') expected.to level way' leads' within in
            next_begins level way.expected way.address b.under.0 key next leaf at other there b.under.1 down is less
            (subst (λ (e : Expected). is_to e.to next ≡ true) expected_is inside)
            (subst (λ (e : Expected). LeadsDown nodes next level e way.address other there) expected_is
            (subst (λ (a : ℕ). LeadsDown nodes next level way'.expected a other there) address_is down'))
        | inr (inl right) ↦
            let key_is = right_is next leaf.to cut.after cut'.before cut'.pointer expected.to is later right
            cut'.upto in
            stays level way'.expected way'.address b'.under.0 next other there b'.under.1
            (ap (λ (e : Expected). e.from) cut'.expects ∙ ap Some key_is) down'
        | inr (inr left) ↦ absurd (left_not key next cut.before cut.pointer less cut.upto left)
      ]

-- ---- from a root

-- where a key leads to a leaf, the next key on the way begins one
pub begins-next : (root : Root) (draft : Draft) (history : History) (whole : List Item) (key next : Key)
    (leaf : Expected) (at : ℕ)
    → TellsTree Extents root draft history whole → LeadsToLeaf root draft history key leaf at
    → leaf.to ≡ Some next → is_to leaf.to key ≡ true → BeginsLeaf root draft history next
begins-next root draft history whole key next leaf at tells leads is past other there down =
    let less : is_lt (key_cmp key next) ≡ true = subst (λ (o : Option Key). is_to o key ≡ true) is past in
    next_begins Extents (super_of root draft) (told draft history) root.height
    (root_expected (Some root.height) None) root.address whole key next leaf at other there
    (record { levelled = refl; walked = tells.walked; items_are = tells.items_are }) leads is less refl down
