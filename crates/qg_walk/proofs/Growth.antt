-- What was found grows, node by node.
use Rattle.std.proofs.Common.{◌≡◌, ℕ, suc, ◌-◌, true, List, [], ◌∷◌, ◌++◌, map, append_assoc, append-nil, arith, refl}
use Rattle.std.proofs.Common.{sym, ap, ◌∙◌, subst, Option, Some, None}
use Rattle.std.specs.Prelude.{All, OnOk, Result, Ok, Err}
use Rattle.std.specs.List.{list_all}
use Rattle.std.specs.Option.{option_and_then}
use Rattle.std.proofs.lemmas.Bool.{and_from, eqb-true}
use Rattle.std.proofs.lemmas.List.{map-append}
use Rattle.std.proofs.lemmas.List.Elements.{All-append, All-nil}
use Rattle.qg_num.specs.Fields.{IsBytes}
use Rattle.qg_device.specs.History.{Event, History, Recorded, content}
use Rattle.qg_num.specs.declared.key.Key.{Key}
use Rattle.qg_num.specs.declared.rule.Rule.TheVariants as rule
use Rattle.qg_node.specs.declared.item.Item.{Item}
use Rattle.qg_node.specs.declared.pointer.Pointer.{Pointer}
use Rattle.qg_node.specs.declared.node.Header.{Header}
use Rattle.qg_node.specs.declared.node.Node.{Node}
use Rattle.qg_node.specs.declared.node.Node.TheVariants.{Leaf, Inner}
use Rattle.qg_node.specs.Nodes.{header_of}
use Rattle.qg_super.specs.declared.superblock.Super.{Super}
use Rattle.qg_super.specs.Places.{is_slot}
use Rattle.qg_super.specs.SuperText.{sizes_of}
use Rattle.qg_image.specs.Below.{items_below, joined, nodes_below}
use Rattle.qg_image.specs.declared.tree.TreeKind.{TreeKind}
use Rattle.qg_image.specs.declared.expected.Expected.{Expected}
use Rattle.qg_image.specs.Failure.{unless}
use Rattle.qg_image.specs.Walk.{is_item_of, next_key, node_found}
use Rattle.qg_image.specs.ItemsUnder.{nodes_of}
use Rattle.qg_image.specs.ImageState.{level_in}
use Rattle.qg_walk.specs.declared.fault.OpenFault.{OpenFault}
use Rattle.qg_walk.specs.Fault.{FailsAs}
use Rattle.qg_walk.specs.Standing.{IsJudged}
use Rattle.qg_walk.specs.Added.{AddsSaid, below_node, below_pointers, Found, HasAdded, is_from, is_to}
use Rattle.qg_walk.proofs.Failures.{IsFormed-form, IsPassed, kept-none}
use Rattle.qg_walk.proofs.KeyRanges.{AreWithin-append, AreWithin-none, AreWithin-own, list_all-both}

-- ---- what stands below one node

level_in-found : (super : Super) (image : List ℕ) (address : ℕ) (node : Node) → node_found super image address ≡ Ok node
    → level_in super image address ≡ (header_of node).level
level_in-found super image address node is = rw is refl

-- the items and the nodes of a leaf
leaf_stands : (super : Super) (image : List ℕ) (address : ℕ) (header : Header) (items : List Item)
    → node_found super image address ≡ Ok (Leaf header items) → header.level ≡ 0
    → (below_node super address image).items ≡ Some items × (below_node super address image).nodes
    ≡ Some (Leaf header items ∷ [])
leaf_stands super image address header items is level =
    let lowest : level_in super image address ≡ 0 = level_in-found super image address (Leaf header items) is ∙ level in
    rw (lowest, is) (refl, refl)

inner_stands : (super : Super) (image : List ℕ) (address level : ℕ) (header : Header) (pointers : List Pointer)
    (items : List Item) (nodes : List Node)
    → node_found super image address ≡ Ok (Inner header pointers) → header.level ≡ suc level
    → (below_pointers super level pointers image).items ≡ Some items
    → (below_pointers super level pointers image).nodes ≡ Some nodes
    → (below_node super address image).items ≡ Some items × (below_node super address image).nodes
    ≡ Some (Inner header pointers ∷ nodes)
inner_stands super image address level header pointers items nodes is above own below =
    let higher : level_in super image address ≡ suc level =
    level_in-found super image address (Inner header pointers) is ∙ above in
    rw (higher, is, own, below) (refl, refl)

-- ---- one node

pub HasAdded-leaf : {P N : Type 0} (tree : TreeKind) (meaning : Item → Option P) (keeps : N → List Node
    → Type 0) (super : Super) (history : History) (expected : Expected) (address : ℕ)
    (header : Header) (items : List Item) (old new : Found P N)
    → IsJudged tree super expected address (Leaf header items)
    → ((events : List Event) → history ≡ Recorded events
    → node_found super (content events) address ≡ Ok (Leaf header items))
    → list_all (is_item_of tree super.generation) items ≡ true → All (λ item. IsBytes item.body) items
    → AddsSaid meaning items old.parts new.parts
    → ((before : List Node) → keeps old.nodes before → keeps new.nodes (before ++ Leaf header items ∷ []))
    → HasAdded tree meaning keeps super history expected.from expected.to (below_node super address) old new
HasAdded-leaf tree meaning keeps super history expected address header items old new judged found held bytes said
    nodes =
    let stands = judged.stands in
    let formed = IsFormed-form tree super expected address (Leaf header items) judged.formed in
    record {
      items = items;
      nodes = Leaf header items ∷ [];
      parts = said.parts;
      held = held;
      bytes = bytes;
      within = AreWithin-own expected.from expected.to (map (λ item. item.key) items) stands.sound.ascending
          formed.begins formed.ends;
      said = said.said;
      slots = and_from (is_slot (sizes_of super) header.address) true (rw stands.placed stands.slot) refl;
      more_parts = said.more;
      more_nodes = nodes;
      items_stand = λ events told.
          (leaf_stands super (content events) address header items (found events told) stands.sound.levelled).0;
      nodes_stand = λ events told.
          (leaf_stands super (content events) address header items (found events told) stands.sound.levelled).1;
    }

pub HasAdded-inner : {P N : Type 0} (tree : TreeKind) (meaning : Item → Option P) (keeps : N → List Node
    → Type 0) (super : Super) (history : History) (expected : Expected) (address : ℕ)
    (header : Header) (pointers : List Pointer) (old middle new : Found P N)
    → IsJudged tree super expected address (Inner header pointers)
    → ((events : List Event) → history ≡ Recorded events
    → node_found super (content events) address ≡ Ok (Inner header pointers))
    → middle.parts ≡ old.parts
    → ((before : List Node) → keeps old.nodes before → keeps middle.nodes (before ++ Inner header pointers ∷ []))
    → HasAdded tree meaning keeps super history expected.from expected.to
    (below_pointers super (header.level - 1) pointers) middle new
    → HasAdded tree meaning keeps super history expected.from expected.to (below_node super address) old new
HasAdded-inner tree meaning keeps super history expected address header pointers old middle new judged found same first
    added =
    let stands = judged.stands in
    let level : header.level ≡ suc (header.level - 1) = omega (arith, stands.sound.levelled.0) in
    record {
      items = added.items;
      nodes = Inner header pointers ∷ added.nodes;
      parts = added.parts;
      held = added.held;
      bytes = added.bytes;
      within = added.within;
      said = added.said;
      slots = and_from (is_slot (sizes_of super) header.address)
          (list_all (λ node. is_slot (sizes_of super) (header_of node).address) added.nodes)
          (rw stands.placed stands.slot) added.slots;
      more_parts = added.more_parts ∙ ap (λ front. front ++ added.parts) same;
      more_nodes = λ before kept.
          subst (keeps new.nodes) (append_assoc before (Inner header pointers ∷ []) added.nodes)
          (added.more_nodes (before ++ Inner header pointers ∷ []) (first before kept));
      items_stand = λ events told.
          (inner_stands super (content events) address (header.level - 1) header pointers added.items added.nodes
          (found events told) level (added.items_stand events told) (added.nodes_stand events told)).0;
      nodes_stand = λ events told.
          (inner_stands super (content events) address (header.level - 1) header pointers added.items added.nodes
          (found events told) level (added.items_stand events told) (added.nodes_stand events told)).1;
    }

-- ---- the nodes that pointers lead to

-- those in front of the rest were walked
pub record HasPassed {P N : Type 0} (tree : TreeKind) (meaning : Item → Option P) (keeps : N → List Node
    → Type 0) (super : Super) (history : History) (from to : Option Key) (level : ℕ)
    (pointers rest : List Pointer) (old new : Found P N) : Type 0 where
  pub front : List Pointer
  pub whole : pointers ≡ front ++ rest
  pub added : HasAdded tree meaning keeps super history from (next_key to rest) (below_pointers super level front) old
      new

-- two lists one after the other, where both are defined
abbrev both_lists : {A : Type 0} → Option (List A) → Option (List A) → Option (List A)
both_lists a b = option_and_then (λ first. option_and_then (λ rest. Some (first ++ rest)) b) a

both_lists-more : {A : Type 0} (a b c : Option (List A)) (first more : List A)
    → ((own : List A) → b ≡ Some own → c ≡ Some (own ++ more))
    → both_lists a b ≡ Some first → both_lists a c ≡ Some (first ++ more)
both_lists-more None b c first more each h = absurd cc
both_lists-more (Some x) None c first more each h = absurd cc
both_lists-more (Some x) (Some y) c first more each h =
    let same : x ++ y ≡ first = cc in
    rw (each y refl) (ap Some (sym (append_assoc x y more) ∙ ap (λ front. front ++ more) same))

joined-more : {A : Type 0} (under : Pointer → Option (List A)) (front : List Pointer) (pointer : Pointer)
    (first more : List A)
    → joined under front ≡ Some first → under pointer ≡ Some more
    → joined under (front ++ pointer ∷ []) ≡ Some (first ++ more)
joined-more {A} under [] pointer first more h k =
    let none : [] ≡ first = cc in rw k (ap Some (append-nil more ∙ ap (λ (front : List A). front ++ more) none))
joined-more under (next ∷ front) pointer first more h k =
    both_lists-more (under next) (joined under front) (joined under (front ++ pointer ∷ [])) first more
    (λ own is. joined-more under front pointer own more is k) h

pub HasPassed-none : {P N : Type 0} (tree : TreeKind) (meaning : Item → Option P) (keeps : N → List Node
    → Type 0) (super : Super) (history : History) (from to : Option Key) (level : ℕ)
    (pointers : List Pointer) (old : Found P N)
    → HasPassed tree meaning keeps super history from to level pointers pointers old old
HasPassed-none tree meaning keeps super history from to level pointers old = record {
  front = [];
  whole = refl;
  added = record {
    items = [];
    nodes = [];
    parts = [];
    held = refl;
    bytes = All-nil (λ (item : Item). IsBytes item.body);
    within = AreWithin-none from (next_key to pointers);
    said = refl;
    slots = refl;
    more_parts = sym (append-nil old.parts);
    more_nodes = λ before kept. subst (keeps old.nodes) (sym (append-nil before)) kept;
    items_stand = λ events told. refl;
    nodes_stand = λ events told. refl;
  };
}

pub HasPassed-more : {P N : Type 0} (tree : TreeKind) (meaning : Item → Option P) (keeps : N → List Node
    → Type 0) (super : Super) (history : History) (from to : Option Key) (level : ℕ)
    (pointers : List Pointer)
    (pointer : Pointer) (others : List Pointer) (old middle new : Found P N)
    → HasPassed tree meaning keeps super history from to level pointers (pointer ∷ others) old middle
    → HasAdded tree meaning keeps super history (Some pointer.key) (next_key to others) (below_node super pointer.child)
    middle new
    → ((events : List Event) → history ≡ Recorded events → level_in super (content events) pointer.child ≡ level)
    → is_from from pointer.key ≡ true → is_to (next_key to others) pointer.key ≡ true
    → HasPassed tree meaning keeps super history from to level pointers others old new
HasPassed-more tree meaning keeps super history from to level pointers pointer others old middle new passed more
    told_level first last =
    let added = passed.added in
    let key_of : Item → Key = λ item. item.key in
    record {
      front = passed.front ++ pointer ∷ [];
      whole = passed.whole ∙ sym (append_assoc passed.front (pointer ∷ []) others);
      added = record {
        items = added.items ++ more.items;
        nodes = added.nodes ++ more.nodes;
        parts = added.parts ++ more.parts;
        held = list_all-both (is_item_of tree super.generation) added.items more.items added.held more.held;
        bytes = All-append (λ (item : Item). IsBytes item.body) added.items more.items added.bytes more.bytes;
        within = rw map-append (AreWithin-append from (next_key to others) pointer.key (map key_of added.items)
            (map key_of more.items) added.within more.within first last);
        said = map-append meaning added.items more.items ∙ ap (λ front. front ++ map meaning more.items) added.said
            ∙ ap (λ back. map (λ part. Some part) added.parts ++ back) more.said
            ∙ sym (map-append (λ part. Some part) added.parts more.parts);
        slots = list_all-both (λ node. is_slot (sizes_of super) (header_of node).address) added.nodes more.nodes
            added.slots more.slots;
        more_parts = more.more_parts ∙ ap (λ front. front ++ more.parts) added.more_parts
            ∙ append_assoc old.parts added.parts more.parts;
        more_nodes = λ before kept.
            subst (keeps new.nodes) (append_assoc before added.nodes more.nodes)
            (more.more_nodes (before ++ added.nodes) (added.more_nodes before kept));
        items_stand = λ events told.
            joined-more (λ pointer. items_below (nodes_of (node_found super (content events))) level pointer.child)
            passed.front pointer added.items more.items (added.items_stand events told)
            (rw (told_level events told) at (more.items_stand events told));
        nodes_stand = λ events told.
            joined-more (λ pointer. nodes_below (nodes_of (node_found super (content events))) level pointer.child)
            passed.front pointer added.nodes more.nodes (added.nodes_stand events told)
            (rw (told_level events told) at (more.nodes_stand events told));
      };
    }

pub HasPassed-all : {P N : Type 0} (tree : TreeKind) (meaning : Item → Option P) (keeps : N → List Node
    → Type 0) (super : Super) (history : History) (from to : Option Key) (level : ℕ)
    (pointers rest : List Pointer) (old new : Found P N)
    → rest ≡ [] → HasPassed tree meaning keeps super history from to level pointers rest old new
    → HasAdded tree meaning keeps super history from to (below_pointers super level pointers) old new
HasPassed-all tree meaning keeps super history from to level pointers rest old new none passed =
    let whole : pointers ≡ passed.front = passed.whole ∙ ap (λ back. passed.front ++ back) none
    ∙ append-nil passed.front in
    let end : next_key to rest ≡ to = ap (next_key to) none in
    rw whole (subst (λ last. HasAdded tree meaning keeps super history from last
    (below_pointers super level passed.front) old new) end passed.added)

-- where a leaf's items were said and none broke its rule
pub HasAdded-said : {P N : Type 0} (tree : TreeKind) (meaning : Item → Option P) (keeps : N → List Node
    → Type 0) (super : Super) (history : History) (expected : Expected) (address : ℕ)
    (header : Header) (items : List Item) (old new : Found P N) (result : Result Unit OpenFault)
    → IsJudged tree super expected address (Leaf header items)
    → ((events : List Event) → history ≡ Recorded events
    → node_found super (content events) address ≡ Ok (Leaf header items))
    → FailsAs result (unless (list_all (is_item_of tree super.generation) items) rule.Item address)
    → OnOk result (All (λ item. IsBytes item.body) items) → OnOk result (AddsSaid meaning items old.parts new.parts)
    → ((before : List Node) → keeps old.nodes before → keeps new.nodes (before ++ Leaf header items ∷ []))
    → OnOk result (HasAdded tree meaning keeps super history expected.from expected.to (below_node super address) old
    new)
HasAdded-said tree meaning keeps super history expected address header items old new (Ok done) judged found fails bytes
    said nodes =
    HasAdded-leaf tree meaning keeps super history expected address header items old new judged found
    (kept-none (list_all (is_item_of tree super.generation) items) rule.Item address fails) bytes said nodes
HasAdded-said tree meaning keeps super history expected address header items old new (Err fault) judged found fails
    bytes said nodes = tt

pub level_passed : (super : Super) (image : List ℕ) (expected : Expected) (address level : ℕ)
    → expected.level ≡ Some level → IsPassed expected (node_found super image address)
    → level_in super image address ≡ level
level_passed super image expected address level told passed =
    let same = rw told at passed.level in
    level_in-found super image address passed.node passed.is ∙ sym (eqb-true level (header_of passed.node).level same)
