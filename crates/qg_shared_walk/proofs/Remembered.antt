-- What is remembered, step by step.
use Rattle.std.proofs.Common.{◌≡◌, ℕ, ◌-◌, ◌≤◌, true, false, List, [], ◌∷◌, ◌++◌, ◌⊎◌, append-nil, append_assoc, refl}
use Rattle.std.proofs.Common.{sym, ap, subst, ◌∙◌, arith, Option, Some, None, inl, inr}
use Rattle.std.specs.Prelude.{◌*◌, Ok, nat_le, slice_get}
use Rattle.std.specs.List.{Contains}
use Rattle.std.specs.Ordering.{is_eq, nat_cmp}
use Rattle.std.proofs.lemmas.Bool.{cases_Bool, false≢true}
use Rattle.std.proofs.lemmas.List.Elements.{Contains-append_cases, Contains-append_left, Contains-append_right}
use Rattle.std.proofs.lemmas.Map.Lookups.{exact_unsigned}
use Rattle.std.proofs.lemmas.Map.Views.{tells_apart}
use Rattle.std.proofs.lemmas.Option.{none-some, same_Some}
use Rattle.qg_device.specs.History.{Event, content}
use Rattle.qg_num.specs.declared.key.Key.{Key}
use Rattle.qg_node.specs.declared.item.Item.{Item}
use Rattle.qg_node.specs.declared.pointer.Pointer.{Pointer}
use Rattle.qg_node.specs.declared.node.Header.{Header}
use Rattle.qg_node.specs.declared.node.Node.{Node}
use Rattle.qg_node.specs.declared.node.Node.TheVariants.{Leaf, Inner}
use Rattle.qg_node.specs.Nodes.{header_of, own_keys, used_bytes}
use Rattle.qg_super.specs.Places.{capacity}
use Rattle.qg_image.specs.IsShaped.{is_shaped}
use Rattle.qg_super.specs.declared.superblock.Super.{Super}
use Rattle.qg_tree_items.specs.Rows.{Tells}
use Rattle.qg_image.proofs.Contained.{contains_cases, contains_here, contains_later, none_contained}
use Rattle.qg_shared_walk.proofs.Distinct.{distinct_both, distinct_none, distinct_with}
use Rattle.qg_image.specs.declared.tree.TreeKind.TheVariants.{Files}
use Rattle.qg_image.specs.declared.expected.Expected.{Expected}
use Rattle.qg_image.specs.Walk.{next_key, node_found}
use Rattle.qg_walk.specs.Added.{AreSpaced}
use Rattle.qg_walk.specs.Standing.{IsJudged, expected_below, levels_below}
use Rattle.qg_walk.proofs.Failures.{level_within}
use Rattle.qg_shared_walk.specs.declared.digest.Below.{Below}
use Rattle.qg_shared_walk.specs.declared.digest.Digest.{Digest}
use Rattle.qg_shared_walk.specs.Digests.{HasBehind, IsDigestOf, ends_by, fits}
use Rattle.qg_shared_walk.specs.Wells.{AreWell, IsLeafRead, IsWell, Whole, all_failure}
use Rattle.qg_shared_walk.specs.Memo.{IsEntered, IsWellBelow, Remembers, Walks, WalksBelow, address_of, digest_at}
use Rattle.qg_shared_walk.proofs.Forms.{form_parts}
use Rattle.qg_shared_walk.proofs.Walks.{spaced_front, walk_formed}
use Rattle.qg_shared_walk.proofs.Wells.{are_well_still, ends_there, inner_fits, inner_well, inner_whole, leaf_fits}
use Rattle.qg_shared_walk.proofs.Wells.{leaf_well, leaf_whole, more_well, more_whole, no_whole, none_well, well_still}

pub nothing_remembered : {N : Type 0} (super : Super) (events : List Event) (keeps : N → List Node
    → Type 0) (digests : List (ℕ × Digest)) (reader : N)
    → digests ≡ [] → keeps reader [] → Remembers super events keeps [] digests reader
nothing_remembered super events keeps digests reader none kept = record {
  are = kept;
  found = λ node has. absurd (none_contained node has);
  distinct = distinct_none;
  noted = λ node has. absurd (none_contained node has);
  well = λ address digest is. absurd (none-some digest (rw none at is));
}

-- a node that is remembered, and one that is expected
pub walks_at : {N : Type 0} (super : Super) (events : List Event) (keeps : N → List Node → Type 0) (kept : List Node)
    (digests : List (ℕ × Digest)) (reader : N) (expected : Expected) (address : ℕ) (digest : Digest)
    → Remembers super events keeps kept digests reader → digest_at digests address ≡ Some digest
    → fits expected digest ≡ true
    → Walks super events keeps kept digests reader expected address digest
walks_at super events keeps kept digests reader expected address digest remembers is fit =
    let well = remembers.well address digest is in
    record {
      now = kept;
      remembers = remembers;
      stay = λ n has. has;
      whole = well.0;
      well = well.1;
      fitting = fit;
      more = λ n has. inl has;
    }

-- and one that is not: a rule is broken
pub refused_at : {N : Type 0} (super : Super) (events : List Event) (keeps : N → List Node → Type 0) (kept : List Node)
    (digests : List (ℕ × Digest)) (reader : N) (depth : ℕ) (expected : Expected) (address : ℕ) (digest : Digest)
    → Remembers super events keeps kept digests reader → digest_at digests address ≡ Some digest
    → fits expected digest ≡ false → levels_below expected.level ≤ depth
    → all_failure super events depth expected address ≡ None → ⊥
refused_at super events keeps kept digests reader depth expected address digest remembers is unfit deep none =
    let well = (remembers.well address digest is).1 in
    let keeps = form_parts super expected address well.node
    (walk_formed super events depth expected address well.node well.found none) in
    let low : (header_of well.node).level ≤ 7 = omega (arith, well.told.level, well.low) in
    let within = level_within expected.level (header_of well.node).level depth keeps.level low deep in
    false≢true (sym unfit ∙ well.only expected depth (omega (arith, within, well.told.level)) none)

-- ---- a node is entered

module _ {N : Type 0} (super : Super) (events : List Event) (keeps : N → List Node → Type 0) (old : List Node)
    (digests more : List (ℕ × Digest)) (reader next : N)
    (expected : Expected) (address : ℕ) (node : Node) (below : Below)
    (well : IsWellBelow super events keeps old digests reader expected address node below)
    (digest : Digest) (told : IsDigestOf super.nodesize node digest) (same : digest.below ≡ below)
    (placed : address_of node ≡ address)
    (none : digest_at digests address ≡ None) (entered : IsEntered digests more address digest)
    (kept : keeps next (well.now ++ node ∷ [])) where
  has_node : Contains (well.now ++ node ∷ []) node
  has_node = Contains-append_right well.now (node ∷ []) node (contains_here node [])

  of_both : (P : Node → Type 0) → ((n : Node) → Contains well.now n → P n) → P node → (n : Node)
      → Contains (well.now ++ node ∷ []) n → P n
  of_both P early late n has = elim (Contains-append_cases well.now (node ∷ []) n has) [
    | inl front ↦ early n front
    | inr back ↦ elim (contains_cases node [] n back) [
      | inl is ↦ subst P is late
      | inr nothing ↦ absurd (none_contained n nothing)
    ]
  ]

  well_here : IsWell super events (well.now ++ node ∷ []) address digest well.whole
  well_here = well.well digest (well.now ++ node ∷ []) told same
      (λ n has. Contains-append_left well.now (node ∷ []) n has) has_node

  noted_still : (n : Node) → Contains well.now n → digest_at more (address_of n) ≡ None → ⊥
  noted_still n has gone = elim (cases_Bool (is_eq (nat_cmp address (address_of n)))) [
    | inl one ↦ none-some digest (sym gone
        ∙ subst (λ (a : ℕ). digest_at more a ≡ Some digest) (tells_apart exact_unsigned address (address_of n) one)
        entered.0)
    | inr two ↦ well.remembers.noted n has (sym (entered.1 (address_of n) two) ∙ gone)
  ]

  apart : (n m : Node) → Contains well.now n → Contains (node ∷ []) m → address_of n ≡ address_of m → ⊥
  apart n m has there is = elim (contains_cases node [] m there) [
    | inl one ↦
        let lies : address_of n ≡ address = is ∙ ap address_of (sym one) ∙ placed in
        well.remembers.noted n has (ap (digest_at digests) lies ∙ none)
    | inr nothing ↦ none_contained m nothing
  ]

  well_each : (a : ℕ) (d : Digest) → digest_at more a ≡ Some d
      → (whole : Whole) × IsWell super events (well.now ++ node ∷ []) a d whole
  well_each a d is = elim (cases_Bool (is_eq (nat_cmp address a))) [
    | inl one ↦
        let lies : address ≡ a = tells_apart exact_unsigned address a one in
        let there : digest_at more a ≡ Some digest = subst (λ (b : ℕ). digest_at more b ≡ Some digest) lies entered.0 in
        let digest_is : digest ≡ d = same_Some digest d (sym there ∙ is) in (
          well.whole,
          subst (λ (b : ℕ). IsWell super events (well.now ++ node ∷ []) b d well.whole) lies
              (subst (λ (e : Digest). IsWell super events (well.now ++ node ∷ []) address e well.whole) digest_is
              well_here),
        )
    | inr two ↦
        let before = well.remembers.well a d (sym (entered.1 a two) ∙ is) in (
          before.0,
          well_still super events well.now (well.now ++ node ∷ []) a d before.0
              (λ n has. Contains-append_left well.now (node ∷ []) n has) before.1,
        )
  ]

  remembers_more : Remembers super events keeps (well.now ++ node ∷ []) more next
  remembers_more = record {
    are = kept;
    found = of_both (λ n. node_found super (content events) (address_of n) ≡ Ok n) well.remembers.found
        (subst (λ (a : ℕ). node_found super (content events) a ≡ Ok node) (sym placed) well.found);
    distinct = distinct_both address_of well.now (node ∷ []) well.remembers.distinct
        (distinct_with (address_of node) [] (λ m has is. none_contained m has) distinct_none) apart;
    noted = of_both (λ n. digest_at more (address_of n) ≡ None → ⊥) noted_still
        (λ gone. none-some digest (sym gone
        ∙ subst (λ (a : ℕ). digest_at more a ≡ Some digest) (sym placed) entered.0));
    well = well_each;
  }

  pub walks_entered : Walks super events keeps old more next expected address digest
  walks_entered = record {
    now = well.now ++ node ∷ [];
    remembers = remembers_more;
    stay = λ n has. Contains-append_left well.now (node ∷ []) n (well.stay n has);
    whole = well.whole;
    well = well_here;
    fitting = well.fitting digest told same;
    more = of_both (λ n. Contains old n ⊎ Contains well.whole.nodes n) well.more (inr well.has);
  }

-- ---- a node that was remembered meanwhile

-- the digest of a node
abbrev digest_for : ℕ → Node → Below → Digest
digest_for nodesize node below = record {
  level = (header_of node).level;
  generation = (header_of node).generation;
  first = slice_get (own_keys node) 0;
  is_root_shaped = is_shaped nodesize None node;
  is_quarter_full = nat_le (capacity nodesize) (4 * used_bytes node);
  below = below;
}

-- what stands below an address in an image is one list of nodes
same_nodes : (super : Super) (events : List Event) (kept kept' : List Node) (expected : Expected) (address : ℕ)
    (digest digest' : Digest) (whole whole' : Whole)
    → IsWell super events kept address digest whole → fits expected digest ≡ true
    → IsWell super events kept' address digest' whole' → fits expected digest' ≡ true
    → whole.nodes ≡ whole'.nodes
same_nodes super events kept kept' expected address digest digest' whole whole' well fit well' fit' =
    let added = well.below expected fit in
    let added' = well'.below expected fit' in
    let one : added.nodes ≡ added'.nodes = same_Some added.nodes added'.nodes (sym (added.nodes_stand events refl)
    ∙ added'.nodes_stand events refl) in
    added.more_nodes [] refl ∙ one ∙ sym (added'.more_nodes [] refl)

pub walks_meanwhile : {N : Type 0} (super : Super) (events : List Event) (keeps : N → List Node
    → Type 0) (old : List Node) (digests : List (ℕ × Digest)) (reader : N)
    (expected : Expected) (address : ℕ) (node : Node) (below : Below) (digest : Digest)
    → IsWellBelow super events keeps old digests reader expected address node below
    → digest_at digests address ≡ Some digest → fits expected digest ≡ true
    → Walks super events keeps old digests reader expected address digest
walks_meanwhile super events keeps old digests reader expected address node below digest well is fit =
    let found = well.remembers.well address digest is in
    let own = digest_for super.nodesize node below in
    let told : IsDigestOf super.nodesize node own = record {
      level = refl;
      generation = refl;
      first = refl;
      root = refl;
      quarter = refl;
    } in
    let all = well.now ++ node ∷ [] in
    let here = well.well own all told refl (λ n has. Contains-append_left well.now (node ∷ []) n has)
    (Contains-append_right well.now (node ∷ []) node (contains_here node [])) in
    let same = same_nodes super events all well.now expected address own digest well.whole found.0 here
    (well.fitting own told refl) found.1 fit in
    record {
      now = well.now;
      remembers = well.remembers;
      stay = well.stay;
      whole = found.0;
      well = found.1;
      fitting = fit;
      more = λ n has. elim (well.more n has) [
        | inl before ↦ inl before
        | inr there ↦ inr (subst (λ (nodes : List Node). Contains nodes n) same there)
      ];
    }

-- ---- below a leaf, and below an inner node

pub below_leaf : {N : Type 0} (super : Super) (events : List Event) (keeps : N → List Node → Type 0) (kept : List Node)
    (digests : List (ℕ × Digest)) (reader : N)
    (expected : Expected) (address : ℕ) (header : Header) (items : List Item) (below : Below)
    → Remembers super events keeps kept digests reader
    → node_found super (content events) address ≡ Ok (Leaf header items)
    → IsJudged Files super expected address (Leaf header items) → IsLeafRead super.generation items below
    → IsWellBelow super events keeps kept digests reader expected address (Leaf header items) below
below_leaf super events keeps kept digests reader expected address header items below remembers found judged read =
    record {
      now = kept;
      remembers = remembers;
      stay = λ n has. has;
      whole = leaf_whole super events expected address header items below found judged read;
      found = found;
      has = contains_here (Leaf header items) [];
      well = λ digest later told same stay has. leaf_well super events expected address header items below found judged
          read
          later digest told same has;
      fitting = λ digest told same. leaf_fits super events expected address header items below found judged read digest
          told
          same;
      more = λ n has. inl has;
    }

pub below_inner : {N : Type 0} (super : Super) (events : List Event) (keeps : N → List Node → Type 0) (kept : List Node)
    (digests : List (ℕ × Digest)) (reader : N)
    (expected : Expected) (address : ℕ) (header : Header) (pointers : List Pointer) (below : Below)
    → node_found super (content events) address ≡ Ok (Inner header pointers)
    → IsJudged Files super expected address (Inner header pointers)
    → WalksBelow super events keeps kept digests reader expected.to (header.level - 1) pointers [] below
    → IsWellBelow super events keeps kept digests reader expected address (Inner header pointers) below
below_inner super events keeps kept digests reader expected address header pointers below found judged walks =
    let all : pointers ≡ walks.front = walks.all ∙ append-nil walks.front in
    let well : AreWell super events walks.now (header.level - 1) pointers below walks.whole =
    subst (λ (front : List Pointer). AreWell super events walks.now (header.level - 1) front below walks.whole)
    (sym all) walks.well in
    record {
      now = walks.now;
      remembers = walks.remembers;
      stay = walks.stay;
      whole = inner_whole super events expected address header pointers below found judged walks.whole;
      found = found;
      has = contains_here (Inner header pointers) walks.whole.nodes;
      well = λ digest later told same stay has.
          inner_well super events expected address header pointers below found judged walks.whole digest told same later
          (are_well_still super events walks.now later (header.level - 1) pointers below walks.whole stay well) has;
      fitting = λ digest told same.
          inner_fits super events expected address header pointers below found judged walks.whole digest told same
          walks.now well walks.ends;
      more = λ n has. elim (walks.more n has) [
        | inl before ↦ inl before
        | inr there ↦ inr (contains_later (Inner header pointers) walks.whole.nodes n there)
      ];
    }

-- ---- below pointers, one after the other

pub below_none : {N : Type 0} (super : Super) (events : List Event) (keeps : N → List Node → Type 0) (kept : List Node)
    (digests : List (ℕ × Digest)) (reader : N)
    (to : Option Key) (level : ℕ) (pointers : List Pointer) (below : Below) → below.last ≡ None → Tells below.row []
    → Remembers super events keeps kept digests reader
    → WalksBelow super events keeps kept digests reader to level pointers pointers below
below_none super events keeps kept digests reader to level pointers below last row remembers = record {
  front = [];
  all = refl;
  now = kept;
  remembers = remembers;
  stay = λ n has. has;
  whole = no_whole;
  well = none_well super events kept level below last row;
  ends = ap (ends_by (next_key to pointers)) last;
  more = λ n has. inl has;
}

pub below_more : {N : Type 0} (super : Super) (events : List Event) (keeps : N → List Node → Type 0) (old : List Node)
    (digests digests' : List (ℕ × Digest)) (reader reader' : N)
    (from to : Option Key) (level : ℕ) (pointers : List Pointer) (pointer : Pointer) (others : List Pointer)
    (before after : Below) (digest : Digest)
    (walks : WalksBelow super events keeps old digests reader to level pointers (pointer ∷ others) before)
    → Walks super events keeps walks.now digests' reader' (expected_below level to pointer others) pointer.child digest
    → AreSpaced from to pointers → HasBehind before digest.below after
    → WalksBelow super events keeps old digests' reader' to level pointers others after
below_more super events keeps old digests digests' reader reader' from to level pointers pointer others before after
    digest walks one spaced behind =
    let all : pointers ≡ (walks.front ++ pointer ∷ []) ++ others = walks.all
    ∙ sym (append_assoc walks.front (pointer ∷ []) others) in
    let still = are_well_still super events walks.now one.now level walks.front before walks.whole one.stay
    walks.well in
    let within = spaced_front from to (walks.front ++ pointer ∷ []) others
    (subst (λ (ps : List Pointer). AreSpaced from to ps) all spaced) in
    record {
      front = walks.front ++ pointer ∷ [];
      all = all;
      now = one.now;
      remembers = one.remembers;
      stay = λ n has. one.stay n (walks.stay n has);
      whole = more_whole super events one.now level walks.front before walks.whole still pointer walks.ends digest
          one.whole one.well to others one.fitting;
      well = more_well super events one.now level walks.front before walks.whole still pointer walks.ends digest
          one.whole one.well to others one.fitting from after within behind;
      ends = ap (ends_by (next_key to others)) behind.last
          ∙ ends_there super events one.now level walks.front before walks.whole still pointer walks.ends digest
          one.whole one.well to others one.fitting;
      more = λ n has. elim (one.more n has) [
        | inl earlier ↦ elim (walks.more n earlier) [
          | inl first ↦ inl first
          | inr there ↦ inr (Contains-append_left walks.whole.nodes one.whole.nodes n there)
        ]
        | inr there ↦ inr (Contains-append_right walks.whole.nodes one.whole.nodes n there)
      ];
    }
