-- The records of a book that knows a layout are among those of the layout, so that they weigh no more.
use Rattle.std.proofs.Common.{◌≡◌, ℕ, ◌+◌, ◌<◌, ◌≤◌, Bool, true, false, List, [], ◌∷◌, ◌++◌, map, cond, refl, sym, ap}
use Rattle.std.proofs.Common.{subst, ◌∙◌, arith, inl, inr}
use Rattle.std.specs.Prelude.{◌||◌, ◌==◌, Option, Some, None, Contains, if◌then◌else◌}
use Rattle.std.specs.List.{count_by, filter_map, list_any, sum_by}
use Rattle.std.proofs.lemmas.Bool.{and_parts, cases_Bool, cond-true, cond-false, eq-eqb, eqb-true, true≢false}
use Rattle.std.proofs.lemmas.List.Elements.{All-contains, Contains-append_cases, Contains-append_left}
use Rattle.std.proofs.lemmas.List.Elements.{Contains-append_right, recursion_from_All}
use Rattle.std.proofs.lemmas.List.Sums.{sum_by-append, sum_by-cons}
use Rattle.std.proofs.lemmas.Option.{same_Some}
use Rattle.qg_node.specs.Nodes.{header_of, items_bytes}
use Rattle.qg_items.specs.declared.extent.ExtentItem.{ExtentItem}
use Rattle.qg_items.specs.declared.extent.Reference.{Reference}
use Rattle.qg_image.specs.declared.element.Element.{Element}
use Rattle.qg_image.specs.Need.{extent_records}
use Rattle.qg_image.specs.Owed.{Owing, is_nothing, layout_extents, owed, owed_to}
use Rattle.qg_image.specs.Record.{Record, distinct_records, extent_record, record_bytes, records_bytes, same_record}
use Rattle.qg_image.specs.Record.{same_reference}
use Rattle.qg_image.specs.Record.Record.{ExtentOf, InfoOf, LimitOf, NodeOf, ReferenceTo, RelationOf, RootOf, Status}
use Rattle.qg_image.specs.State.{Layout, Placed}
use Rattle.qg_image.proofs.Contained.{contains_cases, contains_here, contains_later, none_contained}
use Rattle.qg_refs.specs.declared.counted.Counted.{Counted}
use Rattle.qg_refs.specs.declared.kept.Kept.{Kept}
use Rattle.qg_refs.specs.declared.kept.What.{What as Known}
use Rattle.qg_refs.specs.Book.{what_in}
use Rattle.qg_refs.specs.Counts.{Ascend}
use Rattle.qg_refs.proofs.RankOrder.{same_itself, same_reference_is}
use Rattle.qg_extents.specs.Table.{IsTable, book_of}
use Rattle.qg_extents.specs.Written.{extent_of, items_of_book, part_of, parts_of_book, parts_of_extent, record_of}
use Rattle.qg_extents.specs.Written.{record_part}
use Rattle.qg_extents.proofs.Sayable.{entry-found, entry-may}
use Rattle.qg_other_trees.specs.Telling.{Knows}
use Rattle.qg_other_trees.proofs.Recorded.{begins_at, some_there, told_owed}
use Rattle.qg_other_trees.proofs.Recorded.Begins.{ExtentHere, NodeHere, NothingHere}
use Rattle.qg_reach.proofs.Members.{contains_map, one_flat_mapped, one_mapped}
use Rattle.qg_other_trees.proofs.Slots.{value_contained}
use Rattle.qg_other_trees.proofs.Weight.{Differ, book_differs, book_weighs}

-- ---- records that are the same

same_record_is : (a b : Record) → same_record a b ≡ true → a ≡ b
same_record_is (RootOf tree) (RootOf tree') h = ap RootOf (eqb-true tree tree' h)
same_record_is (ExtentOf address bytes) (ExtentOf address' bytes') h =
    let parts = and_parts (address == address') (bytes == bytes') h in
    let at : address ≡ address' = eqb-true address address' parts.0 in
    let long : bytes ≡ bytes' = eqb-true bytes bytes' parts.1 in
    λ i. ExtentOf (at i) (long i)
same_record_is (NodeOf address level) (NodeOf address' level') h =
    let parts = and_parts (address == address') (level == level') h in
    let at : address ≡ address' = eqb-true address address' parts.0 in
    let high : level ≡ level' = eqb-true level level' parts.1 in
    λ i. NodeOf (at i) (high i)
same_record_is (ReferenceTo address reference) (ReferenceTo address' reference') h =
    let parts = and_parts (address == address') (same_reference reference reference') h in
    let at : address ≡ address' = eqb-true address address' parts.0 in
    let from : reference ≡ reference' = same_reference_is reference reference' parts.1 in
    λ i. ReferenceTo (at i) (from i)
same_record_is Status Status h = refl
same_record_is (InfoOf group) (InfoOf group') h = ap InfoOf (eqb-true group group' h)
same_record_is (LimitOf group) (LimitOf group') h = ap LimitOf (eqb-true group group' h)
same_record_is (RelationOf group other) (RelationOf group' other') h =
    let parts = and_parts (group == group') (other == other') h in
    let first : group ≡ group' = eqb-true group group' parts.0 in
    let second : other ≡ other' = eqb-true other other' parts.1 in
    λ i. RelationOf (first i) (second i)
same_record_is _ _ h = absurd cc

is_itself : (x : Record) → same_record x x ≡ true
is_itself (RootOf tree) = eq-eqb tree tree refl
is_itself (ExtentOf address bytes) = rw (eq-eqb address address refl, eq-eqb bytes bytes refl) refl
is_itself (NodeOf address level) = rw (eq-eqb address address refl, eq-eqb level level refl) refl
is_itself (ReferenceTo address reference) = rw (eq-eqb address address refl, same_itself reference) refl
is_itself Status = refl
is_itself (InfoOf group) = eq-eqb group group refl
is_itself (LimitOf group) = eq-eqb group group refl
is_itself (RelationOf group other) = rw (eq-eqb group group refl, eq-eqb other other refl) refl

-- ---- each once

any_there : (x : Record) (records : List Record) → list_any (same_record x) records ≡ true → Contains records x
any_there x [] any = absurd cc
any_there x (y ∷ records) any = elim (cases_Bool (same_record x y)) [
  | inl same ↦
      subst (λ (r : Record). Contains (y ∷ records) r) (sym (same_record_is x y same)) (contains_here y records)
  | inr differs ↦
      let rest : list_any (same_record x) records ≡ true =
      sym (ap (λ (b : Bool). b || list_any (same_record x) records) differs) ∙ any in
      contains_later y records x (any_there x records rest)
]

there_any : (x : Record) (records : List Record) → Contains records x → list_any (same_record x) records ≡ true
there_any x [] has = absurd (none_contained x has)
there_any x (y ∷ records) has = elim (contains_cases y records x has) [
  | inl is ↦
      let own : same_record x y ≡ true = subst (λ (r : Record). same_record x r ≡ true) (sym is) (is_itself x) in
      rw own refl
  | inr later ↦ or_last (same_record x y) (list_any (same_record x) records) (there_any x records later)
]
  where
    or_last : (a b : Bool) → b ≡ true → (a || b) ≡ true
    or_last true b h = refl
    or_last false b h = h

kept_once : (records : List Record) (x : Record) → Contains records x → Contains (distinct_records records) x
kept_once [] x has = absurd (none_contained x has)
kept_once (y ∷ records) x has = elim (cases_Bool (list_any (same_record y) records)) [
  | inl again ↦
      subst (λ (list : List Record). Contains list x)
      (sym (cond-true (list_any (same_record y) records) (distinct_records records) (y ∷ distinct_records records)
      again))
      (elim (contains_cases y records x has) [
        | inl is ↦
            kept_once records x
            (subst (λ (r : Record). Contains records r) is (any_there y records again))
        | inr later ↦ kept_once records x later
      ])
  | inr new ↦
      subst (λ (list : List Record). Contains list x)
      (sym (cond-false (list_any (same_record y) records) (distinct_records records) (y ∷ distinct_records records)
      new))
      (elim (contains_cases y records x has) [
        | inl is ↦
            subst (λ (r : Record). Contains (y ∷ distinct_records records) r) is
            (contains_here y (distinct_records records))
        | inr later ↦ contains_later y (distinct_records records) x (kept_once records x later)
      ])
]

-- ---- records among others

-- a list is cut at one of its elements
pub record IsCutAt (records : List Record) (x : Record) : Type 0 where
  pub front : List Record
  pub back : List Record
  pub are : records ≡ front ++ x ∷ back

cut_at : (records : List Record) (x : Record) → Contains records x → IsCutAt records x
cut_at [] x has = absurd (none_contained x has)
cut_at (y ∷ records) x has = elim (contains_cases y records x has) [
  | inl is ↦ record { front = []; back = records; are = λ i. is i ∷ records }
  | inr later ↦
      let cut = cut_at records x later in
      record { front = y ∷ cut.front; back = cut.back; are = ap (λ (list : List Record). y ∷ list) cut.are }
]

without : (front back : List Record) (x y : Record) → Contains (front ++ x ∷ back) y → (x ≡ y → ⊥)
    → Contains (front ++ back) y
without front back x y has apart = elim (Contains-append_cases front (x ∷ back) y has) [
  | inl before ↦ Contains-append_left front back y before
  | inr behind ↦ elim (contains_cases x back y behind) [
    | inl is ↦ absurd (apart is)
    | inr later ↦ Contains-append_right front back y later
  ]
]

sum_cut : (front back : List Record) (x : Record)
    → sum_by record_bytes (front ++ x ∷ back) ≡ record_bytes x + sum_by record_bytes (front ++ back)
sum_cut front back x =
    omega (
      arith,
      sum_by-append record_bytes front (x ∷ back),
      sum_by-append record_bytes front back,
      sum_by-cons record_bytes x back,
    )

-- records that differ, each among others, weigh no more than these
sum_within : (records others : List Record) → Differ records
    → ((x : Record) → Contains records x → Contains others x)
    → sum_by record_bytes records ≤ sum_by record_bytes others
sum_within [] others differ within = omega arith
sum_within (x ∷ records) others differ within =
    let cut = cut_at others x (within x (contains_here x records)) in
    let apart : (y : Record) → Contains records y → x ≡ y → ⊥ = λ y has is.
    true≢false (sym (there_any x records (subst (λ (r : Record). Contains records r) (sym is) has)) ∙ differ.0) in
    let rest = sum_within records (cut.front ++ cut.back) differ.1
    (λ y has.
    without cut.front cut.back x y
    (subst (λ (list : List Record). Contains list y) cut.are (within y (contains_later x records y has)))
    (apart y has)) in
    let all : sum_by record_bytes others ≡ sum_by record_bytes (cut.front ++ x ∷ cut.back) =
    ap (λ (list : List Record). sum_by record_bytes list) cut.are in
    omega (arith, sum_by-cons record_bytes x records, all, sum_cut cut.front cut.back x, rest)

-- ---- the records of a book

abbrev one_where : Bool → ℕ
one_where here = cond here 1 0

pub some_counted : (references : List Reference) (x : Reference) → 0 < count_by (same_reference x) references
    → Contains references x
some_counted [] x some = absurd (omega (arith, some))
some_counted (y ∷ references) x some = elim (cases_Bool (same_reference x y)) [
  | inl same ↦
      subst (λ (r : Reference). Contains (y ∷ references) r) (sym (same_reference_is x y same))
      (contains_here y references)
  | inr differs ↦
      let none : one_where (same_reference x y) ≡ 0 = cond-false _ _ _ differs in
      let rest : 0 < count_by (same_reference x) references =
      omega (arith, some, none, sum_by-cons (λ (z : Reference). one_where (same_reference x z)) y references) in
      contains_later y references x (some_counted references x rest)
]

-- the references among some that are owed to an address
abbrev owed_among : List Owing → ℕ → List Reference
owed_among owings at = filter_map (λ owing. if owing.address == at then Some owing.reference else None) owings

-- one of some that is owed to an address
pub record IsOwing (owings : List Owing) (at : ℕ) (x : Reference) : Type 0 where
  pub owing : Owing
  pub has : Contains owings owing
  pub there : owing.address ≡ at
  pub is : owing.reference ≡ x

owing_behind : (first : Owing) (owings : List Owing) (at : ℕ) (x : Reference) → IsOwing owings at x
    → IsOwing (first ∷ owings) at x
owing_behind first owings at x found = record {
  owing = found.owing;
  has = contains_later first owings found.owing found.has;
  there = found.there;
  is = found.is;
}

owing_more : (first : Owing) (owings : List Owing) (at : ℕ) (x : Reference)
    → (Contains (owed_among owings at) x → IsOwing owings at x) → (here : Bool) → (first.address == at) ≡ here
    → Contains (owed_among (first ∷ owings) at) x → IsOwing (first ∷ owings) at x
owing_more first owings at x later true is given =
    let list = rw is at given in
    elim (contains_cases first.reference (owed_among owings at) x list) [
      | inl same ↦
          record { owing = first; has = contains_here first owings; there = eqb-true first.address at is; is = same }
      | inr more ↦ owing_behind first owings at x (later more)
    ]
owing_more first owings at x later false is given = owing_behind first owings at x (later (rw is at given))

pub owing_of : (owings : List Owing) (at : ℕ) (x : Reference) → Contains (owed_among owings at) x → IsOwing owings at x
owing_of [] at x has = absurd (none_contained x has)
owing_of (first ∷ owings) at x has =
    owing_more first owings at x (owing_of owings at x) (first.address == at) refl has

module _ (layout : Layout) (table : List (ℕ × Kept)) (is : IsTable table) (knows : Knows layout (book_of table)) where
  -- the records of a layout: of its nodes, its data extents and what it owes
  abbrev of_nodes : List Record
  of_nodes = map (λ (entry : ℕ × Placed). NodeOf entry.0 (header_of entry.1.node).level) layout.nodes

  abbrev of_extents : List Record
  of_extents = map (λ (extent : Element). ExtentOf extent.address extent.bytes) (layout_extents layout)

  abbrev of_owed : List Record
  of_owed = map (λ (owing : Owing). ReferenceTo owing.address owing.reference) (owed layout)

  node_there : (x : Record) → Contains of_nodes x → Contains (extent_records layout) x
  node_there x has = Contains-append_left (of_nodes ++ of_extents) of_owed x
      (Contains-append_left of_nodes of_extents x has)

  extent_there : (x : Record) → Contains of_extents x → Contains (extent_records layout) x
  extent_there x has =
      Contains-append_left (of_nodes ++ of_extents) of_owed x (Contains-append_right of_nodes of_extents x has)

  owed_there : (x : Record) → Contains of_owed x → Contains (extent_records layout) x
  owed_there x has = Contains-append_right (of_nodes ++ of_extents) of_owed x has

  reference_here : (at : ℕ) (kept : Kept) (entry : Counted) → book_of table at ≡ Some kept
      → Contains kept.references entry → Contains (extent_records layout) (ReferenceTo at entry.reference)
  reference_here at kept entry there has =
      let some = All-contains (λ (e : Counted). 0 < count_by (same_reference e.reference) (owed_to layout at))
      kept.references entry (λ i d inside. told_owed layout table is knows at kept i d there inside) has in
      let from = owing_of (owed layout) at entry.reference (some_counted (owed_to layout at) entry.reference some) in
      let named = contains_map (λ (owing : Owing). ReferenceTo owing.address owing.reference)
      (owed layout) from.owing from.has in
      let same : ReferenceTo from.owing.address from.owing.reference ≡ ReferenceTo at entry.reference =
      λ i. ReferenceTo (from.there i) (from.is i) in
      subst (λ (r : Record). Contains (extent_records layout) r) same
      (owed_there (ReferenceTo from.owing.address from.owing.reference) named)

  -- what a record names
  abbrev named_at : ℕ → ℕ → Option ℕ → Record
  named_at at bytes level =
      extent_record (record_part at bytes level (record { refs = 0; generation = 0; flags = 0 }))

  same_named : (at bytes : ℕ) (level : Option ℕ) (extent : ExtentItem)
      → extent_record (record_part at bytes level extent) ≡ named_at at bytes level
  same_named at bytes None extent = refl
  same_named at bytes (Some level) extent = refl

  record_by : (at : ℕ) (kept : Kept) (known : Known) → what_in (Some kept) ≡ Some known
      → extent_record (record_of (at, kept)) ≡ named_at at known.bytes known.level
  record_by at kept known is_known =
      same_named at kept.what.bytes kept.what.level (extent_of kept)
      ∙ ap (λ (k : Known). named_at at k.bytes k.level) (same_Some kept.what known is_known)

  record_here : (at : ℕ) (kept : Kept) → book_of table at ≡ Some kept
      → Contains (extent_records layout) (extent_record (record_of (at, kept)))
  record_here at kept there = elim (begins_at layout at) [
    | NodeHere placed here block ↦
        let node = knows.nodes at placed here in
        let named = record_by at kept _ (ap what_in (sym there) ∙ node.known) in
        let has = contains_map (λ (entry : ℕ × Placed). NodeOf entry.0 (header_of entry.1.node).level) layout.nodes
        (at, placed)
        (value_contained at layout.nodes placed here) in
        subst (λ (r : Record). Contains (extent_records layout) r) (sym named)
        (node_there (NodeOf at (header_of placed.node).level) has)
    | ExtentHere run run_named here bytes ↦
        let extent = knows.extents run run_named in
        let known = ap what_in (sym there) ∙ ap (λ (q : ℕ). what_in (book_of table q)) (sym here) ∙ extent.known in
        let named = record_by at kept _ known in
        let has = contains_map (λ (e : Element). ExtentOf e.address e.bytes) (layout_extents layout) run run_named in
        let moved : ExtentOf run.address run.bytes ≡ ExtentOf at run.bytes =
        ap (λ (q : ℕ). ExtentOf q run.bytes) here in
        subst (λ (r : Record). Contains (extent_records layout) r) (moved ∙ sym named)
        (extent_there (ExtentOf run.address run.bytes) has)
    | NothingHere nothing ↦
        absurd (true≢false (sym (ap is_nothing nothing) ∙ some_there layout table is knows at kept there))
  ]

  all_there : (x : Record) → Contains (map extent_record (parts_of_book table)) x → Contains (extent_records layout) x
  all_there x has =
      let part = one_mapped extent_record (parts_of_book table) x has in
      let entry = one_flat_mapped parts_of_extent table part.0 part.1 in
      let there = All-contains (λ (e : ℕ × Kept). book_of table e.0 ≡ Some e.1) table entry.0
      (λ i d inside. entry-found table i d is.ascend inside) entry.1 in
      let kept = entry.0.1 in
      elim (contains_cases (record_of entry.0) (map (part_of entry.0.0) kept.references) part.0 entry.2) [
        | inl first ↦
            subst (λ (r : Record). Contains (extent_records layout) r) (ap extent_record first ∙ part.2)
            (record_here entry.0.0 kept there)
        | inr later ↦
            let counted = one_mapped (part_of entry.0.0) kept.references part.0 later in
            subst (λ (r : Record). Contains (extent_records layout) r) (ap extent_record counted.2 ∙ part.2)
            (reference_here entry.0.0 kept counted.0 there counted.1)
      ]

  pub records_within : items_bytes (items_of_book table) ≤ records_bytes (extent_records layout)
  records_within =
      let each = recursion_from_All (λ (entry : ℕ × Kept). Ascend entry.1.references) table
      (λ i d inside. (entry-may table i d is inside).sound.ascend) in
      let differ = book_differs table is.ascend each in
      let within = sum_within (map extent_record (parts_of_book table)) (distinct_records (extent_records layout))
      differ
      (λ x has. kept_once (extent_records layout) x (all_there x has)) in
      omega (arith, book_weighs table, within)
