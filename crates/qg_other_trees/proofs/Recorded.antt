-- What the items of a book say is exactly what a layout owes that the book knows.
use Rattle.std.proofs.Common.{◌≡◌, ℕ, suc, ◌<◌, Bool, true, false, List, [], ◌∷◌, map, length, get_or, cond, refl, sym}
use Rattle.std.proofs.Common.{ap, subst, ◌∙◌, arith, inl, inr}
use Rattle.std.specs.Prelude.{◌&&◌, ◌==◌, nat_lt, Contains, Option, Some, None}
use Rattle.std.specs.List.{AllByRecursion, count_by, filter, find, list_all, list_any}
use Rattle.std.proofs.lemmas.Bool.{and_from, cases_Bool, cond-true, cond-false, eq-eqb, eqb-true, true≢false}
use Rattle.std.proofs.lemmas.Bool.Decides.{nat_tests}
use Rattle.std.proofs.lemmas.List.Elements.{recursion_from_All}
use Rattle.std.proofs.lemmas.List.Sums.{sum_by-cons}
use Rattle.std.proofs.lemmas.Option.{same_Some}
use Rattle.qg_node.specs.declared.node.Header.{Header}
use Rattle.qg_node.specs.Nodes.{header_of}
use Rattle.qg_items.specs.declared.extent.ExtentItem.{ExtentItem}
use Rattle.qg_items.specs.declared.extent.Reference.{Reference}
use Rattle.qg_items.specs.declared.extent.Reference.TheVariants.{KeyedBlock}
use Rattle.qg_image.specs.Table.{value_at}
use Rattle.qg_image.specs.declared.part.ExtentPart.{ExtentPart}
use Rattle.qg_image.specs.declared.element.Element.{Element}
use Rattle.qg_image.specs.Owed.{Agrees, What, agrees_at, are_references, is_nothing, is_record, is_record_of}
use Rattle.qg_image.specs.Owed.{is_recorded_once, is_told_once, layout_extents, node_flags, owed_count, owed_to}
use Rattle.qg_image.specs.Owed.{what_at}
use Rattle.qg_image.specs.Owed.What.{Nothing, Data, Block}
use Rattle.qg_image.specs.Record.{same_reference}
use Rattle.qg_image.specs.State.{Layout, Placed}
use Rattle.qg_image.proofs.Contained.{contains_cases, contains_here, contains_later, none_contained}
use Rattle.qg_refs.specs.declared.counted.Counted.{Counted}
use Rattle.qg_refs.specs.declared.kept.Kept.{Kept}
use Rattle.qg_refs.specs.declared.kept.What.{What as Known}
use Rattle.qg_refs.specs.Book.{full_in, references_in, what_in}
use Rattle.qg_refs.specs.Counts.{Ascend, IsRefList, count_of, counted}
use Rattle.qg_refs.specs.Order.{precedes}
use Rattle.qg_refs.proofs.Counting.{count-cons, count-found, count-nil}
use Rattle.qg_refs.proofs.RankOrder.{precedes_differs, same_itself}
use Rattle.qg_extents.specs.Table.{IsTable, book_of}
use Rattle.qg_extents.specs.BookRecords.{parts_at, told_in, told_sum}
use Rattle.qg_extents.specs.Written.{extent_of, part_of, parts_of_book, parts_of_extent, record_flags, record_of}
use Rattle.qg_extents.specs.Written.{record_part, refs_of}
use Rattle.qg_extents.proofs.Back.{parts_at-book}
use Rattle.qg_other_trees.specs.Telling.{Knows}

-- ---- the references of one address

abbrev pair_of : Counted → Reference × ℕ
pair_of entry = (entry.reference, entry.count)

told_references : (at : ℕ) (references : List Counted) → told_in (map (part_of at) references) ≡ map pair_of references
told_references at [] = refl
told_references at (entry ∷ references) =
    ap (λ (told : List (Reference × ℕ)). pair_of entry ∷ told) (told_references at references)

told_record : (at bytes : ℕ) (level : Option ℕ) (extent : ExtentItem) (parts : List ExtentPart)
    → told_in (record_part at bytes level extent ∷ parts) ≡ told_in parts
told_record at bytes None extent parts = refl
told_record at bytes (Some level) extent parts = refl

pub told_extent : (entry : ℕ × Kept) → told_in (parts_of_extent entry) ≡ map pair_of entry.1.references
told_extent entry =
    told_record entry.0 entry.1.what.bytes entry.1.what.level (extent_of entry.1)
    (map (part_of entry.0) entry.1.references)
    ∙ told_references entry.0 entry.1.references

no_records : (at : ℕ) (references : List Counted) → filter is_record (map (part_of at) references) ≡ []
no_records at [] = refl
no_records at (entry ∷ references) = no_records at references

record_first : (at bytes : ℕ) (level : Option ℕ) (extent : ExtentItem) (parts : List ExtentPart)
    → filter is_record parts ≡ []
    → filter is_record (record_part at bytes level extent ∷ parts) ≡ record_part at bytes level extent ∷ []
record_first at bytes None extent parts none = rw none refl
record_first at bytes (Some level) extent parts none = rw none refl

record_alone : (entry : ℕ × Kept) → filter is_record (parts_of_extent entry) ≡ record_of entry ∷ []
record_alone entry =
    record_first entry.0 entry.1.what.bytes entry.1.what.level (extent_of entry.1)
    (map (part_of entry.0) entry.1.references) (no_records entry.0 entry.1.references)

sum_pairs : (references : List Counted) → told_sum (map pair_of references) ≡ refs_of references
sum_pairs [] = refl
sum_pairs (entry ∷ references) =
    omega (
      arith,
      sum_by-cons (λ (e : Reference × ℕ). e.1) (pair_of entry) (map pair_of references),
      sum_by-cons (λ (e : Counted). e.count) entry references,
      sum_pairs references,
    )

later_ascend : (entry : Counted) (entries : List Counted) → Ascend (entry ∷ entries) → Ascend entries
later_ascend entry entries up = λ i j d below inside. up (suc i) (suc j) d (omega arith) (omega arith)

none_same : (x : Reference) (references : List Counted)
    → ((k : ℕ) (d : Counted) → k < length references → precedes x (get_or references k d).reference ≡ true)
    → list_any (λ (other : Reference × ℕ). same_reference x other.0) (map pair_of references) ≡ false
none_same x [] before = refl
none_same x (entry ∷ references) before =
    rw (
      precedes_differs x entry.reference (before 0 entry (omega arith)),
      none_same x references (λ k d inside. before (suc k) d (omega (arith, inside))),
    ) refl

told_once : (references : List Counted) → Ascend references → is_told_once (map pair_of references) ≡ true
told_once [] up = refl
told_once (entry ∷ references) up =
    rw (
      none_same entry.reference references (λ k d inside. up 0 (suc k) d (omega arith) (omega (arith, inside))),
      told_once references (later_ascend entry references up),
    ) refl

-- a reference that counts is told
count_tells : (x : Reference) (references : List Counted) → 0 < count_of references x
    → list_any (λ (entry : Reference × ℕ). same_reference x entry.0) (map pair_of references) ≡ true
count_tells x [] some = absurd (omega (arith, some, count-nil x))
count_tells x (entry ∷ references) some = elim (cases_Bool (same_reference x entry.reference)) [
  | inl same ↦ rw same refl
  | inr differs ↦
      let none : counted x entry ≡ 0 = cond-false _ _ _ differs in
      let rest : 0 < count_of references x = omega (arith, some, none, count-cons entry references x) in
      rw (differs, count_tells x references rest) refl
]

-- so many of a reference are owed
abbrev owed_times : List Reference → Reference → ℕ
owed_times owed x = count_by (same_reference x) owed

abbrev one_where : Bool → ℕ
one_where here = cond here 1 0

owed_some : (owed : List Reference) (x : Reference) → Contains owed x → 0 < owed_times owed x
owed_some [] x has = absurd (none_contained x has)
owed_some (y ∷ owed) x has = elim (contains_cases y owed x has) [
  | inl is ↦
      let own : same_reference x y ≡ true = subst (λ (z : Reference). same_reference x z ≡ true) (sym is)
      (same_itself x) in
      let one : one_where (same_reference x y) ≡ 1 = cond-true _ _ _ own in
      omega (arith, one, sum_by-cons (λ (z : Reference). one_where (same_reference x z)) y owed)
  | inr later ↦
      omega (arith, owed_some owed x later, sum_by-cons (λ (z : Reference). one_where (same_reference x z)) y owed)
]

is_counted : (n m : ℕ) → 0 < n → n ≡ m → (nat_lt 0 n && (n == m)) ≡ true
is_counted n m some same = grind (arith, nat_tests)

all_counts : (owed : List Reference) (references : List Counted)
    → AllByRecursion (λ e. (0 < e.count) × (e.count ≡ owed_times owed e.reference)) references
    → list_all (λ (entry : Reference × ℕ). nat_lt 0 entry.1 && (entry.1 == owed_times owed entry.0))
    (map pair_of references)
    ≡ true
all_counts owed [] are = refl
all_counts owed (entry ∷ references) are =
    rw (is_counted entry.count (owed_times owed entry.reference) are.0.0 are.0.1, all_counts owed references are.1) refl

all_tell : (test : Reference → Bool) (owed : List Reference) → ((x : Reference) → Contains owed x → test x ≡ true)
    → list_all test owed ≡ true
all_tell test [] each = refl
all_tell test (y ∷ owed) each =
    rw (each y (contains_here y owed), all_tell test owed (λ x has. each x (contains_later y owed x has))) refl

-- references that count what is owed are those owed
pub are_owed : (references : List Counted) (owed : List Reference) → IsRefList references
    → ((x : Reference) → count_of references x ≡ owed_times owed x)
    → are_references (map pair_of references) owed ≡ true
are_owed references owed list counts =
    let each = recursion_from_All (λ (e : Counted). (0 < e.count) × (e.count ≡ owed_times owed e.reference)) references
    (λ i d inside. (
      list.some i d inside,
      sym (count-found (get_or references i d).reference references i d list.ascend inside refl)
          ∙ counts (get_or references i d).reference,
    )) in
    let tell = all_tell
    (λ (x : Reference). list_any (λ (entry : Reference × ℕ). same_reference x entry.0) (map pair_of references)) owed
    (λ x has. count_tells x references (omega (arith, owed_some owed x has, counts x))) in
    rw (told_once references list.ascend, all_counts owed references each, tell) refl

-- ---- the record of one address

block_record : (at bytes level refs generation : ℕ) (header : Header) (full : Bool) → level ≡ header.level
    → generation ≡ header.generation
    → is_record_of (Block header full) refs (record_part at bytes (Some level)
    (record { refs = refs; generation = generation; flags = record_flags (Some level) full })) ≡ true
block_record at bytes level refs generation header full same made =
    rw (eq-eqb level header.level same, eq-eqb (node_flags full) (node_flags full) refl, eq-eqb refs refs refl)
    (eq-eqb generation header.generation made)

data_record : (at bytes refs generation : ℕ) (full : Bool)
    → is_record_of (Data bytes) refs (record_part at bytes None
    (record { refs = refs; generation = generation; flags = record_flags None full })) ≡ true
data_record at bytes refs generation full = rw (eq-eqb bytes bytes refl, eq-eqb refs refs refl) refl

-- the record of what is kept, by what is known and the full mark
abbrev record_known : ℕ → ℕ → Known → Bool → ExtentPart
record_known at refs known full =
    record_part at known.bytes known.level (record {
      refs = refs;
      generation = known.generation;
      flags = record_flags known.level full;
    })

known_block : (at bytes : ℕ) (kept : Kept) (header : Header) (full : Bool)
    → what_in (Some kept) ≡ Some (record { bytes = bytes; level = Some header.level; generation = header.generation })
    → full_in (Some kept) ≡ full
    → is_record_of (Block header full) (refs_of kept.references) (record_of (at, kept)) ≡ true
known_block at bytes kept header full known marked =
    let what : Known = record { bytes = bytes; level = Some header.level; generation = header.generation } in
    let same : kept.what ≡ what = same_Some kept.what what known in
    let refs = refs_of kept.references in
    subst (λ (w : Known). is_record_of (Block header full) refs (record_known at refs w kept.full) ≡ true) (sym same)
    (subst (λ (f : Bool). is_record_of (Block header full) refs (record_known at refs what f) ≡ true) (sym marked)
    (block_record at bytes header.level refs header.generation header full refl refl))

known_data : (at bytes generation : ℕ) (kept : Kept)
    → what_in (Some kept) ≡ Some (record { bytes = bytes; level = None; generation = generation })
    → is_record_of (Data bytes) (refs_of kept.references) (record_of (at, kept)) ≡ true
known_data at bytes generation kept known =
    let what : Known = record { bytes = bytes; level = None; generation = generation } in
    let same : kept.what ≡ what = same_Some kept.what what known in
    let refs = refs_of kept.references in
    subst (λ (w : Known). is_record_of (Data bytes) refs (record_known at refs w kept.full) ≡ true) (sym same)
    (data_record at bytes refs generation kept.full)

-- ---- what begins at an address

nothing_known : (kept : Option Kept) (known : Known) → kept ≡ None → what_in kept ≡ Some known → ⊥
nothing_known None known none is = cc
nothing_known (Some kept) known none is = cc

find_found : (test : Element → Bool) (xs : List Element) (x : Element) → find test xs ≡ Some x
    → Contains xs x × (test x ≡ true)
find_found test [] x found = absurd cc
find_found test (y ∷ xs) x found = elim (cases_Bool (test y)) [
  | inl passes ↦
      let is : y ≡ x = same_Some y x (sym (cond-true (test y) (Some y) (find test xs) passes) ∙ found) in (
        subst (λ (z : Element). Contains (y ∷ xs) z) is (contains_here y xs),
        subst (λ (z : Element). test z ≡ true) is passes,
      )
  | inr fails ↦
      let later = find_found test xs x (sym (cond-false (test y) (Some y) (find test xs) fails) ∙ found) in
      (contains_later y xs x later.0, later.1)
]

-- a layout has this at an address
pub data Begins (layout : Layout) (at : ℕ) : Type 0 where
  NodeHere : (placed : Placed) (there : value_at at layout.nodes ≡ Some placed)
      (is : what_at layout at ≡ Block (header_of placed.node) placed.full) → Begins layout at
  ExtentHere : (run : Element) (named : Contains (layout_extents layout) run) (there : run.address ≡ at)
      (is : what_at layout at ≡ Data run.bytes) → Begins layout at
  NothingHere : (is : what_at layout at ≡ Nothing) → Begins layout at

-- an extent begins at an address
abbrev is_there : ℕ → Element → Bool
is_there at extent = extent.address == at

extent_begins : (layout : Layout) (at : ℕ) (found : Option Element)
    → find (λ (extent : Element). is_there at extent) (layout_extents layout) ≡ found → value_at at layout.nodes ≡ None
    → Begins layout at
extent_begins layout at None found none = NothingHere (rw (none, found) refl)
extent_begins layout at (Some run) found none =
    let parts = find_found (λ (extent : Element). is_there at extent) (layout_extents layout) run found in
    ExtentHere run parts.0 (eqb-true run.address at parts.1) (rw (none, found) refl)

node_begins : (layout : Layout) (at : ℕ) (here : Option Placed) → value_at at layout.nodes ≡ here → Begins layout at
node_begins layout at None none =
    extent_begins layout at (find (λ (extent : Element). is_there at extent) (layout_extents layout)) refl none
node_begins layout at (Some placed) there = NodeHere placed there (rw there refl)

pub begins_at : (layout : Layout) (at : ℕ) → Begins layout at
begins_at layout at = node_begins layout at (value_at at layout.nodes) refl

-- ---- all addresses

abbrev own_parts : ℕ → Option Kept → List ExtentPart
own_parts at None = []
own_parts at (Some kept) = parts_of_extent (at, kept)

agrees_by : (layout : Layout) (parts : List ExtentPart) (at : ℕ) (here : List ExtentPart) → parts_at parts at ≡ here
    → is_recorded_once (what_at layout at) (told_sum (told_in here)) (filter is_record here) ≡ true
    → are_references (told_in here) (owed_to layout at) ≡ true → agrees_at layout parts at ≡ true
unfolding agrees_at
agrees_by layout parts at here is once are =
    subst (λ (some : List ExtentPart).
    (is_recorded_once (what_at layout at) (told_sum (told_in some)) (filter is_record some)
    && are_references (told_in some) (owed_to layout at)) ≡ true) (sym is)
    (and_from (is_recorded_once (what_at layout at) (told_sum (told_in here)) (filter is_record here))
    (are_references (told_in here) (owed_to layout at)) once are)

module _ (layout : Layout) (table : List (ℕ × Kept)) (is : IsTable table) (knows : Knows layout (book_of table)) where
  counts_at : (at : ℕ) (x : Reference)
      → count_of (references_in (book_of table at)) x ≡ owed_times (owed_to layout at) x
  unfolding owed_count
  counts_at at x = knows.owed at x

  some_owed : (at : ℕ) (x : Reference) → 0 < owed_times (owed_to layout at) x → is_nothing (what_at layout at) ≡ false
  unfolding owed_count
  some_owed at x some = knows.begins at x some

  here_none : (at : ℕ) → book_of table at ≡ None → what_at layout at ≡ Nothing
  here_none at none = elim (begins_at layout at) [
    | NodeHere placed there block ↦
        absurd (nothing_known (book_of table at) _ none (knows.nodes at placed there).known)
    | ExtentHere run named there bytes ↦
        absurd (nothing_known (book_of table run.address) _ (ap (book_of table) there ∙ none)
        (knows.extents run named).known)
    | NothingHere nothing ↦ nothing
  ]

  agrees_none : (at : ℕ) → book_of table at ≡ None → agrees_at layout (parts_of_book table) at ≡ true
  agrees_none at none =
      let here : parts_at (parts_of_book table) at ≡ [] = parts_at-book table at is.ascend ∙ ap (own_parts at) none in
      let counts : (x : Reference) → count_of [] x ≡ owed_times (owed_to layout at) x = λ x.
      sym (ap (λ (kept : Option Kept). count_of (references_in kept) x) none) ∙ counts_at at x in
      let list = subst (λ (kept : Option Kept). IsRefList (references_in kept)) none (is.book.sound at) in
      agrees_by layout (parts_of_book table) at [] here
      (subst (λ (what : What). is_recorded_once what 0 [] ≡ true) (sym (here_none at none)) refl)
      (are_owed [] (owed_to layout at) list counts)

  -- a reference that is kept is owed
  pub told_owed : (at : ℕ) (kept : Kept) (i : ℕ) (d : Counted) → book_of table at ≡ Some kept
      → i < length kept.references → 0 < owed_times (owed_to layout at) (get_or kept.references i d).reference
  told_owed at kept i d there inside =
      let list = subst (λ (k : Option Kept). IsRefList (references_in k)) there (is.book.sound at) in
      let x : Reference = (get_or kept.references i d).reference in
      let found : count_of kept.references x ≡ (get_or kept.references i d).count =
      count-found x kept.references i d list.ascend inside refl in
      let times : count_of kept.references x ≡ owed_times (owed_to layout at) x =
      sym (ap (λ (k : Option Kept). count_of (references_in k) x) there) ∙ counts_at at x in
      omega (arith, found, times, list.some i d inside)

  -- what has a reference begins there
  pub some_there : (at : ℕ) (kept : Kept) → book_of table at ≡ Some kept → is_nothing (what_at layout at) ≡ false
  some_there at kept there =
      let none : Counted = record { reference = KeyedBlock 0; count = 0 } in
      some_owed at (get_or kept.references 0 none).reference
      (told_owed at kept 0 none there (is.book.some at kept there))

  right : (at : ℕ) (kept : Kept) → book_of table at ≡ Some kept
      → is_record_of (what_at layout at) (refs_of kept.references) (record_of (at, kept)) ≡ true
  right at kept there = elim (begins_at layout at) [
    | NodeHere placed here block ↦
        let node = knows.nodes at placed here in
        subst (λ (what : What). is_record_of what (refs_of kept.references) (record_of (at, kept)) ≡ true) (sym block)
        (known_block at node.bytes kept (header_of placed.node) placed.full
        (ap what_in (sym there) ∙ node.known) (ap full_in (sym there) ∙ node.full))
    | ExtentHere run named here bytes ↦
        let extent = knows.extents run named in
        let known = ap what_in (sym there) ∙ ap (λ (q : ℕ). what_in (book_of table q)) (sym here) ∙ extent.known in
        subst (λ (what : What). is_record_of what (refs_of kept.references) (record_of (at, kept)) ≡ true) (sym bytes)
        (known_data at run.bytes extent.generation kept known)
    | NothingHere nothing ↦ absurd (true≢false (sym (ap is_nothing nothing) ∙ some_there at kept there))
  ]

  agrees_some : (at : ℕ) (kept : Kept) → book_of table at ≡ Some kept
      → agrees_at layout (parts_of_book table) at ≡ true
  agrees_some at kept there =
      let entry : ℕ × Kept = (at, kept) in
      let here : parts_at (parts_of_book table) at ≡ parts_of_extent entry =
      parts_at-book table at is.ascend ∙ ap (own_parts at) there in
      let list = subst (λ (k : Option Kept). IsRefList (references_in k)) there (is.book.sound at) in
      let counts : (x : Reference) → count_of kept.references x ≡ owed_times (owed_to layout at) x = λ x.
      sym (ap (λ (k : Option Kept). count_of (references_in k) x) there) ∙ counts_at at x in
      let once : is_recorded_once (what_at layout at) (told_sum (told_in (parts_of_extent entry)))
      (filter is_record (parts_of_extent entry)) ≡ true =
      subst (λ (records : List ExtentPart). is_recorded_once (what_at layout at)
      (told_sum (told_in (parts_of_extent entry)))
      records ≡ true) (sym (record_alone entry))
      (subst (λ (refs : ℕ). is_record_of (what_at layout at) refs (record_of entry) ≡ true)
      (sym (ap told_sum (told_extent entry) ∙ sum_pairs kept.references)) (right at kept there)) in
      agrees_by layout (parts_of_book table) at (parts_of_extent entry) here once
      (subst (λ (told : List (Reference × ℕ)). are_references told (owed_to layout at) ≡ true) (sym (told_extent entry))
      (are_owed kept.references (owed_to layout at) list counts))

  pub book_agrees : Agrees layout (parts_of_book table)
  book_agrees at = cases (book_of table at) refl where
    cases : (kept : Option Kept) → book_of table at ≡ kept → agrees_at layout (parts_of_book table) at ≡ true
    cases None none = agrees_none at none
    cases (Some kept) there = agrees_some at kept there
