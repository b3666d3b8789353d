-- What a layout has to be recorded is what a book that counts it records.
use Rattle.std.proofs.Common.{◌≡◌, ℕ, ◌+◌, ◌<◌, Bool, true, false, List, [], ◌∷◌, ◌++◌, length, map, Option, Some, None}
use Rattle.std.proofs.Common.{refl, sym, ap, subst, ◌∙◌, ◌⊎◌, inl, inr, arith, cond}
use Rattle.std.specs.Prelude.{◌&&◌, ◌||◌, ◌==◌, if◌then◌else◌, nat_lt}
use Rattle.std.specs.List.{Contains, cons_option, count_by, filter_map, find}
use Rattle.std.specs.Option.{option_map}
use Rattle.std.proofs.lemmas.Bool.{cases_Bool, cond-false, cond-true, eq-eqb, eqb-true, false_from_ne_true, lt-ltb}
use Rattle.std.proofs.lemmas.Bool.{or_cases, or_left, or_right, true≢false}
use Rattle.std.proofs.lemmas.List.Folds.{list_any-append}
use Rattle.std.proofs.lemmas.List.Sums.{sum_by-cons}
use Rattle.std.proofs.lemmas.Option.{none-some, same_Some}
use Rattle.qg_node.specs.Nodes.{header_of}
use Rattle.qg_items.specs.declared.extent.Reference.{Reference}
use Rattle.qg_image.specs.Table.{value_at}
use Rattle.qg_image.specs.declared.element.Element.{Element}
use Rattle.qg_image.specs.Need.{extent_records}
use Rattle.qg_image.specs.Owed.{Owing, is_nothing, layout_extents, owed, owed_count, what_at}
use Rattle.qg_image.specs.Record.{Record, RootOf, ExtentOf, NodeOf, ReferenceTo, Status, InfoOf, LimitOf, RelationOf}
use Rattle.qg_image.specs.Record.{same_record, same_reference}
use Rattle.qg_image.specs.State.{Layout, Placed}
use Rattle.qg_image.proofs.Contained.{contains_cases, contains_here, contains_later, none_contained}
use Rattle.qg_owner_rule.proofs.Reaching.{entry_of_value, value_of_entry}
use Rattle.qg_extents.specs.Types.{Counted}
use Rattle.qg_extents.specs.Types.{What}
use Rattle.qg_extents.specs.Types.{Kept}
use Rattle.qg_extents.specs.Book.{references_in, what_in}
use Rattle.qg_extents.specs.Counts.{IsRefList, count_of}
use Rattle.qg_extents.proofs.Counting.{count-found}
use Rattle.qg_extents.specs.Table.{book_of}
use Rattle.qg_weighed.specs.Laws.{CountsLayout, is_among, is_of_extents, known_at}
use Rattle.qg_weighed.specs.Weight.{record_known, records_in}
use Rattle.qg_weighed.proofs.Distinct.{record_itself, same_record_is}
use Rattle.qg_weighed.proofs.Trees.{layout-are, none-named, table-are}
use Rattle.qg_weighed.proofs.Recorded.{place_of, recorded, recorded_in, records-say, referenced}
use Rattle.qg_weighed.proofs.Weights.{reference-there}

-- ---- lists

pub bool-iff : (a b : Bool) → (a ≡ true → b ≡ true) → (b ≡ true → a ≡ true) → a ≡ b
bool-iff true b to from = sym (to refl)
bool-iff false b to from = sym (false_from_ne_true b (λ is. true≢false (sym (from is))))

pub named-in : {A : Type 0} (named : A → Record) (xs : List A) (one : Record) → is_among (map named xs) one ≡ true
    → (x : A) × Contains xs x × (one ≡ named x)
named-in named [] one among = absurd (true≢false (sym among))
named-in {A} named (x ∷ xs) one among =
    elim (or_cases (same_record one (named x)) (is_among (map named xs) one) among) [
      | inl same ↦ (x, contains_here x xs, same_record_is one (named x) same)
      | inr later ↦
          let found = named-in {A = A} named xs one later in
          (found.0, contains_later x xs found.0 found.1, found.2)
    ]

pub in-named : {A : Type 0} (named : A → Record) (xs : List A) (x : A) → Contains xs x
    → is_among (map named xs) (named x) ≡ true
in-named named [] x has = absurd (none_contained x has)
in-named {A} named (first ∷ xs) x has = elim (contains_cases first xs x has) [
  | inl is ↦
      or_left (same_record (named x) (named first)) (is_among (map named xs) (named x))
      (subst (λ (y : A). same_record (named x) (named y) ≡ true) (sym is) (record_itself (named x)))
  | inr later ↦
      or_right (same_record (named x) (named first)) (is_among (map named xs) (named x))
      (in-named {A = A} named xs x later)
]

found-in : (test : Element → Bool) (runs : List Element) (run : Element) → find test runs ≡ Some run
    → Contains runs run × (test run ≡ true)
found-in test [] run is = absurd (none-some run is)
found-in test (first ∷ runs) run is = elim (cases_Bool (test first)) [
  | inl holds ↦
      let same : first ≡ run =
      same_Some first run (sym (cond-true (test first) (Some first) (find test runs) holds) ∙ is) in (
        subst (λ (e : Element). Contains (first ∷ runs) e) same (contains_here first runs),
        subst (λ (e : Element). test e ≡ true) same holds,
      )
  | inr fails ↦
      let later = found-in test runs run (sym (cond-false (test first) (Some first) (find test runs) fails) ∙ is) in
      (contains_later first runs run later.0, later.1)
]

some_or_none : {A : Type 0} (o : Option A) → (o ≡ None) ⊎ ((x : A) × (o ≡ Some x))
some_or_none None = inl refl
some_or_none (Some x) = inr (x, refl)

-- ---- what is owed

counts_more : (b : Bool) (rest : ℕ) → (b || nat_lt 0 rest) ≡ nat_lt 0 ((if b then 1 else 0) + rest)
counts_more true rest = sym (lt-ltb 0 (1 + rest) (omega arith))
counts_more false rest = ap (λ (n : ℕ). nat_lt 0 n) (omega arith)

abbrev owing_record : Owing → Record
owing_record owing = ReferenceTo owing.address owing.reference

abbrev owing_to : ℕ → Owing → Option Reference
owing_to at owing = if owing.address == at then Some owing.reference else None

other_way : (a b : ℕ) → (a == b) ≡ true → (b == a) ≡ true
other_way a b same = eq-eqb b a (sym (eqb-true a b same))

owings-say : (at : ℕ) (reference : Reference) (owings : List Owing)
    → is_among (map owing_record owings) (ReferenceTo at reference)
    ≡ nat_lt 0 (count_by (same_reference reference) (filter_map (owing_to at) owings))
owings-say at reference [] = refl
owings-say at reference (owing ∷ owings) =
    let same = same_reference reference owing.reference in
    let rest = filter_map (owing_to at) owings in
    let later = owings-say at reference owings in
    elim (cases_Bool (owing.address == at)) [
      | inl here ↦
          let first : cons_option (owing_to at owing) rest ≡ owing.reference ∷ rest =
          ap (λ (o : Option Reference). cons_option o rest) (cond-true _ _ _ here) in
          ap (λ (b : Bool). (b && same) || is_among (map owing_record owings) (ReferenceTo at reference))
          (other_way owing.address at here)
          ∙ ap (λ (b : Bool). same || b) later
          ∙ counts_more same (count_by (same_reference reference) rest)
          ∙ ap (λ (n : ℕ). nat_lt 0 n)
          (sym (sum_by-cons (λ (z : Reference). cond (same_reference reference z) 1 0) owing.reference rest))
          ∙ ap (λ (xs : List Reference). nat_lt 0 (count_by (same_reference reference) xs)) (sym first)
      | inr there ↦
          let first : cons_option (owing_to at owing) rest ≡ rest =
          ap (λ (o : Option Reference). cons_option o rest) (cond-false _ _ _ there) in
          let apart : (at == owing.address) ≡ false = false_from_ne_true (at == owing.address)
          (λ is. true≢false (sym (other_way at owing.address is) ∙ there)) in
          ap (λ (b : Bool). (b && same) || is_among (map owing_record owings) (ReferenceTo at reference)) apart
          ∙ later
          ∙ ap (λ (xs : List Reference). nat_lt 0 (count_by (same_reference reference) xs)) (sym first)
    ]

abbrev node_record : ℕ × Placed → Record
node_record entry = NodeOf entry.0 (header_of entry.1.node).level

abbrev run_record : Element → Record
run_record run = ExtentOf run.address run.bytes

-- the three parts of what is recorded
layout-parts : (layout : Layout) (one : Record) → is_among (extent_records layout) one
    ≡ ((is_among (map node_record layout.nodes) one || is_among (map run_record (layout_extents layout)) one)
    || is_among (map owing_record (owed layout)) one)
layout-parts layout one =
    list_any-append (same_record one) (map node_record layout.nodes ++ map run_record (layout_extents layout))
    (map owing_record (owed layout))
    ∙ ap (λ (b : Bool). b || is_among (map owing_record (owed layout)) one)
    (list_any-append (same_record one) (map node_record layout.nodes) (map run_record (layout_extents layout)))

-- none of a list is such a record
never : {A : Type 0} (named : A → Record) (xs : List A) (one : Record) → ((x : A) → same_record one (named x) ≡ false)
    → is_among (map named xs) one ≡ false
never named [] one apart = refl
never {A} named (x ∷ xs) one apart =
    ap (λ (b : Bool). b || is_among (map named xs) one) (apart x) ∙ never {A = A} named xs one apart

or_first : (a b : Bool) → a ≡ false → (a || b) ≡ b
or_first true b none = absurd (true≢false none)
or_first false b none = refl

or_none : (a b : Bool) → b ≡ false → (a || b) ≡ a
or_none true b none = refl
or_none false b none = none

-- ---- what is known

none_known : (one : Record) → None ≡ Some one → ⊥
none_known one is = cc

known-recorded : (at : ℕ) (kept : Option Kept) (one : Record)
    → option_map (λ (what : What). record_known at what) (what_in kept) ≡ Some one → recorded_in at kept one ≡ true
known-recorded at None one known = absurd (none_known one known)
known-recorded at (Some kept) one known =
    let is : record_known at kept.what ≡ one = same_Some (record_known at kept.what) one known in
    or_left (same_record one (record_known at kept.what)) (referenced at kept.references one)
    (subst (λ (r : Record). same_record one r ≡ true) (sym is) (record_itself one))

recorded-known : (at : ℕ) (kept : Option Kept) (one : Record)
    → ((references : List Counted) → referenced at references one ≡ false) → recorded_in at kept one ≡ true
    → option_map (λ (what : What). record_known at what) (what_in kept) ≡ Some one
recorded-known at None one thing recorded = absurd (true≢false (sym recorded))
recorded-known at (Some kept) one thing recorded = elim (or_cases (same_record one (record_known at kept.what))
    (referenced at kept.references one) recorded) [
      | inl same ↦ ap (λ (r : Record). Some r) (sym (same_record_is one (record_known at kept.what) same))
      | inr reference ↦ absurd (true≢false (sym reference ∙ thing kept.references))
    ]

-- some reference counts
first-counts : (references : List Counted) → IsRefList references → 0 < length references
    → (reference : Reference) × (0 < count_of references reference)
first-counts [] list some = absurd (omega (arith, some))
first-counts (entry ∷ references) list some =
    let found : count_of (entry ∷ references) entry.reference ≡ entry.count =
    count-found entry.reference (entry ∷ references) 0 entry list.ascend (omega arith) refl in
    let counts : 0 < entry.count = list.some 0 entry (omega arith) in
    (entry.reference, omega (arith, found, counts))

module _ (layout : Layout) (refs : List (ℕ × Kept)) (counted : CountsLayout layout refs) where
  -- where something is known, a reference is owed, and that leads to what is there
  something-begins : (at : ℕ) (kept : Kept) → book_of refs at ≡ Some kept → is_nothing (what_at layout at) ≡ false
  something-begins at kept is =
      let there = first-counts kept.references
      (subst (λ (o : Option Kept). IsRefList (references_of o)) is (list_at at)) (counted.kept.book.some at kept is) in
      let same : count_of kept.references there.0 ≡ owed_count layout at there.0 =
      ap (λ (o : Option Kept). count_of (references_of o) there.0) (sym is) ∙ counted.agrees at there.0 in
      counted.begins at there.0 (omega (arith, there.1, same))
    where
      references_of : Option Kept → List Counted
      references_of kept = references_in kept

      list_at : (q : ℕ) → IsRefList (references_of (book_of refs q))
      list_at q = counted.kept.book.sound q

  abbrev is_thing : Record → Bool
  is_thing one = is_among (map node_record layout.nodes) one || is_among (map run_record (layout_extents layout)) one

  thing-known : (one : Record) → is_thing one ≡ true → known_at (book_of refs) (place_of one) ≡ Some one
  thing-known one is = elim (or_cases (is_among (map node_record layout.nodes) one)
      (is_among (map run_record (layout_extents layout)) one) is) [
        | inl node ↦
            let found = named-in {A = ℕ × Placed} node_record layout.nodes one node in
            let value = value_of_entry layout.nodes found.0 counted.ascending found.1 in
            subst (λ (r : Record). known_at (book_of refs) (place_of r) ≡ Some r) (sym found.2)
            (counted.nodes found.0.0 found.0.1 value)
        | inr run ↦
            let found = named-in {A = Element} run_record (layout_extents layout) one run in
            subst (λ (r : Record). known_at (book_of refs) (place_of r) ≡ Some r) (sym found.2)
            (counted.extents found.0 found.1)
      ]

  node-thing : (one : Record) (placed : Placed) → known_at (book_of refs) (place_of one) ≡ Some one
      → value_at (place_of one) layout.nodes ≡ Some placed → is_thing one ≡ true
  node-thing one placed known value =
      let at = place_of one in
      let own : one ≡ node_record (at, placed) = same_Some one (node_record (at, placed))
      (sym known ∙ counted.nodes at placed value) in
      or_left (is_among (map node_record layout.nodes) one) (is_among (map run_record (layout_extents layout)) one)
      (subst (λ (r : Record). is_among (map node_record layout.nodes) r ≡ true) (sym own)
      (in-named {A = ℕ × Placed} node_record layout.nodes (at, placed) (entry_of_value at placed layout.nodes value)))

  run-thing : (one : Record) (run : Element) → known_at (book_of refs) (place_of one) ≡ Some one
      → find (λ extent. extent.address == place_of one) (layout_extents layout) ≡ Some run → is_thing one ≡ true
  run-thing one run known found =
      let at = place_of one in
      let there = found-in (λ extent. extent.address == at) (layout_extents layout) run found in
      let address : run.address ≡ at = eqb-true run.address at there.1 in
      let own : one ≡ run_record run = same_Some one (run_record run)
      (sym known ∙ ap (λ (q : ℕ). known_at (book_of refs) q) (sym address) ∙ counted.extents run there.0) in
      or_right (is_among (map node_record layout.nodes) one) (is_among (map run_record (layout_extents layout)) one)
      (subst (λ (r : Record). is_among (map run_record (layout_extents layout)) r ≡ true) (sym own)
      (in-named {A = Element} run_record (layout_extents layout) run there.0))

  nothing-there : (at : ℕ) → value_at at layout.nodes ≡ None
      → find (λ extent. extent.address == at) (layout_extents layout) ≡ None → is_nothing (what_at layout at) ≡ true
  nothing-there at none none' = rw none (rw none' refl)

  kept_there : (at : ℕ) (one : Record) → known_at (book_of refs) at ≡ Some one
      → (kept : Kept) × (book_of refs at ≡ Some kept)
  kept_there at one known = elim (some_or_none (book_of refs at)) [
    | inl none ↦
        absurd (none_known one (sym (ap (λ (o : Option Kept). option_map (λ (what : What). record_known at what)
        (what_in o)) none) ∙ known))
    | inr some ↦ some
  ]

  known-thing : (one : Record) → known_at (book_of refs) (place_of one) ≡ Some one → is_thing one ≡ true
  known-thing one known =
      let at = place_of one in
      let kept = kept_there at one known in
      let begins = something-begins at kept.0 kept.1 in
      elim (some_or_none (value_at at layout.nodes)) [
        | inr node ↦ node-thing one node.0 known node.1
        | inl none ↦ elim (some_or_none (find (λ extent. extent.address == at) (layout_extents layout))) [
          | inr run ↦ run-thing one run.0 known run.1
          | inl none' ↦ absurd (true≢false (sym (nothing-there at none none') ∙ begins))
        ]
      ]

  -- a record of a node or an extent is the layout's where it is the book's
  things-alike : (one : Record) → ((references : List Counted) → referenced (place_of one) references one ≡ false)
      → is_thing one ≡ recorded (book_of refs) one
  things-alike one thing = bool-iff (is_thing one) (recorded (book_of refs) one)
      (λ is. known-recorded (place_of one) (book_of refs (place_of one)) one (thing-known one is))
      (λ is. known-thing one (recorded-known (place_of one) (book_of refs (place_of one)) one thing is))

  -- and a reference where the layout owes it
  references-alike : (at : ℕ) (reference : Reference)
      → is_among (map owing_record (owed layout)) (ReferenceTo at reference)
      ≡ recorded (book_of refs) (ReferenceTo at reference)
  unfolding owed_count
  references-alike at reference =
      owings-say at reference (owed layout)
      ∙ ap (λ (n : ℕ). nat_lt 0 n) (sym (counted.agrees at reference))
      ∙ sym (reference-there at (book_of refs at) reference)

  neither : (one : Record) → is_of_extents one ≡ false
      → is_among (extent_records layout) one ≡ is_among (records_in refs) one
  neither one other =
      none-named true (extent_records layout) one (layout-are layout) other
      ∙ sym (none-named true (records_in refs) one (table-are refs) other)

  pub layout-alike : (one : Record) → is_among (extent_records layout) one ≡ is_among (records_in refs) one
  layout-alike (ReferenceTo at reference) =
      layout-parts layout (ReferenceTo at reference)
      ∙ or_first (is_thing (ReferenceTo at reference)) _
      (or_first (is_among (map node_record layout.nodes) (ReferenceTo at reference)) _
      (never {A = ℕ × Placed} node_record layout.nodes (ReferenceTo at reference) (λ entry. refl))
      ∙ never {A = Element} run_record (layout_extents layout) (ReferenceTo at reference) (λ run. refl))
      ∙ references-alike at reference
      ∙ sym (records-say refs (ReferenceTo at reference) counted.kept)
  layout-alike (NodeOf at level) =
      layout-parts layout (NodeOf at level)
      ∙ or_none (is_thing (NodeOf at level)) _
      (never {A = Owing} owing_record (owed layout) (NodeOf at level) (λ owing. refl))
      ∙ things-alike (NodeOf at level) (λ references. refl)
      ∙ sym (records-say refs (NodeOf at level) counted.kept)
  layout-alike (ExtentOf at bytes) =
      layout-parts layout (ExtentOf at bytes)
      ∙ or_none (is_thing (ExtentOf at bytes)) _
      (never {A = Owing} owing_record (owed layout) (ExtentOf at bytes) (λ owing. refl))
      ∙ things-alike (ExtentOf at bytes) (λ references. refl)
      ∙ sym (records-say refs (ExtentOf at bytes) counted.kept)
  layout-alike (RootOf tree) = neither (RootOf tree) refl
  layout-alike Status = neither Status refl
  layout-alike (InfoOf group) = neither (InfoOf group) refl
  layout-alike (LimitOf group) = neither (LimitOf group) refl
  layout-alike (RelationOf group other) = neither (RelationOf group other) refl
