-- Where the extent tree's items are what is owed, the book that they tell says what the layout owes, and knows what
-- begins there.
use Rattle.std.proofs.Common.{◌≡◌, ℕ, Bool, true, false, List, [], ◌∷◌, ◌++◌, length, map, refl, sym, ap, subst, ◌∙◌}
use Rattle.std.proofs.Common.{arith, inl, inr, ◌<◌}
use Rattle.std.specs.Prelude.{Some, None, ◌==◌, ◌&&◌, not}
use Rattle.std.specs.List.{Contains, filter, find, count_by}
use Rattle.std.specs.Option.{option_and_then}
use Rattle.std.proofs.lemmas.Bool.{and_parts, cases_Bool, cond-true, cond-false, eqb-true, true≢false}
use Rattle.std.proofs.lemmas.List.Elements.{Contains-append_left, Contains-append_right}
use Rattle.qg_image.specs.Record.{same_reference}
use Rattle.qg_items.specs.declared.extent.Reference.{Reference}
use Rattle.qg_node.specs.declared.node.Header.{Header}
use Rattle.qg_node.specs.Nodes.{header_of}
use Rattle.qg_image.specs.Table.{keys_of, number_set, value_at}
use Rattle.qg_image.specs.declared.part.ExtentPart.{ExtentPart}
use Rattle.qg_image.specs.declared.part.ExtentPart.TheVariants.{DataRecord, NodeRecord, Referenced}
use Rattle.qg_image.specs.ItemMeaning.{some_passes}
use Rattle.qg_image.specs.declared.element.Element.{Element}
use Rattle.qg_image.specs.Owed.{Agrees, agrees_at, disagreement, recorded_addresses, layout_extents, owed_to}
use Rattle.qg_image.specs.Owed.{is_nothing, is_record, is_record_of, is_recorded_once, node_flags, part_address}
use Rattle.qg_image.specs.Owed.{what_at, What, Data, Block, owed_count}
use Rattle.qg_image.specs.State.{Layout, Placed}
use Rattle.qg_image.proofs.Contained.{contains_cases, contains_here, none_contained}
use Rattle.qg_reach.proofs.Members.{contains_map}
use Rattle.qg_refs.specs.Book.{Book, full_in, what_in}
use Rattle.qg_backref_rule.proofs.Filters.{kept_contains}
use Rattle.qg_backref_rule.proofs.Layouts.{if_something}
use Rattle.qg_backref_rule.proofs.NumberSets.{number_set_same}
use Rattle.qg_extents.specs.Laws.{IsOwing}
use Rattle.qg_extents.specs.BookRecords.{IsTold, parts_at, tells_full, the_only, told_in, told_sum, what_told}
use Rattle.qg_extents.proofs.Agreeing.{agrees_here, book_agrees}
use Rattle.qg_check.specs.IsImage.{IsBookOf, extent_known, node_known}

-- ---- where no address is found that disagrees

found_none : {A : Type 0} (p : A → Bool) (xs : List A) (x : A) → find p xs ≡ None → Contains xs x → p x ≡ false
found_none p [] x none has = absurd (none_contained x has)
found_none p (y ∷ ys) x none has = elim (cases_Bool (p y)) [
  | inl passes ↦
      let some : Some y ≡ None = sym (cond-true (p y) (Some y) (find p ys) passes) ∙ none in
      absurd cc
  | inr fails ↦ elim (contains_cases y ys x has) [
    | inl is ↦ subst (λ z. p z ≡ false) is fails
    | inr later ↦ found_none p ys x (sym (cond-false (p y) (Some y) (find p ys) fails) ∙ none) later
  ]
]

not_false : (b : Bool) → not b ≡ false → b ≡ true
not_false true h = refl
not_false false h = absurd (true≢false h)

empty_is : {A : Type 0} (xs : List A) → (length xs == 0) ≡ true → xs ≡ []
empty_is [] empty = refl
empty_is (x ∷ xs) empty = absurd (omega (arith, eqb-true (length (x ∷ xs)) 0 empty))

-- an address of which nothing is recorded, and where nothing begins
agrees_elsewhere : (layout : Layout) (parts : List ExtentPart) (at : ℕ) → IsOwing layout
    → is_nothing (what_at layout at) ≡ true → parts_at parts at ≡ []
    → agrees_at layout parts at ≡ true
unfolding agrees_at
agrees_elsewhere layout parts at owing none empty =
    let owed : owed_to layout at ≡ [] = empty_is (owed_to layout at) (sym (owing.owed at) ∙ none) in
    rw (empty, none, owed) refl

module _ (layout : Layout) (parts : List ExtentPart) (owing : IsOwing layout)
    (none : disagreement layout parts ≡ None) where
  recorded_agrees : (at : ℕ)
      → Contains (map part_address parts ++ keys_of layout.nodes ++ map (λ extent. extent.address)
      (layout_extents layout)) at
      → agrees_at layout parts at ≡ true
  unfolding disagreement recorded_addresses
  recorded_agrees at has =
      let all = map part_address parts ++ keys_of layout.nodes ++ map (λ (extent : Element). extent.address)
      (layout_extents layout) in
      not_false (agrees_at layout parts at) (found_none (λ address. not (agrees_at layout parts address))
      (number_set all) at none ((number_set_same all).back at has))

  of_part : (at : ℕ) (part : ExtentPart) → Contains (parts_at parts at) part → agrees_at layout parts at ≡ true
  of_part at part has =
      let kept = kept_contains (λ part. part_address part == at) parts part has in
      let address = subst (Contains (map part_address parts)) (eqb-true (part_address part) at kept.1)
      (contains_map part_address parts part kept.0) in
      recorded_agrees at (Contains-append_left (map part_address parts ++ keys_of layout.nodes)
      (map (λ extent. extent.address) (layout_extents layout)) at
      (Contains-append_left (map part_address parts) (keys_of layout.nodes) at address))

  of_nothing : (at : ℕ) → is_nothing (what_at layout at) ≡ true → (here : List ExtentPart) → parts_at parts at ≡ here
      → agrees_at layout parts at ≡ true
  of_nothing at nothing [] is = agrees_elsewhere layout parts at owing nothing is
  of_nothing at nothing (part ∷ here) is =
      of_part at part (subst (λ list. Contains list part) (sym is) (contains_here part here))

  of_something : (at : ℕ) → is_nothing (what_at layout at) ≡ false → agrees_at layout parts at ≡ true
  of_something at some = elim (if_something layout at some) [
    | inl node ↦ recorded_agrees at (Contains-append_left (map part_address parts ++ keys_of layout.nodes)
        (map (λ extent. extent.address) (layout_extents layout)) at
        (Contains-append_right (map part_address parts) (keys_of layout.nodes) at node))
    | inr extent ↦ recorded_agrees at (Contains-append_right (map part_address parts ++ keys_of layout.nodes)
        (map (λ extent. extent.address) (layout_extents layout)) at extent)
  ]

  -- at each address items are what is owed
  pub agrees-everywhere : Agrees layout parts
  agrees-everywhere at = elim (cases_Bool (is_nothing (what_at layout at))) [
    | inl nothing ↦ of_nothing at nothing (parts_at parts at) refl
    | inr some ↦ of_something at some
  ]

-- where something is owed, something begins
none_counted : (test : Reference → Bool) (owed : List Reference) → owed ≡ [] → 0 < count_by test owed → ⊥
none_counted test [] is some = let none : count_by test [] ≡ 0 = refl in omega (arith, some, none)
none_counted test (reference ∷ owed) is some = absurd cc

owed_begins : (layout : Layout) → IsOwing layout → (at : ℕ) (reference : Reference) → 0 < owed_count layout at reference
    → is_nothing (what_at layout at) ≡ false
unfolding owed_count
owed_begins layout owing at reference some = elim (cases_Bool (is_nothing (what_at layout at))) [
  | inr begins ↦ begins
  | inl none ↦
      let empty : owed_to layout at ≡ [] = empty_is (owed_to layout at) (sym (owing.owed at) ∙ none) in
      absurd (none_counted (same_reference reference) (owed_to layout at) empty some)
]

-- ---- what a record says

-- there is one record, and it is this
record IsRecord (what : What) (refs : ℕ) (records : List ExtentPart) : Type 0 where
  part : ExtentPart
  only : the_only records ≡ Some part
  is : is_record_of what refs part ≡ true

record_there : (what : What) (refs : ℕ) (records : List ExtentPart) → is_recorded_once what refs records ≡ true
    → is_nothing what ≡ false → IsRecord what refs records
record_there what refs [] once some = absurd (true≢false (sym once ∙ some))
record_there what refs (part ∷ []) once some = record { part = part; only = refl; is = once }
record_there what refs (part ∷ other ∷ parts) once some = absurd (true≢false (sym once))

flags_tell : (flags : ℕ) (full : Bool) → flags ≡ node_flags full → (flags == node_flags true) ≡ full
flags_tell flags true is = rw is refl
flags_tell flags false is = rw is refl

-- what is known of a node by its record
record SaysNode (nodesize : ℕ) (header : Header) (full : Bool) (part : ExtentPart) : Type 0 where
  what : what_told nodesize part ≡ Some (record {
    bytes = nodesize;
    level = Some header.level;
    generation = header.generation;
  })
  mark : tells_full part ≡ full

says_node : (nodesize : ℕ) (header : Header) (full : Bool) (refs : ℕ) (part : ExtentPart)
    → is_record_of (Block header full) refs part ≡ true → SaysNode nodesize header full part
says_node nodesize header full refs (DataRecord address bytes extent) is = absurd (true≢false (sym is))
says_node nodesize header full refs (Referenced address reference count) is = absurd (true≢false (sym is))
says_node nodesize header full refs (NodeRecord address level extent) is =
    let last = and_parts ((level == header.level) && (extent.flags == node_flags full) && (extent.refs == refs))
    (extent.generation == header.generation) is in
    let third = and_parts ((level == header.level) && (extent.flags == node_flags full)) (extent.refs == refs) last.0 in
    let second = and_parts (level == header.level) (extent.flags == node_flags full) third.0 in
    let level_is = eqb-true level header.level second.0 in
    let made = eqb-true extent.generation header.generation last.1 in
    record {
      what = λ k. Some (record { bytes = nodesize; level = Some (level_is k); generation = made k });
      mark = flags_tell extent.flags full (eqb-true extent.flags (node_flags full) second.1);
    }

says_extent : (nodesize bytes refs : ℕ) (part : ExtentPart) → is_record_of (Data bytes) refs part ≡ true
    → (generation : ℕ) × (what_told nodesize part
    ≡ Some (record { bytes = bytes; level = None; generation = generation }))
says_extent nodesize bytes refs (NodeRecord address level extent) is = absurd (true≢false (sym is))
says_extent nodesize bytes refs (Referenced address reference count) is = absurd (true≢false (sym is))
says_extent nodesize bytes refs (DataRecord address own extent) is =
    let last = and_parts ((own == bytes) && (extent.flags == 1)) (extent.refs == refs) is in
    let first = and_parts (own == bytes) (extent.flags == 1) last.0 in
    let same = eqb-true own bytes first.0 in
    (extent.generation, λ k. Some (record { bytes = same k; level = None; generation = extent.generation }))

-- ---- what the book knows

module _ (layout : Layout) (parts : List ExtentPart) (book : Book) (agrees : Agrees layout parts)
    (told : IsTold layout.nodesize parts book) where
  record_at : (at : ℕ) (what : What) → what_at layout at ≡ what → is_nothing what ≡ false
      → IsRecord what (told_sum (told_in (parts_at parts at))) (filter is_record (parts_at parts at))
  record_at at what is some =
      record_there what (told_sum (told_in (parts_at parts at))) (filter is_record (parts_at parts at))
      (subst (λ w. is_recorded_once w (told_sum (told_in (parts_at parts at))) (filter is_record (parts_at parts at))
      ≡ true) is (agrees_here layout parts at (agrees at)).once) some

  node_known-told : (at : ℕ) (placed : Placed) → what_at layout at ≡ Block (header_of placed.node) placed.full
      → (what_in (book at) ≡ Some (node_known layout.nodesize placed.node)) × (full_in (book at) ≡ placed.full)
  node_known-told at placed is =
      let one = record_at at (Block (header_of placed.node) placed.full) is refl in
      let says = says_node layout.nodesize (header_of placed.node) placed.full (told_sum (told_in (parts_at parts at)))
      one.part one.is in (
        told.what at ∙ ap (option_and_then (what_told layout.nodesize)) one.only ∙ says.what,
        told.full at
            ∙ ap (some_passes tells_full) one.only ∙ says.mark,
      )

  extent_known-told : (run : Element) → what_at layout run.address ≡ Data run.bytes
      → (generation : ℕ) × (what_in (book run.address) ≡ Some (extent_known generation run))
  extent_known-told run is =
      let one = record_at run.address (Data run.bytes) is refl in
      let says = says_extent layout.nodesize run.bytes (told_sum (told_in (parts_at parts run.address))) one.part
      one.is in
      (says.0, told.what run.address ∙ ap (option_and_then (what_told layout.nodesize)) one.only ∙ says.1)

  node_is : (at : ℕ) (placed : Placed) → value_at at layout.nodes ≡ Some placed
      → what_at layout at ≡ Block (header_of placed.node) placed.full
  node_is at placed is = rw is refl

  -- where each extent that is named is what begins at its address
  pub book-of : IsOwing layout → ((run : Element) → Contains (layout_extents layout) run
      → what_at layout run.address ≡ Data run.bytes) → IsBookOf layout book
  book-of owing extents = record {
    agrees = book_agrees layout.nodesize layout parts book agrees told;
    nodes = λ at placed is. (node_known-told at placed (node_is at placed is)).0;
    marks = λ at placed is. (node_known-told at placed (node_is at placed is)).1;
    extents = λ run has. extent_known-told run (extents run has);
    begins = owed_begins layout owing;
  }
