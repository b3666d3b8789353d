-- The references of an image that is just made.
use Rattle.std.proofs.Common.{◌≡◌, ◌≢◌, ℕ, ◌<◌, Bool, true, false, List, [], ◌∷◌, length, get_or, Option, Some, None}
use Rattle.std.proofs.Common.{cond, refl, sym, ap, subst, ◌∙◌, arith, ◌⊎◌, inl, inr}
use Rattle.std.specs.Prelude.{◌==◌, if◌then◌else◌, unwrap_or}
use Rattle.std.specs.BTreeMap.{is_at}
use Rattle.std.specs.Cmp.{ranked}
use Rattle.std.specs.List.Sorted.{IsStrictlySortedBy}
use Rattle.std.specs.Map.{keys_of}
use Rattle.std.specs.Ordering.{nat_cmp}
use Rattle.std.specs.declared.cmp.Ordering.TheVariants.{Less}
use Rattle.std.proofs.lemmas.Bool.{cases_Bool, cond-true, cond-false, true≢false}
use Rattle.std.proofs.lemmas.Bool.Decides.{nat_tests}
use Rattle.std.proofs.lemmas.List.Elements.{All-from_recursion}
use Rattle.qg_node.specs.declared.node.Node.{Node}
use Rattle.qg_items.specs.declared.tree.TheConstants.{TOP_LEVEL}
use Rattle.qg_items.specs.declared.extent.Reference.{Reference}
use Rattle.qg_items.specs.declared.extent.Reference.TheVariants.{KeyedBlock}
use Rattle.qg_super.specs.declared.sizes.Sizes.{Sizes}
use Rattle.qg_tree_items.specs.ItemMeaning.{file_part}
use Rattle.qg_tree_items.specs.Record.{same_reference}
use Rattle.qg_tree_items.specs.State.{layout_of}
use Rattle.qg_tree_items.specs.Reach.{pieces_of}
use Rattle.qg_tree_items.specs.Owed.{Agrees, agrees_at, layout_extents, owed, owed_by_node}
use Rattle.qg_tree_items.specs.IsFresh.{fresh_state}
use Rattle.qg_refs.specs.declared.counted.Counted.{Counted}
use Rattle.qg_refs.specs.declared.kept.What.{What}
use Rattle.qg_refs.specs.declared.kept.Kept.{Kept}
use Rattle.qg_refs.specs.Book.{Adds, AgreesWithOwed, full_in, references_in, what_in}
use Rattle.qg_refs.specs.Counts.{HasOneMore, IsRefList, count_of}
use Rattle.qg_refs.specs.Order.{precedes}
use Rattle.qg_refs.proofs.Counting.{count-found, count-nil}
use Rattle.qg_refs.proofs.RankOrder.{precedes_not_itself, same_itself, same_reference_is}
use Rattle.qg_extents.specs.Table.{book_of, IsTable}
use Rattle.qg_extents.specs.Written.{parts_of_book}
use Rattle.qg_extents.specs.Laws.{IsReadable}
use Rattle.qg_extents.specs.Fresh.{fresh_root, fresh_table}
use Rattle.qg_extents.proofs.Agreeing.{book_agrees}
use Rattle.qg_extents.proofs.Back.{book-told}
use Rattle.qg_extents.proofs.Tables.{at_itself, at_other}

-- ---- a list that has one reference once

abbrev one-where : Bool → ℕ
one-where here = if here then 1 else 0

-- each that is there is that one
is_it : (xs : List Counted) (x : Reference) (i : ℕ) (d : Counted) → IsRefList xs → HasOneMore [] xs x → i < length xs
    → (get_or xs i d).reference ≡ x
is_it xs x i d list more inside =
    let it : Reference = (get_or xs i d).reference in
    elim (cases_Bool (same_reference it x)) [
      | inl same ↦ same_reference_is it x same
      | inr differs ↦
          let none : one-where (same_reference it x) ≡ 0 = cond-false _ _ _ differs in
          absurd (omega (
            arith,
            count-found it xs i d list.ascend inside refl,
            list.some i d inside,
            more it,
            count-nil it,
            none,
          ))
    ]

pub only_reference : (xs : List Counted) (x : Reference) → IsRefList xs → HasOneMore [] xs x
    → xs ≡ record { reference = x; count = 1 } ∷ []
only_reference [] x list more =
    let one : one-where (same_reference x x) ≡ 1 = cond-true _ _ _ (same_itself x) in
    absurd (omega (arith, more x, count-nil x, one))
only_reference (entry ∷ []) x list more =
    let is : entry.reference ≡ x = is_it (entry ∷ []) x 0 entry list more (omega arith) in
    let one : one-where (same_reference x x) ≡ 1 = cond-true _ _ _ (same_itself x) in
    let found : count_of (entry ∷ []) x ≡ entry.count =
    count-found x (entry ∷ []) 0 entry list.ascend (omega arith) is in
    let count : entry.count ≡ 1 = omega (arith, found, more x, count-nil x, one) in
    λ i. record { reference = is i; count = count i } ∷ []
only_reference (entry ∷ second ∷ rest) x list more =
    let first : entry.reference ≡ x = is_it (entry ∷ second ∷ rest) x 0 entry list more (omega arith) in
    let next : second.reference ≡ x = is_it (entry ∷ second ∷ rest) x 1 entry list more (omega arith) in
    let before : precedes entry.reference second.reference ≡ true = list.ascend 0 1 entry (omega arith) (omega arith) in
    let itself : precedes x x ≡ true = subst (λ (y : Reference). precedes x y ≡ true) next
    (subst (λ (y : Reference). precedes y second.reference ≡ true) first before) in
    absurd (true≢false (sym itself ∙ precedes_not_itself x))

-- ---- a table that keeps one

none_some : (kept : Kept) → None ≡ Some kept → ⊥
none_some kept is = cc

at_is : (at q : ℕ) → is_at (nat_cmp at) q ≡ true → q ≡ at
at_is at q h = grind (arith, nat_tests)

at_differs : (at q : ℕ) → is_at (nat_cmp at) q ≡ false → q ≢ at
at_differs at q h = grind (arith, nat_tests)

pub only_entry : (table : List (ℕ × Kept)) (at : ℕ) (kept : Kept) → IsStrictlySortedBy nat_cmp (keys_of table)
    → book_of table at ≡ Some kept → ((q : ℕ) → q ≢ at → book_of table q ≡ None) → table ≡ (at, kept) ∷ []
unfolding IsStrictlySortedBy
only_entry [] at kept ascend here elsewhere = absurd (none_some kept here)
only_entry (entry ∷ []) at kept ascend here elsewhere = elim (cases_Bool (is_at (nat_cmp at) entry.0)) [
  | inl same ↦
      let is : entry.0 ≡ at = at_is at entry.0 same in
      let held : Some entry.1 ≡ Some kept = sym (ap (λ (b : Bool). cond b (Some entry.1) None) same) ∙ here in
      let what : entry.1 ≡ kept = ap (λ (o : Option Kept). unwrap_or o kept) held in
      λ i. (is i, what i) ∷ []
  | inr differs ↦
      absurd (none_some kept (sym (ap (λ (b : Bool). cond b (Some entry.1) None) differs) ∙ here))
]
only_entry (entry ∷ second ∷ rest) at kept ascend here elsewhere =
    let below : entry.0 < second.0 = ranked entry.0 second.0 Less (sym ascend.0.0) in
    absurd (two (cases_Bool (is_at (nat_cmp at) entry.0)) below)
  where
    first_held : book_of (entry ∷ second ∷ rest) entry.0 ≡ Some entry.1
    first_held = ap (λ (b : Bool). cond b (Some entry.1) (book_of (second ∷ rest) entry.0)) (at_itself entry.0)

    second_held : entry.0 ≢ second.0 → book_of (entry ∷ second ∷ rest) second.0 ≡ Some second.1
    second_held apart =
        ap (λ (b : Bool). cond b (Some entry.1) (book_of (second ∷ rest) second.0)) (at_other second.0 entry.0 apart)
        ∙ ap (λ (b : Bool). cond b (Some second.1) (book_of rest second.0)) (at_itself second.0)

    two : (is_at (nat_cmp at) entry.0 ≡ true) ⊎ (is_at (nat_cmp at) entry.0 ≡ false) → entry.0 < second.0 → ⊥
    two (inl same) below =
        let is : entry.0 ≡ at = at_is at entry.0 same in
        let other : second.0 ≢ at = λ e. omega (arith, is, e, below) in
        none_some second.1 (sym (elsewhere second.0 other) ∙ second_held (λ e. omega (arith, e, below)))
    two (inr differs) below =
        none_some entry.1 (sym (elsewhere entry.0 (at_differs at entry.0 differs)) ∙ first_held)

-- ---- what is kept

kept_is : (found : Option Kept) (what : What) (references : List Counted) → what_in found ≡ Some what
    → full_in found ≡ false → references_in found ≡ references
    → found ≡ Some (record { what = what; full = false; references = references })
kept_is None what references known full are = cc
kept_is (Some kept) what references known full are =
    let same : kept.what ≡ what = ap (λ (o : Option What). unwrap_or o what) known in
    λ i. Some (record { what = same i; full = full i; references = are i })

-- a book that has one reference more than none
pub fresh_is : (table : List (ℕ × Kept)) (nodesize root : ℕ) → IsTable table
    → Adds (book_of []) (book_of table) root (fresh_root nodesize).what (KeyedBlock TOP_LEVEL)
    → table ≡ fresh_table nodesize root
fresh_is table nodesize root is adds =
    only_entry table root (fresh_root nodesize) is.ascend
    (kept_is (book_of table root) (fresh_root nodesize).what (fresh_root nodesize).references adds.known adds.full
    (only_reference (references_in (book_of table root)) (KeyedBlock TOP_LEVEL) (is.book.sound root) adds.count))
    adds.elsewhere

-- ---- what is owed

pub fresh-agrees : (sizes : Sizes) (root : ℕ) (others : List Node)
    → Agrees (layout_of (fresh_state sizes others root)) (parts_of_book (fresh_table sizes.nodesize root))
unfolding agrees_at layout_extents owed owed_by_node pieces_of file_part
fresh-agrees sizes root others address = elim (cases_Bool (root == address)) [
  | inl same ↦ rw same refl
  | inr differs ↦ rw differs refl
]

pub fresh-owed : (sizes : Sizes) (root : ℕ) (others : List Node) → IsTable (fresh_table sizes.nodesize root)
    → AgreesWithOwed (layout_of (fresh_state sizes others root)) (book_of (fresh_table sizes.nodesize root))
fresh-owed sizes root others is =
    let table : List (ℕ × Kept) = fresh_table sizes.nodesize root in
    let readable : IsReadable sizes.nodesize (fresh_root sizes.nodesize) = record {
      extent = λ none. refl;
      node = λ level some. refl;
      low = λ level some. low level some;
    } in
    book_agrees sizes.nodesize (layout_of (fresh_state sizes others root)) (parts_of_book table) (book_of table)
    (fresh-agrees sizes root others)
    (book-told sizes.nodesize table is
    (All-from_recursion (λ entry. IsReadable sizes.nodesize entry.1) table (readable, tt)))
  where
    low : (level : ℕ) → Some 0 ≡ Some level → level < 256
    low level some = omega (arith, ap (λ (o : Option ℕ). unwrap_or o level) some)
