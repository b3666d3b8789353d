-- A piece that comes to name an extent, or does so no more: the trees stand with the names that are left.
use Rattle.std.proofs.Common.{◌≡◌, ◌≢◌, ℕ, zero, suc, ◌+◌, ◌*◌, ◌/◌, ◌%◌, ◌<◌, ◌≤◌, true, List, [], ◌∷◌, ◌++◌, length}
use Rattle.std.proofs.Common.{get_or, map, Option, Some, None, arith, refl, sym, ap, subst, ◌∙◌, inl, inr}
use Rattle.std.specs.Prelude.{◌⊎◌, ◌↔◌, IsTrue, Contains, nat_lt, not, unwrap_or}
use Rattle.std.specs.List.{filter_map, list_any}
use Rattle.std.proofs.lemmas.Bool.{and_from, and_parts, cases_Bool, cond-false, cond-true, eqb-true, leb-true, lt-ltb}
use Rattle.std.proofs.lemmas.Bool.{ltb-true, not-true, true≢false}
use Rattle.std.proofs.lemmas.Bool.Decides.{eqb_tells}
use Rattle.std.proofs.lemmas.List.Elements.{All-cons, Contains-append_cases, Contains-append_left}
use Rattle.std.proofs.lemmas.List.Elements.{Contains-append_right}
use Rattle.qg_device.specs.History.{History}
use Rattle.qg_num.specs.declared.piece.Piece.{Piece}
use Rattle.qg_node.specs.declared.item.Item.{Item}
use Rattle.qg_items.specs.declared.extent.Reference.{Reference}
use Rattle.qg_super.specs.declared.sizes.Sizes.{Sizes}
use Rattle.qg_super.specs.Places.{data_begin, is_run, is_slot, sector}
use Rattle.qg_image.specs.declared.element.Element.{Element}
use Rattle.qg_image.specs.Owed.{Owing, reference_offset}
use Rattle.qg_image.specs.Reach.{extent_of}
use Rattle.qg_image.specs.Record.{same_reference}
use Rattle.qg_image.specs.Space.{overlaps}
use Rattle.qg_image.proofs.Contained.{contains_cases, contains_here, contains_later}
use Rattle.qg_reach.proofs.SlotRule.{slot_below}
use Rattle.qg_space.specs.Holding.{Holding, has_run, is_clear, is_free_run, with_run, without_run}
use Rattle.qg_space.proofs.Members.{Contains-has_run, Contains-with_run, Contains-without_run, passes_one}
use Rattle.qg_tree_edits.specs.Land.{IsDrafted}
use Rattle.qg_refs.specs.declared.counted.Counted.{Counted}
use Rattle.qg_refs.specs.declared.kept.What.{What}
use Rattle.qg_refs.specs.declared.kept.Kept.{Kept}
use Rattle.qg_refs.specs.Book.{Adds, Book, Drops, count_at, references_at, references_in, what_in}
use Rattle.qg_refs.specs.Counts.{IsRefList, count_of, greatest_count}
use Rattle.qg_refs.proofs.RankOrder.{same_reference_is}
use Rattle.qg_extents.specs.Table.{IsTable, book_of}
use Rattle.qg_tree_backrefs.specs.Exchange.{times}
use Rattle.qg_tree_backrefs.specs.Following.{references_to}
use Rattle.qg_tree_backrefs.proofs.ReferenceTotals.{many, total}
use Rattle.qg_tree_backrefs.proofs.Owings.{many-cons, times-cons, times-few}
use Rattle.qg_tree_backrefs.proofs.Single.{length-none, length-total}
use Rattle.qg_tree_backrefs.proofs.Times.{one_of, times-own, times_here, times_there}
use Rattle.qg_fs_tree.specs.declared.fs_tree.FsTree.{FsTree}
use Rattle.qg_fs_tree.specs.Standing.{AreNamed, IsKnownExtent, Stands, extents_named, name_of, name_told}
use Rattle.qg_fs_tree.specs.Standing.{names_elsewhere, names_times}
use Rattle.qg_fs_tree.proofs.Before.{counted, index_among, known_of, names_there, some_length}
use Rattle.qg_fs_tree.proofs.Beside.{around_of, foreign_in, own_ways}
use Rattle.qg_fs_tree.proofs.Exchanged.{lasting}
use Rattle.qg_fs_tree.proofs.Extents.{beside-named, count-named, extent-total, no-root-outside, no-way-outside}
use Rattle.qg_fs_tree.proofs.Extents.{none-some, piece-owed}
use Rattle.qg_fs_tree.proofs.Fewer.{fixed-left}
use Rattle.qg_fs_tree.proofs.Fixed.{down, fixed, named-within}
use Rattle.qg_fs_tree.proofs.Lists.{from-mapped, has-mapped}
use Rattle.qg_fs_tree.proofs.Nodes.{IsNamed, names-some, times-many}
use Rattle.qg_fs_tree.proofs.Owings.{names_of}
use Rattle.qg_fs_tree.proofs.Renamed.{IsNoNode, Stands-renamed}
use Rattle.qg_fs_tree.proofs.Turned.{AreCounted, AreFixed, Around, beside_many, kept_nothing, total-is}

-- ---- one reference at one address

added : (old new : Book) (owing : Owing) (what : What) → Adds old new owing.address what owing.reference
    → (q : ℕ) (reference : Reference)
    → count_at new q reference ≡ count_at old q reference + times (owing ∷ []) q reference
added old new owing what adds q reference = elim (eqb_tells owing.address q) [
  | inl (equal, same) ↦
      subst (λ (a : ℕ). count_at new a reference ≡ count_at old a reference + times (owing ∷ []) a reference) same
      (adds.count reference ∙ ap (λ (n : ℕ). count_at old owing.address reference + n)
      (sym (times_here owing owing.address reference refl)))
  | inr (unequal, differ) ↦
      let none = times_there owing q reference differ in
      let same = ap (λ (kept : Option Kept). count_of (references_in kept) reference)
      (adds.elsewhere q (λ is. differ (sym is))) in
      omega (arith, none, same)
]

dropped : (old new : Book) (owing : Owing) → Drops old new owing.address owing.reference
    → (q : ℕ) (reference : Reference)
    → count_at old q reference ≡ count_at new q reference + times (owing ∷ []) q reference
dropped old new owing drops q reference = elim (eqb_tells owing.address q) [
  | inl (equal, same) ↦
      subst (λ (a : ℕ). count_at old a reference ≡ count_at new a reference + times (owing ∷ []) a reference) same
      (drops.count reference ∙ ap (λ (n : ℕ). count_at new owing.address reference + n)
      (sym (times_here owing owing.address reference refl)))
  | inr (unequal, differ) ↦
      let none = times_there owing q reference differ in
      let same = ap (λ (kept : Option Kept). count_of (references_in kept) reference)
      (drops.elsewhere q (λ is. differ (sym is))) in
      omega (arith, none, same)
]

-- how long it is
abbrev bytes_in : Option What → ℕ
bytes_in None = 0
bytes_in (Some known) = known.bytes

-- an extent is no node
no_level : (what : Option What) (bytes generation : ℕ) → what
    ≡ Some (record { bytes = bytes; level = None; generation = generation }) → IsNoNode what
no_level what bytes generation is other level date wrong =
    let same : None ≡ Some level = ap level_in (sym is ∙ wrong) in
    cc
  where
    level_in : Option What → Option ℕ
    level_in None = None
    level_in (Some known) = known.level

nothing_known : (what : Option What) → what ≡ None → IsNoNode what
nothing_known what is other level date wrong =
    let same : ◌≡◌ {A = Option What} None (Some (record { bytes = other; level = Some level; generation = date })) =
    sym is ∙ wrong in
    cc

-- ---- runs

run_behind : (sizes : Sizes) (address bytes : ℕ) → is_run sizes address bytes ≡ true → (data_begin ≤ address)
    × (0 < bytes) × (bytes % sector ≡ 0)
unfolding is_run
run_behind sizes address bytes is =
    let a = and_parts _ _ is in
    let b = and_parts _ _ a.0 in
    let c = and_parts _ _ b.0 in
    let d = and_parts _ _ c.0 in
    (leb-true data_begin address d.0, ltb-true 0 bytes b.1, eqb-true (bytes % sector) 0 c.1)

-- a run of whole sectors that is taken
pub whole-bytes : (sizes : Sizes) (address bytes : ℕ) → is_run sizes address bytes ≡ true → bytes / sector * sector
    ≡ bytes
whole-bytes sizes address bytes is = let whole = (run_behind sizes address bytes is).2 in omega (arith, whole)

whole_run : (holding : Holding) (piece : Piece) → is_run holding.sizes piece.extent piece.extent_bytes ≡ true
    → Contains holding.runs (extent_of piece) → has_run holding piece.extent (piece.extent_bytes / sector * sector)
    ≡ true
whole_run holding piece is has =
    ap (λ (n : ℕ). has_run holding piece.extent n) (whole-bytes holding.sizes piece.extent piece.extent_bytes is)
    ∙ (Contains-has_run holding piece.extent piece.extent_bytes).1 has

pub free-run : (sizes : Sizes) (extents : List Element) (address bytes : ℕ) → is_clear sizes extents address bytes
    ≡ true
    → is_run sizes address bytes ≡ true
unfolding is_clear
free-run sizes extents address bytes is = (and_parts _ _ is).0

free_parts : (sizes : Sizes) (extents : List Element) (address bytes : ℕ) → is_clear sizes extents address bytes ≡ true
    → (is_run sizes address bytes ≡ true) × (not (list_any (overlaps address bytes) extents) ≡ true)
unfolding is_clear
free_parts sizes extents address bytes is = and_parts _ _ is

overlap_here : (address bytes : ℕ) (element : Element) → element.address ≡ address → 0 < bytes → 0 < element.bytes
    → overlaps address bytes element ≡ true
overlap_here address bytes element same some other =
    and_from _ _ (lt-ltb address (element.address + element.bytes) (omega (arith, same, other)))
    (lt-ltb element.address (address + bytes) (omega (arith, same, some)))

-- ---- extents

abbrev pub run_of : ℕ × Piece → Element
run_of name = extent_of name.1

module _ (fs : FsTree) (history : History) (items : List Item) (names : List (ℕ × Piece))
    (stands : Stands fs history items names)
    (drafted : IsDrafted fs.land fs.tree.next) where
  abbrev everywhere : List (ℕ × Piece)
  everywhere = names ++ names_elsewhere fs history

  -- the data area has no slot
  outside_run : (address bytes : ℕ) → is_run fs.land.space.sizes address bytes ≡ true
      → IsTrue (is_slot fs.land.space.sizes address) → ⊥
  outside_run address bytes is slot =
      let high = (run_behind fs.land.space.sizes address bytes is).0 in
      let low = slot_below fs.land.space.sizes address drafted.sizes.served slot in
      omega (arith, high, low)

  -- no piece names an extent that begins with a free run
  free_unnamed : (at bytes : ℕ) → is_free_run fs.land.space at bytes ≡ true → IsNamed everywhere at → ⊥
  free_unnamed at bytes free named =
      let parts = free_parts fs.land.space.sizes (fs.land.space.runs ++ fs.land.space.held_runs) at bytes free in
      let piece = named.name.1 in
      let known = known_of fs history items names stands drafted named.name named.among in
      let there = (stands.runs (extent_of piece)).1 (has-mapped run_of everywhere named.name named.among) in
      let hit = overlap_here at bytes (extent_of piece) named.is (run_behind fs.land.space.sizes at bytes parts.0).1
      (run_behind fs.land.space.sizes piece.extent piece.extent_bytes known.lies).1 in
      let any = passes_one (overlaps at bytes) (fs.land.space.runs ++ fs.land.space.held_runs) (extent_of piece)
      (Contains-append_left fs.land.space.runs fs.land.space.held_runs (extent_of piece) there) hit in
      true≢false (sym any ∙ not-true _ parts.1)

  -- and no reference leads there
  free_total : (at bytes : ℕ) → is_free_run fs.land.space at bytes ≡ true
      → total (references_at (book_of fs.refs.refs) at) ≡ 0
  free_total at bytes free =
      let parts = free_parts fs.land.space.sizes (fs.land.space.runs ++ fs.land.space.held_runs) at bytes free in
      let outside = outside_run at bytes parts.0 in
      let all = extent-total fs history items names stands drafted at outside in
      let own = none-some (many (names_of fs.tree.owner names) at) (λ some.
      let named = names-some fs.tree.owner names at some in
      free_unnamed at bytes free (record {
        name = named.name;
        among = Contains-append_left names (names_elsewhere fs history) named.name named.among;
        is = named.is;
      })) in
      let others = none-some (beside_many (around_of fs history names) (own_ways fs history) at) (λ some.
      let named = beside-named fs history items names stands drafted at outside some in
      free_unnamed at bytes free (record {
        name = named.name;
        among = Contains-append_right names (names_elsewhere fs history) named.name named.among;
        is = named.is;
      })) in
      omega (arith, all, own, others)

  -- a reference leads to each extent that a piece names
  named_total : (name : ℕ × Piece) → Contains everywhere name
      → 0 < total (references_at (book_of fs.refs.refs) name.1.extent)
  named_total name has =
      lasting (around_of fs history names) (λ (q : ℕ). IsTrue (is_slot fs.land.space.sizes q))
      (fixed fs history items names stands drafted) fs.refs (own_ways fs history) (foreign_in fs history)
      (counted fs history items names stands drafted) (down fs history items names stands drafted)
      (λ q placed some is. some) name.1.extent
      (elim (Contains-append_cases names (names_elsewhere fs history) name has) [
        | inl mine ↦
            let there = names_there fs.tree.owner names name mine in
            let most = times-many (names_of fs.tree.owner names) name.1.extent
            (name_of fs.tree.owner name).reference in
            inl (omega (arith, there, most))
        | inr other ↦ inr (inr (piece-owed fs history items names stands drafted name other))
      ])

-- an extent that a piece of the tree at hand names is one of those that are named
pub own-extent : (fs : FsTree) (history : History) (names : List (ℕ × Piece)) (extent : Element)
    → Contains (map (λ name. extent_of name.1) names) extent → Contains (extents_named fs history names) extent
own-extent fs history names extent has =
    let found = from-mapped run_of names extent has in
    subst (λ (e : Element). Contains (extents_named fs history names) e) found.2
    (has-mapped run_of (names ++ names_elsewhere fs history) found.0
    (Contains-append_left names (names_elsewhere fs history) found.0 found.1))

-- what is known of an extent hangs on its run alone
known_as : (sizes : Sizes) (next : ℕ) (book : Book) (piece other : Piece) → extent_of piece ≡ extent_of other
    → IsKnownExtent sizes next book piece
    → IsKnownExtent sizes next book other
known_as sizes next book piece other same known =
    let address : piece.extent ≡ other.extent = ap (λ (e : Element). e.address) same in
    let bytes : piece.extent_bytes ≡ other.extent_bytes = ap (λ (e : Element). e.bytes) same in
    record {
      lies = subst (λ (e : Element). IsTrue (is_run sizes e.address e.bytes)) same known.lies;
      generation = known.generation;
      known = ap (λ (a : ℕ). what_in (book a)) (sym address) ∙ known.known
          ∙ ap (λ (n : ℕ). Some (record { bytes = n; level = None; generation = known.generation })) bytes;
      dated = known.dated;
    }

-- and on what a book knows there
known_in : (sizes : Sizes) (next : ℕ) (old new : Book) (piece : Piece)
    → what_in (new piece.extent) ≡ what_in (old piece.extent)
    → IsKnownExtent sizes next old piece
    → IsKnownExtent sizes next new piece
known_in sizes next old new piece same known = record {
  lies = known.lies;
  generation = known.generation;
  known = same
      ∙ known.known;
  dated = known.dated;
}

unwrapped : (known : Option What) (what some : What) → known ≡ Some some → Some (unwrap_or known what) ≡ known
unwrapped known what some is = ap (λ (k : Option What). Some (unwrap_or k what)) is ∙ sym is

-- ---- names that are left

one_of_few : (a b : Reference) → one_of a b ≤ 1
one_of_few a b = elim (cases_Bool (same_reference a b)) [
  | inl same ↦ let is = cond-true {A = ℕ} (same_reference a b) 1 0 same in omega (arith, is)
  | inr differ ↦ let is = cond-false {A = ℕ} (same_reference a b) 1 0 differ in omega (arith, is)
]

either_some : (m n : ℕ) → 0 < m + n → (0 < m) ⊎ (0 < n)
either_some zero n some = inr (omega (arith, some))
either_some (suc m) n some = inl (omega arith)

-- where a piece is the one that goes, its reference is named often enough still; any other is named as often as before
covers_left : (owner : ℕ) (told names : List (ℕ × Piece)) (name : ℕ × Piece)
    → ((q : ℕ) (reference : Reference) → names_times owner told q reference
    ≤ names_times owner (name ∷ names) q reference)
    → names_times owner told name.1.extent (name_of owner name).reference
    ≤ names_times owner names name.1.extent (name_of owner name).reference
    → (q : ℕ) (reference : Reference) → names_times owner told q reference ≤ names_times owner names q reference
covers_left owner told names name within covered q reference =
    let all = times-cons (name_of owner name) (names_of owner names) q reference in
    let most = within q reference in
    elim (eqb_tells name.1.extent q) [
      | inl (equal, same) ↦ elim (cases_Bool (same_reference reference (name_of owner name).reference)) [
        | inl alike ↦
            let is = same_reference_is reference (name_of owner name).reference alike in
            subst (λ (r : Reference). names_times owner told q r ≤ names_times owner names q r) (sym is)
            (subst (λ (a : ℕ). names_times owner told a (name_of owner name).reference
            ≤ names_times owner names a (name_of owner name).reference) same covered)
        | inr differ ↦
            let one = times-few (name_of owner name) q reference in
            let none = cond-false {A = ℕ} (same_reference reference (name_of owner name).reference) 1 0 differ in
            omega (arith, all, most, one, none)
      ]
      | inr (unequal, differ) ↦
          let none = times_there (name_of owner name) q reference differ in
          omega (arith, all, most, none)
    ]

-- one more of a reference that is named less often than it may be is not named too often
one_more : (owner : ℕ) (names : List (ℕ × Piece)) (name : ℕ × Piece)
    → times (names_of owner names) name.1.extent (name_of owner name).reference < 4294967295
    → ((q : ℕ) (reference : Reference) → names_times owner names q reference ≤ 4294967295)
    → (q : ℕ) (reference : Reference) → names_times owner (name ∷ names) q reference ≤ 4294967295
one_more owner names name room few q reference =
    let all = times-cons (name_of owner name) (names_of owner names) q reference in
    let rest = few q reference in
    elim (eqb_tells name.1.extent q) [
      | inl (equal, same) ↦ elim (cases_Bool (same_reference reference (name_of owner name).reference)) [
        | inl alike ↦
            let is = same_reference_is reference (name_of owner name).reference alike in
            let one = times-few (name_of owner name) q reference in
            let most = one_of_few reference (name_of owner name).reference in
            let less : times (names_of owner names) q reference < 4294967295 =
            subst (λ (r : Reference). times (names_of owner names) q r < 4294967295) (sym is)
            (subst (λ (a : ℕ). times (names_of owner names) a (name_of owner name).reference < 4294967295) same room) in
            omega (arith, all, one, most, less)
        | inr differ ↦
            let one = times-few (name_of owner name) q reference in
            let none = cond-false {A = ℕ} (same_reference reference (name_of owner name).reference) 1 0 differ in
            omega (arith, all, rest, one, none)
      ]
      | inr (unequal, differ) ↦
          let none = times_there (name_of owner name) q reference differ in
          omega (arith, all, rest, none)
    ]

-- ---- what is asked

-- the trees and the nodes are as they were
pub record IsRenamed (old new : FsTree) : Type 0 where
  pub tree : new.tree ≡ old.tree
  pub others : new.others ≡ old.others
  pub land : new.land ≡ record old.land { space = record old.land.space { runs = new.land.space.runs } }
  pub refs : new.refs ≡ record old.refs { refs = new.refs.refs }

module _ (old : FsTree) (history : History) (items : List Item)
    (drafted : IsDrafted old.land old.tree.next) (ino : ℕ) (piece : Piece) where
  abbrev own : Owing
  own = name_of old.tree.owner (ino, piece)

  abbrev told_elsewhere : List (ℕ × Piece)
  told_elsewhere = names_elsewhere old history

  -- ---- a piece of an extent that others name
  module _ (names : List (ℕ × Piece)) (stands : Stands old history items names)
      (among : Contains (extents_named old history names) (extent_of piece)) where
    beside : (name : ℕ × Piece) × Contains (names ++ told_elsewhere) name × (extent_of name.1 ≡ extent_of piece)
    beside = from-mapped run_of (names ++ told_elsewhere) (extent_of piece) among

    beside_known : IsKnownExtent old.land.space.sizes old.tree.next (book_of old.refs.refs) piece
    beside_known = known_as old.land.space.sizes old.tree.next (book_of old.refs.refs) beside.0.1 piece beside.2
        (known_of old history items names stands drafted beside.0 beside.1)

    -- its run is taken
    taken_named : Contains old.land.space.runs (extent_of piece)
    taken_named = (stands.runs (extent_of piece)).1 among

    pub taken-named : has_run old.land.space piece.extent (piece.extent_bytes / sector * sector) ≡ true
    taken-named = whole_run old.land.space piece beside_known.lies taken_named

    outside_named : IsTrue (is_slot old.land.space.sizes piece.extent) → ⊥
    outside_named = outside_run old history items names stands drafted piece.extent piece.extent_bytes
        beside_known.lies

    -- and it has a reference
    pub some-named : 0 < references_to (book_of old.refs.refs) piece.extent
    some-named =
        let same : beside.0.1.extent ≡ piece.extent = ap (λ (e : Element). e.address) beside.2 in
        some_length (references_at (book_of old.refs.refs) piece.extent)
        (subst (λ (a : ℕ). 0 < total (references_at (book_of old.refs.refs) a)) same
        (named_total old history items names stands drafted beside.0 beside.1))

    -- and may have this one once more
    pub room-named : names_times old.tree.owner names piece.extent own.reference < 4294967295
        → (reference : Reference) → reference ≡ own.reference
        → nat_lt (count_at (book_of old.refs.refs) piece.extent reference) (greatest_count reference) ≡ true
    room-named room reference is =
        subst (λ (r : Reference). nat_lt (count_at (book_of old.refs.refs) piece.extent r) (greatest_count r) ≡ true)
        (sym is)
        (let count = count-named old history items names stands drafted piece.extent ino
        (reference_offset piece.position piece.offset) in
        lt-ltb (count_at (book_of old.refs.refs) piece.extent own.reference) 4294967295 (omega (arith, count, room)))

    module _ (new : FsTree) (renamed : IsRenamed old new) (what : What)
        (adds : Adds (book_of old.refs.refs) (book_of new.refs.refs) piece.extent what own.reference)
        (runs : new.land.space.runs ≡ old.land.space.runs)
        (room : names_times old.tree.owner names piece.extent own.reference < 4294967295) where
      known_same : (q : Piece) → IsKnownExtent old.land.space.sizes old.tree.next (book_of old.refs.refs) q
          → what_in (book_of new.refs.refs q.extent) ≡ what_in (book_of old.refs.refs q.extent)
      known_same q known = elim (eqb_tells q.extent piece.extent) [
        | inl (equal, same) ↦
            ap (λ (a : ℕ). what_in (book_of new.refs.refs a)) same ∙ adds.known
            ∙ unwrapped (what_in (book_of old.refs.refs piece.extent)) what _
            (ap (λ (a : ℕ). what_in (book_of old.refs.refs a)) (sym same) ∙ known.known)
            ∙ ap (λ (a : ℕ). what_in (book_of old.refs.refs a)) (sym same)
        | inr (unequal, differ) ↦ ap what_in (adds.elsewhere q.extent differ)
      ]

      pub Stands-named : Stands new history items ((ino, piece) ∷ names)
      Stands-named =
          Stands-renamed old new history items names ((ino, piece) ∷ names) piece.extent stands drafted renamed.tree
          renamed.others renamed.land renamed.refs adds.elsewhere outside_named
          (no_level (what_in (book_of new.refs.refs piece.extent)) piece.extent_bytes beside_known.generation
          (known_same piece beside_known ∙ beside_known.known))
          (λ q reference.
          let more = added (book_of old.refs.refs) (book_of new.refs.refs) own what adds q reference in
          let all = times-cons own (names_of old.tree.owner names) q reference in
          omega (arith, more, all))
          (λ q reference.
          let within = stands.within q reference in
          let all = times-cons own (names_of old.tree.owner names) q reference in
          omega (arith, within, all))
          (one_more old.tree.owner names (ino, piece) room stands.few)
          (All-cons
          (λ (name : ℕ × Piece). IsKnownExtent old.land.space.sizes old.tree.next (book_of new.refs.refs) name.1)
          (ino, piece) (names ++ told_elsewhere)
          (known_in old.land.space.sizes old.tree.next (book_of old.refs.refs) (book_of new.refs.refs) piece
          (known_same piece beside_known) beside_known)
          (λ i d inside. known_in old.land.space.sizes old.tree.next (book_of old.refs.refs) (book_of new.refs.refs)
          (get_or (names ++ told_elsewhere) i d).1
          (known_same (get_or (names ++ told_elsewhere) i d).1 (stands.known i d inside)) (stands.known i d inside)))
          (λ run. (
            λ has. contains_later (extent_of piece) (extents_named old history names) run
                ((stands.runs run).0 (subst (λ (list : List Element). Contains list run) runs has)),
            λ has. subst (λ (list : List Element). Contains list run) (sym runs)
                (elim (contains_cases (extent_of piece) (extents_named old history names) run has) [
                  | inl is ↦ subst (λ (e : Element). Contains old.land.space.runs e) is taken_named
                  | inr later ↦ (stands.runs run).1 later
                ]),
          ))

  -- ---- a piece of a new extent
  module _ (names : List (ℕ × Piece)) (stands : Stands old history items names)
      (free : is_free_run old.land.space piece.extent piece.extent_bytes ≡ true) where
    free_run : is_run old.land.space.sizes piece.extent piece.extent_bytes ≡ true
    free_run = (free_parts old.land.space.sizes (old.land.space.runs ++ old.land.space.held_runs) piece.extent
        piece.extent_bytes free).0

    free_outside : IsTrue (is_slot old.land.space.sizes piece.extent) → ⊥
    free_outside = outside_run old history items names stands drafted piece.extent piece.extent_bytes free_run

    -- no reference leads there
    pub none-named : IsTable old.refs.refs → references_to (book_of old.refs.refs) piece.extent ≡ 0
    none-named table =
        length-none (references_at (book_of old.refs.refs) piece.extent) (table.book.sound piece.extent)
        (free_total old history items names stands drafted piece.extent piece.extent_bytes free)

    -- and no name of the tree at hand
    no_name : many (names_of old.tree.owner names) piece.extent ≡ 0
    no_name =
        let none = free_total old history items names stands drafted piece.extent piece.extent_bytes free in
        let all = extent-total old history items names stands drafted piece.extent free_outside in
        omega (arith, none, all)

    -- and it may be named
    pub room-new : (reference : Reference) → reference ≡ own.reference
        → nat_lt (count_at (book_of old.refs.refs) piece.extent reference) (greatest_count reference) ≡ true
    room-new reference is =
        subst (λ (r : Reference). nat_lt (count_at (book_of old.refs.refs) piece.extent r) (greatest_count r) ≡ true)
        (sym is)
        (let count = count-named old history items names stands drafted piece.extent ino
        (reference_offset piece.position piece.offset) in
        let most = times-many (names_of old.tree.owner names) piece.extent own.reference in
        let none = no_name in
        lt-ltb (count_at (book_of old.refs.refs) piece.extent own.reference) 4294967295
        (omega (arith, count, most, none)))

    -- nothing is known of it
    pub unknown-new : IsTable old.refs.refs → what_in (book_of old.refs.refs piece.extent) ≡ None
    unknown-new table =
        ap what_in
        (kept_nothing (book_of old.refs.refs piece.extent) (λ kept there. table.book.some piece.extent kept there)
        (none-named table))

    module _ (new : FsTree) (renamed : IsRenamed old new) (what : What)
        (adds : Adds (book_of old.refs.refs) (book_of new.refs.refs) piece.extent what own.reference)
        (generation : ℕ) (what_is : what ≡ record { bytes = piece.extent_bytes; level = None; generation = generation })
        (dated : generation ≤ old.tree.next)
        (none : what_in (book_of old.refs.refs piece.extent) ≡ None)
        (runs : new.land.space.runs ≡ with_run (extent_of piece) old.land.space.runs) where
      known_new : what_in (book_of new.refs.refs piece.extent)
          ≡ Some (record { bytes = piece.extent_bytes; level = None; generation = generation })
      known_new = adds.known ∙ ap (λ (k : Option What). Some (unwrap_or k what)) none
          ∙ ap (λ (w : What). Some w) what_is

      -- any other piece names another
      other_extent : (name : ℕ × Piece) → Contains (names ++ told_elsewhere) name → name.1.extent ≢ piece.extent
      other_extent name has same =
          free_unnamed old history items names stands drafted piece.extent piece.extent_bytes free
          (record { name = name; among = has; is = same })

      pub Stands-new : Stands new history items ((ino, piece) ∷ names)
      Stands-new =
          Stands-renamed old new history items names ((ino, piece) ∷ names) piece.extent stands drafted renamed.tree
          renamed.others renamed.land renamed.refs adds.elsewhere free_outside
          (no_level (what_in (book_of new.refs.refs piece.extent)) piece.extent_bytes generation known_new)
          (λ q reference.
          let more = added (book_of old.refs.refs) (book_of new.refs.refs) own what adds q reference in
          let all = times-cons own (names_of old.tree.owner names) q reference in
          omega (arith, more, all))
          (λ q reference.
          let within = stands.within q reference in
          let all = times-cons own (names_of old.tree.owner names) q reference in
          omega (arith, within, all))
          (one_more old.tree.owner names (ino, piece)
          (let most = times-many (names_of old.tree.owner names) piece.extent own.reference in
          let no = no_name in
          omega (arith, most, no))
          stands.few)
          (All-cons
          (λ (name : ℕ × Piece). IsKnownExtent old.land.space.sizes old.tree.next (book_of new.refs.refs) name.1)
          (ino, piece) (names ++ told_elsewhere)
          (record { lies = free_run; generation = generation; known = known_new; dated = dated })
          (λ i d inside. known_in old.land.space.sizes old.tree.next (book_of old.refs.refs) (book_of new.refs.refs)
          (get_or (names ++ told_elsewhere) i d).1
          (ap what_in (adds.elsewhere (get_or (names ++ told_elsewhere) i d).1.extent
          (other_extent (get_or (names ++ told_elsewhere) i d) (index_among (names ++ told_elsewhere) i d inside))))
          (stands.known i d inside)))
          (λ run. (
            λ has. elim ((Contains-with_run (extent_of piece) old.land.space.runs run).0
                (subst (λ (list : List Element). Contains list run) runs has)) [
                  | inl is ↦ subst (λ (e : Element). Contains (extent_of piece ∷ extents_named old history names) e)
                      (sym is) (contains_here (extent_of piece) (extents_named old history names))
                  | inr was ↦ contains_later (extent_of piece) (extents_named old history names) run
                      ((stands.runs run).0 was)
                ],
            λ has. subst (λ (list : List Element). Contains list run) (sym runs)
                ((Contains-with_run (extent_of piece) old.land.space.runs run).1
                (elim (contains_cases (extent_of piece) (extents_named old history names) run has) [
                  | inl is ↦ inl (sym is)
                  | inr later ↦ inr ((stands.runs run).1 later)
                ])),
          ))

  -- ---- a piece that goes
  module _ (names : List (ℕ × Piece)) (stands : Stands old history items ((ino, piece) ∷ names)) where
    own_known : IsKnownExtent old.land.space.sizes old.tree.next (book_of old.refs.refs) piece
    own_known = stands.known 0 (ino, piece) (omega arith)

    own_outside : IsTrue (is_slot old.land.space.sizes piece.extent) → ⊥
    own_outside = outside_run old history items ((ino, piece) ∷ names) stands drafted piece.extent piece.extent_bytes
        own_known.lies

    -- its run is taken
    pub taken-own : has_run old.land.space piece.extent (piece.extent_bytes / sector * sector) ≡ true
    taken-own = whole_run old.land.space piece own_known.lies
        ((stands.runs (extent_of piece)).1 (contains_here (extent_of piece) (extents_named old history names)))

    pub whole-own : piece.extent_bytes / sector * sector ≡ piece.extent_bytes
    whole-own = whole-bytes old.land.space.sizes piece.extent piece.extent_bytes own_known.lies

    module _ (covered : names_times old.tree.owner (filter_map name_told items) piece.extent own.reference
        ≤ names_times old.tree.owner names piece.extent own.reference) where
      -- its reference is there, where the names that are left cover the items
      pub there-own : 0 < count_at (book_of old.refs.refs) piece.extent own.reference
      there-own =
          let count = stands.counts piece.extent own.reference in
          let all = times-cons own (names_of old.tree.owner names) piece.extent own.reference in
          let one = times-own own in
          omega (arith, count, all, one, covered)

      within_left : AreNamed old.tree.owner items names
      within_left = covers_left old.tree.owner (filter_map name_told items) names (ino, piece) stands.within covered

      abbrev before : Around
      before = around_of old history ((ino, piece) ∷ names)

      abbrev around_left : Around
      around_left = around_of old history names

      abbrev IsSlot : ℕ → Type 0
      IsSlot q = IsTrue (is_slot old.land.space.sizes q)

      fixed_before : AreFixed before IsSlot
      fixed_before = fixed old history items ((ino, piece) ∷ names) stands drafted

      -- what is fixed, with the names that are left
      fixed_left : AreFixed around_left IsSlot
      fixed_left =
          fixed-left before IsSlot fixed_before names
          (λ at place.
          let all = many-cons own (names_of old.tree.owner names) at in
          let none = fixed_before.apart at place in
          omega (arith, all, none))
          (λ at reference.
          let all = times-cons own (names_of old.tree.owner names) at reference in
          omega (arith, all))
          (named-within old history items ((ino, piece) ∷ names) stands drafted names within_left)

      module _ (new : FsTree) (renamed : IsRenamed old new)
          (drops : Drops (book_of old.refs.refs) (book_of new.refs.refs) piece.extent own.reference) where
        counts_left : AreCounted around_left (book_of new.refs.refs) (own_ways old history) (foreign_in old history)
        counts_left at reference =
            let count = counted old history items ((ino, piece) ∷ names) stands drafted at reference in
            let less = dropped (book_of old.refs.refs) (book_of new.refs.refs) own drops at reference in
            let all = times-cons own (names_of old.tree.owner names) at reference in
            omega (arith, count, less, all)

        -- as many references are left as names, and as others owe
        total_left : total (references_at (book_of new.refs.refs) piece.extent)
            ≡ many (names_of old.tree.owner names) piece.extent
            + beside_many around_left (own_ways old history) piece.extent
        total_left =
            let all = total-is around_left (book_of new.refs.refs) (own_ways old history) (foreign_in old history)
            counts_left piece.extent in
            let none = no-way-outside old history items ((ino, piece) ∷ names) stands drafted piece.extent
            own_outside in
            let roots = no-root-outside old history items ((ino, piece) ∷ names) stands drafted piece.extent
            own_outside in
            omega (arith, all, none, roots)

        -- a reference leads to each extent that a piece names still
        named_left : (name : ℕ × Piece) → Contains (names ++ told_elsewhere) name
            → 0 < total (references_at (book_of new.refs.refs) name.1.extent)
        named_left name has =
            lasting around_left IsSlot fixed_left new.refs (own_ways old history) (foreign_in old history)
            counts_left (down old history items ((ino, piece) ∷ names) stands drafted) (λ q placed some is. some)
            name.1.extent (elim (Contains-append_cases names told_elsewhere name has) [
              | inl mine ↦
                  let there = names_there old.tree.owner names name mine in
                  let most = times-many (names_of old.tree.owner names) name.1.extent
                  (name_of old.tree.owner name).reference in
                  inl (omega (arith, there, most))
              | inr other ↦
                  let owed = piece-owed old history items ((ino, piece) ∷ names) stands drafted name other in
                  inr (inr (record { by = owed.by; placed = owed.placed; is = owed.is; some = owed.some }))
            ])

        -- and a piece names each extent of the kind that a reference leads to
        left_named : 0 < total (references_at (book_of new.refs.refs) piece.extent)
            → IsNamed (names ++ told_elsewhere) piece.extent
        left_named some = elim (either_some (many (names_of old.tree.owner names) piece.extent)
            (beside_many around_left (own_ways old history) piece.extent)
            (let left = total_left in omega (arith, left, some))) [
              | inl mine ↦
                  let named = names-some old.tree.owner names piece.extent mine in
                  record {
                    name = named.name;
                    among = Contains-append_left names told_elsewhere named.name named.among;
                    is = named.is;
                  }
              | inr other ↦
                  let named = beside-named old history items ((ino, piece) ∷ names) stands drafted piece.extent
                  own_outside other in
                  record {
                    name = named.name;
                    among = Contains-append_right names told_elsewhere named.name named.among;
                    is = named.is;
                  }
            ]

        some_left : 0 < total (references_at (book_of new.refs.refs) piece.extent)
            → references_at (book_of new.refs.refs) piece.extent ≢ []
        some_left some none = let zero_is = ap total none in omega (arith, some, zero_is)

        known_left : (name : ℕ × Piece) → Contains (names ++ told_elsewhere) name
            → what_in (book_of new.refs.refs name.1.extent) ≡ what_in (book_of old.refs.refs name.1.extent)
        known_left name has = elim (eqb_tells name.1.extent piece.extent) [
          | inl (equal, same) ↦
              ap (λ (a : ℕ). what_in (book_of new.refs.refs a)) same
              ∙ drops.known (some_left (subst (λ (a : ℕ). 0 < total (references_at (book_of new.refs.refs) a)) same
              (named_left name has)))
              ∙ ap (λ (a : ℕ). what_in (book_of old.refs.refs a)) (sym same)
          | inr (unequal, differ) ↦ ap what_in (drops.elsewhere name.1.extent differ)
        ]

        no_node_left : IsNoNode (what_in (book_of new.refs.refs piece.extent))
        no_node_left = from (references_at (book_of new.refs.refs) piece.extent) refl where
          from : (xs : List Counted) → references_at (book_of new.refs.refs) piece.extent ≡ xs
              → IsNoNode (what_in (book_of new.refs.refs piece.extent))
          from [] none = nothing_known (what_in (book_of new.refs.refs piece.extent)) (ap what_in (drops.gone none))
          from (x ∷ xs) some =
              no_level (what_in (book_of new.refs.refs piece.extent)) piece.extent_bytes own_known.generation
              (drops.known (λ none. let wrong = sym some ∙ none in cc) ∙ own_known.known)

        stands_left : ((run : Element) → Contains new.land.space.runs run
            ↔ Contains (extents_named old history names) run) → Stands new history items names
        stands_left runs =
            Stands-renamed old new history items ((ino, piece) ∷ names) names piece.extent stands drafted renamed.tree
            renamed.others renamed.land renamed.refs drops.elsewhere own_outside no_node_left
            (λ q reference.
            let less = dropped (book_of old.refs.refs) (book_of new.refs.refs) own drops q reference in
            let all = times-cons own (names_of old.tree.owner names) q reference in
            omega (arith, less, all))
            within_left
            (λ q reference.
            let all = times-cons own (names_of old.tree.owner names) q reference in
            let most = stands.few q reference in
            omega (arith, all, most))
            (λ i d inside. known_in old.land.space.sizes old.tree.next (book_of old.refs.refs) (book_of new.refs.refs)
            (get_or (names ++ told_elsewhere) i d).1
            (known_left (get_or (names ++ told_elsewhere) i d) (index_among (names ++ told_elsewhere) i d inside))
            (stands.known (suc i) d (omega (arith, inside))))
            runs

        -- others name the extent still
        pub Stands-left : ((q : ℕ) → IsRefList (references_at (book_of new.refs.refs) q))
            → 0 < references_to (book_of new.refs.refs) piece.extent → new.land.space.runs ≡ old.land.space.runs
            → Stands new history items names
        Stands-left sound some runs = stands_left (λ run. (
          λ has. from run ((stands.runs run).0 (subst (λ (list : List Element). Contains list run) runs has)),
          λ has. subst (λ (list : List Element). Contains list run) (sym runs)
              ((stands.runs run).1 (contains_later (extent_of piece) (extents_named old history names) run has)),
        )) where
          -- a name that is left is of the same run
          named : IsNamed (names ++ told_elsewhere) piece.extent
          named = left_named
              (let least = length-total (references_at (book_of new.refs.refs) piece.extent) (sound piece.extent) in
              omega (arith, least, some))

          same_run : extent_of named.name.1 ≡ extent_of piece
          same_run =
              let other = known_of old history items ((ino, piece) ∷ names) stands drafted named.name
              (contains_later (ino, piece) (names ++ told_elsewhere) named.name named.among) in
              let both = sym other.known ∙ ap (λ (a : ℕ). what_in (book_of old.refs.refs a)) named.is
              ∙ own_known.known in
              let bytes : named.name.1.extent_bytes ≡ piece.extent_bytes = ap bytes_in both in
              ap (λ (a : ℕ). record { address = a; bytes = named.name.1.extent_bytes }) named.is
              ∙ ap (λ (n : ℕ). record { address = piece.extent; bytes = n }) bytes

          from : (run : Element) → Contains (extent_of piece ∷ extents_named old history names) run
              → Contains (extents_named old history names) run
          from run has = elim (contains_cases (extent_of piece) (extents_named old history names) run has) [
            | inl is ↦ subst (λ (e : Element). Contains (extents_named old history names) e) (same_run ∙ is)
                (has-mapped run_of (names ++ told_elsewhere) named.name named.among)
            | inr later ↦ later
          ]

        -- none does, and its run is given back
        pub Stands-gone : references_to (book_of new.refs.refs) piece.extent ≡ 0
            → new.land.space.runs ≡ without_run piece.extent piece.extent_bytes old.land.space.runs
            → Stands new history items names
        Stands-gone none runs = stands_left (λ run. (
          λ has.
              let was = (Contains-without_run piece.extent piece.extent_bytes old.land.space.runs run).0
              (subst (λ (list : List Element). Contains list run) runs has) in
              elim (contains_cases (extent_of piece) (extents_named old history names) run
              ((stands.runs run).0 was.0)) [
                | inl is ↦ absurd (was.1 (sym is))
                | inr later ↦ later
              ],
          λ has. subst (λ (list : List Element). Contains list run) (sym runs)
              ((Contains-without_run piece.extent piece.extent_bytes old.land.space.runs run).1 (
                (stands.runs run).1 (contains_later (extent_of piece) (extents_named old history names) run has),
                other_run run has,
              )),
        )) where
          none_total : (xs : List Counted) → length xs ≡ 0 → total xs ≡ 0
          none_total [] none = refl
          none_total (x ∷ xs) none = absurd (omega (arith, none))

          other_run : (run : Element) → Contains (extents_named old history names) run
              → run ≢ record { address = piece.extent; bytes = piece.extent_bytes }
          other_run run has is =
              let found = from-mapped run_of (names ++ told_elsewhere) run has in
              let same : found.0.1.extent ≡ piece.extent = ap (λ (e : Element). e.address) (found.2 ∙ is) in
              let some : 0 < total (references_at (book_of new.refs.refs) piece.extent) =
              subst (λ (a : ℕ). 0 < total (references_at (book_of new.refs.refs) a)) same
              (named_left found.0 found.1) in
              let no = none_total (references_at (book_of new.refs.refs) piece.extent) none in
              omega (arith, some, no)
