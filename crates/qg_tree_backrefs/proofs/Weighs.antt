-- What a table takes more, by which records it has besides.
use Rattle.std.proofs.Common.{◌≡◌, ℕ, ◌+◌, [], Option, Some, None, ap, arith, refl, ◌∙◌}
use Rattle.std.specs.Prelude.{if◌then◌else◌, is_some, unwrap_or}
use Rattle.std.proofs.lemmas.Bool.{cond-true}
use Rattle.qg_items.specs.declared.extent.Reference.{Reference}
use Rattle.qg_image.specs.Record.{same_reference}
use Rattle.qg_refs.specs.declared.kept.What.{What}
use Rattle.qg_refs.specs.declared.kept.Kept.{Kept}
use Rattle.qg_refs.specs.Book.{Adds, Book, Drops, references_in, what_in}
use Rattle.qg_refs.specs.Counts.{count_of}
use Rattle.qg_refs.proofs.Counting.{count-nil}
use Rattle.qg_refs.proofs.RankOrder.{same_itself}
use Rattle.qg_weighed.specs.Table.{IsTable, book_of}
use Rattle.qg_weighed.specs.Weight.{extent_record_bytes, reference_bytes}
use Rattle.qg_weighed.proofs.Recorded.{Table, adds-grows, drops-grows}
use Rattle.qg_tree_backrefs.specs.Exchange.{Exchange, Exchanges}
use Rattle.qg_tree_backrefs.specs.Heavier.{GetsHeavier, owings_bytes}
use Rattle.qg_tree_backrefs.proofs.Besides.{GetsHeavier-besides}
use Rattle.qg_tree_backrefs.proofs.Changed.{HasBesides-exchanged, HasBesides-grown, HasBesides-shrunk, added-bytes}
use Rattle.qg_tree_backrefs.proofs.Changed.{gained-bytes}
use Rattle.qg_tree_backrefs.proofs.Changed.{records_added, records_gained}

pub GetsHeavier-added : (old new : Table) (at : ℕ) (what : What) (reference : Reference) → IsTable old → IsTable new
    → Adds (book_of old) (book_of new) at what reference
    → GetsHeavier old new (reference_bytes reference + (if is_some (book_of old at) then 0 else extent_record_bytes))
GetsHeavier-added old new at what reference old_is new_is adds =
    let known = unwrap_or (what_in (book_of old at)) what in
    let bytes = added-bytes at (book_of old at) known reference in
    GetsHeavier-besides old new (records_added at (book_of old at) known reference) _ old_is new_is
    (HasBesides-grown (book_of old) (book_of new) at known reference
    (adds-grows (book_of old) (book_of new) at what reference adds))
    (omega (arith, bytes))

pub GetsHeavier-exchanged : (old new : Table) (exchange : Exchange) → IsTable old → IsTable new
    → Exchanges (book_of old) (book_of new) exchange None → GetsHeavier old new (owings_bytes exchange.gains)
GetsHeavier-exchanged old new exchange old_is new_is made =
    let bytes = gained-bytes None [] exchange.gains in
    GetsHeavier-besides old new (records_gained None exchange.gains) (owings_bytes exchange.gains)
    old_is new_is (HasBesides-exchanged (book_of old) (book_of new) exchange.gains exchange.losses None made.counts
    made.known) (omega (arith, bytes))

-- what is dropped was a reference to what was known
known_dropped : (old new : Book) (at : ℕ) (reference : Reference) → Drops old new at reference
    → (what : What) × (what_in (old at) ≡ Some what)
known_dropped old new at reference drops = from (old at) refl where
  from : (kept : Option Kept) → old at ≡ kept → (what : What) × (what_in (old at) ≡ Some what)
  from (Some kept) here = (kept.what, ap what_in here)
  from None here =
      let more = drops.count reference in
      let one : ◌≡◌ {A = ℕ} (if same_reference reference reference then 1 else 0) 1 =
      cond-true _ _ _ (same_itself reference) in
      let none : count_of (references_in (old at)) reference ≡ 0 =
      ap (λ (k : Option Kept). count_of (references_in k) reference) here ∙ count-nil reference in
      absurd (omega (arith, more, one, none))

pub GetsHeavier-dropped : (old new : Table) (at : ℕ) (reference : Reference) → IsTable old → IsTable new
    → Drops (book_of old) (book_of new) at reference → GetsHeavier old new 0
GetsHeavier-dropped old new at reference old_is new_is drops =
    let known = known_dropped (book_of old) (book_of new) at reference drops in
    GetsHeavier-besides old new [] 0 old_is new_is
    (HasBesides-shrunk (book_of new) (book_of old) at known.0 reference
    (drops-grows (book_of old) (book_of new) at known.0 reference drops known.1))
    (omega arith)
