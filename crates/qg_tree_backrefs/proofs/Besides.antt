-- A book that has another's records, and besides some others: its table takes no more than these besides.
use Rattle.std.proofs.Common.{◌≡◌, ℕ, ◌≤◌, ◌+◌, Bool, true, false, List, [], ◌++◌, arith, refl, sym, ap, ◌∙◌}
use Rattle.std.specs.Prelude.{◌||◌}
use Rattle.std.specs.List.{sum_by}
use Rattle.std.proofs.lemmas.Bool.{or_left}
use Rattle.std.proofs.lemmas.List.Folds.{list_any-append}
use Rattle.qg_image.specs.Record.{Record, record_bytes, records_bytes, same_record}
use Rattle.qg_refs.specs.Book.{Book}
use Rattle.qg_weighed.specs.Table.{IsTable, book_of}
use Rattle.qg_weighed.specs.Laws.{is_among}
use Rattle.qg_weighed.specs.Weight.{records_in, weight_of}
use Rattle.qg_weighed.proofs.Recorded.{Table, recorded, records-say}
use Rattle.qg_tree_backrefs.specs.Heavier.{GetsHeavier}
use Rattle.qg_tree_backrefs.proofs.Among.{bytes-among, bytes-in_front}

-- each record of a book is another's, or one of these
pub record HasBesides (old new : Book) (more : List Record) : Type 0 where
  pub each : (one : Record) → recorded new one ≡ true → (recorded old one || is_among more one) ≡ true

-- ---- one after the other

pub HasBesides-none : (book : Book) → HasBesides book book []
HasBesides-none book = record { each = λ one there. or_left (recorded book one) false there }

through : (a b m n both : Bool) → both ≡ (m || n) → (b || n) ≡ true → (b ≡ true → (a || m) ≡ true)
    → (a || both) ≡ true
through true b m n both is second first = refl
through false true true n both is second first = is
through false true false n both is second first = let wrong : false ≡ true = first refl in cc
through false false true n both is second first = is
through false false false n both is second first = is ∙ second

pub HasBesides-then : (old mid new : Book) (xs ys : List Record) → HasBesides old mid xs → HasBesides mid new ys
    → HasBesides old new (xs ++ ys)
HasBesides-then old mid new xs ys first second = record {
  each = λ one there.
      through (recorded old one) (recorded mid one) (is_among xs one) (is_among ys one) (is_among (xs ++ ys) one)
      (list_any-append (same_record one) xs ys) (second.each one there) (first.each one);
}

-- ---- tables

among_all : (h n o m : Bool) → (h || n) ≡ true → (n ≡ true → (o || m) ≡ true) → (m || (h || o)) ≡ true
among_all h n o true some within = refl
among_all true n o false some within = refl
among_all false true true false some within = refl
among_all false true false false some within = within refl
among_all false false o false some within = let wrong : false ≡ true = some in cc

module _ (old new : Table) (more : List Record) (most : ℕ) (old_is : IsTable old) (new_is : IsTable new)
    (has : HasBesides (book_of old) (book_of new) more) (few : sum_by record_bytes more ≤ most) where
  within : (held : Table) (one : Record) → is_among (records_in held ++ records_in new) one ≡ true
      → is_among (more ++ (records_in held ++ records_in old)) one ≡ true
  within held one there =
      let h = is_among (records_in held) one in
      let m = is_among more one in
      let some : (h || recorded (book_of new) one) ≡ true =
      ap (λ (b : Bool). h || b) (sym (records-say new one new_is))
      ∙ sym (list_any-append (same_record one) (records_in held) (records_in new)) ∙ there in
      list_any-append (same_record one) more (records_in held ++ records_in old)
      ∙ ap (λ (b : Bool). m || b)
      (list_any-append (same_record one) (records_in held) (records_in old)
      ∙ ap (λ (b : Bool). h || b) (records-say old one old_is))
      ∙ among_all h (recorded (book_of new) one) (recorded (book_of old) one) m some (has.each one)

  weighs_more : (held : Table) → weight_of held new ≤ weight_of held old + most
  unfolding weight_of
  weighs_more held =
      let all : records_bytes (records_in held ++ records_in new)
      ≤ records_bytes (more ++ (records_in held ++ records_in old)) =
      bytes-among (records_in held ++ records_in new) (more ++ (records_in held ++ records_in old)) (within held) in
      let front : records_bytes (more ++ (records_in held ++ records_in old))
      ≤ sum_by record_bytes more + records_bytes (records_in held ++ records_in old) =
      bytes-in_front more (records_in held ++ records_in old) in
      omega (arith, all, front, few)

  pub GetsHeavier-besides : GetsHeavier old new most
  GetsHeavier-besides = record { weighs = weighs_more }
