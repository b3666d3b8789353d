-- No piece meets what is left of a range behind those that were put in it. Positions are in bytes.
use Rattle.std.proofs.Common.{◌≡◌, ℕ, ◌≤◌, Bool, false, List, [], ◌∷◌, ◌++◌, refl, arith}
use Rattle.std.specs.Prelude.{nat_lt, ◌&&◌, count_by, cond}
use Rattle.std.specs.List.{AllByRecursion}
use Rattle.std.proofs.lemmas.Bool.{and_left, and_right, cond-false, le-ltb}
use Rattle.std.proofs.lemmas.List.Sums.{sum_by-cons}
use Rattle.qg_num.specs.declared.piece.Piece.{Piece}
use Rattle.qg_image.specs.FilesOf.{piece_end}
use Rattle.qg_machine.specs.FileChange.{before, after, with_range, pieces_meeting}
use Rattle.qg_files.specs.Apart.{AreApart}
use Rattle.qg_files.proofs.Order.{all_begin_from}
use Rattle.qg_files.proofs.KeptApart.{ends-before, apart-after}

both : {A : Type 0} (P : A → Type 0) (xs ys : List A) → AllByRecursion P xs → AllByRecursion P ys
    → AllByRecursion P (xs ++ ys)
both P [] ys front back = back
both P (x ∷ xs) ys front back = (front.0, both P xs ys front.1 back)

weaker : {A : Type 0} (P Q : A → Type 0) (xs : List A) → ((x : A) → P x → Q x) → AllByRecursion P xs
    → AllByRecursion Q xs
weaker P Q [] means all = tt
weaker P Q (x ∷ xs) means all = (means x all.0, weaker P Q xs means all.1)

none_counted : {A : Type 0} (p : A → Bool) (xs : List A) → AllByRecursion (λ x. p x ≡ false) xs → count_by p xs ≡ 0
none_counted p [] fail = refl
none_counted p (x ∷ xs) fail =
    let here = cond-false {A = ℕ} (p x) 1 0 fail.0 in
    let later = none_counted p xs fail.1 in
    let parts = sum_by-cons (λ y. cond (p y) 1 0) x xs in
    omega (arith, parts, here, later)

-- what lies in front of a range that is being filled ends by where the next piece is to begin
front_ends : (from start : ℕ) (done xs : List Piece) → from ≤ start → AllByRecursion (λ z. piece_end z ≤ start) done
    → AllByRecursion (λ z. piece_end z ≤ start) (before from xs ++ done)
front_ends from start done xs begins ends =
    both (λ z. piece_end z ≤ start) (before from xs) done (weaker (λ z. piece_end z ≤ from) (λ z. piece_end z ≤ start)
    (before from xs) (λ z h. omega arith) (ends-before from xs)) ends

-- and what lies behind it begins at the end of the next piece or past it
back_begins : (to end : ℕ) (xs : List Piece) → end ≤ to → AreApart xs
    → AllByRecursion (λ z. end ≤ z.position) (after to xs)
back_begins to end xs within apart =
    weaker (λ z. to ≤ z.position) (λ z. end ≤ z.position) (after to xs) (λ z h. omega arith)
    (all_begin_from to (after to xs) (apart-after to xs apart))

-- no piece meets what is behind the pieces that were put so far
pub hole_behind : (from to start end : ℕ) (done xs : List Piece) → AreApart xs → from ≤ start → end ≤ to
    → AllByRecursion (λ z. piece_end z ≤ start) done
    → pieces_meeting start end (with_range from to done xs) ≡ 0
hole_behind from to start end done xs apart begins within ends =
    none_counted meets (before from xs ++ done ++ after to xs) all where
      meets : Piece → Bool
      meets z = nat_lt z.position end && nat_lt start (piece_end z)

      all : AllByRecursion (λ z. meets z ≡ false) (before from xs ++ done ++ after to xs)
      all = both (λ z. meets z ≡ false) (before from xs ++ done) (after to xs)
          (weaker (λ z. piece_end z ≤ start) (λ z. meets z ≡ false) (before from xs ++ done)
          (λ z h. and_right (nat_lt z.position end) (nat_lt start (piece_end z)) (le-ltb start (piece_end z) h))
          (front_ends from start done xs begins ends))
          (weaker (λ z. end ≤ z.position) (λ z. meets z ≡ false) (after to xs)
          (λ z h. and_left (nat_lt z.position end) (nat_lt start (piece_end z)) (le-ltb z.position end h))
          (back_begins to end xs within apart))
