-- What a piece leaves that is written over a text of bytes.
use Rattle.std.proofs.Common.{◌≡◌, ℕ, ◌+◌, ◌≤◌, ◌<◌, List, [], ◌∷◌, ◌++◌, add-one, set, length, take, drop, refl, sym}
use Rattle.std.proofs.Common.{ap, subst, ◌∙◌, arith}
use Rattle.std.proofs.lemmas.List.{append-nil, append_assoc, drop-drop, drop_all, drop_at, length-append, length-drop}
use Rattle.std.proofs.lemmas.List.{length-replicate, length-take, length-take-le, set_split, take-append-drop}
use Rattle.std.proofs.lemmas.List.{take-append-le, take-take, take_at}
use Rattle.std.proofs.lemmas.Slice.{between_is, drop-put_mid}
use Rattle.std.specs.Prelude.{slice_range}
use Rattle.qg_num.specs.Fields.{u32_bytes, u64_bytes, zeros}
use Rattle.qg_num.proofs.Numbers.{length-u32_bytes, length-u64_bytes}
use Rattle.qg_num.proofs.Standing.{Stands, Stands-in_front, slice_range-stands, slice_stands}

-- ---- one piece

-- over another of its length
pub put_over : (place n : ℕ) (front piece rest other new : List ℕ) → length front ≡ place → length other ≡ n
    → new ≡ take place (front ++ (other ++ rest)) ++ (piece ++ drop (place + n) (front ++ (other ++ rest)))
    → new ≡ front ++ (piece ++ rest)
put_over place n front piece rest other new before long is =
    let old = front ++ (other ++ rest) in
    let head : take place old ≡ front = take_at front (other ++ rest) place before in
    let tail : drop (place + n) old ≡ rest = sym (drop-drop n place old)
    ∙ ap (drop n) (drop_at front (other ++ rest) place before) ∙ drop_at other rest n long in
    is ∙ ap (λ (text : List ℕ). text ++ (piece ++ drop (place + n) old)) head
    ∙ ap (λ (text : List ℕ). front ++ (piece ++ text)) tail

-- over itself
pub put_same : (place n : ℕ) (piece bytes : List ℕ) → piece ≡ take n (drop place bytes)
    → take place bytes ++ (piece ++ drop (place + n) bytes) ≡ bytes
put_same place n piece bytes is =
    ap (λ (rest : List ℕ). take place bytes ++ (piece ++ rest)) (sym (drop-drop n place bytes))
    ∙ ap (λ (text : List ℕ). take place bytes ++ (text ++ drop n (drop place bytes))) is
    ∙ ap (λ (rest : List ℕ). take place bytes ++ rest) (take-append-drop n (drop place bytes))
    ∙ take-append-drop place bytes

-- one byte
pub put_byte : (place byte : ℕ) (bytes : List ℕ) → place < length bytes → set bytes place byte ≡ take place bytes
    ++ ((byte ∷ []) ++ drop (place + 1) bytes)
put_byte place byte bytes within = rw add-one (set_split bytes place byte within)

-- one piece, and another behind it
pub put_then : (place n m : ℕ) (first second old mid new : List ℕ) → place + n ≤ length old → length first ≡ n
    → mid ≡ take place old ++ (first ++ drop (place + n) old)
    → new ≡ take (place + n) mid ++ (second ++ drop (place + n + m) mid)
    → new ≡ take place old ++ ((first ++ second) ++ drop (place + n + m) old)
put_then place n m first second old mid new within long was is =
    let head = take place old in
    let rest = drop (place + n) old in
    let front : mid ≡ (head ++ first) ++ rest = was ∙ sym (append_assoc head first rest) in
    let to : length (head ++ first) ≡ place + n = omega (arith, length-append head first, length-take place old) in
    let start : take (place + n) mid ≡ head ++ first = ap (take (place + n)) front
    ∙ take_at (head ++ first) rest (place + n) to in
    let behind : drop (place + n) mid ≡ rest = ap (drop (place + n)) front
    ∙ drop_at (head ++ first) rest (place + n) to in
    let end : drop (place + n + m) mid ≡ drop (place + n + m) old =
    sym (drop-drop m (place + n) mid) ∙ ap (drop m) behind ∙ drop-drop m (place + n) old in
    is
    ∙ ap (λ (xs : List ℕ). xs ++ (second ++ drop (place + n + m) mid)) start
    ∙ ap (λ (xs : List ℕ). (head ++ first) ++ (second ++ xs)) end
    ∙ append_assoc head first (second ++ drop (place + n + m) old)
    ∙ ap (λ (xs : List ℕ). head ++ xs) (sym (append_assoc first second (drop (place + n + m) old)))

-- the text is no longer and no shorter
pub length-put : (place n : ℕ) (piece old new : List ℕ) → place + n ≤ length old → length piece ≡ n
    → new ≡ take place old ++ (piece ++ drop (place + n) old) → length new ≡ length old
length-put place n piece old new within long is =
    ap length is ∙ omega (
      arith,
      length-append (take place old) (piece ++ drop (place + n) old),
      length-append piece
          (drop (place + n) old),
      length-take place old,
      length-drop (place + n) old,
    )

-- the piece stands there
pub Stands-put : (place n : ℕ) (piece old new : List ℕ) → place + n ≤ length old → length piece ≡ n
    → new ≡ take place old ++ (piece ++ drop (place + n) old) → Stands new place (place + n) piece
Stands-put place n piece old new within long is =
    Stands-in_front (place + n) piece (drop (place + n) old)
    (ap (drop place) is ∙ drop_at (take place old) (piece ++ drop (place + n) old) place
    (length-take-le place old (omega arith))) (omega arith)

-- what stands behind it stays
pub Stands-kept_behind : {text old : List ℕ} {a b : ℕ} (place n : ℕ) (piece new : List ℕ) → place + n ≤ length old
    → length piece ≡ n → place + n ≤ a
    → new ≡ take place old ++ (piece ++ drop (place + n) old) → Stands old a b text → Stands new a b text
Stands-kept_behind {text = text} {old = old} {a = a} {b = b} place n piece new within long past is stands =
    let same : (k : ℕ) → place + n ≤ k → drop k new ≡ drop k old = λ k le.
    ap (drop k) (is ∙ ap (λ (rest : List ℕ). take place old ++ (piece ++ rest)) (sym (drop-drop n place old)))
    ∙ drop-put_mid place n old piece k le (omega arith) long in
    record {
      is = same a past ∙ stands.is ∙ ap (λ (rest : List ℕ). text ++ rest) (sym (same b (omega (arith, stands.long))));
      long = stands.long;
    }

-- what stands in front of it stays
pub Stands-kept_in_front : {text old : List ℕ} {a b : ℕ} (place n : ℕ) (piece new : List ℕ) → place + n ≤ length old
    → length piece ≡ n → b ≤ place
    → new ≡ take place old ++ (piece ++ drop (place + n) old) → Stands old a b text → Stands new a b text
Stands-kept_in_front {text = text} {old = old} {a = a} {b = b} place n piece new within long front is stands =
    let start : take b new ≡ take b old =
    ap (take b) is ∙ take-append-le b (take place old) (piece ++ drop (place + n) old)
    (omega (arith, length-take place old)) ∙ take-take b place old front in
    let same : slice_range new a b ≡ text =
    between_is new a b ∙ ap (drop a) start ∙ sym (between_is old a b) ∙ slice_range-stands stands in
    subst (λ (piece' : List ℕ). Stands new a b piece') same
    (slice_stands new a b (omega (arith, stands.long)) (omega (arith, length-put place n piece old new within long is)))

-- ---- pieces from the front on

-- the new text is the old one, but that it begins with these n bytes
pub record Written (old new : List ℕ) (n : ℕ) (text : List ℕ) : Type 0 where
  pub is : new ≡ text ++ drop n old
  pub long : length text ≡ n

pub nothing_written : (old : List ℕ) → Written old old 0 []
nothing_written old = record { is = refl; long = refl }

-- a piece more
pub Written-put : {old mid text : List ℕ} {place : ℕ} (n : ℕ) (piece new : List ℕ) → Written old mid place text
    → length piece ≡ n
    → new ≡ take place mid ++ (piece ++ drop (place + n) mid) → Written old new (place + n) (text ++ piece)
Written-put {old = old} {mid = mid} {text = text} {place = place} n piece new so_far long is =
    let front : take place mid ≡ text = ap (take place) so_far.is ∙ take_at text (drop place old) place so_far.long in
    let rest : drop (place + n) mid ≡ drop (place + n) old =
    sym (drop-drop n place mid)
    ∙ ap (drop n) (ap (drop place) so_far.is ∙ drop_at text (drop place old) place so_far.long)
    ∙ drop-drop n place old in
    record {
      is = is ∙ ap (λ (xs : List ℕ). xs ++ (piece ++ drop (place + n) mid)) front
          ∙ ap (λ (xs : List ℕ). text ++ (piece ++ xs)) rest ∙ sym (append_assoc text piece (drop (place + n) old));
      long = omega (arith, length-append text piece, so_far.long);
    }

pub Written-u64 : {old mid text : List ℕ} {place : ℕ} (n : ℕ) (new : List ℕ) → Written old mid place text
    → new ≡ take place mid ++ (u64_bytes n ++ drop (place + 8) mid) → Written old new (place + 8) (text ++ u64_bytes n)
Written-u64 n new so_far is = Written-put 8 (u64_bytes n) new so_far (length-u64_bytes n) is

pub Written-u32 : {old mid text : List ℕ} {place : ℕ} (n : ℕ) (new : List ℕ) → Written old mid place text
    → new ≡ take place mid ++ (u32_bytes n ++ drop (place + 4) mid) → Written old new (place + 4) (text ++ u32_bytes n)
Written-u32 n new so_far is = Written-put 4 (u32_bytes n) new so_far (length-u32_bytes n) is

pub Written-zeros : {old mid text : List ℕ} {place : ℕ} (n : ℕ) (new : List ℕ) → Written old mid place text
    → new ≡ take place mid ++ (zeros n ++ drop (place + n) mid) → Written old new (place + n) (text ++ zeros n)
Written-zeros n new so_far is = Written-put n (zeros n) new so_far (length-replicate {A = ℕ} n 0) is

-- bytes that were there are passed over
pub Written-skip : {old new text piece : List ℕ} {a b : ℕ} → Written old new a text → Stands old a b piece
    → Written old new b (text ++ piece)
Written-skip {old = old} {text = text} {piece = piece} {b = b} so_far stands = record {
  is = so_far.is ∙ ap (λ (rest : List ℕ). text ++ rest) stands.is ∙ sym (append_assoc text piece (drop b old));
  long = omega (arith, length-append text piece, so_far.long, stands.long);
}

-- all of them
pub Written-whole : {old new text : List ℕ} {n : ℕ} → Written old new n text → length old ≡ n → new ≡ text
Written-whole {old = old} {text = text} {n = n} all long =
    all.is ∙ ap (λ (rest : List ℕ). text ++ rest) (drop_all n old (omega arith)) ∙ append-nil text
