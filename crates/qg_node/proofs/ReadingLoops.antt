-- Items and pointers read one after the other, as a loop reads them.
use Rattle.std.proofs.Common.{◌≡◌, ℕ, suc, ◌-◌, ◌+◌, ◌*◌, ◌≤◌, ◌<◌, List, [], ◌∷◌, ◌++◌, length, Result, Ok, Err, refl}
use Rattle.std.proofs.Common.{sym, ap, ◌∙◌, append_assoc, arith}
use Rattle.std.proofs.lemmas.List.{append-nil}
use Rattle.qg_node.specs.declared.item.Item.{Item}
use Rattle.qg_node.specs.declared.pointer.Pointer.{Pointer}
use Rattle.qg_node.specs.declared.fault.NodeFault.{NodeFault}
use Rattle.qg_node.specs.declared.fault.ReadFault.{ReadFault}
use Rattle.qg_node.specs.declared.fault.ReadFault.TheVariants.{Bad, NoMemory}
use Rattle.qg_node.specs.Reading.{◌>>=◌, ReadsAs, item_at, items_at, pointer_at, pointers_at}

-- ---- items

-- items that were read, in front of those that a reading gives
abbrev pub with_front : List Item → Result (List Item × ℕ) NodeFault → Result (List Item × ℕ) NodeFault
with_front front read = read >>= λ others. Ok (front ++ others.0, others.1)

with_front-cons : (front : List Item) (item : Item) (read : Result (List Item × ℕ) NodeFault)
    → with_front front (read >>= λ others. Ok (item ∷ others.0, others.1)) ≡ with_front (front ++ item ∷ []) read
with_front-cons front item (Ok others) = ap (λ (items : List Item). Ok (items, others.1)) (simp append_assoc)
with_front-cons front item (Err fault) = refl

-- what is left to read after i of the items
abbrev pub items_left : ℕ → ℕ → ℕ → ℕ → List ℕ → Result (List Item × ℕ) NodeFault
items_left count i end low bytes = items_at (count - i) (101 + 25 * i) end low bytes

-- after i of the items: what was read and what is left to read is the whole
pub record HasRead (front : List Item) (count i end low : ℕ) (bytes : List ℕ) : Type 0 where
  pub so_far : with_front front (items_left count i end low bytes) ≡ items_at count 101 (length bytes) low bytes
  pub above : low ≤ end
  pub within : end ≤ length bytes

pub HasRead-none : (count low : ℕ) (bytes : List ℕ) → low ≤ length bytes → HasRead [] count 0 (length bytes) low bytes
HasRead-none count low bytes above =
    let all : count - 0 ≡ count = omega arith in
    record {
      so_far = rw all (nothing (items_at count 101 (length bytes) low bytes));
      above = above;
      within = omega arith;
    } where
      nothing : (read : Result (List Item × ℕ) NodeFault) → with_front [] read ≡ read
      nothing (Ok others) = refl
      nothing (Err fault) = refl

pub HasRead-more : (front : List Item) (count i end low begin : ℕ) (bytes : List ℕ) (item : Item) → i < count
    → item_at (101 + 25 * i) end low bytes ≡ Ok (item, begin)
    → (low ≤ begin) × (begin ≤ end) → HasRead front count i end low bytes
    → HasRead (front ++ item ∷ []) count (i + 1) begin low bytes
unfolding items_at
HasRead-more front count i end low begin bytes item more first bounds so_far =
    let left : count - i ≡ suc (count - (i + 1)) = omega arith in
    let place : 101 + 25 * i + 25 ≡ 101 + 25 * (i + 1) = omega arith in
    let step : with_front front (items_left count i end low bytes) ≡ with_front (front ++ item ∷ [])
    (items_left count (i + 1) begin low bytes) =
    rw (left, first, place) (with_front-cons front item (items_left count (i + 1) begin low bytes)) in
    record { so_far = sym step ∙ so_far.so_far; above = bounds.0; within = omega (arith, bounds.1, so_far.within) }

pub HasRead-stops : (fault : ReadFault) (front : List Item) (count i end low : ℕ) (bytes : List ℕ) → i < count
    → ReadsAs {A = Item × ℕ} (Err fault) (item_at (101 + 25 * i) end low bytes)
    → HasRead front count i end low bytes
    → ReadsAs {A = List Item × ℕ} (Err fault) (items_at count 101 (length bytes) low bytes)
unfolding items_at
HasRead-stops NoMemory front count i end low bytes more first so_far = tt
HasRead-stops (Bad fault) front count i end low bytes more first so_far =
    let left : count - i ≡ suc (count - (i + 1)) = omega arith in
    let step : with_front front (items_left count i end low bytes) ≡ Err fault = rw (left, first) refl in
    sym so_far.so_far ∙ step

pub HasRead-all : (front : List Item) (count i end low : ℕ) (bytes : List ℕ) → count ≤ i
    → HasRead front count i end low bytes → items_at count 101 (length bytes) low bytes ≡ Ok (front, end)
unfolding items_at
HasRead-all front count i end low bytes done so_far =
    let left : count - i ≡ 0 = omega arith in
    let step : with_front front (items_left count i end low bytes) ≡ Ok (front, end) =
    rw left (ap (λ (items : List Item). Ok (items, end)) (append-nil front)) in
    sym so_far.so_far ∙ step

-- ---- pointers

pub pointers_at-more : (front : List Pointer) (count i : ℕ) (bytes : List ℕ) (pointer : Pointer) (all : List Pointer)
    → i < count → pointer ≡ pointer_at (101 + 33 * i) bytes
    → front ++ pointers_at (count - i) (101 + 33 * i) bytes ≡ all
    → (front ++ pointer ∷ []) ++ pointers_at (count - (i + 1)) (101 + 33 * (i + 1)) bytes ≡ all
unfolding pointers_at
pointers_at-more front count i bytes pointer all more is so_far =
    let left : count - i ≡ suc (count - (i + 1)) = omega arith in
    let place : 101 + 33 * i + 33 ≡ 101 + 33 * (i + 1) = omega arith in
    let step : front ++ pointers_at (count - i) (101 + 33 * i) bytes ≡ (front ++ pointer ∷ [])
    ++ pointers_at (count - (i + 1)) (101 + 33 * (i + 1)) bytes =
    rw (left, is, place) (sym (append_assoc front (pointer_at (101 + 33 * i) bytes ∷ [])
    (pointers_at (count - (i + 1)) (101 + 33 * (i + 1)) bytes))) in
    sym step ∙ so_far

pub pointers_at-all : (front : List Pointer) (count i : ℕ) (bytes : List ℕ) (all : List Pointer) → count ≤ i
    → front ++ pointers_at (count - i) (101 + 33 * i) bytes ≡ all → front ≡ all
unfolding pointers_at
pointers_at-all front count i bytes all done so_far =
    let left : count - i ≡ 0 = omega arith in
    let step : front ++ pointers_at (count - i) (101 + 33 * i) bytes ≡ front = rw left (append-nil front) in
    sym step ∙ so_far
