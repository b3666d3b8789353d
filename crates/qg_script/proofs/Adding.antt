-- One piece added after another.
use Rattle.std.proofs.Common.{◌≡◌, ℕ, ◌+◌, ◌<◌, ◌≤◌, min, List, [], ◌∷◌, ◌++◌, length, take, drop, get_or, subst}
use Rattle.std.proofs.Common.{Result, Ok, Err, sym, ap, ◌∙◌, arith, append_assoc}
use Rattle.std.specs.Prelude.{IsErr}
use Rattle.std.specs.List.{flat_map}
use Rattle.std.proofs.Math.Seq.{take-append-add}
use Rattle.std.proofs.lemmas.List.{take-append-le, take-append-drop, take_all, take_min, take_more, flat_map_more}
use Rattle.std.proofs.lemmas.List.Concat.{flat_map-append}
use Rattle.qg_num.specs.declared.fault.NoMemory.{NoMemory}
use Rattle.qg_script.specs.Added.{AddsFront, Adds}

both : (old mid new front back : List ℕ) → mid ≡ old ++ front → new ≡ mid ++ back → new ≡ old ++ (front ++ back)
both old mid new front back first second = second ∙ ap (λ (xs : List ℕ). xs ++ back) first ∙ append_assoc old front back

-- a piece was added, and then a front of another
pub front_after : {old mid new front back : List ℕ} {done : Unit {0}} → Adds (Ok done) old mid front
    → AddsFront mid new back → AddsFront old new (front ++ back)
front_after {old} {mid} {new} {front} {back} whole part = record {
  count = length front + part.count;
  added =
      both old mid new front (take part.count back) whole.ok part.added
      ∙ ap (λ (xs : List ℕ). old ++ xs) (sym (take-append-add front back part.count));
}

-- what would have come after a piece was not reached
pub front_before : {old new front : List ℕ} (back : List ℕ) → AddsFront old new front
    → AddsFront old new (front ++ back)
front_before {old} {new} {front} back part =
    let count = min part.count (length front) in
    let same : take part.count front ≡ take count (front ++ back) =
    sym (take_min part.count front) ∙ sym (take-append-le count front back (omega arith)) in
    record { count = count; added = part.added ∙ ap (λ (xs : List ℕ). old ++ xs) same }

-- a piece was added, and then another, whose result is passed on
pub then_added : {old mid new front back : List ℕ} {done : Unit {0}} (result : Result (Unit {0}) NoMemory)
    → Adds (Ok done) old mid front → Adds result mid new back
    → Adds result old new (front ++ back)
then_added {old} {mid} {new} {front} {back} (Ok x) whole last =
    record { ok = both old mid new front back whole.ok last.ok; no_memory = tt }
then_added (Err fault) whole last = record { ok = tt; no_memory = front_after whole last.no_memory }

-- memory was refused, and that is passed on
pub stopped : {old new piece : List ℕ} (result : Result (Unit {0}) NoMemory) → IsErr result → AddsFront old new piece
    → Adds result old new piece
stopped (Ok x) is part = absurd (cc)
stopped (Err fault) is part = record { ok = tt; no_memory = part }

-- ---- one piece for each item of a list

-- what the items before a place have, and a front of what is added for the item there
pub front_of_items : {X : Type 0} (f : X → List ℕ) (items : List X) (place : ℕ) (item : X) {old mid new : List ℕ}
    → place < length items → item ≡ get_or items place item
    → mid ≡ old ++ flat_map f (take place items) → AddsFront mid new (f item) → AddsFront old new (flat_map f items)
front_of_items {X} f items place item {old} {mid} {new} within is whole part =
    let before = flat_map f (take place items) in
    let done : Adds (Ok tt) old mid before = record { ok = whole; no_memory = tt } in
    let behind = flat_map f (drop (place + 1) items) in
    let one_more : before ++ f item ≡ flat_map f (take (place + 1) items) =
    flat_map_more f [] (take place items) item
    ∙ ap (λ (x : X). flat_map f (take place items ++ x ∷ [])) is
    ∙ ap (flat_map f) (sym (take_more items place item within)) in
    let split : (before ++ f item) ++ behind ≡ flat_map f items =
    ap (λ (xs : List ℕ). xs ++ behind) one_more
    ∙ sym (flat_map-append f (take (place + 1) items) (drop (place + 1) items))
    ∙ ap (flat_map f) (take-append-drop (place + 1) items) in
    subst (AddsFront old new) split (front_before behind (front_after done part))

-- what all items have, and then the last piece
pub after_items : {X : Type 0} (f : X → List ℕ) (items : List X) (place : ℕ) {old mid new back : List ℕ}
    (result : Result (Unit {0}) NoMemory)
    → length items ≤ place → mid ≡ old ++ flat_map f (take place items) → Adds result mid new back
    → Adds result old new (flat_map f items ++ back)
after_items {X} f items place {old} {mid} {new} {back} result past whole last =
    let all : mid ≡ old ++ flat_map f items = whole
    ∙ ap (λ (xs : List X). old ++ flat_map f xs) (take_all place items past) in
    let done : Adds (Ok tt) old mid (flat_map f items) = record { ok = all; no_memory = tt } in
    then_added result done last
