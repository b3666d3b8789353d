-- What stands in a list once items are put in the place of those of a range of indices.
use Rattle.std.proofs.Common.{◌≡◌, ℕ, ◌+◌, ◌-◌, ◌<◌, ◌≤◌, List, [], ◌∷◌, ◌++◌, length, get_or, take, drop, set, sym, ap}
use Rattle.std.proofs.Common.{◌∙◌, arith, append_assoc, length-append}
use Rattle.std.proofs.lemmas.List.{take-append-drop, take_more, drop_more, length-take-le, set_at, drop_at}
use Rattle.std.proofs.lemmas.List.{take-append-le, take-take}

-- a front of items was written over those from an index on, and one more is
pub written_more : {A : Type 0} (xs items : List A) (first i : ℕ) (x : A) → first ≤ i → i < length xs
    → i - first < length items → x ≡ get_or items (i - first) x
    → set (take first xs ++ take (i - first) items ++ drop i xs) i x ≡ take first xs ++ take (i + 1 - first) items
    ++ drop (i + 1) xs
written_more xs items first i x order bound short is =
    let n = i - first in
    let next : n + 1 ≡ i + 1 - first = omega arith in
    let front = take first xs ++ take n items in
    let long = length-append (take first xs) (take n items) in
    let some = length-take-le first xs (omega arith) in
    let done = length-take-le n items (omega arith) in
    let one = ap (λ y. take n items ++ y ∷ []) is ∙ sym (take_more items n x short) ∙ ap (λ k. take k items) next in
    ap (λ zs. set (front ++ zs) i x) (drop_more xs i x bound)
    ∙ set_at front (get_or xs i x) (drop (i + 1) xs) x i (omega (arith, long, some, done))
    ∙ sym (append_assoc front (x ∷ []) (drop (i + 1) xs))
    ∙ ap (λ zs. zs ++ drop (i + 1) xs) (append_assoc (take first xs) (take n items) (x ∷ [])
    ∙ ap (λ zs. take first xs ++ zs) one)

-- of a list whose front stays, the part in front of an earlier index is the same
front_same : {A : Type 0} (xs zs : List A) (first index : ℕ) → first ≤ index → index ≤ length xs
    → take first (take index xs ++ zs) ≡ take first xs
front_same xs zs first index order bound =
    let long = length-take-le index xs bound in
    take-append-le first (take index xs) zs (omega (arith, long)) ∙ take-take first index xs order

-- more items than there is room for: those that are over were put behind, and the others are written over
pub spliced_more : {A : Type 0} (xs items : List A) (first end : ℕ) → first ≤ end → end ≤ length xs
    → take first (take end xs ++ drop (end - first) items ++ drop end xs) ++ take (end - first) items
    ++ drop end (take end xs ++ drop (end - first) items ++ drop end xs)
    ≡ take first xs ++ items ++ drop end xs
spliced_more xs items first end order bound =
    let some = take (end - first) items in
    let over = drop (end - first) items in
    let back = over ++ drop end xs in
    let front = take end xs in
    ap (λ zs. take first zs ++ some ++ drop end zs) (append_assoc front over (drop end xs))
    ∙ ap (λ zs. zs ++ some ++ drop end (front ++ back)) (front_same xs back first end order bound)
    ∙ ap (λ zs. take first xs ++ some ++ zs) (drop_at front back end (length-take-le end xs bound))
    ∙ sym (append_assoc (take first xs ++ some) over (drop end xs))
    ∙ ap (λ zs. zs ++ drop end xs) (append_assoc (take first xs) some over
    ∙ ap (λ zs. take first xs ++ zs) (take-append-drop (end - first) items))

-- a front, three lists and a back, as two lists on each side of the one in the middle
pub beside_middle : {A : Type 0} (front rest given other back : List A)
    → front ++ (rest ++ given ++ other) ++ back ≡ (front ++ rest) ++ given ++ (other ++ back)
beside_middle front rest given other back =
    ap (λ zs. zs ++ back) (sym (append_assoc front (rest ++ given) other))
    ∙ ap (λ zs. zs ++ other ++ back) (sym (append_assoc front rest given))
    ∙ append_assoc (front ++ rest ++ given) other back
