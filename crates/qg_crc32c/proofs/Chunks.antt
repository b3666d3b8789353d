-- A text cut into chunks of one size, and what is left.
use Rattle.std.proofs.Common.{◌≡◌, ℕ, zero, suc, ◌+◌, ◌*◌, ◌<◌, ◌≤◌, List, [], ◌∷◌, ◌++◌, length, take, drop, get_or}
use Rattle.std.proofs.Common.{refl, sym, ap, ◌∙◌, arith, append_assoc, add-one}
use Rattle.std.specs.List.{concat}
use Rattle.std.specs.Simd.{first_chunks}
use Rattle.std.proofs.Math.Seq.{drop-cons}
use Rattle.std.proofs.lemmas.List.{take-append-drop, drop-drop, drop_all}
use Rattle.qg_crc32c.specs.Crc32c.{remainder}
use Rattle.qg_crc32c.proofs.Remainders.{remainder-append}

-- the chunks and the rest are the text
pub chunks-append-rest : (size count : ℕ) (bytes : List ℕ)
    → concat (first_chunks size count bytes) ++ drop (count * size) bytes ≡ bytes
chunks-append-rest size zero bytes = let none : zero * size ≡ 0 = omega arith in rw none refl
chunks-append-rest size (suc count) bytes =
    let more : suc count * size ≡ size + count * size = omega arith in
    append_assoc (take size bytes) (concat (first_chunks size count (drop size bytes))) (drop (suc count * size) bytes)
    ∙ ap (λ (n : ℕ). take size bytes ++ (concat (first_chunks size count (drop size bytes)) ++ drop n bytes)) more
    ∙ ap (λ (rest : List ℕ). take size bytes ++ (concat (first_chunks size count (drop size bytes)) ++ rest))
    (sym (drop-drop (count * size) size bytes))
    ∙ ap (λ (rest : List ℕ). take size bytes ++ rest) (chunks-append-rest size count (drop size bytes))
    ∙ take-append-drop size bytes

-- one more chunk goes in
pub remainder-next_chunk : (r i : ℕ) (chunks : List (List ℕ)) (end d : List ℕ) → i < length chunks
    → remainder r (concat (drop i chunks) ++ end) ≡ remainder (remainder r (get_or chunks i d))
    (concat (drop (i + 1) chunks) ++ end)
remainder-next_chunk r i chunks end d lt =
    let here : drop i chunks ≡ get_or chunks i d ∷ drop (i + 1) chunks = rw (add-one, drop-cons chunks i d) refl in
    ap (λ (cs : List (List ℕ)). remainder r (concat cs ++ end)) here
    ∙ ap (remainder r) (append_assoc (get_or chunks i d) (concat (drop (i + 1) chunks)) end)
    ∙ remainder-append r (get_or chunks i d) (concat (drop (i + 1) chunks) ++ end)

-- all chunks are in
pub remainder-no_chunk : (r i : ℕ) (chunks : List (List ℕ)) (end : List ℕ) → length chunks ≤ i
    → remainder r (concat (drop i chunks) ++ end) ≡ remainder r end
remainder-no_chunk r i chunks end le = ap (λ (cs : List (List ℕ)). remainder r (concat cs ++ end))
    (drop_all i chunks le)

-- one more byte goes in
pub remainder-next_byte : (r i : ℕ) (bytes : List ℕ) → i < length bytes
    → remainder r (drop i bytes) ≡ remainder (remainder r (get_or bytes i 0 ∷ [])) (drop (i + 1) bytes)
remainder-next_byte r i bytes lt =
    let here : drop i bytes ≡ get_or bytes i 0 ∷ drop (i + 1) bytes = rw (add-one, drop-cons bytes i 0) refl in
    ap (remainder r) here ∙ remainder-append r (get_or bytes i 0 ∷ []) (drop (i + 1) bytes)

-- all bytes are in
pub remainder-no_byte : (r i : ℕ) (bytes : List ℕ) → length bytes ≤ i → remainder r (drop i bytes) ≡ r
unfolding remainder
remainder-no_byte r i bytes le = ap (remainder r) (drop_all i bytes le)
