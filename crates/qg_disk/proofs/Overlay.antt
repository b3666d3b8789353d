-- Buffers over which written bytes are laid.
use Rattle.std.proofs.Common.{◌≡◌, ℕ, ◌+◌, ◌-◌, ◌≤◌, ◌<◌, min, max, List, [], ◌∷◌, ◌++◌, length, take, drop, get_or}
use Rattle.std.proofs.Common.{sym, ap, ◌∙◌, inl, inr, arith, length-append, length-drop}
use Rattle.std.specs.Prelude.{replicate}
use Rattle.std.proofs.lemmas.Bool.{cases_lt}
use Rattle.std.proofs.lemmas.List.{length-take, length-replicate, get_or_append_left, get_or-append_right, get_or-take}
use Rattle.std.proofs.lemmas.List.{get_or-drop, get_or-replicate, get_or_past}
use borrow.Rule.Slice.PartMut.{put_mid, post_of}
use Rattle.qg_device.specs.History.{overlay, torn}
use Rattle.qg_disk.specs.Buffer.{Shows}

-- in front of a part that was written into a buffer, in it, and behind it
get_or-put_mid_before : (to count k : ℕ) (buf part : List ℕ) → k < to → to ≤ length buf
    → get_or (put_mid to count buf part) k 0 ≡ get_or buf k 0
get_or-put_mid_before to count k buf part before fits =
    get_or_append_left (take to buf) (part ++ post_of to count buf) 0 k (omega (arith, length-take to buf))
    ∙ get_or-take to buf k 0 before

get_or-put_mid_in : (to count k : ℕ) (buf part : List ℕ) → to ≤ k → k < to + count → to ≤ length buf
    → length part ≡ count → get_or (put_mid to count buf part) k 0 ≡ get_or part (k - to) 0
get_or-put_mid_in to count k buf part after before fits long =
    get_or-append_right (take to buf) (part ++ post_of to count buf) to k 0 (omega (arith, length-take to buf)) after
    ∙ get_or_append_left part (post_of to count buf) 0 (k - to) (omega arith)

get_or-put_mid_after : (to count k : ℕ) (buf part : List ℕ) → to + count ≤ k → to + count ≤ length buf
    → length part ≡ count → get_or (put_mid to count buf part) k 0 ≡ get_or buf k 0
get_or-put_mid_after to count k buf part after fits long =
    let at : to + (count + (k - to - count)) ≡ k = omega arith in
    get_or-append_right (take to buf) (part ++ post_of to count buf) to k 0 (omega (arith, length-take to buf))
    (omega arith)
    ∙ get_or-append_right part (post_of to count buf) count (k - to) 0 long (omega arith)
    ∙ get_or-drop count (drop to buf) (k - to - count) 0
    ∙ get_or-drop to buf (count + (k - to - count)) 0
    ∙ ap (λ (i : ℕ). get_or buf i 0) at

-- such a part leaves the buffer as long as it was
within_mid : (to count k : ℕ) (buf part : List ℕ) → to + count ≤ length buf → length part ≡ count
    → k < length (put_mid to count buf part) → k < length buf
within_mid to count k buf part fits long within =
    let same : length (put_mid to count buf part) ≡ length buf =
    simp (length-append, length-take, length-drop) (omega arith) in omega arith

-- an overlay in front of its bytes, in them, and behind them
get_or-front : (at place : ℕ) (old : List ℕ) → place < at
    → get_or (take at old ++ replicate (at - length old) 0) place 0 ≡ get_or old place 0
get_or-front at place old before = elim (cases_lt place (length old)) [
  | inl there ↦ get_or_append_left (take at old) (replicate (at - length old) 0) 0 place
      (omega (arith, length-take at old)) ∙ get_or-take at old place 0 before
  | inr past ↦
      get_or-append_right (take at old) (replicate (at - length old) 0) (length old) place 0
      (omega (arith, length-take at old)) past
      ∙ get_or-replicate (at - length old) (place - length old) 0 0 (omega arith)
      ∙ sym (get_or_past old place 0 past)
]

pub get_or-overlay_before : (at place : ℕ) (bytes old : List ℕ) → place < at
    → get_or (overlay at bytes old) place 0 ≡ get_or old place 0
get_or-overlay_before at place bytes old before =
    let front = take at old ++ replicate (at - length old) 0 in
    let rest = drop (at + length bytes) old in
    let long : length front ≡ at = simp (length-append, length-take, length-replicate) (omega arith) in
    get_or_append_left (front ++ bytes) rest 0 place (omega (arith, length-append front bytes))
    ∙ get_or_append_left front bytes 0 place (omega arith)
    ∙ get_or-front at place old before

pub get_or-overlay_in : (at place : ℕ) (bytes old : List ℕ) → at ≤ place → place < at + length bytes
    → get_or (overlay at bytes old) place 0 ≡ get_or bytes (place - at) 0
get_or-overlay_in at place bytes old after within =
    let front = take at old ++ replicate (at - length old) 0 in
    let rest = drop (at + length bytes) old in
    let long : length front ≡ at = simp (length-append, length-take, length-replicate) (omega arith) in
    get_or_append_left (front ++ bytes) rest 0 place (omega (arith, length-append front bytes))
    ∙ get_or-append_right front bytes at place 0 long after

pub get_or-overlay_after : (at place : ℕ) (bytes old : List ℕ) → at + length bytes ≤ place
    → get_or (overlay at bytes old) place 0 ≡ get_or old place 0
get_or-overlay_after at place bytes old past =
    let front = take at old ++ replicate (at - length old) 0 in
    let rest = drop (at + length bytes) old in
    let long : length front ≡ at = simp (length-append, length-take, length-replicate) (omega arith) in
    let both : length (front ++ bytes) ≡ at + length bytes = omega (arith, length-append front bytes) in
    let there : at + length bytes + (place - (at + length bytes)) ≡ place = omega arith in
    get_or-append_right (front ++ bytes) rest (at + length bytes) place 0 both past
    ∙ get_or-drop (at + length bytes) old (place - (at + length bytes)) 0
    ∙ ap (λ (i : ℕ). get_or old i 0) there

-- the part of the bytes that meets the buffer is written into it
pub Shows-part : (start at to from count n : ℕ) (old buf bytes part : List ℕ) → start + to ≡ max start at
    → at + from ≡ max start at → max start at + count ≡ min (start + length buf) (at + length bytes)
    → length part ≡ count → n ≡ count → part ≡ take n (drop from bytes) → Shows start old buf
    → Shows start (overlay at bytes old) (put_mid to count buf part)
Shows-part start at to from count n old buf bytes part low_to low_from high long same is shows = record {
  each = λ k inside.
      let within : k < length buf = within_mid to count k buf part (omega arith) long inside in
      elim (cases_lt k to) [
        | inl before ↦
            get_or-put_mid_before to count k buf part before (omega arith) ∙ shows.each k within
            ∙ sym (get_or-overlay_before at (start + k) bytes old (omega arith))
        | inr after ↦ elim (cases_lt k (to + count)) [
          | inl before ↦
              let place : from + (k - to) ≡ start + k - at = omega arith in
              get_or-put_mid_in to count k buf part after before (omega arith) long
              ∙ ap (λ (xs : List ℕ). get_or xs (k - to) 0) is
              ∙ get_or-take n (drop from bytes) (k - to) 0 (omega arith)
              ∙ get_or-drop from bytes (k - to) 0
              ∙ ap (λ (i : ℕ). get_or bytes i 0) place
              ∙ sym (get_or-overlay_in at (start + k) bytes old (omega arith) (omega arith))
          | inr past ↦
              get_or-put_mid_after to count k buf part past (omega arith) long ∙ shows.each k within
              ∙ sym (get_or-overlay_after at (start + k) bytes old (omega arith))
        ]
      ];
}

-- bytes that don't meet the buffer change nothing in it
pub Shows-apart : (start at : ℕ) (old buf bytes : List ℕ) → min (start + length buf) (at + length bytes) ≤ max start at
    → Shows start old buf → Shows start (overlay at bytes old) buf
Shows-apart start at old buf bytes apart shows = record {
  each = λ k within. elim (cases_lt (start + k) at) [
    | inl before ↦ shows.each k within ∙ sym (get_or-overlay_before at (start + k) bytes old before)
    | inr after ↦ shows.each k within ∙ sym (get_or-overlay_after at (start + k) bytes old (omega arith))
  ];
}

-- a write of no bytes past the end changes no byte, so a buffer shows the same after one that failed and left nothing
pub Shows-torn : (start at : ℕ) (left old buf : List ℕ) → Shows start (overlay at left old) buf
    → Shows start (torn at left old) buf
Shows-torn start at [] old buf shows = record {
  each = λ k within. elim (cases_lt (start + k) at) [
    | inl before ↦ shows.each k within ∙ get_or-overlay_before at (start + k) [] old before
    | inr after ↦ shows.each k within ∙ get_or-overlay_after at (start + k) [] old (omega arith)
  ];
}
Shows-torn start at (byte ∷ bytes) old buf shows = shows
