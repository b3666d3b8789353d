-- A room of zeros that is filled from both ends: headers from its front, bodies from its back.
use Rattle.std.proofs.Common.{◌≡◌, ℕ, ◌+◌, ◌-◌, ◌*◌, ◌≤◌, ◌<◌, List, [], ◌∷◌, ◌++◌, length, take, drop, get_or, refl}
use Rattle.std.proofs.Common.{sym, ap, ◌∙◌, append_assoc, arith, length-append, length-drop}
use Rattle.std.specs.Prelude.{All, slice_range}
use Rattle.std.specs.List.{flat_map}
use Rattle.std.proofs.lemmas.List.{append-nil, drop-append-le, drop-drop, drop-replicate, drop-take, drop_at}
use Rattle.std.proofs.lemmas.List.{length-replicate, length-take, take-append-le, take-replicate, take-take, take_all}
use Rattle.std.proofs.lemmas.List.{take_at, take_more}
use Rattle.std.proofs.lemmas.List.Elements.{All-nil, All-push}
use Rattle.qg_num.specs.Fields.{zeros}
use Rattle.qg_node.specs.declared.item.Item.{Item}
use Rattle.qg_node.specs.declared.pointer.Pointer.{Pointer}
use Rattle.qg_node.specs.Fits.{ItemFits, PointerFits}
use Rattle.qg_node.specs.Nodes.{items_bytes}
use Rattle.qg_node.specs.NodeText.{bodies, inner_text, item_header, item_headers, leaf_text, pointer_text}
use Rattle.qg_node.proofs.Texts.{bodies-push, item_headers-push, items_bytes-drop, items_bytes-parts}
use Rattle.qg_node.proofs.Texts.{length-item_headers, length-pointer_text, length-pointer_texts, pointer_texts-push}

-- ---- zeros cut in two

pub take_zeros : (n : ℕ) (bytes : List ℕ) → bytes ≡ zeros (length bytes) → n ≤ length bytes → take n bytes ≡ zeros n
take_zeros n bytes zero within = ap (take n) zero ∙ take-replicate n (length bytes) 0 within

pub drop_zeros : (n : ℕ) (bytes : List ℕ) → bytes ≡ zeros (length bytes) → drop n bytes ≡ zeros (length (drop n bytes))
drop_zeros n bytes zero = ap (drop n) zero ∙ drop-replicate n (length bytes) 0 ∙ ap zeros (sym (length-drop n bytes))

-- ---- items

-- a body that is put, and then a header in front of it
pub two_puts : (place begin : ℕ) (room body header : List ℕ) → length header ≡ 25 → place + 25 ≤ begin
    → begin ≤ length room
    → take place (take begin room ++ (body ++ drop (begin + length body) room))
    ++ (header ++ drop (place + length header) (take begin room ++ (body ++ drop (begin + length body) room)))
    ≡ take place room ++ (header ++ (slice_range room (place + 25) begin ++ (body ++ drop (begin + length body) room)))
two_puts place begin room body header long fits within =
    let tail : List ℕ = body ++ drop (begin + length body) room in
    let mid : List ℕ = take begin room ++ tail in
    let front : length (take begin room) ≡ begin = omega (arith, length-take begin room) in
    let first : take place mid ≡ take place room = take-append-le place (take begin room) tail (omega arith)
    ∙ take-take place begin room (omega arith) in
    let cut : begin ≡ (place + 25) + (begin - (place + 25)) = omega arith in
    let between : drop (place + 25) (take begin room) ≡ slice_range room (place + 25) begin =
    ap (λ (n : ℕ). drop (place + 25) (take n room)) cut ∙ drop-take (place + 25) (begin - (place + 25)) room in
    let second : drop (place + length header) mid ≡ slice_range room (place + 25) begin ++ tail =
    ap (λ (n : ℕ). drop (place + n) mid) long ∙ drop-append-le (place + 25) (take begin room) tail (omega arith)
    ∙ ap (λ (text : List ℕ). text ++ tail) between in
    ap (λ (text : List ℕ). text ++ (header ++ drop (place + length header) mid)) first
    ∙ ap (λ (text : List ℕ). take place room ++ (header ++ text)) second

-- the same where the room is zero between its two filled ends
two_puts_between : (place gap begin : ℕ) (front body header back : List ℕ) → length front ≡ place → place + 25 ≤ begin
    → begin + length body ≡ place + gap
    → take place (front ++ (zeros gap ++ back))
    ++ (header ++ (slice_range (front ++ (zeros gap ++ back)) (place + 25) begin
    ++ (body ++ drop (place + gap) (front ++ (zeros gap ++ back)))))
    ≡ (front ++ header) ++ (zeros (begin - (place + 25)) ++ (body ++ back))
two_puts_between place gap begin front body header back long fits end =
    let room : List ℕ = front ++ (zeros gap ++ back) in
    let behind : drop place room ≡ zeros gap ++ back = drop_at front (zeros gap ++ back) place long in
    let gap_long : length (zeros gap) ≡ gap = length-replicate {A = ℕ} gap 0 in
    let rest_long : length (zeros (gap - 25)) ≡ gap - 25 = length-replicate {A = ℕ} (gap - 25) 0 in
    let behind_header : drop (place + 25) room ≡ zeros (gap - 25) ++ back =
    sym (drop-drop 25 place room) ∙ ap (drop 25) behind ∙ drop-append-le 25 (zeros gap) back (omega arith)
    ∙ ap (λ (text : List ℕ). text ++ back) (drop-replicate 25 gap 0) in
    let between : slice_range room (place + 25) begin ≡ zeros (begin - (place + 25)) =
    ap (take (begin - (place + 25))) behind_header
    ∙ take-append-le (begin - (place + 25)) (zeros (gap - 25)) back (omega arith)
    ∙ take-replicate (begin - (place + 25)) (gap - 25) 0 (omega arith) in
    let last : drop (place + gap) room ≡ back = sym (drop-drop gap place room) ∙ ap (drop gap) behind
    ∙ drop_at (zeros gap) back gap gap_long in
    let first : take place room ≡ front = take_at front (zeros gap ++ back) place long in
    rw (first, between, last) (sym (append_assoc front header (zeros (begin - (place + 25)) ++ (body ++ back))))

-- the room of `size` bytes after i of the items, where the bodies begin at `begin`
pub record HoldsItems (items : List Item) (i begin size : ℕ) (room : List ℕ) : Type 0 where
  pub is : room ≡ item_headers size (take i items) ++ (zeros (begin - 25 * i) ++ bodies (take i items))
  pub ends : begin + length (bodies (take i items)) ≡ size
  pub fits : 25 * i + items_bytes (drop i items) ≤ begin
  pub fit : All ItemFits (take i items)

pub HoldsItems-none : (items : List Item) (room : List ℕ) → room ≡ zeros (length room) → items_bytes items ≤ length room
    → HoldsItems items 0 (length room) (length room) room
unfolding item_headers bodies
HoldsItems-none items room zero fits =
    let size = length room in
    let same : size ≡ size - 25 * 0 = omega arith in
    record {
      is = zero ∙ sym (append-nil (zeros size)) ∙ ap (λ (n : ℕ). zeros n ++ []) same;
      ends = omega arith;
      fits = omega arith;
      fit = All-nil ItemFits;
    }

pub HoldsItems-more : (items : List Item) (i end size begin : ℕ) (room new : List ℕ) (item : Item) → i < length items
    → item ≡ get_or items i item → ItemFits item → HoldsItems items i end size room
    → begin + length item.body ≡ end
    → new ≡ take (25 * i) room
    ++ (item_header end item ++ (slice_range room (25 * i + 25) begin ++ (item.body ++ drop end room)))
    → HoldsItems items (i + 1) begin size new
unfolding item_headers bodies
HoldsItems-more items i end size begin room new item within is small so_far ends put =
    let done = take i items in
    let more : take (i + 1) items ≡ done ++ item ∷ [] = take_more items i item within
    ∙ ap (λ (x : Item). done ++ x ∷ []) (sym is) in
    let left = items_bytes-drop items i item within is in
    let long : length (item_headers size done) ≡ 25 * i = length-item_headers size done
    ∙ ap (λ (n : ℕ). 25 * n) (omega (arith, length-take i items)) in
    let gap : 25 * i + (end - 25 * i) ≡ end = omega (arith, so_far.fits) in
    let filled : ℕ → List ℕ = λ n.
    take (25 * i) (item_headers size done ++ (zeros (end - 25 * i) ++ bodies done))
    ++ (item_header end item
    ++ (slice_range (item_headers size done ++ (zeros (end - 25 * i) ++ bodies done)) (25 * i + 25) begin
    ++ (item.body ++ drop n (item_headers size done ++ (zeros (end - 25 * i) ++ bodies done))))) in
    let step : filled end ≡ (item_headers size done ++ item_header end item)
    ++ (zeros (begin - (25 * i + 25)) ++ (item.body ++ bodies done)) =
    ap filled (sym gap)
    ∙ two_puts_between (25 * i) (end - 25 * i) begin (item_headers size done) item.body (item_header end item)
    (bodies done) long (omega (arith, so_far.fits, left)) (omega (arith, so_far.fits)) in
    let begins : size - length (bodies done) ≡ end = omega (arith, so_far.ends) in
    let headers : item_headers size (done ++ item ∷ []) ≡ item_headers size done ++ item_header end item =
    item_headers-push size done item ∙ ap (λ (n : ℕ). item_headers size done ++ item_header n item) begins in
    let zero : begin - (25 * i + 25) ≡ begin - 25 * (i + 1) = omega arith in
    record {
      is =
          put
          ∙ ap (λ (text : List ℕ). take (25 * i) text
          ++ (item_header end item ++ (slice_range text (25 * i + 25) begin ++ (item.body ++ drop end text))))
          so_far.is
          ∙ step
          ∙ rw (more, headers, bodies-push done item, zero) refl;
      ends = rw (more, bodies-push done item) (omega (arith, so_far.ends, length-append item.body (bodies done)));
      fits = omega (arith, so_far.fits, left);
      fit = rw more (All-push ItemFits done item so_far.fit small);
    }

pub HoldsItems-all : (items : List Item) (i begin size : ℕ) (room : List ℕ) → length items ≤ i → i ≤ length items
    → HoldsItems items i begin size room → room ≡ leaf_text size items
unfolding leaf_text
HoldsItems-all items i begin size room done within so_far =
    let all : take i items ≡ items = take_all i items (omega arith) in
    let ends : begin + length (bodies items) ≡ size = ap (λ (xs : List Item). begin + length (bodies xs)) (sym all)
    ∙ so_far.ends in
    let zero : begin - 25 * i ≡ size - items_bytes items = omega (arith, items_bytes-parts items) in
    so_far.is ∙ rw (all, zero) refl

pub HoldsItems-fit : (items : List Item) (i begin size : ℕ) (room : List ℕ) → length items ≤ i
    → HoldsItems items i begin size room → All ItemFits items
HoldsItems-fit items i begin size room done so_far = rw (take_all i items done) at so_far.fit

-- ---- pointers

-- the room of `size` bytes after i of the pointers
pub record HoldsPointers (pointers : List Pointer) (i size : ℕ) (room : List ℕ) : Type 0 where
  pub is : room ≡ flat_map pointer_text (take i pointers) ++ zeros (size - 33 * i)
  pub fit : All PointerFits (take i pointers)

pub HoldsPointers-none : (pointers : List Pointer) (room : List ℕ) → room ≡ zeros (length room)
    → HoldsPointers pointers 0 (length room) room
HoldsPointers-none pointers room zero =
    let same : length room ≡ length room - 33 * 0 = omega arith in
    record { is = zero ∙ ap zeros same; fit = All-nil PointerFits }

pub HoldsPointers-more : (pointers : List Pointer) (i size : ℕ) (room new text : List ℕ) (pointer : Pointer)
    → i < length pointers → pointer ≡ get_or pointers i pointer → PointerFits pointer → 33 * length pointers ≤ size
    → HoldsPointers pointers i size room → text ≡ pointer_text pointer
    → new ≡ take (33 * i) room ++ (text ++ drop (33 * i + length text) room)
    → HoldsPointers pointers (i + 1) size new
HoldsPointers-more pointers i size room new text pointer within is small fits so_far spelled put =
    let done = take i pointers in
    let front = flat_map pointer_text done in
    let more : take (i + 1) pointers ≡ done ++ pointer ∷ [] = take_more pointers i pointer within
    ∙ ap (λ (x : Pointer). done ++ x ∷ []) (sym is) in
    let long : length front ≡ 33 * i = length-pointer_texts done ∙ omega (arith, length-take i pointers) in
    let size_of : length text ≡ 33 = ap length spelled ∙ length-pointer_text pointer in
    let start : take (33 * i) room ≡ front = ap (take (33 * i)) so_far.is
    ∙ take_at front (zeros (size - 33 * i)) (33 * i) long in
    let gap : List ℕ = zeros (size - 33 * (i + 1)) in
    let left : size - 33 * i - length text ≡ size - 33 * (i + 1) = omega arith in
    let behind : drop (33 * i) room ≡ zeros (size - 33 * i) = ap (drop (33 * i)) so_far.is
    ∙ drop_at front (zeros (size - 33 * i)) (33 * i) long in
    let dropped : drop (length text) (zeros (size - 33 * i)) ≡ zeros (size - 33 * i - length text) =
    drop-replicate (length text) (size - 33 * i) 0 in
    let rest : drop (33 * i + length text) room ≡ gap = sym (drop-drop (length text) (33 * i) room)
    ∙ ap (drop (length text)) behind ∙ dropped ∙ ap zeros left in
    let placed : new ≡ front ++ (pointer_text pointer ++ gap) =
    put ∙ ap (λ (piece : List ℕ). piece ++ (text ++ drop (33 * i + length text) room)) start
    ∙ ap (λ (piece : List ℕ). front ++ (text ++ piece)) rest
    ∙ ap (λ (piece : List ℕ). front ++ (piece ++ gap)) spelled in
    let texts : front ++ pointer_text pointer ≡ flat_map pointer_text (take (i + 1) pointers) =
    sym (pointer_texts-push done pointer) ∙ ap (flat_map pointer_text) (sym more) in
    record {
      is = placed ∙ sym (append_assoc front (pointer_text pointer) gap) ∙ ap (λ (piece : List ℕ). piece ++ gap) texts;
      fit = rw more (All-push PointerFits done pointer so_far.fit small);
    }

pub HoldsPointers-all : (pointers : List Pointer) (i size : ℕ) (room : List ℕ) → length pointers ≤ i
    → i ≤ length pointers → HoldsPointers pointers i size room → room ≡ inner_text size pointers
unfolding inner_text
HoldsPointers-all pointers i size room done within so_far =
    let all : i ≡ length pointers = omega arith in
    so_far.is ∙ rw (take_all i pointers done, all) refl

pub HoldsPointers-fit : (pointers : List Pointer) (i size : ℕ) (room : List ℕ) → length pointers ≤ i
    → HoldsPointers pointers i size room → All PointerFits pointers
HoldsPointers-fit pointers i size room done so_far = rw (take_all i pointers done) at so_far.fit
