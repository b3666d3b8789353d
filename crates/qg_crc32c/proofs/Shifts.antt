-- Shifts go over an xor, so a number may be divided part by part.
use Rattle.std.proofs.Common.{◌≡◌, ℕ, zero, suc, ◌+◌, ◌*◌, ◌/◌, ◌%◌, ◌^◌, ◌<◌, refl, sym, ap, ◌∙◌, arith, inl, inr, ◌⊎◌}
use Rattle.std.specs.Prelude.{bit_xor}
use Rattle.std.specs.Int.Bits.{xor_assoc, xor_self, xor_zero_l, xor_zero_r}
use Rattle.std.proofs.lemmas.Nat.{xor_comm, xor_shr, xor_mod, xor_block}
use Rattle.qg_crc32c.specs.Crc32c.{shift, shifts}

-- ---- regrouping

pub xor_swap : (a b c d : ℕ) → bit_xor (bit_xor a b) (bit_xor c d) ≡ bit_xor (bit_xor a c) (bit_xor b d)
xor_swap a b c d =
    xor_assoc a b (bit_xor c d)
    ∙ ap (λ (z : ℕ). bit_xor a z) (sym (xor_assoc b c d) ∙ ap (λ (z : ℕ). bit_xor z d) (xor_comm b c)
    ∙ xor_assoc c b d) ∙ sym (xor_assoc a c (bit_xor b d))

-- ---- one shift

pub parity : (n : ℕ) → (n % 2 ≡ 0) ⊎ (n % 2 ≡ 1)
parity n = elim (less (n % 2) (omega arith)) [ inl e ↦ inl e | inr e ↦ inr e ] where
  less : (m : ℕ) → m < 2 → (m ≡ 0) ⊎ (m ≡ 1)
  less zero h = inl refl
  less (suc zero) h = inr refl
  less (suc (suc m)) h = absurd (omega arith)

pub shift-even : (r : ℕ) → r % 2 ≡ 0 → shift r ≡ r / 2
unfolding shift
shift-even r e = rw e refl

pub shift-odd : (r : ℕ) → r % 2 ≡ 1 → shift r ≡ bit_xor (r / 2) 0x82F63B78
unfolding shift
shift-odd r e = rw e refl

mod-xor : (a b x y : ℕ) → a % 2 ≡ x → b % 2 ≡ y → bit_xor a b % 2 ≡ bit_xor x y
mod-xor a b x y p q = xor_mod a b 1 ∙ rw (p, q) refl

half-xor : (a b : ℕ) → bit_xor a b / 2 ≡ bit_xor (a / 2) (b / 2)
half-xor a b = xor_shr a b 1

shift-xor : (a b : ℕ) → shift (bit_xor a b) ≡ bit_xor (shift a) (shift b)
shift-xor a b =
    elim (parity a) [
      | inl p ↦ elim (parity b) [
        | inl q ↦ shift-even (bit_xor a b) (mod-xor a b 0 0 p q) ∙ half-xor a b
            ∙ rw (shift-even a p, shift-even b q) refl
        | inr q ↦ shift-odd (bit_xor a b) (mod-xor a b 0 1 p q)
            ∙ rw (half-xor a b, shift-even a p, shift-odd b q) (xor_assoc (a / 2) (b / 2) 0x82F63B78)
      ]
      | inr p ↦ elim (parity b) [
        | inl q ↦ shift-odd (bit_xor a b) (mod-xor a b 1 0 p q)
            ∙ rw (half-xor a b, shift-odd a p, shift-even b q) (turn (a / 2) (b / 2) 0x82F63B78)
        | inr q ↦ shift-even (bit_xor a b) (mod-xor a b 1 1 p q)
            ∙ rw (half-xor a b, shift-odd a p, shift-odd b q) (twice (a / 2) (b / 2) 0x82F63B78)
      ]
    ] where
      turn : (x y p : ℕ) → bit_xor (bit_xor x y) p ≡ bit_xor (bit_xor x p) y
      turn x y p = xor_assoc x y p ∙ ap (λ (z : ℕ). bit_xor x z) (xor_comm y p) ∙ sym (xor_assoc x p y)

      twice : (x y p : ℕ) → bit_xor x y ≡ bit_xor (bit_xor x p) (bit_xor y p)
      twice x y p = sym (xor_swap x p y p ∙ rw (xor_self p) (xor_zero_r (bit_xor x y)))

-- ---- many shifts

pub shifts-xor : (k a b : ℕ) → shifts k (bit_xor a b) ≡ bit_xor (shifts k a) (shifts k b)
unfolding shifts
shifts-xor zero a b = refl
shifts-xor (suc k) a b = ap (shifts k) (shift-xor a b) ∙ shifts-xor k (shift a) (shift b)

pub shifts-none : (r : ℕ) → shifts 0 r ≡ r
unfolding shifts
shifts-none r = refl

pub shifts-zero : (k : ℕ) → shifts k 0 ≡ 0
unfolding shifts
shifts-zero zero = refl
shifts-zero (suc k) = ap (shifts k) (shift-even 0 refl) ∙ shifts-zero k

pub shifts-add : (m n r : ℕ) → shifts (m + n) r ≡ shifts n (shifts m r)
unfolding shifts
shifts-add zero n r = let e : 0 + n ≡ n = omega arith in rw e refl
shifts-add (suc m) n r = let e : suc m + n ≡ suc (m + n) = omega arith in rw e (shifts-add m n (shift r))

-- the two in either order
pub shifts-turn : (m n r : ℕ) → shifts m (shifts n r) ≡ shifts n (shifts m r)
shifts-turn m n r = let e : n + m ≡ m + n = omega arith in sym (shifts-add n m r) ∙ ap (λ (z : ℕ). shifts z r) e
    ∙ shifts-add m n r

-- ---- a byte and what stands above it

shift-twice : (x : ℕ) → shift (2 * x) ≡ x
shift-twice x = shift-even (2 * x) (omega arith) ∙ omega arith

-- eight zeros fall out
pub shifts-byte_of_zeros : (h : ℕ) → shifts 8 (h * 256) ≡ h
unfolding shifts
shifts-byte_of_zeros h =
    let e : h * 256 ≡ 2 * (2 * (2 * (2 * (2 * (2 * (2 * (2 * h))))))) = omega arith in
    rw (
      e,
      shift-twice (2 * (2 * (2 * (2 * (2 * (2 * (2 * h))))))),
      shift-twice (2 * (2 * (2 * (2 * (2 * (2 * h)))))),
      shift-twice (2 * (2 * (2 * (2 * (2 * h))))),
      shift-twice (2 * (2 * (2 * (2 * h)))),
      shift-twice
          (2 * (2 * (2 * h))),
      shift-twice (2 * (2 * h)),
      shift-twice (2 * h),
      shift-twice h,
    ) refl

-- a byte and what stands above it
pub xor-above_byte : (b h : ℕ) → b < 256 → bit_xor b (h * 256) ≡ b + 256 * h
xor-above_byte b h fits =
    let low : 0 * 2 ^ 8 + b ≡ b = omega arith in
    let high : h * 2 ^ 8 + 0 ≡ h * 256 = omega arith in
    ap (λ (z : ℕ). bit_xor z (h * 256)) (sym low) ∙ ap (λ (z : ℕ). bit_xor (0 * 2 ^ 8 + b) z) (sym high)
    ∙ xor_block 8 0 h b 0 (omega arith) (omega arith) ∙ rw (xor_zero_l h, xor_zero_r b) (omega arith)

-- half a byte and what stands above it
pub xor-above_half : (b h : ℕ) → b < 16 → bit_xor b (h * 16) ≡ b + 16 * h
xor-above_half b h fits =
    let low : 0 * 2 ^ 4 + b ≡ b = omega arith in
    let high : h * 2 ^ 4 + 0 ≡ h * 16 = omega arith in
    ap (λ (z : ℕ). bit_xor z (h * 16)) (sym low) ∙ ap (λ (z : ℕ). bit_xor (0 * 2 ^ 4 + b) z) (sym high)
    ∙ xor_block 4 0 h b 0 (omega arith) (omega arith) ∙ rw (xor_zero_l h, xor_zero_r b) (omega arith)

-- a byte goes in, by its own remainder and what is above it
pub shifts-split : (n r : ℕ) → shifts (n + 8) r ≡ bit_xor (shifts (n + 8) (r % 256)) (shifts n (r / 256))
shifts-split n r =
    let e : n + 8 ≡ 8 + n = omega arith in
    rw e (shifts-add 8 n r ∙ ap (shifts n)
    (ap (shifts 8) (sym (xor-above_byte (r % 256) (r / 256) (omega arith) ∙ omega arith))
    ∙ shifts-xor 8 (r % 256) (r / 256 * 256)
    ∙ ap (λ (z : ℕ). bit_xor (shifts 8 (r % 256)) z) (shifts-byte_of_zeros (r / 256)))
    ∙ shifts-xor n (shifts 8 (r % 256)) (r / 256)
    ∙ ap (λ (z : ℕ). bit_xor z (shifts n (r / 256))) (sym (shifts-add 8 n (r % 256))))
