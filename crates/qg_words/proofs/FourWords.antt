-- Words one by one.
use Rattle.std.proofs.Common.{◌≡◌, ℕ, Bool, true, false, IsTrue, ◌^◌, ◌≤◌, ◌<◌, List, [], ◌∷◌, length, get_or, sym, ◌∙◌}
use Rattle.std.proofs.Common.{arith, refl, String, Global}
use Rattle.std.specs.Prelude.{◌↔◌, ◌&&◌, string_bytes, codes}
use Rattle.std.specs.Fmt.{decimal}
use Rattle.qg_super.specs.declared.sizes.Sizes.{Sizes}
use Rattle.std.proofs.lemmas.Bool.{false≢true}
use Rattle.qg_words.specs.Words.{SizesFit, AskForImage, AskForLines, generate_words, mkfs_words, texts}

-- a word at a place, and its text
pub record IsWord (words : List (String Global)) (place : ℕ) (word : String Global) (text : List ℕ) : Type 0 where
  pub stands : word ≡ get_or words place word
  pub text_is : text ≡ string_bytes word

-- the text of one word
pub one_text :
    {words : List (String Global)} {a : String Global} {ta : List ℕ}
    → 1 ≤ length words → length words < 2 → IsWord words 0 a ta → texts words ≡ ta ∷ []
one_text {words = []} some few a = absurd (omega arith)
one_text {words = w ∷ []} some few a = rw a.text_is (rw a.stands refl)
one_text {words = w ∷ x ∷ words} some few a = absurd (omega arith)

-- the texts of three words
pub three_texts :
    {words : List (String Global)} {a b c : String Global} {ta tb tc : List ℕ}
    → 3 ≤ length words → length words < 4
    → IsWord words 0 a ta → IsWord words 1 b tb → IsWord words 2 c tc
    → texts words ≡ ta ∷ tb ∷ tc ∷ []
three_texts {words = []} some few a b c = absurd (omega arith)
three_texts {words = w ∷ []} some few a b c = absurd (omega arith)
three_texts {words = w ∷ x ∷ []} some few a b c = absurd (omega arith)
three_texts {words = w ∷ x ∷ y ∷ []} some few a b c =
    rw a.text_is (rw b.text_is (rw c.text_is (rw a.stands (rw b.stands (rw c.stands refl)))))
three_texts {words = w ∷ x ∷ y ∷ z ∷ words} some few a b c = absurd (omega arith)

-- the texts of four words
pub four_texts :
    {words : List (String Global)} {a b c d : String Global} {ta tb tc td : List ℕ}
    → 4 ≤ length words → length words < 5
    → IsWord words 0 a ta → IsWord words 1 b tb → IsWord words 2 c tc → IsWord words 3 d td
    → texts words ≡ ta ∷ tb ∷ tc ∷ td ∷ []
four_texts {words = []} some few a b c d = absurd (omega arith)
four_texts {words = w ∷ []} some few a b c d = absurd (omega arith)
four_texts {words = w ∷ x ∷ []} some few a b c d = absurd (omega arith)
four_texts {words = w ∷ x ∷ y ∷ []} some few a b c d = absurd (omega arith)
four_texts {words = w ∷ x ∷ y ∷ z ∷ []} some few a b c d =
    rw a.text_is (rw b.text_is
    (rw c.text_is (rw d.text_is (rw a.stands (rw b.stands (rw c.stands (rw d.stands refl)))))))
four_texts {words = w ∷ x ∷ y ∷ z ∷ v ∷ words} some few a b c d = absurd (omega arith)

-- both tests pass exactly where both facts hold
pub both-hold : {a b : Bool} {A B : Type 0} → (IsTrue a ↔ A) → (IsTrue b ↔ B) → (IsTrue (a && b) ↔ (A × B))
both-hold {a = true} {b = true} first second = (λ is. (first.0 refl, second.0 refl), λ are. refl)
both-hold {a = true} {b = false} first second = (λ is. absurd cc, λ are. absurd (false≢true (second.1 are.1)))
both-hold {a = false} first second = (λ is. absurd cc, λ are. absurd (false≢true (first.1 are.0)))

-- four words are those of an image of these sizes exactly where each is what it should be
pub image-spelled :
    (test : Bool) (sizes : Sizes) {words : List (List ℕ)} {name nodesize slots sectors : List ℕ}
    → words ≡ name ∷ nodesize ∷ slots ∷ sectors ∷ [] → SizesFit sizes
    → (IsTrue test ↔ ((((name ≡ codes "mkfs") × (nodesize ≡ decimal sizes.nodesize)) × (slots ≡ decimal sizes.slots))
    × (sectors ≡ decimal sizes.sectors)))
    → (IsTrue test ↔ AskForImage words sizes)
image-spelled test sizes {words} {name} {nodesize} {slots} {sectors} are fits holds = (
  λ is. let each = holds.0 is in
      record { fits = fits; are = are ∙ rw (each.0.0.0, each.0.0.1, each.0.1, each.1) refl },
  λ ask. let same : name ∷ nodesize ∷ slots ∷ sectors ∷ [] ≡ mkfs_words sizes = sym are ∙ ask.are in
      let named : name ≡ codes "mkfs" = cc in
      let first : nodesize ≡ decimal sizes.nodesize = cc in
      let second : slots ≡ decimal sizes.slots = cc in
      let third : sectors ≡ decimal sizes.sectors = cc in
      holds.1 (((named, first), second), third),
)

-- and three words those of so many lines of a seed
pub lines-spelled :
    (test : Bool) (a b : ℕ) {words : List (List ℕ)} {name seed count : List ℕ}
    → words ≡ name ∷ seed ∷ count ∷ [] → a < 2 ^ 64 → b < 2 ^ 64
    → (IsTrue test ↔ (((name ≡ codes "gen") × (seed ≡ decimal a)) × (count ≡ decimal b)))
    → (IsTrue test ↔ AskForLines words a b)
lines-spelled test a b {words} {name} {seed} {count} are fits_a fits_b holds = (
  λ is. let each = holds.0 is in
      record { seed_fits = fits_a; count_fits = fits_b; are = are ∙ rw (each.0.0, each.0.1, each.1) refl },
  λ ask. let same : name ∷ seed ∷ count ∷ [] ≡ generate_words a b = sym are ∙ ask.are in
      let named : name ≡ codes "gen" = cc in
      let first : seed ≡ decimal a = cc in
      let second : count ≡ decimal b = cc in
      holds.1 ((named, first), second),
)
