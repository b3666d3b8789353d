-- What holds of any item whose text and reading undo each other.
use Rattle.std.proofs.Common.{◌≡◌, ℕ, Bool, true, false, List, Option, Some, refl, sym, ap, ◌∙◌}
use Rattle.std.specs.Bool.{then_some}
use Rattle.std.proofs.lemmas.Option.{none-some, same_Some}
use Rattle.qg_num.specs.Fields.{IsBytes}
use Rattle.qg_items.specs.Laws.{RoundTrips}

-- what is read under a test passes it
pub then_some_parts : {A : Type 0} (b : Bool) (x y : A) → then_some b x ≡ Some y → (b ≡ true) × (x ≡ y)
then_some_parts true x y is = (refl, same_Some x y is)
then_some_parts false x y is = absurd (none-some y is)

pub round_trips : {Item : Type 0} (Fits : Item → Type 0) (text : Item → List ℕ) (read : List ℕ → Option Item)
    → ((item : Item) → Fits item → read (text item) ≡ Some item)
    → ((bytes : List ℕ) (item : Item) → IsBytes bytes → read bytes ≡ Some item → bytes ≡ text item)
    → ((bytes : List ℕ) (item : Item) → IsBytes bytes → read bytes ≡ Some item → Fits item)
    → RoundTrips Fits text read
round_trips Fits text read back again fits = record {
  reads_back = back;
  writes_back = again;
  fits = fits;
  one_item = λ a b fits_a fits_b same. same_Some a b (sym (back a fits_a) ∙ ap read same ∙ back b fits_b);
  one_text = λ a b item are_a are_b read_a read_b. again a item are_a read_a ∙ sym (again b item are_b read_b);
}
