-- Lists of changes in which no address stands twice.
use Rattle.std.proofs.Common.{List, [], ◌∷◌, map}
use Rattle.std.specs.List.{AllByRecursion, Contains, IsDistinct}
use Rattle.qg_image.proofs.Contained.{contains_here, contains_later}
use Rattle.qg_account.specs.Laws.{list_alike}

pub none-listed : IsDistinct list_alike []
unfolding IsDistinct
none-listed = tt

pub all-mapped : {A B : Type 0} (f : A → B) (P : B → Type 0) (xs : List A) → AllByRecursion (λ x. P (f x)) xs
    → AllByRecursion P (map f xs)
all-mapped f P [] all = tt
all-mapped f P (x ∷ xs) all = (all.0, all-mapped f P xs all.1)

pub all-each : {A : Type 0} (P : A → Type 0) (xs : List A) → ((x : A) → Contains xs x → P x) → AllByRecursion P xs
all-each P [] each = tt
all-each P (x ∷ xs) each = (each x (contains_here x xs), all-each P xs (λ y has. each y (contains_later x xs y has)))
