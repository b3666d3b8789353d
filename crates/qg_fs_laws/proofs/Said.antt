-- What items say, where all of them say something, and what they name then.
use Rattle.std.proofs.Common.{◌≡◌, ℕ, suc, ◌≤◌, Bool, true, false, List, [], ◌∷◌, map, length, Option, Some}
use Rattle.std.proofs.Common.{None, refl, sym, ap, ◌∙◌, arith, inl, inr}
use Rattle.std.specs.Prelude.{◌&&◌, ◌||◌, ◌==◌, nat_lt, if◌then◌else◌}
use Rattle.std.specs.List.{Contains, cons_option, filter_map, flat_map, fold, list_any}
use Rattle.std.specs.Option.{option_map}
use Rattle.std.proofs.lemmas.Bool.{cases_Bool, cond-false, cond-true, eqb-true}
use Rattle.std.proofs.lemmas.List.Concat.{flat_map-cons}
use Rattle.std.proofs.lemmas.List.Folds.{list_any-append}
use Rattle.qg_node.specs.declared.item.Item.{Item}
use Rattle.qg_items.specs.declared.root.RootItem.{RootItem}
use Rattle.qg_image.specs.declared.part.ExtentPart.{ExtentPart}
use Rattle.qg_image.specs.declared.part.QuotaPart.{QuotaPart}
use Rattle.qg_image.specs.ItemMeaning.{extent_part, first_some, quota_part, root_part}
use Rattle.qg_image.specs.Table.{keys_of, with_value}
use Rattle.qg_image.specs.declared.quota.Group.{Group}
use Rattle.qg_image.specs.Record.{Record, InfoOf, LimitOf, RelationOf, RootOf, extent_record, quota_record}
use Rattle.qg_image.specs.Record.{record_named}
use Rattle.qg_image.proofs.Contained.{contains_here, contains_later}
use Rattle.qg_machine.specs.GroupChange.{same_pair, with_pair}
use Rattle.qg_qgroups.proofs.Sets.{pair_is}
use Rattle.qg_quota.specs.Written.{both_ways, info_part, limit_part, relation_part}

-- ---- lists that are the same

pub first-is : {X : Type 0} (x y : X) (xs ys : List X) → x ∷ xs ≡ y ∷ ys → x ≡ y
first-is x y xs ys is = cc

pub rest-is : {X : Type 0} (x y : X) (xs ys : List X) → x ∷ xs ≡ y ∷ ys → xs ≡ ys
rest-is x y xs ys is = cc

pub none-some : {X : Type 0} (x : X) (xs : List X) → [] ≡ x ∷ xs → ⊥
none-some x xs is = cc

pub some-none : {X : Type 0} (x : X) (xs : List X) → x ∷ xs ≡ [] → ⊥
some-none x xs is = cc

-- ---- all say something

few_said : {X Y : Type 0} (f : X → Option Y) (xs : List X) → length (filter_map f xs) ≤ length xs
few_said f [] = omega arith
few_said {X} {Y} f (x ∷ xs) = one (f x) (few_said f xs) where
  one : (o : Option Y) → length (filter_map f xs) ≤ length xs
      → length (cons_option o (filter_map f xs)) ≤ suc (length xs)
  one None rest = omega (arith, rest)
  one (Some y) rest = omega (arith, rest)

-- as many as there are, so each says its own
pub all-said : {X Y : Type 0} (f : X → Option Y) (xs : List X) (ys : List Y) → length xs ≡ length ys
    → filter_map f xs ≡ ys → map f xs ≡ map (λ (y : Y). Some y) ys
all-said f [] [] long said = refl
all-said f [] (y ∷ ys) long said = absurd (omega (arith, long))
all-said f (x ∷ xs) [] long said = absurd (omega (arith, long))
all-said {X} {Y} f (x ∷ xs) (y ∷ ys) long said =
    one (f x) said (λ rest. all-said f xs ys (omega (arith, long)) rest) where
      one : (o : Option Y) → cons_option o (filter_map f xs) ≡ y ∷ ys
          → (filter_map f xs ≡ ys → map f xs ≡ map (λ (y : Y). Some y) ys)
          → o ∷ map f xs ≡ Some y ∷ map (λ (y : Y). Some y) ys
      one None is later =
          let few = few_said f xs in
          let many : length (filter_map f xs) ≡ suc (length ys) = ap (λ (zs : List Y). length zs) is in
          absurd (omega (arith, long, few, many))
      one (Some z) is later =
          let first = first-is z y (filter_map f xs) ys is in
          let rest = later (rest-is z y (filter_map f xs) ys is) in
          λ i. Some (first i) ∷ rest i

-- ---- what they name

root_named : (item : Item) (root : ℕ × RootItem) → root_part item ≡ Some root → record_named item ≡ Some (RootOf root.0)
unfolding record_named
root_named item root is =
    ap (λ (o : Option (ℕ × RootItem)). first_some
    (option_map (λ (entry : ℕ × RootItem). RootOf entry.0) o ∷ option_map extent_record (extent_part item)
    ∷ option_map quota_record (quota_part item) ∷ [])) is

-- items that all say a root name these trees
pub roots-named : (items : List Item) (roots : List (ℕ × RootItem))
    → map root_part items ≡ map (λ (root : ℕ × RootItem). Some root) roots
    → filter_map record_named items ≡ map RootOf (keys_of roots)
roots-named [] [] said = refl
roots-named [] (root ∷ roots) said =
    absurd (none-some (Some root) (map (λ (r : ℕ × RootItem). Some r) roots) said)
roots-named (item ∷ items) [] said = absurd (some-none (root_part item) (map root_part items) said)
roots-named (item ∷ items) (root ∷ roots) said =
    let own = root_named item root (first-is (root_part item) (Some root) (map root_part items)
    (map (λ (r : ℕ × RootItem). Some r) roots) said) in
    let later = roots-named items roots (rest-is (root_part item) (Some root) (map root_part items)
    (map (λ (r : ℕ × RootItem). Some r) roots) said) in
    ap (λ (o : Option Record). cons_option o (filter_map record_named items)) own
    ∙ ap (λ (records : List Record). RootOf root.0 ∷ records) later

-- an item says nothing of the root and the extent tree
pub record IsOfQuota (item : Item) : Type 0 where
  pub root : root_part item ≡ None
  pub extent : extent_part item ≡ None

quota_named : (item : Item) (part : QuotaPart) → IsOfQuota item → quota_part item ≡ Some part
    → record_named item ≡ Some (quota_record part)
unfolding record_named
quota_named item part none is =
    ap (λ (o : Option (ℕ × RootItem)). first_some
    (option_map (λ (entry : ℕ × RootItem). RootOf entry.0) o ∷ option_map extent_record (extent_part item)
    ∷ option_map quota_record (quota_part item) ∷ [])) none.root
    ∙ ap (λ (o : Option ExtentPart). first_some
    (None ∷ option_map extent_record o ∷ option_map quota_record (quota_part item) ∷ [])) none.extent
    ∙ ap (λ (o : Option QuotaPart). first_some (None ∷ None ∷ option_map quota_record o ∷ [])) is

pub quotas-named : (items : List Item) (parts : List QuotaPart)
    → ((item : Item) → Contains items item → IsOfQuota item)
    → map quota_part items ≡ map (λ (part : QuotaPart). Some part) parts
    → filter_map record_named items ≡ map quota_record parts
quotas-named [] [] each said = refl
quotas-named [] (part ∷ parts) each said =
    absurd (none-some (Some part) (map (λ (p : QuotaPart). Some p) parts) said)
quotas-named (item ∷ items) [] each said = absurd (some-none (quota_part item) (map quota_part items) said)
quotas-named (item ∷ items) (part ∷ parts) each said =
    let own = quota_named item part (each item (contains_here item items))
    (first-is (quota_part item) (Some part) (map quota_part items) (map (λ (p : QuotaPart). Some p) parts) said) in
    let later = quotas-named items parts (λ other has. each other (contains_later item items other has))
    (rest-is (quota_part item) (Some part) (map quota_part items) (map (λ (p : QuotaPart). Some p) parts) said) in
    ap (λ (o : Option Record). cons_option o (filter_map record_named items)) own
    ∙ ap (λ (records : List Record). quota_record part ∷ records) later

-- items of which none says a part say none
pub none-said : {X Y : Type 0} (f : X → Option Y) (xs : List X) → ((x : X) → Contains xs x → f x ≡ None)
    → filter_map f xs ≡ []
none-said f [] each = refl
none-said {X} {Y} f (x ∷ xs) each =
    ap (λ (o : Option Y). cons_option o (filter_map f xs)) (each x (contains_here x xs))
    ∙ none-said f xs (λ y has. each y (contains_later x xs y has))

-- ---- tests

pub any-mapped : {A B : Type 0} (p : B → Bool) (f : A → B) (xs : List A)
    → list_any p (map f xs) ≡ list_any (λ (x : A). p (f x)) xs
any-mapped p f [] = refl
any-mapped {A} {B} p f (x ∷ xs) = ap (λ (b : Bool). p (f x) || b) (any-mapped p f xs)

or_again : (a b : Bool) → (a || b) ≡ (a || (a || b))
or_again true b = refl
or_again false b = refl

or_turned : (a b c : Bool) → (a || (b || c)) ≡ (b || (a || c))
or_turned true true c = refl
or_turned true false c = refl
or_turned false b c = refl

-- a table's numbers with one more pass a test as that number and the others do
pub any-with : {A : Type 0} (p : ℕ → Bool) (n : ℕ) (value : A) (table : List (ℕ × A))
    → list_any p (keys_of (with_value n value table)) ≡ (p n || list_any p (keys_of table))
any-with p n value [] = refl
any-with {A} p n value (entry ∷ table) =
    let here : List (ℕ × A) = (n, value) ∷ entry ∷ table in
    let instead : List (ℕ × A) = (n, value) ∷ table in
    let behind : List (ℕ × A) = entry ∷ with_value n value table in
    let either : List (ℕ × A) = if entry.0 == n then instead else behind in
    elim (cases_Bool (nat_lt n entry.0)) [
      | inl before ↦
          ap (λ (t : List (ℕ × A)). list_any p (keys_of t)) (cond-true (nat_lt n entry.0) here either before)
      | inr later ↦ elim (cases_Bool (entry.0 == n)) [
        | inl same ↦
            let is : entry.0 ≡ n = eqb-true entry.0 n same in
            ap (λ (t : List (ℕ × A)). list_any p (keys_of t))
            (cond-false (nat_lt n entry.0) here either later ∙ cond-true (entry.0 == n) instead behind same)
            ∙ or_again (p n) (list_any p (keys_of table))
            ∙ ap (λ (k : ℕ). p n || (p k || list_any p (keys_of table))) (sym is)
        | inr differ ↦
            ap (λ (t : List (ℕ × A)). list_any p (keys_of t))
            (cond-false (nat_lt n entry.0) here either later ∙ cond-false (entry.0 == n) instead behind differ)
            ∙ ap (λ (b : Bool). p entry.0 || b) (any-with p n value table)
            ∙ or_turned (p entry.0) (p n) (list_any p (keys_of table))
      ]
    ]

-- ---- groups

pub infos-named : (groups : List (ℕ × Group)) → map quota_record (map info_part groups) ≡ map InfoOf (keys_of groups)
infos-named [] = refl
infos-named (entry ∷ groups) = ap (λ (records : List Record). InfoOf entry.0 ∷ records) (infos-named groups)

pub limits-named : (groups : List (ℕ × Group))
    → map quota_record (map limit_part groups) ≡ map LimitOf (keys_of groups)
limits-named [] = refl
limits-named (entry ∷ groups) = ap (λ (records : List Record). LimitOf entry.0 ∷ records) (limits-named groups)

or_four : (a b x y : Bool) → ((a || b) || (x || y)) ≡ ((a || x) || (b || y))
or_four true b x y = refl
or_four false true true y = refl
or_four false true false y = refl
or_four false false x y = refl

abbrev pub both_of : ℕ → List Record
both_of group = InfoOf group ∷ LimitOf group ∷ []

-- each group's two records, one after the other, pass a test as all of one kind and all of the other do
pub any-both : (p : Record → Bool) (groups : List ℕ)
    → list_any p (flat_map both_of groups) ≡ (list_any p (map InfoOf groups) || list_any p (map LimitOf groups))
any-both p [] = refl
any-both p (group ∷ groups) =
    ap (λ (records : List Record). list_any p records) (flat_map-cons both_of group groups)
    ∙ list_any-append p (both_of group) (flat_map both_of groups)
    ∙ ap (λ (b : Bool). (p (InfoOf group) || (p (LimitOf group) || false)) || b) (any-both p groups)
    ∙ ap (λ (b : Bool). (p (InfoOf group) || b) || (list_any p (map InfoOf groups) || list_any p (map LimitOf groups)))
    (or_none (p (LimitOf group)))
    ∙ or_four (p (InfoOf group)) (p (LimitOf group)) (list_any p (map InfoOf groups)) (list_any p (map LimitOf groups))
  where
    or_none : (a : Bool) → (a || false) ≡ a
    or_none true = refl
    or_none false = refl

-- ---- relations

-- a relation under one of its keys
abbrev pub relation_of : ℕ × ℕ → Record
relation_of pair = RelationOf pair.0 pair.1

-- and under both
abbrev pub related : ℕ × ℕ → List Record
related pair = RelationOf pair.0 pair.1 ∷ RelationOf pair.1 pair.0 ∷ []

pub relations-named : (pairs : List (ℕ × ℕ)) → map quota_record (map relation_part pairs) ≡ map relation_of pairs
relations-named [] = refl
relations-named (pair ∷ pairs) = ap (λ (records : List Record). relation_of pair ∷ records) (relations-named pairs)

-- relations with one more pass a test as that one and the others do
any_pair : (p : ℕ × ℕ → Bool) (pair : ℕ × ℕ) (pairs : List (ℕ × ℕ))
    → list_any p (with_pair pair pairs) ≡ (p pair || list_any p pairs)
any_pair p pair [] = refl
any_pair p pair (other ∷ pairs) =
    let test = nat_lt pair.0 other.0 || ((pair.0 == other.0) && nat_lt pair.1 other.1) in
    let here : List (ℕ × ℕ) = pair ∷ other ∷ pairs in
    let there : List (ℕ × ℕ) = other ∷ pairs in
    let behind : List (ℕ × ℕ) = other ∷ with_pair pair pairs in
    let either : List (ℕ × ℕ) = if same_pair pair other then there else behind in
    elim (cases_Bool test) [
      | inl before ↦ ap (λ (list : List (ℕ × ℕ)). list_any p list) (cond-true test here either before)
      | inr later ↦ elim (cases_Bool (same_pair pair other)) [
        | inl same ↦
            ap (λ (list : List (ℕ × ℕ)). list_any p list)
            (cond-false test here either later ∙ cond-true (same_pair pair other) there behind same)
            ∙ or_again (p other) (list_any p pairs)
            ∙ ap (λ (q : ℕ × ℕ). p q || (p other || list_any p pairs)) (sym (pair_is pair other same))
        | inr differ ↦
            ap (λ (list : List (ℕ × ℕ)). list_any p list)
            (cond-false test here either later ∙ cond-false (same_pair pair other) there behind differ)
            ∙ ap (λ (b : Bool). p other || b) (any_pair p pair pairs)
            ∙ or_turned (p other) (p pair) (list_any p pairs)
      ]
    ]

or_later : (a b c : Bool) → (b || (a || c)) ≡ ((a || b) || c)
or_later true true c = refl
or_later true false c = refl
or_later false b c = refl

-- so do those that are put in one after the other
any_put : (p : ℕ × ℕ → Bool) (turned : ℕ × ℕ → ℕ × ℕ) (pairs made : List (ℕ × ℕ))
    → list_any p (fold (λ done pair. with_pair (turned pair) done) made pairs)
    ≡ (list_any (λ pair. p (turned pair)) pairs || list_any p made)
any_put p turned [] made = refl
any_put p turned (pair ∷ pairs) made =
    any_put p turned pairs (with_pair (turned pair) made)
    ∙ ap (λ (b : Bool). list_any (λ (q : ℕ × ℕ). p (turned q)) pairs || b) (any_pair p (turned pair) made)
    ∙ or_later (p (turned pair)) (list_any (λ (q : ℕ × ℕ). p (turned q)) pairs) (list_any p made)

or_spread : (a b x y : Bool) → (a || (b || (x || y))) ≡ ((a || x) || (b || y))
or_spread true b x y = refl
or_spread false true true y = refl
or_spread false true false y = refl
or_spread false false x y = refl

any_related : (p : Record → Bool) (pairs : List (ℕ × ℕ))
    → list_any p (flat_map related pairs)
    ≡ (list_any (λ pair. p (RelationOf pair.0 pair.1)) pairs || list_any (λ pair. p (RelationOf pair.1 pair.0)) pairs)
any_related p [] = refl
any_related p (pair ∷ pairs) =
    ap (λ (records : List Record). list_any p records) (flat_map-cons related pair pairs)
    ∙ list_any-append p (related pair) (flat_map related pairs)
    ∙ or_flat (p (RelationOf pair.0 pair.1)) (p (RelationOf pair.1 pair.0)) (list_any p (flat_map related pairs))
    ∙ ap (λ (b : Bool). p (RelationOf pair.0 pair.1) || (p (RelationOf pair.1 pair.0) || b)) (any_related p pairs)
    ∙ or_spread (p (RelationOf pair.0 pair.1)) (p (RelationOf pair.1 pair.0))
    (list_any (λ (q : ℕ × ℕ). p (RelationOf q.0 q.1)) pairs) (list_any (λ (q : ℕ × ℕ). p (RelationOf q.1 q.0)) pairs)
  where
    or_flat : (a b c : Bool) → ((a || (b || false)) || c) ≡ (a || (b || c))
    or_flat true b c = refl
    or_flat false true c = refl
    or_flat false false c = refl

or_swapped : (a b : Bool) → (b || (a || false)) ≡ (a || b)
or_swapped true true = refl
or_swapped true false = refl
or_swapped false true = refl
or_swapped false false = refl

-- relations written both ways pass a test as each relation's two records, one after the other, do
pub any-both-ways : (p : Record → Bool) (pairs : List (ℕ × ℕ))
    → list_any p (map relation_of (both_ways pairs)) ≡ list_any p (flat_map related pairs)
any-both-ways p pairs =
    let told : ℕ × ℕ → Bool = λ pair. p (RelationOf pair.0 pair.1) in
    let own = list_any told pairs in
    let back = list_any (λ (pair : ℕ × ℕ). p (RelationOf pair.1 pair.0)) pairs in
    any-mapped p relation_of (both_ways pairs)
    ∙ any_put told (λ (pair : ℕ × ℕ). (pair.1, pair.0)) pairs
    (fold (λ (made : List (ℕ × ℕ)) (pair : ℕ × ℕ). with_pair pair made) [] pairs)
    ∙ ap (λ (b : Bool). back || b) (any_put told (λ (pair : ℕ × ℕ). pair) pairs [])
    ∙ or_swapped own back ∙ sym (any_related p pairs)
