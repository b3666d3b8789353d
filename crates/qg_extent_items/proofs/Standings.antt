-- How a reference stands among items, and the edit of its item.
use Rattle.std.proofs.Common.{◌≡◌, ℕ, zero, suc, ◌-◌, ◌≤◌, ◌<◌, ◌^◌, Bool, true, false, List, [], ◌∷◌, ◌++◌}
use Rattle.std.proofs.Common.{Option, Some, None, refl, sym, ap, subst, ◌∙◌, arith, cond, lit<, eqb-true, eq-eqb}
use Rattle.std.specs.Prelude.{◌==◌, ◌&&◌, nat_lt}
use Rattle.std.specs.List.{cons_option, find, list_all, list_any}
use Rattle.std.specs.Option.{option_map}
use Rattle.std.proofs.lemmas.Bool.{cond-false, eqb-false, false_from_ne_true, lt-ltb, ltb-true, ltb-false}
use Rattle.std.proofs.lemmas.Bool.{not-true, or_parts, true≢false}
use Rattle.std.proofs.lemmas.Option.{MatchOption-at_none, MatchOption-at_some}
use Rattle.qg_num.specs.declared.key.Key.{Key}
use Rattle.qg_node.specs.declared.item.Item.{Item}
use Rattle.qg_items.specs.declared.kind.TheConstants.{EXTENT_DATA_REF}
use Rattle.qg_items.specs.declared.extent.Reference.{Reference}
use Rattle.qg_items.specs.declared.extent.Reference.TheVariants.{KeyedBlock, SharedBlock, KeyedData, SharedData}
use Rattle.qg_tree_items.specs.Types.{ExtentPart}
use Rattle.qg_tree_items.specs.Types.{DataRecord, NodeRecord, Referenced}
use Rattle.qg_tree_items.specs.ItemMeaning.{extent_part, some_passes}
use Rattle.qg_tree_items.specs.Keys.{key_with}
use Rattle.qg_tree_items.specs.Owed.{part_address, reference_told}
use Rattle.qg_tree_items.specs.Record.{same_reference}
use Rattle.qg_refs.specs.Counts.{greatest_count}
use Rattle.qg_extents.specs.Written.{ReferenceFits, item_of_reference}
use Rattle.qg_extents.specs.BookRecords.{is_count, parts_at, told_count, told_in}
use Rattle.qg_extents.proofs.ItemsSaid.{reference_said, reference_short}
use Rattle.qg_extents.proofs.Telling.{Told}
use Rattle.qg_edit.specs.Edits.{has_key}
use Rattle.qg_extent_items.specs.Told.{count_told, is_said, parts_here, parts_of}
use Rattle.qg_extent_items.specs.Standing.{HasNumber, IsFreeNumber, IsStanding, is_reference_to, number_of, tells}
use Rattle.qg_extent_items.specs.BookEdits.{lessened, put_item, take_item}
use Rattle.qg_extent_items.specs.declared.standing.Standing.{Standing}
use Rattle.qg_extent_items.proofs.CountsTold.{IsClean, count-cons, count-some, count-there, some_told}
use Rattle.qg_extent_items.proofs.Keyed.{Ascend, key-among}
use Rattle.qg_extent_items.proofs.PartKeys.{HasNone, is-reference-key, is-told, part-keyed, reference-key}
use Rattle.qg_extent_items.proofs.PartKeys.{reference_key}
use Rattle.qg_extent_items.proofs.Splices.{Among, Splice, among-all, among-between, among-gives, among-none}
use Rattle.qg_extent_items.proofs.Splices.{among-passes}
use Rattle.qg_extent_items.proofs.Splices.{find-none, find-some, some-is}
use Rattle.qg_extent_items.proofs.Steps.{Made, comes-in, gets-body, goes-out}

-- ---- a reference that isn't told

untold_parts : (at : ℕ) (x : Reference) (parts : List ExtentPart) → list_any (is_reference_to at x) parts ≡ false
    → told_count (told_in (parts_at parts at)) x ≡ 0
untold_parts at x [] none = refl
untold_parts at x (DataRecord address bytes extent ∷ parts) none = by (address == at) (untold_parts at x parts none)
  where
    by : (b : Bool) → told_count (told_in (parts_at parts at)) x ≡ 0
        → told_count (told_in (cond b (DataRecord address bytes extent ∷ parts_at parts at) (parts_at parts at))) x ≡ 0
    by true rest = rest
    by false rest = rest
untold_parts at x (NodeRecord address level extent ∷ parts) none = by (address == at) (untold_parts at x parts none)
  where
    by : (b : Bool) → told_count (told_in (parts_at parts at)) x ≡ 0
        → told_count (told_in (cond b (NodeRecord address level extent ∷ parts_at parts at) (parts_at parts at))) x ≡ 0
    by true rest = rest
    by false rest = rest
untold_parts at x (Referenced address told count ∷ parts) none =
    let parted = or_parts ((address == at) && same_reference x told) (list_any (is_reference_to at x) parts) none in
    by (address == at) parted.0 (untold_parts at x parts parted.1)
  where
    by : (b : Bool) → (b && same_reference x told) ≡ false → told_count (told_in (parts_at parts at)) x ≡ 0
        → told_count (told_in (cond b (Referenced address told count ∷ parts_at parts at) (parts_at parts at))) x ≡ 0
    by true differs rest =
        let own = cond-false (same_reference x told) count 0 differs in
        omega (arith, count-cons (told, count) (told_in (parts_at parts at)) x, own, rest)
    by false differs rest = rest

untold_items : (at : ℕ) (x : Reference) (items : List Item) → list_any (tells at x) items ≡ false
    → list_any (is_reference_to at x) (parts_of items) ≡ false
untold_items at x [] none = refl
untold_items at x (item ∷ items) none =
    let parted = or_parts (tells at x item) (list_any (tells at x) items) none in
    by (extent_part item) parted.0 (untold_items at x items parted.1)
  where
    by : (o : Option ExtentPart) → some_passes (is_reference_to at x) o ≡ false
        → list_any (is_reference_to at x) (parts_of items) ≡ false
        → list_any (is_reference_to at x) (cons_option o (parts_of items)) ≡ false
    by None own rest = rest
    by (Some part) own rest = rw (own, rest) refl

pub untold : (at : ℕ) (x : Reference) (items : List Item) → find (tells at x) items ≡ None → count_told items at x ≡ 0
untold at x items none =
    untold_parts at x (parts_of items) (untold_items at x items (find-none (tells at x) items none))

-- no item has its key, where that has no number
no_key : (at number : ℕ) (x : Reference) (items : List Item) → HasNone x → list_all is_said items ≡ true
    → find (tells at x) items ≡ None → has_key (reference_key at number x) items ≡ false
no_key at number x items none said untold =
    false_from_ne_true (has_key (reference_key at number x) items) (λ has.
    let found = key-among (reference_key at number x) items has in
    let item = found.0 in
    let part = some-is (extent_part item) (among-all is_said item items said found.1.0) in
    let key = sym (part-keyed item part.0 part.1) ∙ found.1.1 in
    let own : tells at x item ≡ true =
    ap (λ (o : Option ExtentPart). some_passes (is_reference_to at x) o) part.1
    ∙ is-reference-key item.key.offset number part.0 at x none key in
    true≢false (sym own ∙ among-none (tells at x) item items (find-none (tells at x) items untold) found.1.0))

free_key : (at number : ℕ) (x : Reference) (items : List Item) → list_all is_said items ≡ true
    → find (tells at x) items ≡ None → HasNumber at items x number → has_key (reference_key at number x) items ≡ false
free_key at number (KeyedData root ino offset) items said untold numbered =
    let free = MatchOption-at_none {o = number_of at (KeyedData root ino offset) items} (IsFreeNumber at items number)
    (λ there. number ≡ there) (ap (option_map (λ (item : Item). item.key.offset)) untold) numbered in
    not-true (has_key (key_with at EXTENT_DATA_REF number) items) free.free
free_key at number (KeyedBlock root) items said untold numbered =
    no_key at number (KeyedBlock root) items tt said untold
free_key at number (SharedBlock parent) items said untold numbered =
    no_key at number (SharedBlock parent) items tt said untold
free_key at number (SharedData parent) items said untold numbered =
    no_key at number (SharedData parent) items tt said untold

-- ---- a reference that is told

-- an item that tells it
pub record IsTeller (at : ℕ) (x : Reference) (item : Item) : Type 0 where
  pub count : ℕ
  pub says : extent_part item ≡ Some (Referenced at x count)

pub teller : (at : ℕ) (x : Reference) (item : Item) → tells at x item ≡ true → IsTeller at x item
teller at x item is = by (extent_part item) refl is
  where
    by : (o : Option ExtentPart) → extent_part item ≡ o → some_passes (is_reference_to at x) o ≡ true
        → IsTeller at x item
    by None says own = absurd (true≢false (sym own))
    by (Some part) says own =
        let told = is-told at x part own in
        record { count = told.0; says = says ∙ ap (λ (p : ExtentPart). Some p) told.1 }

pub told_among : (at : ℕ) (x : Reference) (count : ℕ) (items : List Item) (item : Item) → Among item items
    → extent_part item ≡ Some (Referenced at x count) → Among (x, count) (told_in (parts_here items at))
told_among at x count items item among says =
    among-gives reference_told (Referenced at x count) (x, count) (parts_here items at) refl
    (among-passes (λ (part : ExtentPart). part_address part == at) (Referenced at x count) (parts_of items)
    (eq-eqb at at refl)
    (among-gives extent_part item (Referenced at x count) items says among))

-- so it is told so often
pub told_often : (x : Reference) (count : ℕ) (told : Told) → Among (x, count) told → IsClean told
    → (n : ℕ) × ((count ≡ suc n) × (told_count told x ≡ suc n))
told_often x zero told among clean =
    absurd (omega (arith, count-some (x, zero) (among-all is_count (x, zero) told clean.counts among)))
told_often x (suc n) told among clean =
    let between = among-between (x, suc n) told among in
    let splice : Splice told (between.front ++ ([] ++ between.back)) (some_told x (suc n)) (some_told x zero) =
    record { front = between.front; back = between.back; was = between.stand; now = refl } in
    (n, (refl, count-there x n zero told (between.front ++ ([] ++ between.back)) splice clean))

-- its item has the key under which it stands
own_key : (at number : ℕ) (x : Reference) (count : ℕ) (items : List Item) (item : Item)
    → find (tells at x) items ≡ Some item → extent_part item ≡ Some (Referenced at x count)
    → HasNumber at items x number → reference_key at number x ≡ item.key
own_key at number (KeyedData root ino offset) count items item found says numbered =
    let there : number ≡ item.key.offset =
    MatchOption-at_some {o = number_of at (KeyedData root ino offset) items} (IsFreeNumber at items number)
    (λ there. number ≡ there) item.key.offset (ap (option_map (λ (item : Item). item.key.offset)) found) numbered in
    ap (λ (n : ℕ). key_with at EXTENT_DATA_REF n) there
    ∙ sym (part-keyed item (Referenced at (KeyedData root ino offset) count) says)
own_key at number (KeyedBlock root) count items item found says numbered =
    sym (part-keyed item (Referenced at (KeyedBlock root) count) says)
own_key at number (SharedBlock parent) count items item found says numbered =
    sym (part-keyed item (Referenced at (SharedBlock parent) count) says)
own_key at number (SharedData parent) count items item found says numbered =
    sym (part-keyed item (Referenced at (SharedData parent) count) says)

-- ---- both

-- it isn't told, and no item has its key; or an item tells its count, and has its key
pub data StandsSo (at : ℕ) (x : Reference) (items : List Item) (standing : Standing) : Type 0 where
  absent : standing.count ≡ 0 → has_key (reference_key at standing.number x) items ≡ false
      → StandsSo at x items standing
  present : (n : ℕ) → standing.count ≡ suc n → (item : Item) → Among item items
      → extent_part item ≡ Some (Referenced at x (suc n)) → reference_key at standing.number x ≡ item.key
      → StandsSo at x items standing

pub stands-so : (at : ℕ) (x : Reference) (items : List Item) (standing : Standing) → list_all is_said items ≡ true
    → IsClean (told_in (parts_here items at)) → IsStanding at x items standing → StandsSo at x items standing
stands-so at x items standing said clean stands = by (find (tells at x) items) refl
  where
    by : (o : Option Item) → find (tells at x) items ≡ o → StandsSo at x items standing
    by None found =
        absent (stands.count ∙ untold at x items found) (free_key at standing.number x items said found stands.number)
    by (Some item) found =
        let is = find-some (tells at x) item items found in
        let tell = teller at x item is.0 in
        let often = told_often x tell.count (told_in (parts_here items at))
        (told_among at x tell.count items item is.1 tell.says) clean in
        present often.0 (stands.count ∙ often.1.1) item is.1
        (tell.says ∙ ap (λ (n : ℕ). Some (Referenced at x n)) often.1.0)
        (own_key at standing.number x tell.count items item found tell.says stands.number)

-- ---- the edit of its item

-- so many of a reference; none where there are 0
abbrev pub counted_parts : ℕ → Reference → ℕ → List ExtentPart
counted_parts at x zero = []
counted_parts at x (suc n) = Referenced at x (suc n) ∷ []

some_parts : (at : ℕ) (x : Reference) (m : ℕ) → 0 < m → Referenced at x m ∷ [] ≡ counted_parts at x m
some_parts at x zero some = absurd (omega (arith, some))
some_parts at x (suc m) some = refl

pub greatest_small : (x : Reference) → greatest_count x < 2 ^ 32
greatest_small (KeyedBlock root) = lit< tt
greatest_small (KeyedData root ino offset) = lit< tt
greatest_small (SharedBlock parent) = lit< tt
greatest_small (SharedData parent) = lit< tt

abbrev item_so : ℕ → Reference → Standing → ℕ → Item
item_so at x standing m = item_of_reference at standing.number x m

key_so : (at : ℕ) (x : Reference) (standing : Standing) (m : ℕ)
    → (item_so at x standing m).key ≡ reference_key at standing.number x
key_so at x standing m = reference-key at standing.number x m

-- it gets a count, whether it is there or not
pub puts-count : (at : ℕ) (x : Reference) (items : List Item) (standing : Standing) (there : Bool) (m : ℕ)
    → Ascend items → list_all is_said items ≡ true → StandsSo at x items standing → nat_lt 0 standing.count ≡ there
    → ReferenceFits x → 0 < m → m ≤ greatest_count x
    → Made at items (put_item there (item_so at x standing m)) (counted_parts at x standing.count)
    (counted_parts at x m)
puts-count at x items standing there m ascend said stands is fits some most =
    subst (λ (parts : List ExtentPart). Made at items (put_item there (item_so at x standing m))
    (counted_parts at x standing.count) parts) (some_parts at x m some) (by there is stands)
  where
    says : extent_part (item_so at x standing m) ≡ Some (Referenced at x m)
    says = reference_said at standing.number x m fits (omega (arith, most, greatest_small x)) some most

    by : (b : Bool) → nat_lt 0 standing.count ≡ b → StandsSo at x items standing
        → Made at items (put_item b (item_so at x standing m)) (counted_parts at x standing.count)
        (Referenced at x m ∷ [])
    by true is (absent none free) =
        absurd (omega (arith, none, ltb-true 0 standing.count is))
    by false is (absent none free) =
        subst (λ (n : ℕ). Made at items (put_item false (item_so at x standing m)) (counted_parts at x n)
        (Referenced at x m ∷ [])) (sym none)
        (comes-in at items (item_so at x standing m) (Referenced at x m) ascend said
        (ap (λ (key : Key). has_key key items) (key_so at x standing m) ∙ free) says refl
        (reference_short at standing.number x m))
    by true is (present n count item among said_old key) =
        subst (λ (k : ℕ). Made at items (put_item true (item_so at x standing m)) (counted_parts at x k)
        (Referenced at x m ∷ [])) (sym count)
        (gets-body at items item (item_so at x standing m) (Referenced at x (suc n)) (Referenced at x m) ascend said
        among (key_so at x standing m ∙ key) said_old refl says refl (reference_short at standing.number x m))
    by false is (present n count item among said_old key) =
        absurd (omega (arith, count, ltb-false 0 standing.count is))

-- it goes
takes_count : (at : ℕ) (x : Reference) (items : List Item) (standing : Standing) → Ascend items
    → list_all is_said items ≡ true → StandsSo at x items standing → 0 < standing.count
    → Made at items (take_item (item_so at x standing standing.count)) (counted_parts at x standing.count) []
takes_count at x items standing ascend said (absent none free) some = absurd (omega (arith, none, some))
takes_count at x items standing ascend said (present n count item among said_old key) some =
    subst (λ (k : ℕ). Made at items (take_item (item_so at x standing standing.count)) (counted_parts at x k) [])
    (sym count)
    (goes-out at items item (item_so at x standing standing.count) (Referenced at x (suc n)) ascend said among
    (key_so at x standing standing.count ∙ key) said_old refl)

-- it is there once less
pub lessens-count : (at : ℕ) (x : Reference) (items : List Item) (standing : Standing) → Ascend items
    → list_all is_said items ≡ true → StandsSo at x items standing → ReferenceFits x → 0 < standing.count
    → standing.count ≤ greatest_count x
    → Made at items (lessened standing.count (item_so at x standing)) (counted_parts at x standing.count)
    (counted_parts at x (standing.count - 1))
lessens-count at x items standing ascend said stands fits some most = by (standing.count == 1) refl
  where
    by : (b : Bool) → (standing.count == 1) ≡ b
        → Made at items (cond b (take_item (item_so at x standing standing.count))
        (put_item true (item_so at x standing (standing.count - 1)))) (counted_parts at x standing.count)
        (counted_parts at x (standing.count - 1))
    by true is =
        let last : standing.count - 1 ≡ 0 = omega (arith, eqb-true standing.count 1 is) in
        subst (λ (n : ℕ). Made at items (take_item (item_so at x standing standing.count))
        (counted_parts at x standing.count) (counted_parts at x n)) (sym last)
        (takes_count at x items standing ascend said stands some)
    by false is =
        let apart = eqb-false standing.count 1 is in
        let left : 0 < standing.count - 1 = omega (arith, some, apart) in
        puts-count at x items standing true (standing.count - 1) ascend said stands (lt-ltb 0 standing.count some)
        fits left (omega (arith, most))
