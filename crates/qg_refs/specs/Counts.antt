-- References with their counts (this project's own).
use Rattle.std.specs.Prelude.{◌≡◌, ℕ, ◌+◌, ◌<◌, List, IsTrue, if◌then◌else◌}
use Rattle.std.specs.List.{All, AllPairs, sum_by}
use Rattle.qg_items.specs.declared.extent.Reference.{Reference}
use Rattle.qg_items.specs.declared.extent.Reference.TheVariants.{KeyedBlock, SharedBlock, KeyedData, SharedData}
use Rattle.qg_image.specs.Record.{same_reference}
use Rattle.qg_refs.specs.declared.counted.Counted.{Counted}
use Rattle.qg_refs.specs.Order.{precedes}

-- what an entry adds to the count of a reference
abbrev pub counted : Reference → Counted → ℕ
counted reference entry = if same_reference reference entry.reference then entry.count else 0

-- the count of a reference: 0 where it is not there
unfoldable pub count_of : List Counted → Reference → ℕ
count_of references reference = sum_by (counted reference) references

-- one reference is there once more, and each other as often as before
abbrev pub HasOneMore : List Counted → List Counted → Reference → Type 0
HasOneMore old new reference = (other : Reference)
    → count_of new other ≡ count_of old other + (if same_reference other reference then 1 else 0)

-- one reference is there so many times more, and each other as often as before
abbrev pub HasSoManyMore : List Counted → List Counted → Reference → ℕ → Type 0
HasSoManyMore old new reference more = (other : Reference)
    → count_of new other ≡ count_of old other + (if same_reference other reference then more else 0)

-- references ascend, each once
abbrev pub Ascend : List Counted → Type 0
Ascend references = AllPairs (λ entry later. IsTrue (precedes entry.reference later.reference)) references

-- references ascend, each once, and none has the count 0
pub record IsRefList (references : List Counted) : Type 0 where
  pub ascend : Ascend references
  pub some : All (λ entry. 0 < entry.count) references

-- the greatest count that a reference may have: a node's is there or not
abbrev pub greatest_count : Reference → ℕ
greatest_count (KeyedBlock root) = 1
greatest_count (SharedBlock parent) = 1
greatest_count (KeyedData root ino offset) = 4294967295
greatest_count (SharedData parent) = 4294967295
