-- The rule `refs` over lists (this project's own). Addresses are in bytes.
use Rattle.std.specs.Prelude.{ℕ, ◌++◌, Bool, ◌&&◌, not, List, [], ◌∷◌, map, Option, Some, None, ◌==◌, nat_le}
use Rattle.std.specs.Prelude.{if◌then◌else◌}
use Rattle.std.specs.List.{filter, filter_map, find, sum_by}
use Rattle.qg_items.specs.declared.extent.Reference.{Reference}
use Rattle.qg_image.specs.Table.{number_set}
use Rattle.qg_image.specs.declared.part.ExtentPart.{ExtentPart}
use Rattle.qg_image.specs.Owed.{What, Nothing, Data, Block, part_address, is_record, is_recorded_once, reference_told}
use Rattle.qg_image.specs.Owed.{are_references}
use Rattle.qg_refs.specs.declared.counted.Counted.{Counted}
use Rattle.qg_backref_rule.specs.declared.owing.Owing.{Owing}
use Rattle.qg_backref_rule.specs.declared.thing.Thing.{Thing}
use Rattle.qg_backref_rule.specs.declared.thing.Kind.{Kind}
use Rattle.qg_backref_rule.specs.declared.thing.Kind.TheVariants.{Node, Extent}
use Rattle.qg_backref_rule.specs.OwedLists.{kind_at}

-- ---- one address

-- what begins there: of a node's header no more counts than its level and its generation
abbrev pub what_of : Option Kind → What
what_of None = Nothing
what_of (Some (Extent bytes)) = Data bytes
what_of (Some (Node level generation full)) =
    Block (record { address = 0; generation = generation; owner = 0; level = level }) full

-- a reference with its count
abbrev pub count_told : Counted → Reference × ℕ
count_told entry = (entry.reference, entry.count)

-- references with their counts
abbrev pub counts_told : List Counted → List (Reference × ℕ)
counts_told entries = map count_told entries

-- the parts that stand at an address are what is owed there to what begins there
abbrev pub agree : What → List Reference → List ExtentPart → Bool
agree what owed here =
    let told = filter_map reference_told here in
    is_recorded_once what (sum_by (λ entry. entry.1) told) (filter is_record here) && are_references told owed

-- ---- all addresses

-- the references that are owed to an address
abbrev pub owed_at : List Owing → ℕ → List Reference
owed_at owings address = map (λ owing. owing.reference) (filter (λ owing. owing.address == address) owings)

-- the parts that stand at an address
abbrev pub parts_at : List ExtentPart → ℕ → List ExtentPart
parts_at parts address = filter (λ part. part_address part == address) parts

-- the parts that stand at an address are what is owed there
unfoldable pub agree_at : List Owing → List Thing → List ExtentPart → ℕ → Bool
agree_at owings things parts address =
    agree (what_of (kind_at things address)) (owed_at owings address) (parts_at parts address)

-- the addresses of what is recorded and of what there is, ascending
unfoldable pub told_addresses : List Thing → List ExtentPart → List ℕ
told_addresses things parts = number_set (map part_address parts ++ map (λ thing. thing.address) things)

-- the least address at which the items are not what is owed
unfoldable pub first_disagreement : List Owing → List Thing → List ExtentPart → Option ℕ
first_disagreement owings things parts =
    find (λ address. not (agree_at owings things parts address)) (told_addresses things parts)

-- ---- the first of lists that ascend by address

-- what the first thing is, if it lies there
abbrev pub kind_first : List Thing → ℕ → Option Kind
kind_first [] address = None
kind_first (thing ∷ things) address = if thing.address == address then Some thing.kind else None

-- the lower one of their first addresses
abbrev pub least_address : List Thing → List ExtentPart → Option ℕ
least_address [] [] = None
least_address [] (part ∷ parts) = Some (part_address part)
least_address (thing ∷ things) [] = Some thing.address
least_address (thing ∷ things) (part ∷ parts) =
    Some (if nat_le thing.address (part_address part) then thing.address else part_address part)
