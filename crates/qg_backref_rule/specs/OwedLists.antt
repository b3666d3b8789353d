-- What is owed, and what there is, told in lists (this project's own). Addresses are in bytes.
use Rattle.std.specs.Prelude.{◌≡◌, ℕ, List, map, Option, Some, None, ◌==◌}
use Rattle.std.specs.List.{find}
use Rattle.std.specs.List.Sorted.{IsPermutation}
use Rattle.std.specs.Option.{option_map}
use Rattle.qg_items.specs.declared.extent.Reference.{Reference}
use Rattle.qg_image.specs.State.{Layout}
use Rattle.qg_image.specs.Owed.{Owing as OwedReference, owed, What, Nothing, Data, Block, what_at}
use Rattle.qg_backref_rule.specs.declared.owing.Owing.{Owing}
use Rattle.qg_backref_rule.specs.declared.thing.Thing.{Thing}
use Rattle.qg_backref_rule.specs.declared.thing.Kind.{Kind}
use Rattle.qg_backref_rule.specs.declared.thing.Kind.TheVariants.{Node, Extent}

-- the references that a list says are owed
abbrev pub owing_told : Owing → OwedReference
owing_told owing = record { address = owing.address; reference = owing.reference }

-- a reference that is owed, with its address before it
abbrev pub owed_told : ℕ × Reference → OwedReference
owed_told given = record { address = given.0; reference = given.1 }

-- the references that a list tells
abbrev pub owings_told : List Owing → List OwedReference
owings_told owings = map owing_told owings

-- what a record is to tell of what begins at an address: a node's level, generation and full mark, or an extent's bytes
abbrev pub kind_of : What → Option Kind
kind_of Nothing = None
kind_of (Data bytes) = Some (Extent bytes)
kind_of (Block header full) = Some (Node header.level header.generation full)

-- what a list says begins at an address
abbrev pub kind_at : List Thing → ℕ → Option Kind
kind_at things address = option_map (λ thing. thing.kind) (find (λ thing. thing.address == address) things)

-- lists tell a layout: all that it owes, in any order, and at each address what begins there
pub record IsTold (layout : Layout) (owings : List Owing) (things : List Thing) : Type 0 where
  pub owed : IsPermutation (owed layout) (owings_told owings)
  pub there : (address : ℕ) → kind_at things address ≡ kind_of (what_at layout address)
