-- How much heavier an edit of a tree, and a piece that names an extent, make what the extent tree's items take.
use Rattle.std.proofs.Common.{◌≡◌, ℕ, ◌+◌, ◌*◌, ◌<◌, ◌≤◌, Bool, true, false, List, [], ◌∷◌, length, Option, Some, None}
use Rattle.std.proofs.Common.{arith, refl, ap}
use Rattle.std.proofs.Math.Nat.{mul-le-mul_right}
use Rattle.std.specs.Prelude.{if◌then◌else◌, is_some}
use Rattle.std.specs.List.{All, AllByRecursion, sum_by}
use Rattle.std.proofs.lemmas.Bool.{cond-true}
use Rattle.std.proofs.lemmas.List.Elements.{recursion_from_All}
use Rattle.std.proofs.lemmas.List.Sums.{sum_by-cons}
use Rattle.qg_device.specs.History.{History}
use Rattle.qg_node.specs.declared.pointer.Pointer.{Pointer}
use Rattle.qg_node.specs.declared.node.Node.{Node}
use Rattle.qg_node.specs.declared.node.Node.TheVariants.{Leaf, Inner}
use Rattle.qg_node.specs.Nodes.{header_of, items_bytes, used_bytes}
use Rattle.qg_items.specs.declared.extent.Reference.{Reference}
use Rattle.qg_super.specs.Places.{capacity}
use Rattle.qg_blocks.specs.NodesFound.{fresh_at, told}
use Rattle.qg_tree_edits.specs.Types.{Ground}
use Rattle.qg_tree_edits.specs.Land.{IsDrafted}
use Rattle.qg_tree_edits.specs.Tellings.{Telling}
use Rattle.qg_tree_edits.specs.Tellings.Telling.{Copied, Made, Left}
use Rattle.qg_refs.specs.declared.kept.What.{What}
use Rattle.qg_refs.specs.declared.kept.Kept.{Kept}
use Rattle.qg_refs.specs.Book.{Adds, Drops, references_in}
use Rattle.qg_extents.specs.Table.{IsTable, book_of}
use Rattle.qg_tree_backrefs.specs.Weight.{extent_record_bytes, reference_bytes}
use Rattle.qg_tree_edits.specs.Counting.{IsAsWas, IsBare, clean_at, copied_in, made_in}
use Rattle.qg_tree_backrefs.specs.declared.tree_refs.TreeRefs.{TreeRefs}
use Rattle.qg_tree_backrefs.specs.Heavier.{BookGetsHeavier, GetsHeavier, name_bytes, name_new_bytes, node_bytes}
use Rattle.qg_tree_backrefs.specs.Heavier.{telling_bytes}
use Rattle.qg_tree_backrefs.proofs.Sums.{GetsHeavier-most}
use Rattle.qg_tree_backrefs.proofs.Weighs.{GetsHeavier-added, GetsHeavier-dropped}
use Rattle.qg_fs_tree.proofs.Sound.{told-formed}

-- ---- what an edit tells

-- what has nothing under it takes nothing
bare-bytes : (node : Node) → IsBare (Left node) → used_bytes node ≡ 0
bare-bytes (Leaf header items) bare = let none = ap items_bytes bare.0 in omega (arith, none)
bare-bytes (Inner header pointers) bare =
    let none = ap (λ (ps : List Pointer). length ps) bare.1 in omega (arith, none)

module _ (room : ℕ) (clean : ℕ → Option Node)
    (fits : (q : ℕ) (node : Node) → clean q ≡ Some node → used_bytes node ≤ room) where
  one-telling : (telling : Telling) → IsAsWas clean telling → IsBare telling
      → telling_bytes telling ≤ (copied_in telling + made_in telling) * (node_bytes + room)
  one-telling (Copied node copy) was bare =
      let most = fits (header_of node).address node was in omega (arith, most)
  one-telling (Made address) was bare = omega arith
  one-telling (Left node) was bare = let none = bare-bytes node bare in omega (arith, none)

  all-tellings : (tellings : List Telling) → AllByRecursion (IsAsWas clean) tellings
      → AllByRecursion IsBare tellings
      → sum_by telling_bytes tellings
      ≤ (sum_by copied_in tellings + sum_by made_in tellings) * (node_bytes + room)
  all-tellings [] was bare = omega arith
  all-tellings (telling ∷ tellings) was bare =
      let first = one-telling telling was.0 bare.0 in
      let rest = all-tellings tellings was.1 bare.1 in
      let sums : sum_by copied_in (telling ∷ tellings) + sum_by made_in (telling ∷ tellings)
      ≡ (copied_in telling + made_in telling) + (sum_by copied_in tellings + sum_by made_in tellings) =
      omega (arith, sum_by-cons copied_in telling tellings, sum_by-cons made_in telling tellings) in
      let product = ap (λ (n : ℕ). n * (node_bytes + room)) sums in
      omega (arith, product, first, rest, sum_by-cons telling_bytes telling tellings)

  pub tellings-bytes : (tellings : List Telling) (height : ℕ) → All (IsAsWas clean) tellings → All IsBare tellings
      → sum_by copied_in tellings + sum_by made_in tellings ≤ 2 * height + 3
      → sum_by telling_bytes tellings ≤ (2 * height + 3) * (node_bytes + room)
  tellings-bytes tellings height was bare few =
      let all = all-tellings tellings (recursion_from_All (IsAsWas clean) tellings was)
      (recursion_from_All IsBare tellings bare) in
      let most : (sum_by copied_in tellings + sum_by made_in tellings) * (node_bytes + room)
      ≤ (2 * height + 3) * (node_bytes + room) = mul-le-mul_right (node_bytes + room) few in
      omega (arith, all, most)

unless : (fresh : Bool) (place : Option Node) (node : Node) → (if fresh then None else place) ≡ Some node
    → place ≡ Some node
unless true place node is = let wrong : ◌≡◌ {A = Option Node} None (Some node) = is in absurd cc
unless false place node is = is

-- what is told of a land where no node is fresh has room in a node
pub clean-room : (land : Ground) (history : History) (generation : ℕ) → IsDrafted land generation
    → (q : ℕ) (node : Node) → clean_at land history q ≡ Some node
    → used_bytes node ≤ capacity land.space.sizes.nodesize
clean-room land history generation drafted q node is =
    let there = unless (is_some (fresh_at land.blocks.draft q)) (told land.blocks.draft history q) node is in
    let fits = (told-formed land history generation drafted q node there).fits in
    omega (arith, fits)

-- ---- names

module _ (old new : TreeRefs) (at : ℕ) (reference : Reference) (table : IsTable old.refs) (later : IsTable new.refs)
    (others : new ≡ record old { refs = new.refs }) where
  held_kept : new.held ≡ old.held
  held_kept = ap (λ (book : TreeRefs). book.held) others

  module _ (what : What) (adds : Adds (book_of old.refs) (book_of new.refs) at what reference)
      (size : reference_bytes reference ≡ name_bytes) where
    added : GetsHeavier old.refs new.refs
        (reference_bytes reference + (if is_some (book_of old.refs at) then 0 else extent_record_bytes))
    added = GetsHeavier-added old.refs new.refs at what reference table later adds

    -- something is kept where a reference is
    there : (kept : Option Kept) → 0 < length (references_in kept) → is_some kept ≡ true
    there None some = absurd (omega (arith, some))
    there (Some kept) some = refl

    pub heavier-named : 0 < length (references_in (book_of old.refs at)) → BookGetsHeavier old new name_bytes
    heavier-named some =
        let none : (if is_some (book_of old.refs at) then 0 else extent_record_bytes) ≡ 0 =
        cond-true _ _ _ (there (book_of old.refs at) some) in
        record {
          held = held_kept;
          heavier = GetsHeavier-most old.refs new.refs _ name_bytes (omega (arith, none, size)) added;
        }

    record_most : (kept : Option Kept) → (if is_some kept then 0 else extent_record_bytes) ≤ extent_record_bytes
    record_most None = omega arith
    record_most (Some kept) = omega arith

    pub heavier-new : BookGetsHeavier old new name_new_bytes
    heavier-new =
        let most = record_most (book_of old.refs at) in
        record {
          held = held_kept;
          heavier = GetsHeavier-most old.refs new.refs _ name_new_bytes (omega (arith, most, size)) added;
        }

  pub heavier-unnamed : Drops (book_of old.refs) (book_of new.refs) at reference → BookGetsHeavier old new 0
  heavier-unnamed drops = record {
    held = held_kept;
    heavier = GetsHeavier-dropped old.refs new.refs at reference table later drops;
  }
