-- What the trees of subvolumes say of fresh nodes, of those that the last commit holds, and of free slots.
use Rattle.std.proofs.Common.{◌≡◌, ℕ, Bool, true, false, List, get_or, Option, Some, None, refl, sym, ap, subst, ◌∙◌}
use Rattle.std.proofs.Common.{inl, inr}
use Rattle.std.specs.Prelude.{Contains, IsSome, IsTrue, All, ◌||◌, ◌==◌, nat_lt}
use Rattle.std.specs.List.{list_any}
use Rattle.std.proofs.lemmas.Bool.{cases_Bool, eq-eqb, eqb-true, ltb-true}
use Rattle.std.proofs.lemmas.List.Elements.{All-contains, Contains-append_cases, Contains-get_or}
use Rattle.qg_device.specs.History.{History}
use Rattle.qg_num.specs.declared.piece.Piece.{Piece}
use Rattle.qg_node.specs.declared.item.Item.{Item}
use Rattle.qg_node.specs.declared.node.Node.{Node}
use Rattle.qg_items.specs.declared.root.RootItem.{RootItem}
use Rattle.qg_super.specs.Places.{is_slot}
use Rattle.qg_super.proofs.Served.{SizesFit-is_served}
use Rattle.qg_image.proofs.Contained.{contains_later}
use Rattle.qg_space.specs.Holding.{has_slot, is_free_slot}
use Rattle.qg_space.proofs.Firsts.{is_free_slot-clear}
use Rattle.qg_space.proofs.Members.{Contains-has_slot, one_passes, passes_one}
use Rattle.qg_image.specs.declared.quota.Quota.{Quota}
use Rattle.qg_refs.specs.declared.kept.Kept.{Kept}
use Rattle.qg_extents.specs.Table.{IsTable}
use Rattle.qg_blocks.specs.NodesFound.{fresh_at}
use Rattle.qg_tree_layout.specs.Row.{address_of}
use Rattle.qg_node_alloc.specs.Land.{IsDrafted}
use Rattle.qg_node_alloc.proofs.Slots.{free-absent, free-apart, free-parts}
use Rattle.qg_commit.specs.Calls.{IsReadBack}
use Rattle.qg_commit.specs.Types.{OtherTrees}
use Rattle.qg_shared_trees.specs.Types.{FsTree}
use Rattle.qg_shared_trees.specs.Standing.{IsSubvolume, Stands}
use Rattle.qg_shared_trees.proofs.Before.{elsewhere-parts, first_tree, reached}
use Rattle.qg_shared_trees.proofs.Beside.{elsewhere, own_ways}
use Rattle.qg_shared_trees.proofs.Taken.{has-led}
use Rattle.qg_shared_trees.specs.Laying.{AreFit, IsMet}
use Rattle.qg_shared_trees.proofs.Moved.{fresh-told}
use Rattle.qg_shared_trees.proofs.Trees.{met-slot, tree-stands}
use Rattle.qg_commit.specs.HoldsAfter.{AreFree}
use Rattle.qg_commit.specs.Writing.{AreWritable, IsLaying, fresh_nodes}
use Rattle.qg_commit.proofs.FreshNodes.{fresh-there}
use Rattle.qg_commit.proofs.LaidNodes.{textual-IsReadBack}

-- ---- free slots

-- each fresh node may be written
pub fresh-AreWritable : (fs : FsTree) → IsDrafted fs.land fs.tree.next
    → AreWritable fs.land.space.sizes fs.land.blocks.draft
fresh-AreWritable fs drafted = record {
  each = λ at node is. let draft = drafted.each at node is in record { kept = draft.kept; slot = draft.slot };
}

-- a slot that is given is free
given_free : (fs : FsTree) (slots : List ℕ) → AreFree fs.land.space slots → (slot : ℕ) → Contains slots slot
    → IsTrue (is_free_slot fs.land.space slot)
given_free fs slots free slot has = All-contains (λ s. IsTrue (is_free_slot fs.land.space s)) slots slot free.free has

pub given-slot : (fs : FsTree) (slots : List ℕ) → AreFree fs.land.space slots → (slot : ℕ) → Contains slots slot
    → IsTrue (is_slot fs.land.space.sizes slot)
given-slot fs slots free slot has = (free-parts fs.land.space slot (given_free fs slots free slot has)).0

-- no fresh node lies there
pub given-clear : (fs : FsTree) (slots : List ℕ) → IsDrafted fs.land fs.tree.next → AreFree fs.land.space slots
    → (at : ℕ)
    (node : Node) → fresh_at fs.land.blocks.draft at ≡ Some node → Contains slots at → ⊥
given-clear fs slots drafted free at node is has =
    let taken = (Contains-has_slot fs.land.space at).0 (drafted.each at node is).taken in
    free-absent fs.land.space at (given_free fs slots free at has) taken

-- and the last commit holds none of them
pub given-apart : (fs : FsTree) (slots : List ℕ) → AreFree fs.land.space slots → (at : ℕ) → Contains slots at
    → Contains fs.land.space.held_slots at → ⊥
given-apart fs slots free at has held = free-apart fs.land.space at (given_free fs slots free at has) held

-- ---- fresh nodes are reached

pub fresh-reached : (fs : FsTree) (history : History) (bytes : ℕ) (items : List Item)
    (names : List (ℕ × Piece)) → IsSubvolume fs history bytes → Stands fs history items names → IsTable fs.refs.refs
    → (at : ℕ) (node : Node) → fresh_at fs.land.blocks.draft at ≡ Some node → IsMet fs history at
fresh-reached fs history bytes items names subvolume stands table at node is =
    let drafted = subvolume.editable.drafted in
    let draft = drafted.each at node is in
    let led : (nat_lt 0 (own_ways fs history at) || elsewhere fs history at) ≡ true =
    sym (has-led fs history items names stands drafted table at draft.slot) ∙ draft.taken in
    elim (cases_Bool (nat_lt 0 (own_ways fs history at))) [
      | inl own ↦ record {
        tree = fs.tree;
        among = first_tree fs history items names stands drafted;
        reached = reached fs history items names stands drafted at (ltb-true 0 (own_ways fs history at) own);
      }
      | inr none ↦
          let other : elsewhere fs history at ≡ true =
          sym (ap (λ (b : Bool). b || elsewhere fs history at) none) ∙ led in
          let there = elsewhere-parts fs history items names stands drafted at other in
          record {
            tree = there.tree;
            among = contains_later fs.tree fs.others.items there.tree there.among;
            reached = there.reached;
          }
    ]

-- ---- what is reached and not fresh the last commit holds

lacks : (numbers : List ℕ) (q : ℕ) → list_any (λ slot. slot == q) numbers ≡ false → Contains numbers q → ⊥
lacks numbers q none has =
    let some = passes_one (λ (slot : ℕ). slot == q) numbers q has (eq-eqb q q refl) in
    let wrong : true ≡ false = sym some ∙ none in
    cc

not_both : (o : Option Node) → o ≡ None → IsSome o → ⊥
not_both None none some = absurd cc
not_both (Some node) none some = cc

pub met-held : (fs : FsTree) (history : History) (bytes : ℕ) (items : List Item)
    (names : List (ℕ × Piece)) → IsSubvolume fs history bytes → Stands fs history items names → (q : ℕ)
    → IsMet fs history q → fresh_at fs.land.blocks.draft q ≡ None → Contains fs.land.space.held_slots q
met-held fs history bytes items names subvolume stands q met clean =
    let space = fs.land.space in
    let slot = met-slot fs history bytes items names subvolume stands q met in
    let tree = tree-stands fs history bytes items names subvolume stands met.tree met.among in
    elim (cases_Bool (has_slot space q)) [
      | inl taken ↦ elim (stands.settled.written q taken) [
        | inl fresh ↦ absurd (not_both (fresh_at fs.land.blocks.draft q) clean fresh)
        | inr held ↦ held
      ]
      | inr untaken ↦ elim (cases_Bool (list_any (λ (number : ℕ). number == q) space.held_slots)) [
        | inl some ↦
            let found = one_passes (λ (number : ℕ). number == q) space.held_slots some in
            subst (λ (n : ℕ). Contains space.held_slots n) (eqb-true found.0 q found.2) found.1
        | inr none ↦
            let free = is_free_slot-clear space q slot
            (λ has. elim (Contains-append_cases space.slots space.held_slots q
            has) [
              | inl here ↦
                  let wrong : true ≡ false = sym ((Contains-has_slot space q).1 here) ∙ untaken in
                  cc
              | inr there ↦ lacks space.held_slots q none there
            ]) in
            absurd (tree.rooted.apart q free met.reached)
      ]
    ]

-- so each is read from its text, where the numbers of what is reached fit
pub fresh-read : (fs : FsTree) (history : History) (bytes : ℕ) (items : List Item)
    (names : List (ℕ × Piece)) (roots : List (ℕ × RootItem)) (book : List (ℕ × Kept)) (quota : Option Quota)
    (generation : ℕ) (slots : List ℕ) (trees : OtherTrees)
    → IsSubvolume fs history bytes → Stands fs history items names → IsTable fs.refs.refs → AreFit fs history
    → IsLaying fs.land.space.sizes generation roots book quota slots fs.land.blocks.draft trees
    → All (IsReadBack fs.land.space.sizes.nodesize) (fresh_nodes fs.land.blocks.draft)
fresh-read fs history bytes items names roots book quota generation slots trees subvolume stands table fit is =
    λ k d below.
    let drafted = subvolume.editable.drafted in
    let nodes = fresh_nodes fs.land.blocks.draft in
    let node = get_or nodes k d in
    let there = fresh-there fs.land.blocks.draft is.ascending fs.land.space.sizes (fresh-AreWritable fs drafted)
    node
    (Contains-get_or nodes k d below) in
    let reach = fresh-reached fs history bytes items names subvolume stands table (address_of node) node there in
    let fits = fit (address_of node) node reach (fresh-told fs.land history (address_of node) node there) in
    textual-IsReadBack fs.land.space.sizes.nodesize node
    (SizesFit-is_served fs.land.space.sizes drafted.sizes.served).node_size
    (record { formed = fits.sound; fits = fits.fits })
