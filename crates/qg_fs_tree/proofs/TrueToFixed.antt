-- What an edit of a tree tells its book is true to what is fixed: what both reach the last commit holds.
use Rattle.std.proofs.Common.{◌≡◌, ℕ, suc, ◌<◌, Bool, true, false, List, [], ◌∷◌, ◌++◌, Option, Some, None, arith, refl}
use Rattle.std.proofs.Common.{sym, ap, ◌∙◌, inl, inr}
use Rattle.std.specs.Prelude.{◌⊎◌, ◌==◌, not, IsTrue, if◌then◌else◌, is_some}
use Rattle.std.specs.List.{All, Contains, list_any, sum_by}
use Rattle.std.proofs.lemmas.Bool.{and_parts, eq-eqb}
use Rattle.std.proofs.lemmas.List.Elements.{Contains-append_left, Contains-append_right}
use Rattle.std.proofs.lemmas.List.Sums.{sum_by-cons}
use Rattle.qg_device.specs.History.{History}
use Rattle.qg_num.specs.declared.piece.Piece.{Piece}
use Rattle.qg_node.specs.declared.item.Item.{Item}
use Rattle.qg_node.specs.declared.node.Node.{Node}
use Rattle.qg_node.specs.Nodes.{header_of}
use Rattle.qg_blocks.specs.NodesFound.{fresh_at}
use Rattle.qg_super.specs.Places.{is_slot}
use Rattle.qg_space.specs.Holding.{Holding, has_slot, is_free_slot}
use Rattle.qg_space.proofs.Members.{one_passes, passes_one}
use Rattle.qg_tree_edits.specs.Land.{IsDrafted}
use Rattle.qg_tree_edits.specs.Tellings.{Telling}
use Rattle.qg_tree_edits.specs.Tellings.Telling.{Copied, Made, Left}
use Rattle.qg_extents.specs.Table.{IsTable}
use Rattle.qg_tree_edits.specs.Counting.{Downward, IsAsWas, IsDownward, IsUnheld, clean_at, committed_at, gains}
use Rattle.qg_tree_edits.proofs.Committed.{committed-are}
use Rattle.qg_tree_edits.proofs.Ways.{one-here, ways-some}
use Rattle.qg_fs_tree.specs.declared.fs_tree.FsTree.{FsTree}
use Rattle.qg_fs_tree.specs.Standing.{IsElsewhere, IsReached, Stands, nodes_of}
use Rattle.qg_fs_tree.proofs.Before.{beside_parts, both-clean, foreign-clean, foreign_is, held}
use Rattle.qg_fs_tree.proofs.Beside.{around_of, beside_in, foreign_in, own_ways}
use Rattle.qg_fs_tree.proofs.Fixed.{taken-beside}
use Rattle.qg_fs_tree.proofs.Turned.{AreTrueTo, Around, IsTrueTo, turned_by}

unless : (fresh : Bool) (o : Option Node) (node : Node) → (if fresh then None else o) ≡ Some node → o ≡ Some node
unless true o node is = absurd cc
unless false o node is = is

none_never : {A : Type 0} (o : Option A) → ((x : A) → o ≡ Some x → ⊥) → o ≡ None
none_never None never = refl
none_never (Some x) never = absurd (never x refl)

-- a slot that is free is not taken
pub free-untaken : (holding : Holding) (q : ℕ) → is_free_slot holding q ≡ true → has_slot holding q ≡ true → ⊥
unfolding is_free_slot
free-untaken holding q free has =
    let taken = list_any (λ (slot : ℕ). slot == q) (holding.slots ++ holding.held_slots) in
    let parts = and_parts (is_slot holding.sizes q) (not taken) free in
    let found = one_passes (λ (slot : ℕ). slot == q) holding.slots has in
    let some = passes_one (λ (slot : ℕ). slot == q) (holding.slots ++ holding.held_slots) found.0
    (Contains-append_left holding.slots holding.held_slots found.0 found.1) found.2 in
    let wrong : not true ≡ true = ap not (sym some) ∙ parts.1 in
    absurd cc

-- and the last commit does not hold it
pub free-unheld : (holding : Holding) (q : ℕ) → is_free_slot holding q ≡ true → Contains holding.held_slots q → ⊥
unfolding is_free_slot
free-unheld holding q free has =
    let taken = list_any (λ (slot : ℕ). slot == q) (holding.slots ++ holding.held_slots) in
    let parts = and_parts (is_slot holding.sizes q) (not taken) free in
    let some = passes_one (λ (slot : ℕ). slot == q) (holding.slots ++ holding.held_slots) q
    (Contains-append_right holding.slots holding.held_slots q has) (eq-eqb q q refl) in
    let wrong : not true ≡ true = ap not (sym some) ∙ parts.1 in
    absurd cc

module _ (fs : FsTree) (history : History) (items : List Item) (names : List (ℕ × Piece))
    (stands : Stands fs history items names) (drafted : IsDrafted fs.land fs.tree.next)
    (table : IsTable fs.refs.refs) where
  abbrev around : Around
  around = around_of fs history names

  pub free-apart : (q : ℕ) → IsTrue (is_free_slot fs.land.space q) → IsElsewhere fs history q → ⊥
  free-apart q free there =
      free-untaken fs.land.space q free (taken-beside fs history items names stands drafted table q there)

  -- what is beside, and reached, or what is foreign, the last commit holds
  beside_none : (q : ℕ) → 0 < own_ways fs history q → (Contains fs.land.space.held_slots q → ⊥)
      → beside_in fs history q ≡ None
  beside_none q way unheld = none_never (beside_in fs history q) (λ p is.
      let there = (beside_parts fs history items names stands drafted q p is).0 in
      unheld (held fs history items names stands drafted q way
      (both-clean fs history items names stands drafted q way there)))

  foreign_none : (q : ℕ) → (Contains fs.land.space.held_slots q → ⊥) → foreign_in fs history q ≡ None
  foreign_none q unheld = none_never (foreign_in fs history q) (λ p is.
      let parts = foreign_is fs history items names stands drafted q p is in
      unheld (held fs history items names stands drafted q parts.0
      (foreign-clean fs history items names stands drafted q p is)))

  came_alone : (q : ℕ) → IsTrue (is_free_slot fs.land.space q) ⊎ IsReached fs history q
      → (Contains fs.land.space.held_slots q → ⊥)
      → beside_in fs history q ≡ None
  came_alone q (inl free) unheld = none_never (beside_in fs history q) (λ p is.
      free-apart q free (beside_parts fs history items names stands drafted q p is).0)
  came_alone q (inr reaches) unheld =
      beside_none q (ways-some (nodes_of fs history) fs.tree.height fs.tree.address q reaches) unheld

  came_unclean : (q : ℕ) → (Contains fs.land.space.held_slots q → ⊥) → committed_at fs.land history q ≡ None
  came_unclean q unheld = none_never (committed_at fs.land history q) (λ node is.
      unheld (committed-are fs.land history fs.tree.next drafted q node is).0)

  as_told : (q : ℕ) (node : Node) (o : Option Node) (other : Node) → o ≡ nodes_of fs history q
      → clean_at fs.land history q ≡ Some node → nodes_of fs history q ≡ Some other
      → other ≡ node
  as_told q node o other same as_was is =
      let told_is = unless (is_some (fresh_at fs.land.blocks.draft q)) (nodes_of fs history q) node as_was in
      let both : Some other ≡ Some node = sym is ∙ told_is in
      cc

  true_one : (telling : Telling) (w : ℕ → ℕ) → IsAsWas (clean_at fs.land history) telling
      → IsDownward (committed_at fs.land history) telling w
      → IsUnheld fs.land.space.held_slots telling
      → ((q : ℕ) → 0 < gains telling q → IsTrue (is_free_slot fs.land.space q) ⊎ IsReached fs history q)
      → IsTrueTo around w telling
  true_one (Copied node copy) w as_was down unheld new = record {
    foreign = λ p is.
        as_told (header_of node).address node (nodes_of fs history (header_of node).address) p.node refl as_was
        (foreign_is fs history items names stands drafted (header_of node).address p is).1;
    beside = λ p is.
        as_told (header_of node).address node (nodes_of fs history (header_of node).address) p.node refl as_was
        (beside_parts fs history items names stands drafted (header_of node).address p is).1;
    down = down;
    alone = came_alone copy (new copy (let here = one-here copy copy refl in omega (arith, here))) unheld;
    unclean = came_unclean copy unheld;
  }
  true_one (Made address) w as_was down unheld new = record {
    alone = came_alone address (new address (let here = one-here address address refl in omega (arith, here))) unheld;
    unclean = came_unclean address unheld;
  }
  true_one (Left node) w as_was down unheld new = record {
    foreign = λ way. foreign_none (header_of node).address unheld;
    alone = λ way. beside_none (header_of node).address way unheld;
    down = down;
  }

  -- and a list of them
  pub true-told : (tellings : List Telling) (w : ℕ → ℕ) → All (IsAsWas (clean_at fs.land history)) tellings
      → Downward (committed_at fs.land history) w tellings
      → All (IsUnheld fs.land.space.held_slots) tellings
      → ((q : ℕ) → 0 < sum_by (λ telling. gains telling q) tellings
      → IsTrue (is_free_slot fs.land.space q) ⊎ IsReached fs history q)
      → AreTrueTo around w tellings
  true-told [] w as_was down unheld new = tt
  true-told (telling ∷ tellings) w as_was down unheld new =
      let first : IsAsWas (clean_at fs.land history) telling = as_was 0 telling (omega arith) in
      let apart : IsUnheld fs.land.space.held_slots telling = unheld 0 telling (omega arith) in
      let sum = λ (q : ℕ). sum_by-cons (λ (t : Telling). gains t q) telling tellings in (
        true_one telling w first down.0 apart (λ q some. new q (let s = sum q in omega (arith, s, some))),
        true-told tellings (turned_by telling w) (λ i d inside. as_was (suc i) d (omega (arith, inside))) down.1
            (λ i d inside. unheld (suc i) d (omega (arith, inside)))
            (λ q some. new q (let s = sum q in omega (arith, s, some))),
      )
