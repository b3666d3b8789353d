-- What a book is told where the neighbour of a child is owned.
use Rattle.std.proofs.Common.{◌≡◌, ◌≢◌, ℕ, false, List, ◌++◌, refl, sym, ap, ◌∙◌, inl, inr, Option, Some, None}
use Rattle.std.proofs.lemmas.Bool.{false_from_ne_true}
use Rattle.qg_device.specs.History.{History}
use Rattle.qg_num.specs.declared.key.Key.{Key}
use Rattle.qg_node.specs.declared.item.Item.{Item}
use Rattle.qg_node.specs.declared.node.Node.{Node}
use Rattle.qg_image.specs.declared.expected.Expected.{Expected}
use Rattle.qg_image.specs.declared.tree.TreeKind.{TreeKind}
use Rattle.qg_walk.specs.Standing.{form_failure}
use Rattle.qg_blocks.specs.NodesFound.{told}
use Rattle.qg_space.specs.Holding.{is_free_slot}
use Rattle.qg_node_alloc.specs.declared.ground.Ground.{Ground}
use Rattle.qg_node_alloc.specs.Tellings.{Telling}
use Rattle.qg_tree_edits.specs.declared.child.Neighbour.{Neighbour}
use Rattle.qg_tree_read.specs.Tree.{Root, super_of}
use Rattle.qg_tree_edits.specs.Editing.{IsBeside, IsOwned, IsUnsettled, alone}
use Rattle.qg_tree_edits.specs.Uniting.{IsPaired}
use Rattle.qg_tree_edits.specs.Counting.{tellings_owned}
use Rattle.qg_tree_edits.proofs.Beside.{beside-differs}
use Rattle.qg_tree_read.proofs.BranchFrames.{reach-top}

-- the neighbour is what the way to it leads to expect
pub beside-judged : (tree : TreeKind) (root : Root) (land : Ground) (history : History) (level at : ℕ)
    (to : Option Key) (place child : ℕ) (items : List Item)
    (un : IsUnsettled tree root land history level at to place (alone child) items) (beside : Neighbour)
    → (is : IsBeside un.pointers to level place beside)
    → (node : Node) × (told land.blocks.draft history beside.way.address ≡ Some node)
    × (form_failure tree (super_of root land.blocks.draft) beside.way.expected beside.way.address node ≡ None)
beside-judged tree root land history level at to place child items un beside is =
    let differs = beside-differs un.pointers to level place beside is in
    let judged = un.judged is.other is.way.pointer differs is.way.there in (
      judged.0,
      ap (told land.blocks.draft history) is.way.child ∙ judged.1,
      ap (λ (q : ℕ). form_failure tree (super_of root land.blocks.draft) beside.way.expected q judged.0) is.way.child
          ∙ ap (λ (e : Expected). form_failure tree (super_of root land.blocks.draft) e is.way.pointer.child judged.0)
          is.way.expects
          ∙ judged.2,
    )

module _ (tree : TreeKind) (root : Root) (land new : Ground) (history : History) (level at : ℕ)
    (to : Option Key) (place child : ℕ) (items : List Item)
    (un : IsUnsettled tree root land history level at to place (alone child) items) (beside : Neighbour) (now : ℕ)
    (is : IsBeside un.pointers to level place beside)
    (owned : IsOwned tree root land new history beside.way.expected beside.way.address now) where
  differs : is.other ≢ place
  differs = beside-differs un.pointers to level place beside is

  -- it is told, and lies in a slot that is taken
  pub beside-told : told land.blocks.draft history beside.way.address ≡ Some owned.node
  beside-told =
      let node = un.judged is.other is.way.pointer differs is.way.there in
      let there : told land.blocks.draft history beside.way.address ≡ Some node.0 = ap
      (told land.blocks.draft history) is.way.child ∙ node.1 in
      there ∙ ap Some (owned.alone node.0 there)

  pub beside-taken : is_free_slot land.space beside.way.address ≡ false
  beside-taken = false_from_ne_true (is_free_slot land.space beside.way.address) (λ free.
      un.free is.way.pointer.child (ap (is_free_slot land.space) (sym is.way.child) ∙ free)
      (inr (
        is.other,
        is.way.pointer,
        differs,
        is.way.there,
        reach-top (told land.blocks.draft history) level
            is.way.pointer.child,
      )))

  module _ (Follows : List Telling → Type 0) (log : List Telling)
      (follows : Follows (log ++ tellings_owned owned.node beside.way.address now)) (apart : now ≢ child) where
    -- it is the one behind
    pub paired-behind : beside.front ≡ place
        → (pair : IsPaired tree root land new history un.pointers to level place child
        (record { front = place; left = child; right = now }))
        × Follows (log ++ tellings_owned pair.owned.node pair.beside.way.address pair.now)
    paired-behind first = (
      record {
        beside = beside;
        now = now;
        is = is;
        owned = owned;
        apart = apart;
        front = sym first;
        sides = inl
            (first, refl, refl);
      },
      follows,
    )

    -- or the one in front
    pub paired-front : beside.front ≢ place
        → (pair : IsPaired tree root land new history un.pointers to level place child
        (record { front = beside.front; left = now; right = child }))
        × Follows (log ++ tellings_owned pair.owned.node pair.beside.way.address pair.now)
    paired-front other = elim is.pair [
      | inl behind ↦ absurd (other behind.0)
      | inr front ↦ (
        record {
          beside = beside;
          now = now;
          is = is;
          owned = owned;
          apart = apart;
          front = refl;
          sides = inr
              (front.0, refl, refl);
        },
        follows,
      )
    ]
