-- Who owns the fresh nodes after they were edited where they lie, and after what was cut off one got a place.
use Rattle.std.proofs.Common.{◌≡◌, ◌≢◌, ℕ, refl, sym, ap, inl, inr, Option, Some, None}
use Rattle.qg_node.specs.declared.node.Node.{Node}
use Rattle.qg_blocks.specs.NodesFound.{fresh_at}
use Rattle.qg_shape.specs.declared.joining.Joined.{Joined}
use Rattle.qg_shape.specs.declared.joining.Joined.TheVariants.{Whole, Parted}
use Rattle.qg_node_alloc.specs.declared.ground.Ground.{Ground}
use Rattle.qg_node_alloc.specs.Changes.{HasOwner, IsOwnedBy}
use Rattle.qg_node_alloc.proofs.Owners.{IsOwnedBy-after, IsOwnedBy-draft, IsOwnedBy-left, IsOwnedBy-made, IsOwnedBy-one}
use Rattle.qg_tree_edits.specs.declared.instead.Instead.{Instead}
use Rattle.qg_tree_edits.specs.Editing.{ArePair, AreRewritten, IsPlacedBehind, IsRewritten, with_owner}
use Rattle.qg_tree_edits.specs.Uniting.{AreUnited, EndsAs}
use Rattle.qg_tree_edits.proofs.PlacedBehind.{with_owner-owner}
use Rattle.qg_tree_edits.proofs.United.{left_between, rewritten-fresh, rewritten-here}

-- ---- one node

module _ (owner : ℕ) (old new : Ground) (at : ℕ) (node : Node) (here : fresh_at old.blocks.draft at ≡ Some node)
    (is : IsRewritten old new at node) where
  kept : HasOwner owner old at is.node
  kept = inr (node, here, sym is.named.owner)

  pub rewritten-owners : IsOwnedBy owner old new
  rewritten-owners =
      IsOwnedBy-one owner old old new at is.node (IsOwnedBy-draft owner old old refl)
      (rewritten-here old new at node here is) (rewritten-fresh old new at node here is) kept

-- ---- two neighbours

module _ (owner : ℕ) (old mid : Ground) (left right : ℕ) (differ : left ≢ right) (pair : ArePair old left right)
    (are : AreRewritten old mid left right) where
  first : IsOwnedBy owner old are.mid
  first = rewritten-owners owner old are.mid right pair.b pair.right_here (are.first pair.b pair.right_here)

  later : IsOwnedBy owner are.mid mid
  later = rewritten-owners owner are.mid mid left pair.a (left_between old mid left right differ pair are)
      (are.later pair.a pair.left_here)

  both-owners : IsOwnedBy owner old mid
  both-owners = IsOwnedBy-after owner old are.mid mid first later

ended : (owner : ℕ) (mid new : Ground) (left right : ℕ) (instead : Instead) (joined : Joined)
    → EndsAs mid new left right instead joined → IsOwnedBy owner mid new
ended owner mid new left right instead Whole ends = IsOwnedBy-left owner mid new right ends.1
ended owner mid new left right instead Parted ends =
    IsOwnedBy-draft owner mid new (ap (λ (g : Ground). g.blocks.draft) ends.1)

-- they are joined, and where all is in the left one, the right one is left
pub united-owners : (owner : ℕ) (old new : Ground) (left right : ℕ) (instead : Instead) → left ≢ right
    → ArePair old left right → AreUnited old new left right instead → IsOwnedBy owner old new
united-owners owner old new left right instead differ pair united =
    IsOwnedBy-after owner old united.mid new (both-owners owner old united.mid left right differ pair united.rewritten)
    (ended owner united.mid new left right instead united.joined united.ends)

-- ---- what was cut off a node

-- it gets a place, and the owner
pub placed-owners : (owner : ℕ) (low set end : Ground) (now : ℕ) (rest : Option Node) (instead : Instead)
    → IsOwnedBy owner low set → IsPlacedBehind owner set end now rest instead → IsOwnedBy owner low end
placed-owners owner low set end now None instead first placed =
    IsOwnedBy-after owner low set end first
    (IsOwnedBy-draft owner set end (ap (λ (g : Ground). g.blocks.draft) placed.1))
placed-owners owner low set end now (Some rest) instead first (more, is, makes) =
    IsOwnedBy-made owner low set end more (with_owner owner rest) first makes (inl (with_owner-owner owner rest))
