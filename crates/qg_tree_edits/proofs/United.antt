-- Two fresh neighbours that were joined, over any disk.
use Rattle.std.proofs.Common.{◌≡◌, ◌≢◌, ℕ, List, sym, ap, subst, ◌∙◌, Some, None}
use Rattle.std.specs.Prelude.{Err}
use Rattle.qg_device.specs.History.{History, Unrecorded}
use Rattle.qg_num.specs.declared.fault.BlockFault.{BlockFault}
use Rattle.qg_num.specs.declared.fault.BlockFault.TheVariants.{NoMemory, Disk, Image}
use Rattle.qg_node.specs.declared.node.Node.{Node}
use Rattle.qg_blocks.specs.NodesInMemory.{Draft}
use Rattle.qg_blocks.specs.NodesFound.{Answers, BreaksNone, IsBacked, found, fresh_at, told}
use Rattle.qg_blocks.proofs.Backing.{IsBacked-set}
use Rattle.qg_node_alloc.specs.declared.ground.Ground.{Ground}
use Rattle.qg_node_alloc.specs.Land.{IsDrafted, Rests}
use Rattle.qg_node_alloc.specs.Tellings.{Spares}
use Rattle.qg_node_alloc.proofs.Editing.{edited-here, edited-others}
use Rattle.qg_node_alloc.proofs.Lands.{IsSome-is, Rests-after, fresh_at-told}
use Rattle.qg_tree_edits.specs.Editing.{ArePair, AreRewritten, IsRewritten}
use Rattle.qg_tree_edits.proofs.Cutting.{rewritten-rests, rewritten-spares}

-- ---- one that was edited where it lies

module _ (land new : Ground) (at : ℕ) (node : Node) (here : fresh_at land.blocks.draft at ≡ Some node)
    (is : IsRewritten land new at node) where
  pub rewritten-backed : (history : History) → IsBacked land.blocks history → IsBacked new.blocks history
  rewritten-backed history backed =
      subst (λ (g : Ground). IsBacked g.blocks history) (sym is.is)
      (IsBacked-set land.blocks history at is.node (IsSome-is (fresh_at land.blocks.draft at) node here) backed)

  pub rewritten-told : (history : History) (q : ℕ) → q ≢ at
      → told new.blocks.draft history q ≡ told land.blocks.draft history q
  rewritten-told history q differ =
      ap (λ (g : Ground). told g.blocks.draft history q) is.is
      ∙ edited-others land at is.node history q (IsSome-is (fresh_at land.blocks.draft at) node here) differ

  pub rewritten-fresh : (q : ℕ) → q ≢ at → fresh_at new.blocks.draft q ≡ fresh_at land.blocks.draft q
  rewritten-fresh q differ = fresh_at-told land.blocks.draft new.blocks.draft q (rewritten-told (Unrecorded 0) q differ)

  pub rewritten-here : fresh_at new.blocks.draft at ≡ Some is.node
  rewritten-here = ap (λ (g : Ground). fresh_at g.blocks.draft at) is.is
      ∙ edited-here land at is.node (IsSome-is (fresh_at land.blocks.draft at) node here)

-- ---- both

module _ (old mid : Ground) (left right : ℕ) (differ : left ≢ right) (pair : ArePair old left right)
    (are : AreRewritten old mid left right) where
  pub left_between : fresh_at are.mid.blocks.draft left ≡ Some pair.a
  left_between = rewritten-fresh old are.mid right pair.b pair.right_here (are.first pair.b pair.right_here) left differ
      ∙ pair.left_here

  pub both-rests : (history : History) (generation : ℕ) → IsBacked old.blocks history
      → IsDrafted old generation → Rests old mid history generation
  both-rests history generation backed drafted =
      let one = rewritten-rests old are.mid right generation pair.b pair.right_here (are.first pair.b pair.right_here)
      history backed drafted in
      let two = rewritten-rests are.mid mid left generation pair.a left_between (are.later pair.a pair.left_here)
      history one.backed one.drafted in
      Rests-after old are.mid mid history history generation one two

  pub between-backed : (history : History) → IsBacked old.blocks history → IsBacked are.mid.blocks history
  between-backed history backed = rewritten-backed old are.mid right pair.b pair.right_here
      (are.first pair.b pair.right_here) history backed

  pub both-backed : (history : History) → IsBacked old.blocks history → IsBacked mid.blocks history
  both-backed history backed = rewritten-backed are.mid mid left pair.a left_between (are.later pair.a pair.left_here)
      history (between-backed history backed)

  pub first-spares : Spares old are.mid
  first-spares = rewritten-spares old are.mid right 0 pair.b pair.right_here (are.first pair.b pair.right_here)

  pub later-spares : Spares are.mid mid
  later-spares = rewritten-spares are.mid mid left 0 pair.a left_between (are.later pair.a pair.left_here)

  -- nothing else is told otherwise
  pub both-told : (history : History) (q : ℕ) → q ≢ left → q ≢ right
      → told mid.blocks.draft history q ≡ told old.blocks.draft history q
  both-told history q not_left not_right =
      rewritten-told are.mid mid left pair.a left_between (are.later pair.a pair.left_here) history q not_left
      ∙ rewritten-told old are.mid right pair.b pair.right_here (are.first pair.b pair.right_here) history q not_right

-- ---- what is answered where a node is left

-- no rule is broken where it is fresh
pub fresh-unbroken : (A B : Type 0) (fault : BlockFault) (draft : Draft) (image : List ℕ) (at : ℕ) (node : Node)
    → fresh_at draft at ≡ Some node → Answers {A = A} (Err fault) at (found draft image at)
    → BreaksNone {A = B} (Err fault)
fresh-unbroken A B Disk draft image at node here answers = tt
fresh-unbroken A B NoMemory draft image at node here answers = tt
fresh-unbroken A B (Image rule q) draft image at node here answers = let is = rw here at answers.1 in cc
