-- The parts of nodes that were cut, joined or spliced.
use Rattle.std.proofs.Common.{◌≡◌, ℕ, ◌≤◌, true, sym, ap, subst, ◌∙◌, arith, inl, inr}
use Rattle.qg_node.specs.declared.node.Header.{Header}
use Rattle.qg_node.specs.declared.node.Node.{Node}
use Rattle.qg_node.specs.Nodes.{header_of, is_ascending, own_keys}
use Rattle.qg_node.specs.NodeText.{IsLevelled, IsNode, IsNodeSize}
use Rattle.qg_shape.specs.declared.joining.Joined.{Joined}
use Rattle.qg_shape.specs.declared.joining.Joined.TheVariants.{Whole, Parted}
use Rattle.qg_shape.specs.Outcomes.{IsJoined, IsSplit}
use Rattle.qg_shape.specs.Parts.{AreAlike}
use Rattle.qg_shape.proofs.Edited.{alike_on}
use Rattle.qg_shape.proofs.Sides.{AreSides-parted, AreSides-split, header_of-parted, header_of-split}
use Rattle.qg_shape.proofs.Together.{header_of-whole_of, levelled_left, own_keys-whole_of}
use Rattle.qg_edit.specs.Outcome.{AreNodesAfter, IsInFront, IsNodeFor}

pub large : (nodesize : ℕ) → IsNodeSize nodesize → 102 ≤ nodesize
large nodesize size = elim size [ inl is ↦ omega (arith, is) | inr is ↦ omega (arith, is) ]

-- ---- a node that was cut

pub front-cut : (nodesize address : ℕ) (old front rest : Node) → IsNodeSize nodesize → IsLevelled old
    → is_ascending (own_keys old) ≡ true → IsSplit nodesize address old front rest
    → IsNodeFor nodesize old front
front-cut nodesize address old front rest size levelled ascending split =
    let sides = AreSides-split nodesize address old front rest (large nodesize size) split levelled ascending in
    let header = header_of-split nodesize address old front rest split in
    record {
      sound = sides.left_node;
      address = ap (λ (h : Header). h.address) header;
      owner = ap (λ (h : Header). h.owner) header;
      generation = ap (λ (h : Header). h.generation) header;
    }

pub rest-of_cut : (nodesize address : ℕ) (old front rest : Node) → IsNodeSize nodesize → IsLevelled old
    → is_ascending (own_keys old) ≡ true → address ≡ (header_of old).address
    → IsSplit nodesize address old front rest → IsNodeFor nodesize old rest
rest-of_cut nodesize address old front rest size levelled ascending same split =
    let sides = AreSides-split nodesize address old front rest (large nodesize size) split levelled ascending in
    record {
      sound = sides.right_node;
      address = ap (λ (h : Header). h.address) split.header ∙ same;
      owner = ap (λ (h : Header). h.owner) split.header;
      generation = ap (λ (h : Header). h.generation) split.header;
    }

-- ---- two nodes that were joined

pub alike-levels : (nodesize : ℕ) (left right : Node) → IsNode nodesize left → IsNode nodesize right
    → (header_of left).level ≡ (header_of right).level → AreAlike left right
alike-levels nodesize left right a b same = alike_on left right a.levelled b.levelled same

pub nodes-joined : (nodesize : ℕ) (left right new_left new_right : Node) (joined : Joined) → IsNodeSize nodesize
    → IsNode nodesize left → IsNode nodesize right
    → (header_of left).level ≡ (header_of right).level → IsInFront left right
    → IsJoined nodesize left right new_left new_right joined
    → AreNodesAfter nodesize left right new_left new_right joined
nodes-joined nodesize left right new_left new_right Whole size a b same front joined =
    let alike = alike-levels nodesize left right a b same in
    let header = ap header_of joined.all ∙ header_of-whole_of left right in
    record {
      sound = record {
        levelled = subst (λ (n : Node). IsLevelled n) (sym joined.all) (levelled_left left right a.levelled);
        ascending = ap (λ (n : Node). is_ascending (own_keys n)) joined.all
            ∙ ap is_ascending (own_keys-whole_of left right alike) ∙ front;
        fits = joined.fits;
      };
      address = ap (λ (h : Header). h.address) header;
      owner = ap (λ (h : Header). h.owner) header;
      generation = ap (λ (h : Header). h.generation) header;
    }
nodes-joined nodesize left right new_left new_right Parted size a b same front joined =
    let alike = alike-levels nodesize left right a b same in
    let sides = AreSides-parted nodesize left right new_left new_right (large nodesize size) joined (sym same)
    (levelled_left left right a.levelled)
    (ap is_ascending (own_keys-whole_of left right alike) ∙ front) in
    let header = header_of-parted nodesize left right new_left new_right joined in (
      record {
        sound = sides.left_node;
        address = ap (λ (h : Header). h.address) header;
        owner = ap (λ (h : Header). h.owner) header;
        generation = ap (λ (h : Header). h.generation) header;
      },
      record {
        sound = sides.right_node;
        address = ap (λ (h : Header). h.address) joined.header;
        owner = ap (λ (h : Header). h.owner) joined.header;
        generation = ap (λ (h : Header). h.generation) joined.header;
      },
    )
