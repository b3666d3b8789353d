-- What stands in an image after a commit: both superblocks, and each node in its slot.
use Rattle.std.proofs.Common.{◌≡◌, ℕ, ◌+◌, ◌≤◌, ◌⊎◌, inl, inr, true, false, List, [], ◌∷◌, map, length, get_or, Some}
use Rattle.std.proofs.Common.{Ok, refl, ap, ◌∙◌, arith}
use Rattle.std.specs.Prelude.{◌==◌, IsTrue, All}
use Rattle.std.specs.List.{AllByRecursion, IsDistinct}
use Rattle.std.proofs.lemmas.Bool.{eqb-false}
use Rattle.std.proofs.lemmas.List.Elements.{All-from_recursion, recursion_from_All}
use Rattle.std.proofs.lemmas.Map.Keys.{IsDistinct-head, IsDistinct-tail}
use Rattle.qg_device.specs.History.{Event, Wrote, overlay, content}
use Rattle.qg_disk.proofs.Sizes.{length-overlay}
use Rattle.qg_node.specs.declared.node.Node.{Node}
use Rattle.qg_node.specs.Nodes.{header_of}
use Rattle.qg_node.specs.NodeText.{node_text}
use Rattle.qg_node.specs.Reading.{node_read}
use Rattle.qg_node.proofs.Texts.{length-node_text}
use Rattle.qg_super.specs.declared.superblock.Super.{Super}
use Rattle.qg_super.specs.Places.{first_place, second_place, slots_begin, sector, is_slot, total_bytes}
use Rattle.qg_super.specs.SuperText.{super_text, super_read, is_super, sizes_of}
use Rattle.qg_super.proofs.SuperTexts.{length-super_text, super_read-super_text}
use Rattle.qg_super.proofs.Served.{SizesFit, SizesFit-is_served, SuperFits-is_super}
use Rattle.qg_image.specs.Walk.{node_found}
use Rattle.qg_image.specs.ImageState.{super_in}
use Rattle.qg_commit.specs.Calls.{IsReadBack, IsWritable, with_nodes, with_commit}
use Rattle.qg_other_trees.specs.Holds.{HasCommit}
use Rattle.qg_crashes.proofs.Between.{is_slot-IsBetween, slots-apart}
use Rattle.qg_commit.proofs.Ranges.{HasRange, written-HasRange, kept-HasRange, range-slice_range}

-- where a node lies, in bytes
abbrev pub address_of : Node → ℕ
address_of node = (header_of node).address

-- ---- the nodes of a commit

-- nodes that a commit may write: each has a text and lies in a slot of its own
pub record AreCommittable (super : Super) (nodes : List Node) : Type 0 where
  pub writable : AllByRecursion (IsWritable super.nodesize) nodes
  pub in_slots : All (λ node. IsTrue (is_slot (sizes_of super) (header_of node).address)) nodes
  pub apart : IsDistinct (λ a b. a == b) (map (λ node. (header_of node).address) nodes)

-- a node lies in a slot, its text fills the slot, and is read there as the node
record IsPlaced (super : Super) (node : Node) : Type 0 where
  slot : is_slot (sizes_of super) (address_of node) ≡ true
  long : length (node_text super.nodesize node) ≡ super.nodesize
  again : node_read (address_of node) (node_text super.nodesize node) ≡ Ok node

all-IsPlaced : (super : Super) (nodes : List Node) → AreCommittable super nodes → All (IsReadBack super.nodesize) nodes
    → AllByRecursion (IsPlaced super) nodes
all-IsPlaced super nodes are read =
    let writable = All-from_recursion (IsWritable super.nodesize) nodes are.writable in
    recursion_from_All (IsPlaced super) nodes
    (λ k d below. record {
      slot = are.in_slots k d below;
      long = length-node_text super.nodesize (get_or nodes k d) (writable k d below).node_of_format.fits;
      again = read k d below;
    })

-- a slot is apart from those at other addresses
others-apart : (super : Super) (address : ℕ) (nodes : List Node) → is_slot (sizes_of super) address ≡ true
    → AllByRecursion (λ other. (address == other) ≡ false) (map address_of nodes)
    → AllByRecursion (IsPlaced super) nodes
    → AllByRecursion (λ node. (address + super.nodesize ≤ address_of node)
    ⊎ (address_of node + super.nodesize ≤ address)) nodes
others-apart super address [] slot differ are = tt
others-apart super address (node ∷ nodes) slot differ are = (
  slots-apart (sizes_of super) address (address_of node) slot are.0.slot (eqb-false address (address_of node) differ.0),
  others-apart super address nodes slot differ.1 are.1,
)

-- ---- the nodes are written

-- what lies apart from the nodes' slots stays
nodes-keep : (super : Super) (nodes : List Node) (events : List Event) (place size : ℕ) (kept : List ℕ)
    → AllByRecursion (IsPlaced super) nodes → length kept ≡ size
    → AllByRecursion (λ node. (place + size ≤ address_of node) ⊎ (address_of node + super.nodesize ≤ place)) nodes
    → HasRange (content events) place kept → HasRange (content (with_nodes super.nodesize nodes events)) place kept
nodes-keep super [] events place size kept are long apart has = has
nodes-keep super (node ∷ nodes) events place size kept are long apart has =
    let at = address_of node in
    let text = node_text super.nodesize node in
    let fills : length text ≡ super.nodesize = are.0.long in
    let here : (place + length kept ≤ at) ⊎ (at + length text ≤ place) = elim apart.0 [
      | inl before ↦ inl (omega arith)
      | inr behind ↦ inr (omega arith)
    ] in
    nodes-keep super nodes (Wrote at text ∷ events) place size kept are.1 long apart.1
    (kept-HasRange at place text kept (content events) here has)

-- each node stands in its slot
nodes-stand : (super : Super) (nodes : List Node) (events : List Event) → AllByRecursion (IsPlaced super) nodes
    → IsDistinct (λ a b. a == b) (map address_of nodes)
    → AllByRecursion (λ node. HasRange (content (with_nodes super.nodesize nodes events)) (address_of node)
    (node_text super.nodesize node)) nodes
nodes-stand super [] events are distinct = tt
nodes-stand super (node ∷ nodes) events are distinct =
    let at = address_of node in
    let text = node_text super.nodesize node in
    let same = λ (a b : ℕ). a == b in
    let there = Wrote at text ∷ events in
    let differ = IsDistinct-head same at (map address_of nodes) distinct in
    let apart = others-apart super at nodes are.0.slot differ are.1 in (
      nodes-keep super nodes there at super.nodesize text are.1 are.0.long apart
          (written-HasRange at text (content events)),
      nodes-stand super nodes there are.1 (IsDistinct-tail same at (map address_of nodes) distinct),
    )

-- a disk gets no shorter where nodes are written, nor by a commit
pub with_nodes-no_shorter : (nodesize : ℕ) (nodes : List Node) (events : List Event)
    → length (content events) ≤ length (content (with_nodes nodesize nodes events))
with_nodes-no_shorter nodesize [] events = omega arith
with_nodes-no_shorter nodesize (node ∷ nodes) events =
    let at = address_of node in
    let text = node_text nodesize node in
    let later = with_nodes-no_shorter nodesize nodes (Wrote at text ∷ events) in
    omega (arith, later, length-overlay at text (content events))

pub with_commit-no_shorter : (super : Super) (nodes : List Node) (events : List Event)
    → length (content events) ≤ length (content (with_commit super nodes events))
with_commit-no_shorter super nodes events =
    let first = super_text first_place super in
    let second = super_text second_place super in
    let written = content (with_nodes super.nodesize nodes events) in
    let before = with_nodes-no_shorter super.nodesize nodes events in
    omega (
      arith,
      before,
      length-overlay first_place first written,
      length-overlay second_place second
          (overlay first_place first written),
    )

-- ---- the superblocks are written

-- what both superblocks leave
abbrev with_supers : Super → List ℕ → List ℕ
with_supers super old = overlay second_place (super_text second_place super)
    (overlay first_place (super_text first_place super) old)

-- what lies between them stays
supers-keep : (super : Super) (old : List ℕ) (place : ℕ) (kept : List ℕ) → slots_begin ≤ place
    → place + length kept ≤ second_place
    → HasRange old place kept → HasRange (with_supers super old) place kept
supers-keep super old place kept begin end has =
    let first = super_text first_place super in
    let second = super_text second_place super in
    let short : length first ≡ 4096 = length-super_text first_place super in
    kept-HasRange second_place place second kept (overlay first_place first old) (inl end)
    (kept-HasRange first_place place first kept old (inr (omega arith)) has)

first-stands : (super : Super) (old : List ℕ)
    → HasRange (with_supers super old) first_place (super_text first_place super)
first-stands super old =
    let first = super_text first_place super in
    let second = super_text second_place super in
    let short : length first ≡ 4096 = length-super_text first_place super in
    kept-HasRange second_place first_place second first (overlay first_place first old) (inl (omega arith))
    (written-HasRange first_place first old)

second-stands : (super : Super) (old : List ℕ)
    → HasRange (with_supers super old) second_place (super_text second_place super)
second-stands super old =
    written-HasRange second_place (super_text second_place super)
    (overlay first_place (super_text first_place super) old)

-- ---- what is read

-- a superblock that stands there is read
super_in-HasRange : (image : List ℕ) (place : ℕ) (super : Super) → is_super super ≡ true
    → HasRange image place (super_text place super)
    → super_in image place ≡ Some super
super_in-HasRange image place super is has =
    ap (super_read place) (range-slice_range image place sector (super_text place super) (length-super_text place super)
    has) ∙ super_read-super_text place super is

-- a node that stands in its slot is found
node_found-HasRange : (super : Super) (image : List ℕ) (node : Node) → IsPlaced super node
    → HasRange image (address_of node) (node_text super.nodesize node)
    → node_found super image (address_of node) ≡ Ok node
unfolding node_found
node_found-HasRange super image node is has =
    let bytes = range-slice_range image (address_of node) super.nodesize (node_text super.nodesize node) is.long has in
    rw is.slot (rw bytes (rw is.again refl))

-- each node is found after both superblocks were written over what holds the nodes
nodes-found : (super : Super) (old : List ℕ) (nodes : List Node) → SizesFit (sizes_of super)
    → AllByRecursion (IsPlaced super) nodes
    → AllByRecursion (λ node. HasRange old (address_of node) (node_text super.nodesize node)) nodes
    → AllByRecursion (λ node. node_found super (with_supers super old) (address_of node) ≡ Ok node) nodes
nodes-found super old [] served are stand = tt
nodes-found super old (node ∷ nodes) served are stand =
    let between = is_slot-IsBetween (sizes_of super) (address_of node) served are.0.slot in
    let text = node_text super.nodesize node in
    let fills : length text ≡ super.nodesize = are.0.long in
    let kept = supers-keep super old (address_of node) text between.begin (omega (arith, between.end)) stand.0 in (
      node_found-HasRange super (with_supers super old) node are.0 kept,
      nodes-found super old nodes served are.1
          stand.1,
    )

-- ---- the commit

-- after a commit an image that was long enough has both superblocks, and each node where it lies, if each is read from
-- its text
pub with_commit-HasCommit : (super : Super) (nodes : List Node) (events : List Event) → is_super super ≡ true
    → total_bytes (sizes_of super) ≤ length (content events) → AreCommittable super nodes
    → All (IsReadBack super.nodesize) nodes
    → HasCommit super nodes (content (with_commit super nodes events))
with_commit-HasCommit super nodes events is long are read =
    let served = SizesFit-is_served (sizes_of super) (SuperFits-is_super super is).served in
    let placed = all-IsPlaced super nodes are read in
    let image = content (with_commit super nodes events) in
    let written = content (with_nodes super.nodesize nodes events) in
    let stand = nodes-stand super nodes events placed are.apart in
    record {
      first = super_in-HasRange image first_place super is (first-stands super written);
      second = super_in-HasRange image second_place super is (second-stands super written);
      long = omega (arith, long, with_commit-no_shorter super nodes events);
      found = All-from_recursion (λ node. node_found super image (header_of node).address ≡ Ok node) nodes
          (nodes-found super written nodes served placed stand);
    }
