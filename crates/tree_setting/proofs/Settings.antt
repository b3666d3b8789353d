-- What the calls of a tree ask between any two of them.
use Rattle.std.proofs.Common.{◌≡◌, ◌<◌, ◌≤◌, ℕ, List, length, lit≤, map, true, ap, subst, sym, ◌∙◌, refl}
use Rattle.std.specs.Prelude.{Result, Ok, Err, MatchResult}
use Rattle.std.specs.List.{All}
use Rattle.qg_device.specs.History.{History}
use Rattle.qg_num.specs.declared.fault.BlockFault.{BlockFault}
use Rattle.qg_super.specs.declared.sizes.Sizes.{Sizes}
use Rattle.qg_node.specs.declared.item.Item.{Item}
use Rattle.qg_node.specs.Nodes.{is_ascending}
use Rattle.qg_node.specs.NodeText.{IsNodeSize}
use Rattle.qg_super.specs.Places.{is_served, second_place}
use Rattle.qg_super.proofs.Served.{SizesFit-is_served}
use Rattle.qg_space.specs.Holding.{free_slots}
use Rattle.qg_blocks.specs.NodesInMemory.{Draft, Held, nothing_fresh}
use Rattle.qg_blocks.specs.NodesFound.{IsBacked}
use Rattle.qg_image.specs.ItemMeaning.{is_subvolume_number}
use Rattle.qg_image.specs.declared.tree.TreeKind.TheVariants.{Files}
use Rattle.qg_node_alloc.specs.declared.ground.Ground.{Ground}
use Rattle.qg_node_alloc.specs.Land.{IsDrafted, IsGround, Rests}
use Rattle.qg_node_alloc.proofs.Editing.{ArePlaced-drafted}
use Rattle.qg_node_alloc.proofs.Lands.{IsDrafted-none, Rests-draft}
use Rattle.qg_tree_read.specs.Tree.{Root}
use Rattle.qg_tree_edits.specs.Editing.{CanMake, IsEditable}
use Rattle.qg_tree_edits.specs.Rooting.{Grows}
use Rattle.qg_tree_build.specs.Building.{CanBuild, most_nodes}
use Rattle.qg_tree_read.specs.Way.{HasRead, IsReadable}

module _ (land : Ground) (history : History) (bytes generation : ℕ) where
  -- it is read
  pub readable_land : IsEditable land history bytes generation → IsReadable land.blocks history bytes
  readable_land is = record { backed = is.backed; placed = ArePlaced-drafted land generation bytes is.room is.drafted }

  -- and is edited as before when it was
  pub read_land : IsEditable land history bytes generation → (blocks : Held) (after : History) (left : ℕ)
      → HasRead land.blocks blocks history after bytes left → IsReadable blocks after left
      → IsEditable (record land { blocks = blocks }) after left generation
  read_land is blocks after left read readable =
      let new : Ground = record land { blocks = blocks } in
      let rests = Rests-draft land new after generation read.draft read.bound refl readable.backed is.drafted in
      record { backed = readable.backed; drafted = rests.drafted; room = rw read.size is.room }

-- what rests is edited, on a disk with room
pub rested_land : (old new : Ground) (history : History) (bytes generation : ℕ)
    → Rests old new history generation → second_place ≤ bytes
    → IsEditable new history bytes generation
rested_land old new history bytes generation rests room = record {
  backed = rests.backed;
  drafted = rests.drafted;
  room = room;
}

-- the tree of the first subvolume has such nodes
own_number : is_subvolume_number 5 ≡ true
unfolding is_subvolume_number
own_number = refl

pub makes_files : (root : Root) (address height next : ℕ)
    → root ≡ record { address = address; height = height; owner = 5; next = next } → 0 < next → CanMake Files root
makes_files root address height next is later = record {
  owner = rw is own_number;
  next = rw is later;
}

-- a tree that was edited, or that was left as it was, keeps its number and generation
pub edited_names : (before after : Root) (old new : Ground) (result : Result (Unit {0}) BlockFault)
    → MatchResult result (λ done. Grows 0 before after old new) (λ fault. after ≡ before)
    → (after.owner ≡ before.owner) × (after.next ≡ before.next)
edited_names before after old new (Ok done) grows = (grows.stays.owner, grows.stays.next)
edited_names before after old new (Err fault) same =
    (ap (λ (root : Root). root.owner) same, ap (λ (root : Root). root.next) same)

pub edited_makes : (before after : Root) → (after.owner ≡ before.owner) × (after.next ≡ before.next)
    → CanMake Files before → CanMake Files after
edited_makes before after names makes = record {
  owner = rw names.0 makes.owner;
  next = rw names.1 makes.next;
}

-- nodes and space of these sizes, of which no node is fresh
module _ (land : Ground) (sizes : Sizes) (served : is_served sizes ≡ true)
    (draft : land.blocks.draft ≡ nothing_fresh sizes) (space : land.space.sizes ≡ sizes) where
  empty_drafted : (generation : ℕ) → IsDrafted land generation
  empty_drafted generation =
      let same : land.blocks.draft.sizes ≡ land.space.sizes = ap (λ (d : Draft). d.sizes) draft ∙ sym space in
      let ground : IsGround land = record {
        served = rw space served;
        nodesize = ap (λ (s : Sizes). s.nodesize) same;
        slots = ap (λ (s : Sizes). s.slots) same;
      } in
      IsDrafted-none land generation ground (ap (λ (d : Draft). d.fresh) draft)

  pub empty_land : (history : History) (bytes generation : ℕ) → IsBacked land.blocks history
      → second_place ≤ bytes → IsEditable land history bytes generation
  empty_land history bytes generation backed room = record {
    backed = backed;
    drafted = empty_drafted generation;
    room = room;
  }

-- and so their sizes are those of nodes in memory
pub draft_sizes : (draft : Draft) (sizes : Sizes) → draft ≡ nothing_fresh sizes → draft.sizes ≡ sizes
draft_sizes draft sizes is = ap (λ (d : Draft). d.sizes) is

-- a tree may be built there, of items that are as a list of them
pub can_build : (land : Ground) (sizes : Sizes) (history : History) (bytes owner next free : ℕ)
    (items list : List Item) → is_served sizes ≡ true → land.blocks.draft ≡ nothing_fresh sizes
    → land.space.sizes ≡ sizes → IsBacked land.blocks history → second_place ≤ bytes → owner ≡ 5 → next ≡ 1
    → list ≡ items → free ≡ free_slots land.space → is_ascending (map (λ item. item.key) list) ≡ true
    → All (λ item. length item.body ≤ 1024) list → most_nodes sizes.nodesize list ≤ free
    → CanBuild Files land history bytes owner next items
can_build land sizes history bytes owner next free items list served draft space backed room named dated same count
    ascending short slots =
    let enough : most_nodes sizes.nodesize items ≤ free_slots land.space =
    subst (λ (n : ℕ). most_nodes sizes.nodesize items ≤ n) count
    (subst (λ (is : List Item). most_nodes sizes.nodesize is ≤ free) same slots) in
    record {
      editable = empty_land land sizes served draft space history bytes next backed room;
      owned = rw named own_number;
      later = rw dated (lit≤ tt);
      ascending = subst (λ (is : List Item). is_ascending (map (λ item. item.key) is) ≡ true) same ascending;
      short = subst (λ (is : List Item). All (λ item. length item.body ≤ 1024) is) same short;
      slots = subst (λ (s : Sizes). most_nodes s.nodesize items ≤ free_slots land.space) (sym space) enough;
    }

pub node_size : (sizes : Sizes) → is_served sizes ≡ true → IsNodeSize sizes.nodesize
node_size sizes served = (SizesFit-is_served sizes served).node_size
