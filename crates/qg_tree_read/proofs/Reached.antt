-- Where the way to a leaf has come to.
use Rattle.std.proofs.Common.{◌≡◌, ℕ, zero, suc, ◌+◌, ◌-◌, true, List, arith, refl, sym, ap, subst, ◌∙◌, drop, Option}
use Rattle.std.proofs.Common.{Some, None}
use Rattle.std.specs.Prelude.{Err}
use Rattle.qg_device.specs.History.{Event, History, Recorded, content}
use Rattle.qg_num.specs.declared.key.Key.{Key}
use Rattle.qg_num.specs.declared.fault.BlockFault.{BlockFault}
use Rattle.qg_num.specs.declared.fault.BlockFault.TheVariants.{NoMemory, Disk, Image}
use Rattle.qg_node.specs.declared.item.Item.{Item}
use Rattle.qg_node.specs.declared.node.Header.{Header}
use Rattle.qg_node.specs.declared.node.Node.{Node}
use Rattle.qg_node.specs.declared.node.Node.TheVariants.{Leaf, Inner}
use Rattle.qg_node.specs.Nodes.{header_of, is_ascending, own_keys, own_pointers}
use Rattle.qg_node.specs.NodeText.{IsNode}
use Rattle.qg_blocks.specs.Below.{leaf_items}
use Rattle.qg_super.specs.declared.superblock.Super.{Super}
use Rattle.qg_blocks.specs.Types.{Expected}
use Rattle.qg_blocks.specs.Types.{TreeKind}
use Rattle.qg_blocks.specs.Walk.{root_expected}
use Rattle.qg_walk.specs.Added.{is_to}
use Rattle.qg_walk.specs.Standing.{expected_below, form_failure}
use Rattle.qg_walk.proofs.Failures.{IsFormed-form}
use Rattle.qg_blocks.specs.NodesInMemory.{Draft, Held}
use Rattle.qg_blocks.specs.NodesFound.{found, told}
use Rattle.qg_tree_read.specs.declared.way.Way.{Way}
use Rattle.qg_tree_read.specs.Tree.{Root, TellsTree, super_of}
use Rattle.qg_tree_read.specs.Way.{BreaksOnWay, BreaksThere, ComesTo, FailsOnWay, FailsThere, HasRead, IsReached}
use Rattle.qg_tree_read.specs.Way.{IsVisited, LeadsFor, LeadsOn}
use Rattle.qg_tree_read.proofs.Under.{level-told, under-inner, under-leaf}
use Rattle.qg_tree_read.proofs.Leads.{IsOnWay, on_way-leaf, on_way-step}

-- ---- the walk comes there

pub comes-step : (tree : TreeKind) (super : Super) (nodes : ℕ → Option Node) (expected : Expected) (root depth next : ℕ)
    (above below : Expected) (parent address : ℕ) (node : Node)
    → next ≡ suc depth → ComesTo tree super nodes expected root depth above parent → nodes parent ≡ Some node
    → form_failure tree super above parent node ≡ None
    → LeadsOn node above below address → ComesTo tree super nodes expected root next below address
unfolding ComesTo
comes-step tree super nodes expected root depth next above below parent address node is comes there formed leads =
    rw is (above, parent, node, comes, there, formed, leads)

pub leads-on : (node : Node) (above : Expected) (level : ℕ) (key : Key) (way : Way) → (header_of node).level - 1 ≡ level
    → LeadsFor (own_pointers node) above.to level key way
    → LeadsOn node above way.expected way.address
leads-on node above level key way low leads = record {
  place = leads.place;
  pointer = leads.pointer;
  there = leads.there;
  child = leads.child;
  expects = leads.expects ∙ ap
      (λ (n : ℕ). expected_below n above.to leads.pointer (drop (leads.place + 1) (own_pointers node))) (sym low);
}

-- what is answered at an address that the walk comes to
pub fails-on_way : (A B : Type 0) (tree : TreeKind) (root : Root) (draft other : Draft) (events : List Event)
    (depth : ℕ)
    (expected : Expected) (address : ℕ) (fault : BlockFault) → other ≡ draft
    → ComesTo tree (super_of root draft) (told draft (Recorded events)) (root_expected (Some root.height) None)
    root.address
    depth expected address
    → FailsThere {A = A} tree (super_of root other) expected address (found other (content events) address) (Err fault)
    → FailsOnWay {A = B} tree root draft events (Err fault)
fails-on_way A B tree root draft other events depth expected address (Image broken at) same comes fails =
    let breaks = subst (λ (d : Draft). BreaksThere tree (super_of root d) expected address broken
    (found d (content events) address)) same fails.1 in
    let there : BreaksOnWay tree root draft events broken address = record {
      depth = depth;
      expected = expected;
      comes = comes;
      breaks = breaks;
    } in
    subst (λ (a : ℕ). BreaksOnWay tree root draft events broken a) (sym fails.0) there
fails-on_way A B tree root draft other events depth expected address Disk same comes fails = tt
fails-on_way A B tree root draft other events depth expected address NoMemory same comes fails = tt

-- a tree stands after a reading
pub tells-read : (tree : TreeKind) (root : Root) (old new : Held) (before after : History) (bytes left : ℕ)
    (whole : List Item) → HasRead old new before after bytes left
    → TellsTree tree root old.draft before whole → TellsTree tree root new.draft after whole
tells-read tree root old new before after bytes left whole read tells =
    subst (λ (h : History). TellsTree tree root new.draft h whole) (sym read.history)
    (subst (λ (d : Draft). TellsTree tree root d before whole) (sym read.draft) tells)

-- ---- a node of a tree

-- the node that a tree has where the way has come to
pub record IsToldThere (tree : TreeKind) (super : Super) (nodes : ℕ → Option Node) (expected : Expected)
    (address : ℕ) : Type 0 where
  pub node : Node
  pub there : nodes address ≡ Some node
  pub formed : form_failure tree super expected address node ≡ None

pub told-on_way : (tree : TreeKind) (super : Super) (nodes : ℕ → Option Node) (key : Key) (level : ℕ)
    (expected : Expected)
    (address : ℕ) (whole : List Item)
    → IsOnWay tree super nodes key level expected address whole → IsToldThere tree super nodes expected address
told-on_way tree super nodes key zero expected address whole on =
    let leaf = under-leaf tree super nodes expected address on.items on.under in
    record { node = Leaf leaf.header on.items; there = leaf.here; formed = leaf.formed }
told-on_way tree super nodes key (suc level) expected address whole on =
    let inner = under-inner tree super nodes level expected address on.items on.under in
    record { node = Inner inner.header inner.pointers; there = inner.here; formed = inner.formed }

-- a step from a node that was visited
pub visited-step : (tree : TreeKind) (super : Super) (draft : Draft) (history : History) (held : Held)
    (key : Key) (level next : ℕ) (whole : List Item) (from to : Way)
    → level ≡ suc next → (visited : IsVisited tree super from.expected draft history held from.address)
    → LeadsFor (own_pointers visited.node) from.expected.to next key to
    → IsOnWay tree super (told draft history) key level from.expected from.address whole
    → IsOnWay tree super (told draft history) key next to.expected to.address whole
visited-step tree super draft history held key level next whole from to is visited leads on =
    let here = told-on_way tree super (told draft history) key level from.expected from.address whole on in
    let there : told draft history from.address ≡ Some visited.node = here.there
    ∙ ap Some (visited.alone here.node here.there) in
    on_way-step tree super (told draft history) key next from.expected from.address whole to visited.node there
    visited.kept.sound.ascending leads
    (subst (λ (n : ℕ). IsOnWay tree super (told draft history) key n from.expected from.address whole) is on)

-- ---- the leaf

-- the items that are read of it
pub leaf-read : (node : Node) (header : Header) (items read : List Item) → Some node ≡ Some (Leaf header items)
    → leaf_items node ≡ Some read → read ≡ items
leaf-read (Leaf own others) header items read is there = cc
leaf-read (Inner own pointers) header items read is there = absurd cc

leaf_at : (nodesize : ℕ) (node : Node) → IsNode nodesize node → (header_of node).level ≡ 0
    → (header : Header) × (items : List Item) × (node ≡ Leaf header items)
leaf_at nodesize (Leaf header items) kept low = (header, items, refl)
leaf_at nodesize (Inner header pointers) kept low = absurd (let high = kept.levelled.0 in omega (arith, high, low))

pub reached : (tree : TreeKind) (root : Root) (draft : Draft) (history : History) (key : Key) (held : Held)
    (way : Way)
    → IsVisited tree (super_of root draft) way.expected draft history held way.address → way.expected.level ≡ Some 0
    → is_to way.expected.to key ≡ true
    → ((whole : List Item) → TellsTree tree root draft history whole
    → IsOnWay tree (super_of root draft) (told draft history) key 0 way.expected way.address whole)
    → IsReached tree root draft history key held way
reached tree root draft history key held way visited level past on =
    let low = level-told way.expected.level 0 (header_of visited.node).level level
    (IsFormed-form tree (super_of root draft) way.expected way.address visited.node visited.formed).level in
    let leaf = leaf_at draft.sizes.nodesize visited.node visited.kept.sound low in
    record {
      header = leaf.0;
      items = leaf.1;
      is = visited.is ∙ ap Some leaf.2;
      ascending = subst (λ (n : Node). is_ascending (own_keys n) ≡ true) leaf.2 visited.kept.sound.ascending;
      past = past;
      part = λ whole tells.
          let here = told-on_way tree (super_of root draft) (told draft history) key 0 way.expected way.address whole
          (on whole tells) in
          let there : told draft history way.address ≡ Some (Leaf leaf.0 leaf.1) = here.there
          ∙ ap Some (visited.alone here.node here.there ∙ leaf.2) in
          on_way-leaf tree (super_of root draft) (told draft history) key way.expected way.address whole leaf.1 leaf.0
          there (on whole tells);
    }
