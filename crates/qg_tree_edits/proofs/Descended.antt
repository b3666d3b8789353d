-- A node that an edit goes on from to one of its children.
use Rattle.std.proofs.Common.{◌≡◌, ℕ, suc, ◌+◌, ◌-◌, List, ◌++◌, map, take, drop, sym, subst, ◌∙◌, Option, Some}
use Rattle.qg_device.specs.History.{History}
use Rattle.qg_node.specs.declared.item.Item.{Item}
use Rattle.qg_node.specs.declared.pointer.Pointer.{Pointer}
use Rattle.qg_node.specs.declared.node.Header.{Header}
use Rattle.qg_node.specs.declared.node.Node.{Node}
use Rattle.qg_node.specs.declared.node.Node.TheVariants.{Inner}
use Rattle.qg_node.specs.Nodes.{own_pointers}
use Rattle.qg_shape.specs.Places.{LeadsTo}
use Rattle.qg_image.specs.declared.expected.Expected.{Expected}
use Rattle.qg_image.specs.declared.tree.TreeKind.{TreeKind}
use Rattle.qg_blocks.specs.NodesFound.{fresh_at, held_at, told}
use Rattle.qg_blocks.proofs.Telling.{fresh-held}
use Rattle.qg_node_alloc.specs.declared.ground.Ground.{Ground}
use Rattle.qg_node_alloc.specs.Land.{IsDrafted, Rests}
use Rattle.qg_node_alloc.specs.Tellings.{Telling}
use Rattle.qg_edit.specs.declared.edit.Edit.{Edit}
use Rattle.qg_edit.specs.Edits.{IsShort}
use Rattle.qg_tree_edits.specs.declared.instead.Instead.{Instead}
use Rattle.qg_tree_read.specs.declared.way.Way.{Way}
use Rattle.qg_tree_read.specs.Tree.{Root, super_of}
use Rattle.qg_tree_edits.specs.First.{first_leaf, least, leaves, leaves_behind}
use Rattle.qg_tree_read.specs.Branch.{IsMember}
use Rattle.qg_tree_edits.specs.Editing.{CanMake, IsLeafEdited, IsOwned, IsPartEdited, IsPartFit, IsPlacedBehind}
use Rattle.qg_tree_edits.specs.Editing.{IsSettled, IsUnsettled, IsWayAt, KeepsAbove, KeepsLeaves, ReachesBeside}
use Rattle.qg_tree_edits.specs.Editing.{ReachesParts, slots_for}
use Rattle.qg_tree_edits.specs.Counting.{AreCommitted, IsPartTold, IsTold, TellSame, tellings_made, tellings_owned}
use Rattle.qg_tree_edits.specs.Counting.{ways_each, ways_parts}
use Rattle.qg_tree_edits.proofs.Around.{IsAround}
use Rattle.qg_tree_edits.proofs.AroundEdited.{edited-leaf, edited-whole, unsettled}
use Rattle.qg_tree_edits.proofs.PartBelow.{IsParted, around, first-below, first-place, fit-inner, owned-here, part}
use Rattle.qg_tree_edits.proofs.PartBelow.{part-below}
use Rattle.qg_tree_edits.proofs.PartEdited.{fit-branch, part-edited-unsettled, part-told-unsettled}
use Rattle.qg_tree_edits.proofs.LeavesBelow.{below-leaves}

module _ (tree : TreeKind) (root : Root) (land mid : Ground) (history : History) (level : ℕ)
    (expected : Expected) (at now : ℕ) (edit : Edit) (items : List Item)
    (fit : IsPartFit tree root land history (suc level) expected at edit items)
    (owned : IsOwned tree root land mid history expected at now) (makes : CanMake tree root)
    (drafted : IsDrafted land root.next)
    (sizes : mid.blocks.draft.sizes ≡ land.blocks.draft.sizes) (held again : Node)
    (held_is : held_at mid.blocks now ≡ Some held) (again_is : held_at mid.blocks now ≡ Some again) (place : ℕ)
    (leads_held : LeadsTo (map (λ (p : Pointer). p.key) (own_pointers held)) edit.key place) (below : Way)
    (way_again : IsWayAt (own_pointers again) expected.to level place below) where
  header : Header
  header = (fit-inner tree root land history level expected at edit items fit).0

  pub descended-pointers : List Pointer
  descended-pointers = (fit-inner tree root land history level expected at edit items fit).1

  here : told land.blocks.draft history at ≡ Some (Inner header descended-pointers)
  unfolding header descended-pointers
  here = (fit-inner tree root land history level expected at edit items fit).2

  mine : (mine : Header) × (fresh_at mid.blocks.draft now ≡ Some (Inner mine descended-pointers))
      × IsMember tree (super_of root mid.blocks.draft) (suc level) mine
  mine = owned-here tree root land mid history level expected at now edit items fit owned makes drafted sizes header
      descended-pointers here

  leads : LeadsTo (map (λ (p : Pointer). p.key) descended-pointers) edit.key place
  leads =
      subst (λ (n : Node). LeadsTo (map (λ (p : Pointer). p.key) (own_pointers n)) edit.key place)
      (fresh-held mid.blocks now (Inner mine.0 descended-pointers) held mine.1 held_is) leads_held

  pub descended-way : IsWayAt descended-pointers expected.to level place below
  descended-way =
      subst (λ (n : Node). IsWayAt (own_pointers n) expected.to level place below)
      (fresh-held mid.blocks now (Inner mine.0 descended-pointers) again mine.1 again_is) way_again

  whole : IsParted tree (super_of root land.blocks.draft) (told land.blocks.draft history) level expected.to
      (take place descended-pointers) descended-way.pointer (drop (place + 1) descended-pointers) items
  whole = part tree root land mid history level expected at now edit items fit owned makes drafted sizes header
      descended-pointers here place below leads descended-way

  pub descended-mine : List Item
  descended-mine = whole.mine

  -- the child can be edited
  pub descended-fit : IsPartFit tree root mid history level below.expected below.address edit descended-mine
  unfolding descended-mine whole
  descended-fit = part-below tree root land mid history level expected at now edit items fit owned makes drafted sizes
      header descended-pointers here place below leads descended-way

  below_first : edit.key ≡ least → first_leaf (told mid.blocks.draft history) level below.address
      ≡ first_leaf (told land.blocks.draft history) (suc level) at
  below_first = first-below tree root land mid history level expected at now edit items fit owned makes drafted sizes
      header descended-pointers here place below leads descended-way

  -- the least key leads to the first child
  pub descended-first : edit.key ≡ least → place ≡ 0
  descended-first = first-place tree root land mid history level expected at now edit items fit owned makes drafted
      sizes header descended-pointers here place below leads descended-way

  about : IsAround tree root mid history level now expected.to place edit.key descended-pointers whole.front
      descended-mine whole.back items
  unfolding descended-mine whole
  about = around tree root land mid history level expected at now edit items fit owned makes drafted sizes header
      descended-pointers here place below leads descended-way

  module _ (low : Ground) (child : Instead)
      (edited_child : IsPartEdited tree root mid low history level below.address edit descended-mine child)
      (above : KeepsAbove level mid low)
      (sizes_low : low.blocks.draft.sizes ≡ mid.blocks.draft.sizes) (short : IsShort edit.change) where
    pub descended-items : List Item
    descended-items = whole.front ++ (edited_child.items_new ++ whole.back)

    edits : IsLeafEdited edit items descended-items
    unfolding descended-items
    edits =
        edited-whole tree root mid low history level now expected.to place edit descended-pointers whole.front
        descended-mine whole.back items about below.address child edited_child

    leaf_is : edits.leaf ≡ edited_child.edits.leaf
    unfolding edits descended-items
    leaf_is =
        edited-leaf tree root mid low history level now expected.to place edit descended-pointers whole.front
        descended-mine whole.back items about below.address child edited_child

    first : edit.key ≡ least → edits.leaf ≡ first_leaf (told land.blocks.draft history) (suc level) at
    first is = leaf_is ∙ edited_child.first is ∙ below_first is

    -- it was edited, and its node is not yet
    pub descended-unsettled : IsUnsettled tree root low history level now expected.to place child descended-items
    unfolding descended-items
    descended-unsettled =
        unsettled tree root mid low history level now expected.to place edit descended-pointers whole.front
        descended-mine whole.back items about below.address child edited_child
        descended-way.pointer descended-way.there (sym descended-way.child) above sizes_low short

    -- the first leaf of the child was cleared, and the pointers are set: the leaves under the node
    pub descended-leaves : (set : Ground) → edit.key ≡ least
        → KeepsLeaves low set history level now child.now descended-unsettled.pointers
        → leaves (told low.blocks.draft history) level child.now ≡ leaves_behind
        (leaves (told mid.blocks.draft history) level below.address)
        → leaves (told set.blocks.draft history) (suc level) now ≡ leaves_behind
        (leaves (told land.blocks.draft history) (suc level) at)
    descended-leaves set is kept cleared =
        below-leaves tree root land mid history level expected at now edit items fit owned makes drafted header
        descended-pointers here place descended-way.pointer below.address
        whole.front descended-mine whole.back descended-way.there descended-way.child (descended-first is) about low set
        child edited_child above descended-items descended-unsettled kept cleared

    module _ (set end : Ground) (own_later child_later set_later end_later : History) (rest : Option Node)
        (instead : Instead)
        (settled : IsSettled tree root low set history level now place child descended-unsettled.pointers
        descended-unsettled.header descended-items rest)
        (placed : IsPlacedBehind root.owner set end now rest instead)
        (own_rests : Rests land mid own_later root.next) (child_rests : Rests mid low child_later root.next)
        (set_rests : Rests low set set_later root.next) (end_rests : Rests set end end_later root.next) where
      -- and now all is edited
      pub descended-edited : IsPartEdited tree root land end history (suc level) at edit items instead
      descended-edited =
          part-edited-unsettled tree root land mid low set end history own_later child_later set_later end_later level
          expected at now edit place descended-pointers whole.front descended-mine whole.back items
          descended-items descended-way.pointer below.address child rest instead
          (fit-branch tree root land history (suc level) expected at edit items fit) fit.apart makes owned about
          descended-way.there
          descended-way.child edited_child above edits first descended-unsettled settled placed own_rests child_rests
          set_rests end_rests

      -- and this was told
      pub descended-told : (low_log set_log : List Telling)
          → IsPartTold mid low history level below.address child low_log
          → ((nodes clean : ℕ → Option Node)
          → TellSame (ReachesBeside (told low.blocks.draft history) level descended-unsettled.pointers place)
          nodes low history
          → AreCommitted low history clean
          → IsTold low nodes clean
          (ReachesParts (told low.blocks.draft history) level descended-unsettled.pointers place child)
          (ways_parts (told low.blocks.draft history) level descended-unsettled.pointers place child)
          (ways_each (told set.blocks.draft history) level settled.pointers_new) (1 - slots_for rest) 1 0 set_log)
          → IsPartTold land end history (suc level) at instead (tellings_owned owned.node at now
          ++ (low_log ++ (set_log ++ tellings_made instead.more)))
      descended-told =
          part-told-unsettled tree root land mid low set end history own_later child_later set_later end_later level
          expected at now edit place descended-pointers whole.front descended-mine whole.back items
          descended-items descended-way.pointer below.address child rest instead
          (fit-branch tree root land history (suc level) expected at edit items fit) fit.apart makes owned about
          descended-way.there
          descended-way.child edited_child above edits first descended-unsettled settled placed own_rests child_rests
          set_rests end_rests
