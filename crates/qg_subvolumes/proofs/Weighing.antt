-- What a book weighs once a node was parted with.
use Rattle.std.proofs.Common.{◌≡◌, ℕ, ◌≤◌, List, Option, Some, None, arith, sym, ap, subst, ◌∙◌}
use Rattle.qg_device.specs.History.{History}
use Rattle.std.specs.Option.{option_or}
use Rattle.qg_node.specs.declared.node.Node.{Node}
use Rattle.qg_node.specs.Nodes.{used_bytes}
use Rattle.qg_super.specs.Places.{capacity}
use Rattle.qg_image.specs.State.{Placed}
use Rattle.qg_cow_refs.specs.declared.cases.Leaving.{Leaving}
use Rattle.qg_cow_refs.specs.declared.cases.Leaving.TheVariants.{Goes, TurnsFull, Stays}
use Rattle.qg_cow_refs.specs.Left.{leaving_gains}
use Rattle.qg_blocks.specs.NodesFound.{IsBacked, IsNodeAt, clean_at, first_of, fresh_at, held_at}
use Rattle.qg_blocks.proofs.Telling.{clean-listed}
use Rattle.qg_node_alloc.specs.declared.ground.Ground.{Ground}
use Rattle.qg_node_alloc.specs.Land.{IsDrafted}
use Rattle.qg_extents.specs.Table.{IsTable, book_of}
use Rattle.qg_tree_backrefs.specs.Heavier.{BookGetsHeavier, owings_bytes}
use Rattle.qg_tree_backrefs.proofs.Owed.{shared-bytes}
use Rattle.qg_tree_backrefs.proofs.Weighs.{GetsHeavier-exchanged}
use Rattle.qg_tree_backrefs.specs.declared.tree_refs.TreeRefs.{TreeRefs}
use Rattle.qg_tree_backrefs.specs.Following.{IsExchanged, exchange_by_parting, parting_in}

-- a node in memory has a text of its image's size
node_of : (fresh clean : Option Node) (node : Node) → first_of fresh clean ≡ Some node
    → (P : Node → Type 0) → ((n : Node) → fresh ≡ Some n → P n) → ((n : Node) → clean ≡ Some n → P n) → P node
node_of (Some n) clean node held P by_fresh by_clean = by_fresh node held
node_of None clean node held P by_fresh by_clean = by_clean node held

pub held-node : (land : Ground) (history : History) (generation at : ℕ) (node : Node)
    → IsBacked land.blocks history → IsDrafted land generation → held_at land.blocks at ≡ Some node
    → IsNodeAt land.space.sizes.nodesize at node
held-node land history generation at node backed drafted held =
    node_of (fresh_at land.blocks.draft at) (clean_at land.blocks at) node held
    (λ (n : Node). IsNodeAt land.space.sizes.nodesize at n)
    (λ n here. (drafted.each at n here).kept)
    (λ n here. subst (λ (size : ℕ). IsNodeAt size at n) drafted.sizes.nodesize
    (backed.kept at n (clean-listed land.blocks at n here)))

gain_bytes : (leaving : Leaving) (placed : Placed) → owings_bytes (leaving_gains leaving placed)
    ≤ used_bytes placed.node
gain_bytes Goes placed = omega arith
gain_bytes TurnsFull placed = shared-bytes placed.node
gain_bytes Stays placed = omega arith

none_last : (first last : Option ℕ) → option_or first last ≡ None → last ≡ None
none_last None last none = none
none_last (Some at) last none = cc

-- a book takes at most a node's bytes more
pub parted-heavier : (before after : TreeRefs) (placed : Placed) (nodesize at : ℕ) → IsTable before.refs
    → IsTable after.refs → IsExchanged before (exchange_by_parting (book_of before.refs) before.tree placed) after
    → after.misfit ≡ None → IsNodeAt nodesize at placed.node → BookGetsHeavier before after (capacity nodesize)
parted-heavier before after placed nodesize at first last exchanged fits node =
    let none = none_last before.misfit exchanged.misfit
    (sym (ap (λ (b : TreeRefs). b.misfit) exchanged.noted) ∙ fits) in
    let heavier = GetsHeavier-exchanged before.refs after.refs
    (exchange_by_parting (book_of before.refs) before.tree placed) first last (exchanged.done none) in
    let few = gain_bytes (parting_in (book_of before.refs) before.tree placed) placed in
    let room = node.sound.fits in
    record {
      held = ap (λ (b : TreeRefs). b.held) exchanged.noted;
      heavier = record { weighs = λ held. let more = heavier.weighs held in omega (arith, more, few, room) };
    }
