-- A node that is put into a slot that was free.
use Rattle.std.proofs.Common.{◌≡◌, ◌≢◌, ℕ, ◌+◌, ◌≤◌, true, refl, sym, ap, ◌∙◌}
use Rattle.std.specs.Prelude.{Some, None}
use Rattle.qg_device.specs.History.{Unrecorded}
use Rattle.qg_node.specs.declared.node.Node.{Node}
use Rattle.qg_node.specs.declared.node.Node.TheVariants.{Leaf, Inner}
use Rattle.qg_node.specs.Nodes.{header_of}
use Rattle.qg_blocks.specs.NodesFound.{fresh_at}
use Rattle.qg_space.specs.Holding.{free_slots, is_free_slot}
use Rattle.qg_space.proofs.Members.{Contains-has_slot}
use Rattle.qg_node_alloc.specs.declared.ground.Ground.{Ground}
use Rattle.qg_node_alloc.specs.Changes.{Makes, Puts, node_at}
use Rattle.qg_node_alloc.specs.Land.{IsDrafted}
use Rattle.qg_node_alloc.proofs.Lands.{fresh_at-told}
use Rattle.qg_node_alloc.proofs.Slots.{free-absent}
use Rattle.qg_tree_edits.specs.Editing.{IsFreshOn, KeepsFresh, Moves, StandsInstead}

-- no slot is free where a node is fresh
pub fresh-taken : (land : Ground) (generation at : ℕ) (node : Node) → IsDrafted land generation
    → fresh_at land.blocks.draft at ≡ Some node → is_free_slot land.space at ≡ true → ⊥
fresh-taken land generation at node drafted here free =
    free-absent land.space at free ((Contains-has_slot land.space at).0 (drafted.each at node here).taken)

-- fresh nodes stay as they are where one is put
pub KeepsFresh-put : (old new : Ground) (generation now : ℕ) (put : Node) → IsDrafted old generation
    → Puts old new now put → KeepsFresh old new
KeepsFresh-put old new generation now put drafted puts at node here =
    let differ : at ≢ now = λ same. fresh-taken old generation at node drafted here (ap (is_free_slot old.space) same
    ∙ puts.free) in
    fresh_at-told old.blocks.draft new.blocks.draft at (puts.others (Unrecorded 0) at differ) ∙ here

node_at-level : (node : Node) (at : ℕ) → (header_of (node_at at node)).level ≡ (header_of node).level
node_at-level (Leaf header items) at = refl
node_at-level (Inner header pointers) at = refl

-- a fresh node, and one of its level that was made
pub StandsInstead-made : (old new : Ground) (generation level now more : ℕ) (node : Node) → IsDrafted old generation
    → Makes old new more node → (header_of node).level ≡ level
    → IsFreshOn old level now → StandsInstead new level (record { now = now; more = Some more })
StandsInstead-made old new generation level now more node drafted makes levelled fresh = record {
  now = record {
    node = fresh.node;
    here = KeepsFresh-put old new generation more (node_at more node) drafted makes.puts now fresh.node fresh.here;
    levelled = fresh.levelled;
  };
  more = (
    record { node = node_at more node; here = makes.puts.here; levelled = node_at-level node more ∙ levelled },
    λ same. fresh-taken old generation now fresh.node drafted fresh.here (ap (is_free_slot old.space) (sym same)
        ∙ makes.puts.free),
  );
}

-- a node that was made takes one slot
pub Moves-made : (old new : Ground) (generation level now : ℕ) (node : Node) → IsDrafted old generation
    → Makes old new now node → free_slots old.space ≤ 1 + free_slots new.space
    → Moves 1 level old new
Moves-made old new generation level now node drafted makes count = record {
  count = count;
  above = λ at was here low. KeepsFresh-put old new generation now (node_at now node) drafted makes.puts at was here;
}
