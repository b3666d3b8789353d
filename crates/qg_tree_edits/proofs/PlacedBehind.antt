-- A node that was cut, and its rest in a place of its own.
use Rattle.std.proofs.Common.{◌≡◌, ◌≢◌, ◌⊎◌, ℕ, ◌+◌, ◌-◌, ◌*◌, ◌≤◌, List, refl, sym, ap, subst, ◌∙◌, inl, inr, Option}
use Rattle.std.proofs.Common.{Some, None}
use Rattle.std.specs.Prelude.{IsTrue}
use Rattle.qg_device.specs.History.{History}
use Rattle.qg_node.specs.declared.node.Node.{Node}
use Rattle.qg_node.specs.declared.node.Node.TheVariants.{Leaf, Inner}
use Rattle.qg_node.specs.Nodes.{header_of, used_bytes}
use Rattle.qg_node.specs.NodeText.{IsNode}
use Rattle.qg_shape.specs.Filled.{IsFilled}
use Rattle.qg_shape.specs.Outcomes.{IsSplit}
use Rattle.qg_blocks.specs.NodesFound.{told}
use Rattle.qg_space.specs.Holding.{is_free_slot}
use Rattle.qg_node_alloc.specs.declared.ground.Ground.{Ground}
use Rattle.qg_node_alloc.specs.Changes.{Makes, node_at}
use Rattle.qg_node_alloc.specs.Land.{IsDrafted, Rests}
use Rattle.qg_node_alloc.proofs.Lands.{Takes-made, told-fresh_at}
use Rattle.qg_tree_edits.specs.declared.instead.Instead.{Instead}
use Rattle.qg_tree_edits.specs.Editing.{IsCutThere, IsPlacedBehind, alone, with_owner}
use Rattle.qg_tree_edits.proofs.Placed.{fresh-taken}

-- ---- a node with another owner

pub with_owner-owner : (owner : ℕ) (node : Node) → (header_of (with_owner owner node)).owner ≡ owner
with_owner-owner owner (Leaf header items) = refl
with_owner-owner owner (Inner header pointers) = refl

pub with_owner-level : (owner : ℕ) (node : Node) → (header_of (with_owner owner node)).level ≡ (header_of node).level
with_owner-level owner (Leaf header items) = refl
with_owner-level owner (Inner header pointers) = refl

pub with_owner-generation : (owner : ℕ) (node : Node)
    → (header_of (with_owner owner node)).generation ≡ (header_of node).generation
with_owner-generation owner (Leaf header items) = refl
with_owner-generation owner (Inner header pointers) = refl

-- it has a text still
pub IsNode-with_owner : (size owner : ℕ) (node : Node) → IsNode size node → IsNode size (with_owner owner node)
IsNode-with_owner size owner (Leaf header items) is = record {
  levelled = is.levelled;
  ascending = is.ascending;
  fits = is.fits;
}
IsNode-with_owner size owner (Inner header pointers) is = record {
  levelled = is.levelled;
  ascending = is.ascending;
  fits = is.fits;
}

-- ---- what stands there

-- the node holds the whole
pub record IsOneThere (set end : Ground) (history : History) (now : ℕ) (whole : Node)
    (instead : Instead) : Type 0 where
  pub instead_is : instead ≡ alone now
  pub same : end ≡ set
  pub there : told end.blocks.draft history now ≡ Some whole

-- it holds a front, and the rest lies in a slot that was free, and has this owner
pub record AreTwoThere (owner : ℕ) (set end : Ground) (history : History) (nodesize now : ℕ) (whole : Node)
    (instead : Instead) : Type 0 where
  pub front : Node
  pub other : Node
  pub more : ℕ
  pub instead_is : instead ≡ record { now = now; more = Some more }
  pub split : IsSplit nodesize (header_of whole).address whole front other
  pub there : told end.blocks.draft history now ≡ Some front
  pub behind : told end.blocks.draft history more ≡ Some (node_at more (with_owner owner other))
  pub makes : Makes set end more (with_owner owner other)
  pub differ : more ≢ now

module _ (owner : ℕ) (set end : Ground) (history : History) (nodesize now generation : ℕ)
    (before whole : Node) (drafted : IsDrafted set generation) where
  pub parts-there : (rest : Option Node) (instead : Instead) → IsCutThere nodesize set now before whole rest
      → IsPlacedBehind owner set end now rest instead
      → IsOneThere set end history now whole instead ⊎ AreTwoThere owner set end history nodesize now whole instead
  parts-there None instead cut placed = inl (record {
    instead_is = placed.0;
    same = placed.1;
    there = ap (λ (g : Ground). told g.blocks.draft history now) placed.1
        ∙ told-fresh_at set.blocks.draft history now cut.node cut.here ∙ ap Some cut.cut;
  })
  parts-there (Some other) instead cut placed =
      let makes = placed.2 in
      let differ : placed.0 ≢ now = λ same. fresh-taken set generation now cut.node drafted cut.here
      (ap (is_free_slot set.space) (sym same) ∙ makes.puts.free) in
      inr (record {
        front = cut.node;
        other = other;
        more = placed.0;
        instead_is = placed.1;
        split = cut.cut;
        there = makes.puts.others history now (λ same. differ (sym same))
            ∙ told-fresh_at set.blocks.draft history now cut.node cut.here;
        behind = told-fresh_at end.blocks.draft history placed.0 (node_at placed.0 (with_owner owner other))
            makes.puts.here;
        makes = makes;
        differ = differ;
      })

-- only a slot that was free is told otherwise
pub placed-told : (owner : ℕ) (set end : Ground) (history : History) (nodesize now : ℕ) (whole : Node)
    (instead : Instead)
    → IsOneThere set end history now whole instead ⊎ AreTwoThere owner set end history nodesize now whole instead
    → (disk : History) (q : ℕ) → (IsTrue (is_free_slot set.space q) → ⊥)
    → told end.blocks.draft disk q ≡ told set.blocks.draft disk q
placed-told owner set end history nodesize now whole instead (inl one) disk q taken =
    ap (λ (g : Ground). told g.blocks.draft disk q) one.same
placed-told owner set end history nodesize now whole instead (inr two) disk q taken =
    two.makes.puts.others disk q (λ same. taken (ap (is_free_slot set.space) same ∙ two.makes.puts.free))

-- no slot gets free
pub placed-free : (owner : ℕ) (set end : Ground) (history later : History) (nodesize now generation : ℕ)
    (whole : Node) (instead : Instead) → IsDrafted set generation → Rests set end later generation
    → IsOneThere set end history now whole instead ⊎ AreTwoThere owner set end history nodesize now whole instead
    → (q : ℕ) → IsTrue (is_free_slot end.space q) → IsTrue (is_free_slot set.space q)
placed-free owner set end history later nodesize now generation whole instead drafted rests (inl one) q free =
    subst (λ (g : Ground). IsTrue (is_free_slot g.space q)) one.same free
placed-free owner set end history later nodesize now generation whole instead drafted rests (inr two) q free =
    let takes = Takes-made set end two.more (with_owner owner two.other) drafted.sizes rests.sizes rests.held_slots
    two.makes in
    elim (takes.less q free) [ inl was ↦ was | inr none ↦ absurd none ]

-- a node is as full at another address, with another owner
used_at : (owner address : ℕ) (node : Node) → used_bytes (node_at address (with_owner owner node)) ≡ used_bytes node
used_at owner address (Leaf header items) = refl
used_at owner address (Inner header pointers) = refl

pub filled-at : (nodesize owner address : ℕ) (node : Node) → IsFilled nodesize node
    → IsFilled nodesize (node_at address (with_owner owner node))
filled-at nodesize owner address node filled = record {
  fits = subst (λ (n : ℕ). 101 + n ≤ nodesize) (sym (used_at owner address node)) filled.fits;
  full = subst (λ (n : ℕ). nodesize - 101 ≤ 4 * n) (sym (used_at owner address node)) filled.full;
}
