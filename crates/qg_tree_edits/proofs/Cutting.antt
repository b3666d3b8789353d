-- A fresh node that was edited where it lies, over any disk.
use Rattle.std.proofs.Common.{◌≡◌, ℕ, ◌≤◌, arith, sym, ap, subst, ◌∙◌, inl, inr, Option, Some, None}
use Rattle.std.specs.Prelude.{List, Result, Ok, Err, IfOk}
use Rattle.std.proofs.lemmas.Bool.Decides.{eqb_tells}
use Rattle.qg_device.specs.History.{History, Unrecorded}
use Rattle.qg_num.specs.declared.fault.BlockFault.{BlockFault}
use Rattle.qg_node.specs.declared.node.Header.{Header}
use Rattle.qg_node.specs.declared.node.Node.{Node}
use Rattle.qg_node.specs.Nodes.{header_of}
use Rattle.qg_shape.proofs.Sides.{header_of-split}
use Rattle.qg_shape.specs.Parts.{IsInner}
use Rattle.qg_blocks.specs.NodesFound.{IsBacked, IsNodeAt, fresh_at}
use Rattle.qg_space.specs.Holding.{free_slots}
use Rattle.qg_node_alloc.specs.declared.ground.Ground.{Ground}
use Rattle.qg_node_alloc.specs.Land.{IsDrafted, Rests}
use Rattle.qg_node_alloc.specs.Tellings.{Spares}
use Rattle.qg_node_alloc.proofs.Editing.{Rests-edited, Spares-edited, edited, edited-others}
use Rattle.qg_node_alloc.proofs.Lands.{IsSome-is, fresh_at-told}
use Rattle.qg_edit.specs.Outcome.{IsCutOf, RestIsNode}
use Rattle.qg_tree_edits.specs.Editing.{IsCutThere, IsRewritten, Moves, RestIsReady, StaysCut}

-- ---- the levels

rest_ready : (nodesize address : ℕ) (old whole node : Node) (rest : Option Node) → header_of whole ≡ header_of old
    → IsCutOf nodesize whole node rest → RestIsNode nodesize old rest
    → RestIsReady nodesize (header_of old).level (header_of old).generation rest
rest_ready nodesize address old whole node None same cut named = tt
rest_ready nodesize address old whole node (Some rest) same cut named =
    (named.sound, ap (λ (h : Header). h.level) cut.header ∙ ap (λ (h : Header). h.level) same, named.generation)

front_level : (nodesize : ℕ) (old whole node : Node) (rest : Option Node) → header_of whole ≡ header_of old
    → IsCutOf nodesize whole node rest → (header_of node).level ≡ (header_of old).level
front_level nodesize old whole node None same cut = ap (λ (n : Node). (header_of n).level) cut
    ∙ ap (λ (h : Header). h.level) same
front_level nodesize old whole node (Some rest) same cut =
    ap (λ (h : Header). h.level) (header_of-split nodesize (header_of whole).address whole node rest cut)
    ∙ ap (λ (h : Header). h.level) same

pub stays-cut : (nodesize : ℕ) (old whole : Node) (new : Ground) (at : ℕ) (rest : Option Node)
    → header_of whole ≡ header_of old → IsCutThere nodesize new at old whole rest → StaysCut nodesize old new at rest
stays-cut nodesize old whole new at rest same cut = record {
  stays = record {
    node = cut.node;
    here = cut.here;
    levelled = front_level nodesize old whole cut.node rest same cut.cut;
  };
  ready = rest_ready nodesize (header_of whole).address old whole cut.node rest same cut.cut cut.named;
}

pub stays-cut_ok : (nodesize : ℕ) (old whole : Node) (new : Ground) (at : ℕ) (result : Result (Option Node) BlockFault)
    → header_of whole ≡ header_of old
    → IfOk result (λ rest. IsCutThere nodesize new at old whole rest)
    → IfOk result (λ rest. StaysCut nodesize old new at rest)
stays-cut_ok nodesize old whole new at (Ok rest) same cut = stays-cut nodesize old whole new at rest same cut
stays-cut_ok nodesize old whole new at (Err fault) same cut = tt

-- ---- what an edit in place leaves

module _ (land new : Ground) (at generation : ℕ) (node : Node) (here : fresh_at land.blocks.draft at ≡ Some node)
    (is : IsRewritten land new at node) where
  pub rewritten-spares : Spares land new
  rewritten-spares = subst (λ (g : Ground). Spares land g) (sym is.is)
      (Spares-edited land at is.node (IsSome-is (fresh_at land.blocks.draft at) node here))

  pub rewritten-rests : (history : History) → IsBacked land.blocks history → IsDrafted land generation
      → Rests land new history generation
  rewritten-rests history backed drafted =
      let was = drafted.each at node here in
      let kept : IsNodeAt land.space.sizes.nodesize at is.node =
      record { sound = is.named.sound; placed = is.named.address ∙ was.kept.placed } in
      subst (λ (g : Ground). Rests land g history generation) (sym is.is)
      (Rests-edited land history generation at is.node (IsSome-is (fresh_at land.blocks.draft at) node here) kept
      (is.named.generation ∙ was.dated) backed drafted)

  -- nodes of other levels stay
  pub rewritten-moves : (level : ℕ) → (header_of node).level ≤ level → Moves 0 level land new
  rewritten-moves level low = record {
    count = let same : free_slots new.space ≡ free_slots land.space = ap (λ (g : Ground). free_slots g.space) is.is in
        omega (arith, same);
    above = λ q other there high. elim (eqb_tells q at) [
      | inl (equal, same) ↦
          absurd (let that : Some other ≡ Some node = sym there ∙ ap (λ (a : ℕ). fresh_at land.blocks.draft a) same
          ∙ here in
          let one : other ≡ node = cc in let level_is : (header_of other).level ≡ (header_of node).level = ap
          (λ (n : Node). (header_of n).level) one in omega (arith, high, low, level_is))
      | inr (unequal, differ) ↦
          ap (λ (g : Ground). fresh_at g.blocks.draft q) is.is
          ∙ fresh_at-told land.blocks.draft (edited land at is.node).blocks.draft q
          (edited-others land at is.node (Unrecorded 0) q (IsSome-is (fresh_at land.blocks.draft at) node here) differ)
          ∙ there
    ];
  }

pub inner-here : (land : Ground) (at : ℕ) (node other : Node) → fresh_at land.blocks.draft at ≡ Some node
    → fresh_at land.blocks.draft at ≡ Some other → IsInner other → IsInner node
inner-here land at node other here there inner =
    let that : Some node ≡ Some other = sym here ∙ there in
    let one : node ≡ other = cc in
    subst (λ (n : Node). IsInner n) (sym one) inner

pub ready-same : (nodesize level generation level' generation' : ℕ) (rest : Option Node) → level ≡ level'
    → generation ≡ generation' → RestIsReady nodesize level generation rest
    → RestIsReady nodesize level' generation' rest
ready-same nodesize level generation level' generation' None a b ready = tt
ready-same nodesize level generation level' generation' (Some node) a b ready = (ready.0, ready.1 ∙ a, ready.2 ∙ b)
