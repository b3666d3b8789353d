-- Nodes that the last commit holds: no call writes there, so they are told as they were.
use Rattle.std.proofs.Common.{◌≡◌, ℕ, Bool, true, false, List, refl, sym, ap, subst, ◌∙◌, Option, Some, None}
use Rattle.std.specs.Prelude.{◌==◌, if◌then◌else◌, Contains}
use Rattle.std.specs.List.{list_any}
use Rattle.std.proofs.lemmas.Bool.{eq-eqb, eqb-true}
use Rattle.qg_device.specs.History.{History}
use Rattle.qg_node.specs.declared.node.Node.{Node}
use Rattle.qg_super.specs.declared.sizes.Sizes.{Sizes}
use Rattle.qg_blocks.specs.NodesFound.{fresh_at, told, told_or}
use Rattle.qg_space.proofs.Members.{one_passes, passes_one}
use Rattle.qg_node_alloc.specs.declared.ground.Ground.{Ground}
use Rattle.qg_node_alloc.specs.Land.{IsDrafted, Rests}
use Rattle.qg_tree_edits.specs.Counting.{AreCommitted, committed_at}

-- no fresh node lies at such an address
pub unheld-fresh : (land : Ground) (generation at : ℕ) (node : Node) → IsDrafted land generation
    → fresh_at land.blocks.draft at ≡ Some node → Contains land.space.held_slots at → ⊥
unheld-fresh land generation at node drafted here held = (drafted.each at node here).apart held

held_none : (land : Ground) (generation at : ℕ) (fresh : Option Node) → IsDrafted land generation
    → fresh_at land.blocks.draft at ≡ fresh → Contains land.space.held_slots at → fresh ≡ None
held_none land generation at None drafted is held = refl
held_none land generation at (Some node) drafted is held = absurd (unheld-fresh land generation at node drafted is held)

told_clean : (land : Ground) (history : History) (q : ℕ) → fresh_at land.blocks.draft q ≡ None
    → told land.blocks.draft history q ≡ told_or None land.blocks.draft.sizes history q
unfolding told
told_clean land history q none = ap (λ (o : Option Node). told_or o land.blocks.draft.sizes history q) none

-- they are told after a call as before
pub committed-after : (old new : Ground) (history later : History) (generation : ℕ)
    (clean : ℕ → Option Node) → Rests old new later generation → AreCommitted old history clean
    → AreCommitted new history clean
committed-after old new history later generation clean rests committed q node is =
    let was = committed q node is in
    let held : Contains new.space.held_slots q =
    subst (λ (slots : List ℕ). Contains slots q) (sym rests.held_slots) was.0 in
    let none : fresh_at new.blocks.draft q ≡ None =
    held_none new generation q (fresh_at new.blocks.draft q) rests.drafted refl held in
    let same : told new.blocks.draft history q ≡ told old.blocks.draft history q =
    told_clean new history q none ∙ ap (λ (s : Sizes). told_or None s history q) rests.node_sizes
    ∙ sym (told_clean old history q was.1) in
    (held, none, same ∙ was.2)

-- none is where a node is fresh
pub committed-none : (land : Ground) (history : History) (clean : ℕ → Option Node)
    → AreCommitted land history clean → (at : ℕ) (fresh : Node) → fresh_at land.blocks.draft at ≡ Some fresh
    → clean at ≡ None
committed-none land history clean committed at fresh here = from (clean at) refl where
  from : (o : Option Node) → clean at ≡ o → o ≡ None
  from None is = refl
  from (Some node) is = absurd (let none = (committed at node is).1 in let both = sym none ∙ here in cc)

pub committed-told : (land : Ground) (history : History) (clean : ℕ → Option Node)
    → AreCommitted land history clean → (q : ℕ) (node : Node) → clean q ≡ Some node
    → told land.blocks.draft history q ≡ Some node
committed-told land history clean committed q node is = (committed q node is).2

-- ---- those of a land

held_if : (held : Bool) (there : Option Node) (node : Node) → (if held then there else None) ≡ Some node
    → (held ≡ true) × (there ≡ Some node)
held_if true there node is = (refl, is)
held_if false there node is = absurd cc

if_held : (held : Bool) (there : Option Node) → held ≡ true → (if held then there else None) ≡ there
if_held true there is = refl
if_held false there is = absurd cc

pub committed-are : (land : Ground) (history : History) (generation : ℕ) → IsDrafted land generation
    → AreCommitted land history (committed_at land history)
committed-are land history generation drafted q node is =
    let parts = held_if (list_any (λ (slot : ℕ). slot == q) land.space.held_slots) (told land.blocks.draft history q)
    node is in
    let found = one_passes (λ (slot : ℕ). slot == q) land.space.held_slots parts.0 in
    let held = subst (λ (a : ℕ). Contains land.space.held_slots a) (eqb-true found.0 q found.2) found.1 in
    (held, held_none land generation q (fresh_at land.blocks.draft q) drafted refl held, parts.1)

-- what the last commit holds, and is told, is one of them
pub committed-is : (land : Ground) (history : History) (q : ℕ) → Contains land.space.held_slots q
    → committed_at land history q ≡ told land.blocks.draft history q
committed-is land history q held =
    if_held (list_any (λ (slot : ℕ). slot == q) land.space.held_slots) (told land.blocks.draft history q)
    (passes_one (λ (slot : ℕ). slot == q) land.space.held_slots q held (eq-eqb q q refl))
