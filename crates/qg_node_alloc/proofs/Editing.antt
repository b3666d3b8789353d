-- A fresh node that is edited where it lies, and what a commit asks of fresh nodes.
use Rattle.std.proofs.Common.{◌≡◌, ◌≢◌, ℕ, ◌≤◌, Bool, List, arith, refl, sym, ap, subst, ◌∙◌, inl, inr}
use Rattle.std.specs.Prelude.{Option, Some, None, IsSome, ◌+◌, nat_le, if◌then◌else◌}
use Rattle.std.proofs.lemmas.Bool.{and_from, le-leb}
use Rattle.std.proofs.lemmas.Bool.Decides.{eqb_tells}
use Rattle.qg_device.specs.History.{History, Unrecorded}
use Rattle.qg_node.specs.declared.node.Node.{Node}
use Rattle.qg_node.specs.Nodes.{header_of}
use Rattle.qg_super.specs.declared.sizes.Sizes.{Sizes}
use Rattle.qg_super.specs.Places.{is_slot, second_place}
use Rattle.qg_super.proofs.Served.{SizesFit-is_served}
use Rattle.qg_super.proofs.Slots.{slot_ends}
use Rattle.qg_blocks.specs.Lending.{with_fresh}
use Rattle.qg_blocks.specs.Standing.{has_slot}
use Rattle.qg_blocks.specs.NodesFound.{IsBacked, IsNodeAt, fresh_at, told}
use Rattle.qg_blocks.specs.Writing.{ArePlaced}
use Rattle.qg_blocks.proofs.Backing.{IsBacked-set}
use Rattle.qg_blocks.proofs.Telling.{told-set}
use Rattle.qg_node_alloc.specs.declared.ground.Ground.{Ground}
use Rattle.qg_node_alloc.specs.Land.{IsDraftAt, IsDrafted, Rests}
use Rattle.qg_node_alloc.specs.Tellings.{Spares}
use Rattle.qg_node_alloc.specs.Changes.{Takes}
use Rattle.qg_node_alloc.proofs.Lands.{IsSome-is, IsSome-same, fresh_at-told, told-nothing}

-- ---- a fresh node is edited

-- another node in the place of the fresh one at an address
abbrev pub edited : Ground → ℕ → Node → Ground
edited land at node = record land { blocks = with_fresh land.blocks at node }

some_is : (o : Option Node) → IsSome o → (node : Node) × (o ≡ Some node)
some_is None some = cc
some_is (Some node) some = (node, refl)

-- it is fresh there
pub edited-here : (land : Ground) (at : ℕ) (node : Node) → IsSome (fresh_at land.blocks.draft at)
    → fresh_at (edited land at node).blocks.draft at ≡ Some node
edited-here land at node some = sym (told-nothing (edited land at node).blocks.draft at) ∙ elim (eqb_tells at at) [
  | inl (equal, same) ↦ told-set land.blocks.draft at node (Unrecorded 0) at some
      ∙ ap (λ (b : Bool). if b then Some node else told land.blocks.draft (Unrecorded 0) at) equal
  | inr (unequal, differ) ↦ absurd (differ refl)
]

-- and elsewhere the same is told as before
pub edited-others : (land : Ground) (at : ℕ) (node : Node) (history : History) (other : ℕ)
    → IsSome (fresh_at land.blocks.draft at) → other ≢ at
    → told (edited land at node).blocks.draft history other ≡ told land.blocks.draft history other
edited-others land at node history other some differ = elim (eqb_tells other at) [
  | inl (equal, same) ↦ absurd (differ same)
  | inr (unequal, apart) ↦ told-set land.blocks.draft at node history other some
      ∙ ap (λ (b : Bool). if b then Some node else told land.blocks.draft history other) unequal
]

-- the same nodes are fresh
edited_stays : (land : Ground) (at : ℕ) (node : Node) → IsSome (fresh_at land.blocks.draft at) → (other : ℕ)
    → IsSome (fresh_at land.blocks.draft other) → IsSome (fresh_at (edited land at node).blocks.draft other)
edited_stays land at node some other was = elim (eqb_tells other at) [
  | inl (equal, same) ↦ IsSome-is (fresh_at (edited land at node).blocks.draft other) node
      (ap (λ (a : ℕ). fresh_at (edited land at node).blocks.draft a) same ∙ edited-here land at node some)
  | inr (unequal, differ) ↦
      IsSome-same (fresh_at land.blocks.draft other) (fresh_at (edited land at node).blocks.draft other)
      (fresh_at-told land.blocks.draft (edited land at node).blocks.draft other
      (edited-others land at node (Unrecorded 0) other some differ)) was
]

edited_only : (land : Ground) (at : ℕ) (node : Node) → IsSome (fresh_at land.blocks.draft at) → (other : ℕ)
    → IsSome (fresh_at (edited land at node).blocks.draft other) → IsSome (fresh_at land.blocks.draft other)
edited_only land at node some other is = elim (eqb_tells other at) [
  | inl (equal, same) ↦ subst (λ (a : ℕ). IsSome (fresh_at land.blocks.draft a)) (sym same) some
  | inr (unequal, differ) ↦
      IsSome-same (fresh_at (edited land at node).blocks.draft other) (fresh_at land.blocks.draft other)
      (sym (fresh_at-told land.blocks.draft (edited land at node).blocks.draft other
      (edited-others land at node (Unrecorded 0) other some differ))) is
]

pub Spares-edited : (land : Ground) (at : ℕ) (node : Node) → IsSome (fresh_at land.blocks.draft at)
    → Spares land (edited land at node)
Spares-edited land at node some = record {
  sizes = refl;
  fresh = edited_stays land at node some;
  only = λ other is. inl (edited_only land at node some other is);
  taken = λ other has. has;
  space = refl;
}

pub Takes-edited : (land : Ground) (at : ℕ) (node : Node) → IsSome (fresh_at land.blocks.draft at)
    → Takes 0 (λ q. ⊥) land (edited land at node)
Takes-edited land at node some = record {
  count = omega arith;
  less = λ other free. inl free;
  taken = λ other none has. has;
  fresh = λ other none was. edited_stays land at node some other was;
  only = λ other is. inl (edited_only land at node some other is);
}

-- a node that has a text, names its address, and has the generation to come
pub IsDrafted-edited : (land : Ground) (generation at : ℕ) (node : Node) → IsSome (fresh_at land.blocks.draft at)
    → IsNodeAt land.space.sizes.nodesize at node
    → (header_of node).generation ≡ generation → IsDrafted land generation → IsDrafted (edited land at node) generation
IsDrafted-edited land generation at node some kept dated is =
    let was = some_is (fresh_at land.blocks.draft at) some in
    let old = is.each at was.0 was.1 in
    let here : IsDraftAt land.space generation at node = record {
      kept = kept;
      dated = dated;
      slot = old.slot;
      taken = old.taken;
      apart = old.apart;
    } in
    record {
      sizes = record { served = is.sizes.served; nodesize = is.sizes.nodesize; slots = is.sizes.slots };
      each = λ other new there. elim (eqb_tells other at) [
        | inl (equal, same) ↦
            let that : Some new ≡ Some node = sym there
            ∙ ap (λ (a : ℕ). fresh_at (edited land at node).blocks.draft a) same ∙ edited-here land at node some in
            let one : new ≡ node = cc in
            subst (λ (a : ℕ). IsDraftAt land.space generation a new) (sym same)
            (subst (λ (n : Node). IsDraftAt land.space generation at n) (sym one) here)
        | inr (unequal, differ) ↦
            is.each other new (sym (fresh_at-told land.blocks.draft (edited land at node).blocks.draft other
            (edited-others land at node (Unrecorded 0) other some differ)) ∙ there)
      ];
    }

pub Rests-edited : (land : Ground) (history : History) (generation at : ℕ) (node : Node)
    → IsSome (fresh_at land.blocks.draft at) → IsNodeAt land.space.sizes.nodesize at node
    → (header_of node).generation ≡ generation → IsBacked land.blocks history → IsDrafted land generation
    → Rests land (edited land at node) history generation
Rests-edited land history generation at node some kept dated backed is = record {
  backed = IsBacked-set land.blocks history at node some backed;
  drafted = IsDrafted-edited land generation at node some kept dated is;
  node_sizes = refl;
  bound = refl;
  sizes = refl;
  runs = refl;
  held_slots = refl;
  held_runs = refl;
}

-- ---- a commit

is_slot_same : (a b : Sizes) (at : ℕ) → a.nodesize ≡ b.nodesize → a.slots ≡ b.slots → is_slot a at ≡ is_slot b at
unfolding is_slot
is_slot_same a b at nodesize slots =
    let Of : ℕ → ℕ → Sizes = λ n k. record { nodesize = n; slots = k; sectors = 0 } in
    ap (λ (n : ℕ). is_slot (Of n a.slots) at) nodesize ∙ ap (λ (k : ℕ). is_slot (Of b.nodesize k) at) slots

-- on a disk with room for all slots each fresh node can be written
pub ArePlaced-drafted : (land : Ground) (generation bytes : ℕ) → second_place ≤ bytes → IsDrafted land generation
    → ArePlaced land.blocks.draft bytes
unfolding has_slot
ArePlaced-drafted land generation bytes room is = record {
  each = λ at node there.
      let draft = is.each at node there in
      let ends = slot_ends land.space.sizes at (SizesFit-is_served land.space.sizes is.sizes.served) draft.slot in
      let within : at + land.blocks.draft.sizes.nodesize ≤ bytes = rw is.sizes.nodesize (omega (arith, ends, room)) in
      record {
        kept = subst (λ (n : ℕ). IsNodeAt n at node) (sym is.sizes.nodesize) draft.kept;
        slot = and_from (is_slot land.blocks.draft.sizes at) (nat_le (at + land.blocks.draft.sizes.nodesize) bytes)
            (is_slot_same land.blocks.draft.sizes land.space.sizes at is.sizes.nodesize is.sizes.slots ∙ draft.slot)
            (le-leb (at + land.blocks.draft.sizes.nodesize) bytes within);
      };
}
