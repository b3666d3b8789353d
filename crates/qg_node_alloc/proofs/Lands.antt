-- Nodes and space after a node is put, and after a book did its part.
use Rattle.std.proofs.Common.{◌≡◌, ◌≢◌, ◌⊎◌, ℕ, ◌+◌, Bool, true, false, List, [], arith, refl, sym, ap, subst, ◌∙◌, inl}
use Rattle.std.proofs.Common.{inr}
use Rattle.std.specs.Prelude.{Option, Some, None, IsSome, is_some, ◌==◌, if◌then◌else◌, Result, Err, Contains}
use Rattle.std.proofs.lemmas.Bool.{true≢false}
use Rattle.std.proofs.lemmas.Bool.Decides.{eqb_tells}
use Rattle.std.specs.Ordering.{nat_cmp}
use Rattle.std.specs.BTreeMap.{is_at}
use Rattle.std.specs.Map.{lookup}
use Rattle.qg_device.specs.History.{History, Unrecorded}
use Rattle.qg_num.specs.declared.rule.Rule.{Rule}
use Rattle.qg_num.specs.declared.fault.BlockFault.{BlockFault}
use Rattle.qg_num.specs.declared.fault.BlockFault.TheVariants.{NoMemory, Disk, Image}
use Rattle.qg_node.specs.declared.node.Node.{Node}
use Rattle.qg_node.specs.declared.node.Node.TheVariants.{Leaf, Inner}
use Rattle.qg_node.specs.Nodes.{header_of}
use Rattle.qg_node.specs.NodeText.{IsNode}
use Rattle.qg_super.specs.declared.sizes.Sizes.{Sizes}
use Rattle.qg_super.specs.Places.{is_served, is_slot}
use Rattle.qg_blocks.specs.Table.{with_number}
use Rattle.qg_blocks.specs.NodesInMemory.{Draft, Held}
use Rattle.qg_blocks.specs.NodesFound.{Answers, BreaksNone, IsBacked, IsNodeAt, first_of, fresh_at, held_at, told}
use Rattle.qg_blocks.specs.NodesFound.{told_or}
use Rattle.qg_space.specs.Holding.{Holding, is_free_slot, without_slot}
use Rattle.qg_space.proofs.Members.{Contains-has_slot, Contains-without_slot}
use Rattle.qg_node_alloc.specs.declared.ground.Ground.{Ground}
use Rattle.qg_node_alloc.specs.Land.{IsDraftAt, IsDrafted, IsGround, Rests}
use Rattle.qg_node_alloc.specs.Tellings.{GivesBack, IsCopied, LetsGo, MayLack, Spares, TakesNone, node_copy}
use Rattle.qg_node_alloc.specs.Changes.{Copies, Makes, Puts, Takes, node_at}
use Rattle.qg_node_alloc.proofs.Slots.{free-apart, free-less, free-parts, free_slots-lack, free_slots-put, lack-more}
use Rattle.qg_node_alloc.proofs.Slots.{taken-here, taken-more}

-- ---- fresh nodes

none_told : (o : Option Node) (sizes : Sizes) (at : ℕ) → told_or o sizes (Unrecorded 0) at ≡ o
none_told None sizes at = refl
none_told (Some node) sizes at = refl

-- over a disk that tells nothing the fresh nodes are told
pub told-nothing : (draft : Draft) (at : ℕ) → told draft (Unrecorded 0) at ≡ fresh_at draft at
unfolding told
told-nothing draft at = none_told (fresh_at draft at) draft.sizes at

some_told : (o : Option Node) (sizes : Sizes) (history : History) (at : ℕ) (node : Node) → o ≡ Some node
    → told_or o sizes history at ≡ Some node
some_told None sizes history at node is = cc
some_told (Some other) sizes history at node is = is

-- and over any disk
pub told-fresh_at : (draft : Draft) (history : History) (at : ℕ) (node : Node)
    → fresh_at draft at ≡ Some node → told draft history at ≡ Some node
unfolding told
told-fresh_at draft history at node is = some_told (fresh_at draft at) draft.sizes history at node is

-- where the same is told over any disk, the same is fresh
pub fresh_at-told : (old new : Draft) (at : ℕ) → told new (Unrecorded 0) at ≡ told old (Unrecorded 0) at
    → fresh_at new at ≡ fresh_at old at
fresh_at-told old new at same = sym (told-nothing new at) ∙ same ∙ told-nothing old at

pub IsSome-same : (o p : Option Node) → p ≡ o → IsSome o → IsSome p
IsSome-same o p same some = ap is_some same ∙ some

pub IsSome-is : (o : Option Node) (node : Node) → o ≡ Some node → IsSome o
IsSome-is o node is = ap is_some is

-- where none is in memory none is fresh
pub none_first : (fresh clean : Option Node) → first_of fresh clean ≡ None → fresh ≡ None
none_first None clean none = refl
none_first (Some node) clean none = cc

-- ---- copies, and nodes at another address

pub node_at-copy : (node : Node) (from address owner generation : ℕ)
    → node_at address (node_copy node from owner generation) ≡ node_copy node address owner generation
node_at-copy (Leaf header items) from address owner generation = refl
node_at-copy (Inner header pointers) from address owner generation = refl

pub node_copy-owner : (node : Node) (address owner generation : ℕ)
    → (header_of (node_copy node address owner generation)).owner ≡ owner
node_copy-owner (Leaf header items) address owner generation = refl
node_copy-owner (Inner header pointers) address owner generation = refl

pub node_copy-generation : (node : Node) (address owner generation : ℕ)
    → (header_of (node_copy node address owner generation)).generation ≡ generation
node_copy-generation (Leaf header items) address owner generation = refl
node_copy-generation (Inner header pointers) address owner generation = refl

pub node_at-address : (node : Node) (address : ℕ) → (header_of (node_at address node)).address ≡ address
node_at-address (Leaf header items) address = refl
node_at-address (Inner header pointers) address = refl

pub node_at-generation : (node : Node) (address : ℕ)
    → (header_of (node_at address node)).generation ≡ (header_of node).generation
node_at-generation (Leaf header items) address = refl
node_at-generation (Inner header pointers) address = refl

pub IsNode-node_at : (size : ℕ) (node : Node) (address : ℕ) → IsNode size node → IsNode size (node_at address node)
IsNode-node_at size (Leaf header items) address is = record {
  levelled = is.levelled;
  ascending = is.ascending;
  fits = is.fits;
}
IsNode-node_at size (Inner header pointers) address is = record {
  levelled = is.levelled;
  ascending = is.ascending;
  fits = is.fits;
}

pub IsNode-node_copy : (size : ℕ) (node : Node) (address owner generation : ℕ) → IsNode size node
    → IsNode size (node_copy node address owner generation)
IsNode-node_copy size (Leaf header items) address owner generation is =
    record { levelled = is.levelled; ascending = is.ascending; fits = is.fits }
IsNode-node_copy size (Inner header pointers) address owner generation is =
    record { levelled = is.levelled; ascending = is.ascending; fits = is.fits }

-- ---- what stands between calls

pub IsDraftAt-same : (old new : Holding) (generation at : ℕ) (node : Node) → new.sizes ≡ old.sizes
    → new.held_slots ≡ old.held_slots → (Contains old.slots at → Contains new.slots at)
    → IsDraftAt old generation at node → IsDraftAt new generation at node
IsDraftAt-same old new generation at node sizes held more is = record {
  kept = subst (λ (s : Sizes). IsNodeAt s.nodesize at node) (sym sizes) is.kept;
  dated = is.dated;
  slot = subst (λ (s : Sizes). is_slot s at ≡ true) (sym sizes) is.slot;
  taken = (Contains-has_slot new at).1 (more ((Contains-has_slot old at).0 is.taken));
  apart = λ has. is.apart (subst (λ (ns : List ℕ). Contains ns at) held has);
}

pub IsGround-same : (old new : Ground) → new.blocks.draft.sizes ≡ old.blocks.draft.sizes
    → new.space.sizes ≡ old.space.sizes → IsGround old → IsGround new
IsGround-same old new nodes sizes is = record {
  served = subst (λ (s : Sizes). is_served s ≡ true) (sym sizes) is.served;
  nodesize = ap (λ (s : Sizes). s.nodesize) nodes ∙ is.nodesize ∙ sym (ap (λ (s : Sizes). s.nodesize) sizes);
  slots = ap (λ (s : Sizes). s.slots) nodes ∙ is.slots ∙ sym (ap (λ (s : Sizes). s.slots) sizes);
}

-- no node is fresh
pub IsDrafted-none : (land : Ground) (generation : ℕ) → IsGround land → land.blocks.draft.fresh ≡ []
    → IsDrafted land generation
IsDrafted-none land generation is none = record {
  sizes = is;
  each = λ at node there.
      let absent : fresh_at land.blocks.draft at ≡ None =
      ap (λ (es : List (ℕ × Node)). lookup (is_at (nat_cmp at)) es) none in
      let no : Some node ≡ None = sym there ∙ absent in cc;
}

-- fewer nodes are fresh, and the slots of those that are left are still there
pub IsDrafted-fewer : (old new : Ground) (generation : ℕ) → new.blocks.draft.sizes ≡ old.blocks.draft.sizes
    → new.space.sizes ≡ old.space.sizes → new.space.held_slots ≡ old.space.held_slots
    → ((at : ℕ) (node : Node) → fresh_at new.blocks.draft at ≡ Some node → (fresh_at old.blocks.draft at ≡ Some node)
    × (Contains old.space.slots at → Contains new.space.slots at))
    → IsDrafted old generation → IsDrafted new generation
IsDrafted-fewer old new generation nodes sizes held fewer is = record {
  sizes = IsGround-same old new nodes sizes is.sizes;
  each = λ at node there. let was = fewer at node there in
      IsDraftAt-same old.space new.space generation at node sizes held was.1 (is.each at node was.0);
}

-- a node that has a text is put into a slot that was free
put_draft : (old new : Holding) (now generation : ℕ) (node : Node) → new.sizes ≡ old.sizes
    → new.held_slots ≡ old.held_slots → is_free_slot old now ≡ true → new.slots ≡ with_number now old.slots
    → IsNode old.sizes.nodesize node → (header_of node).address ≡ now → (header_of node).generation ≡ generation
    → IsDraftAt new generation now node
put_draft old new now generation node sizes held free slots sound placed dated = record {
  kept = subst (λ (s : Sizes). IsNodeAt s.nodesize now node) (sym sizes) (record { sound = sound; placed = placed });
  dated = dated;
  slot = subst (λ (s : Sizes). is_slot s now ≡ true) (sym sizes) (free-parts old now free).0;
  taken = (Contains-has_slot new now).1
      (subst (λ (ns : List ℕ). Contains ns now) (sym slots) (taken-here now old.slots));
  apart = λ has. free-apart old now free (subst (λ (ns : List ℕ). Contains ns now) held has);
}

pub IsDrafted-put : (old new : Ground) (now generation : ℕ) (node : Node) → Spares old new → Puts old new now node
    → new.space.slots ≡ with_number now old.space.slots
    → IsNode old.space.sizes.nodesize node → (header_of node).address ≡ now → (header_of node).generation ≡ generation
    → IsDrafted old generation → IsDrafted new generation
IsDrafted-put old new now generation node spares puts slots sound placed dated is =
    let sizes : new.space.sizes ≡ old.space.sizes = ap (λ (h : Holding). h.sizes) spares.space in
    let held : new.space.held_slots ≡ old.space.held_slots = ap (λ (h : Holding). h.held_slots) spares.space in
    let here = put_draft old.space new.space now generation node sizes held puts.free slots sound placed dated in
    record {
      sizes = IsGround-same old new spares.sizes sizes is.sizes;
      each = λ at other there. elim (eqb_tells at now) [
        | inl (equal, same) ↦
            let that : Some other ≡ Some node = sym there ∙ ap (λ (a : ℕ). fresh_at new.blocks.draft a) same
            ∙ puts.here in
            let one : other ≡ node = cc in
            subst (λ (a : ℕ). IsDraftAt new.space generation a other) (sym same)
            (subst (λ (n : Node). IsDraftAt new.space generation now n) (sym one) here)
        | inr (unequal, differ) ↦
            IsDraftAt-same old.space new.space generation at other sizes held
            (λ has. subst (λ (ns : List ℕ). Contains ns at) (sym slots) (taken-more now old.space.slots at has))
            (is.each at other (sym (fresh_at-told old.blocks.draft new.blocks.draft at
            (puts.others (Unrecorded 0) at differ))
            ∙ there))
      ];
    }

-- ---- a node is put

-- it is fresh at its new address, and elsewhere the same is told
pub Makes-put : (old new : Ground) (now : ℕ) (node put : Node) → put ≡ node_at now node
    → is_free_slot old.space now ≡ true → new.space ≡ record old.space { slots = with_number now old.space.slots }
    → ((history : History) (at : ℕ)
    → told new.blocks.draft history at ≡ if at == (header_of put).address then Some put else told old.blocks.draft
    history at) → Makes old new now node
Makes-put old new now node put is free space telling =
    let placed : (header_of put).address ≡ now = ap (λ (n : Node). (header_of n).address) is
    ∙ node_at-address node now in
    record {
      puts = record {
        free = free;
        here = sym (told-nothing new.blocks.draft now) ∙ elim (eqb_tells now (header_of put).address) [
          | inl (equal, same) ↦ telling (Unrecorded 0) now
              ∙ ap (λ (b : Bool). if b then Some put else told old.blocks.draft (Unrecorded 0) now) equal
              ∙ ap (λ (n : Node). Some n) is
          | inr (unequal, differ) ↦ absurd (differ (sym placed))
        ];
        others = λ history at other. elim (eqb_tells at (header_of put).address) [
          | inl (equal, same) ↦ absurd (other (same ∙ placed))
          | inr (unequal, differ) ↦ telling history at
              ∙ ap (λ (b : Bool). if b then Some put else told old.blocks.draft history at) unequal
        ];
      };
      slots = ap (λ (h : Holding). h.slots) space;
    }

-- the copy of the node that is told
pub Copies-made : (old mid new : Ground) (history : History) (at now owner generation : ℕ)
    (node copy : Node) → mid.blocks.draft ≡ old.blocks.draft → mid.space ≡ old.space
    → Makes mid new now copy → copy ≡ node_copy node (header_of node).address owner generation
    → ((n : Node) → told old.blocks.draft history at ≡ Some n → n ≡ node)
    → ((n : Node) → held_at old.blocks at ≡ Some n → n ≡ node) → Copies old new history at now owner generation
Copies-made old mid new history at now owner generation node copy draft space makes made one lent =
    let is : node_at now copy ≡ node_copy node now owner generation = ap (λ (n : Node). node_at now n) made
    ∙ node_at-copy node (header_of node).address now owner generation in
    record {
      copy = node_at now copy;
      puts = record {
        free = sym (ap (λ (h : Holding). is_free_slot h now) space) ∙ makes.puts.free;
        here = makes.puts.here;
        others = λ h q other. makes.puts.others h q other ∙ ap (λ (d : Draft). told d h q) draft;
      };
      owned = ap (λ (n : Node). (header_of n).owner) is ∙ node_copy-owner node now owner generation;
      dated = ap (λ (n : Node). (header_of n).generation) is ∙ node_copy-generation node now owner generation;
      same = λ n there. is ∙ ap (λ (m : Node). node_copy m now owner generation) (sym (one n there));
      lent = λ n there. is ∙ ap (λ (m : Node). node_copy m now owner generation) (sym (lent n there));
      slots = inl (makes.slots ∙ ap (λ (h : Holding). with_number now h.slots) space);
    }

-- what is put has a text, and the generation to come
pub IsDrafted-made : (old new : Ground) (now generation : ℕ) (node : Node) → Spares old new → Makes old new now node
    → IsNode old.space.sizes.nodesize node → (header_of node).generation ≡ generation
    → IsDrafted old generation → IsDrafted new generation
IsDrafted-made old new now generation node spares makes sound dated =
    IsDrafted-put old new now generation (node_at now node) spares makes.puts makes.slots
    (IsNode-node_at old.space.sizes.nodesize node now sound) (node_at-address node now)
    (node_at-generation node now ∙ dated)

pub IsDrafted-copied : (old new : Ground) (now owner generation : ℕ) (node copy : Node) → Spares old new
    → Makes old new now copy → copy ≡ node_copy node (header_of node).address owner generation
    → IsNode old.space.sizes.nodesize node → IsDrafted old generation → IsDrafted new generation
IsDrafted-copied old new now owner generation node copy spares makes made sound =
    IsDrafted-made old new now generation copy spares makes
    (subst (λ (n : Node). IsNode old.space.sizes.nodesize n) (sym made)
    (IsNode-node_copy old.space.sizes.nodesize node (header_of node).address owner generation sound))
    (ap (λ (n : Node). (header_of n).generation) made
    ∙ node_copy-generation node (header_of node).address owner generation)

-- ---- one call after another

pub Rests-after : (old mid new : Ground) (first second : History) (generation : ℕ)
    → Rests old mid first generation → Rests mid new second generation → Rests old new second generation
Rests-after old mid new first second generation one two = record {
  backed = two.backed;
  drafted = two.drafted;
  node_sizes = two.node_sizes ∙ one.node_sizes;
  bound = two.bound ∙ one.bound;
  sizes = two.sizes ∙ one.sizes;
  runs = two.runs ∙ one.runs;
  held_slots = two.held_slots ∙ one.held_slots;
  held_runs = two.held_runs ∙ one.held_runs;
}

-- a call that changed only which clean nodes are in memory
pub Rests-draft : (old new : Ground) (history : History) (generation : ℕ)
    → new.blocks.draft ≡ old.blocks.draft → new.blocks.bound ≡ old.blocks.bound → new.space ≡ old.space
    → IsBacked new.blocks history → IsDrafted old generation → Rests old new history generation
Rests-draft old new history generation draft bound space backed is = record {
  backed = backed;
  drafted = IsDrafted-fewer old new generation (ap (λ (d : Draft). d.sizes) draft) (ap (λ (h : Holding). h.sizes) space)
      (ap (λ (h : Holding). h.held_slots) space)
      (λ at node there. (
        sym (ap (λ (d : Draft). fresh_at d at) draft)
            ∙ there,
        λ has. subst (λ (h : Holding). Contains h.slots at) (sym space) has,
      )) is;
  node_sizes = ap (λ (d : Draft). d.sizes) draft;
  bound = bound;
  sizes = ap (λ (h : Holding). h.sizes) space;
  runs = ap (λ (h : Holding). h.runs) space;
  held_slots = ap (λ (h : Holding). h.held_slots) space;
  held_runs = ap (λ (h : Holding). h.held_runs) space;
}

-- what an edit spares rests
pub Rests-spares : (old new : Ground) (history : History) (generation : ℕ) → Spares old new
    → new.blocks.bound ≡ old.blocks.bound → IsBacked new.blocks history → IsDrafted new generation
    → Rests old new history generation
Rests-spares old new history generation spares bound backed is = record {
  backed = backed;
  drafted = is;
  node_sizes = spares.sizes;
  bound = bound;
  sizes = ap (λ (h : Holding). h.sizes) spares.space;
  runs = ap (λ (h : Holding). h.runs) spares.space;
  held_slots = ap (λ (h : Holding). h.held_slots) spares.space;
  held_runs = ap (λ (h : Holding). h.held_runs) spares.space;
}

-- and where no node was put
pub Rests-taken : (old new : Ground) (history : History) (generation : ℕ) → Spares old new
    → new.blocks ≡ old.blocks → IsBacked new.blocks history → IsDrafted old generation
    → Rests old new history generation
Rests-taken old new history generation spares blocks backed is =
    let held : new.space.held_slots ≡ old.space.held_slots = ap (λ (h : Holding). h.held_slots) spares.space in
    Rests-spares old new history generation spares (ap (λ (b : Held). b.bound) blocks) backed
    (IsDrafted-fewer old new generation spares.sizes (ap (λ (h : Holding). h.sizes) spares.space) held
    (λ at node there. (
      sym (ap (λ (b : Held). fresh_at b.draft at) blocks) ∙ there,
      λ has. (Contains-has_slot new.space at).0 (spares.taken at ((Contains-has_slot old.space at).1 has)),
    )) is)

-- where a node was put
pub Rests-made : (old new : Ground) (history : History) (now generation : ℕ) (node : Node) → Spares old new
    → new.blocks.bound ≡ old.blocks.bound → IsBacked new.blocks history
    → Makes old new now node → IsNode old.space.sizes.nodesize node → (header_of node).generation ≡ generation
    → IsDrafted old generation → Rests old new history generation
Rests-made old new history now generation node spares bound backed makes sound dated is =
    Rests-spares old new history generation spares bound backed
    (IsDrafted-made old new now generation node spares makes sound dated is)

-- where a slot was given back in which no node is fresh now
pub Rests-given : (old new : Ground) (history : History) (at generation : ℕ)
    → new.blocks.draft.sizes ≡ old.blocks.draft.sizes → new.blocks.bound ≡ old.blocks.bound
    → new.space ≡ record old.space { slots = without_slot at old.space.slots } → fresh_at new.blocks.draft at ≡ None
    → ((other : ℕ) → other ≢ at → fresh_at new.blocks.draft other ≡ fresh_at old.blocks.draft other)
    → IsBacked new.blocks history → IsDrafted old generation → Rests old new history generation
Rests-given old new history at generation nodes bound space none same backed is =
    let slots : new.space.slots ≡ without_slot at old.space.slots = ap (λ (h : Holding). h.slots) space in
    record {
      backed = backed;
      drafted = IsDrafted-fewer old new generation nodes (ap (λ (h : Holding). h.sizes) space)
          (ap (λ (h : Holding). h.held_slots) space)
          (λ other node there. elim (eqb_tells other at) [
            | inl (equal, here) ↦ let absent : Some node ≡ None = sym there
                ∙ ap (λ (a : ℕ). fresh_at new.blocks.draft a) here ∙ none in cc
            | inr (unequal, differ) ↦ (
              sym (same other differ) ∙ there,
              λ has. subst (λ (ns : List ℕ). Contains ns other) (sym slots)
                  ((Contains-without_slot at old.space.slots other).1 (has, differ)),
            )
          ]) is;
      node_sizes = nodes;
      bound = bound;
      sizes = ap (λ (h : Holding). h.sizes) space;
      runs = ap (λ (h : Holding). h.runs) space;
      held_slots = ap (λ (h : Holding). h.held_slots) space;
      held_runs = ap (λ (h : Holding). h.held_runs) space;
    }

-- ---- slots and fresh nodes in all

-- where a node was put, fresh nodes are the same and it
put_fresh_stays : (old new : Ground) (now : ℕ) (node : Node) → Puts old new now node → (at : ℕ)
    → IsSome (fresh_at old.blocks.draft at) → IsSome (fresh_at new.blocks.draft at)
put_fresh_stays old new now node puts at some = elim (eqb_tells at now) [
  | inl (equal, same) ↦ IsSome-is (fresh_at new.blocks.draft at) node (ap (λ (a : ℕ). fresh_at new.blocks.draft a) same
      ∙ puts.here)
  | inr (unequal, differ) ↦ IsSome-same (fresh_at old.blocks.draft at) (fresh_at new.blocks.draft at)
      (fresh_at-told old.blocks.draft new.blocks.draft at (puts.others (Unrecorded 0) at differ)) some
]

put_fresh_only : (old new : Ground) (now : ℕ) (node : Node) → Puts old new now node → (at : ℕ)
    → IsSome (fresh_at new.blocks.draft at)
    → IsSome (fresh_at old.blocks.draft at) ⊎ (is_free_slot old.space at ≡ true)
put_fresh_only old new now node puts at some = elim (eqb_tells at now) [
  | inl (equal, same) ↦ inr (ap (is_free_slot old.space) same ∙ puts.free)
  | inr (unequal, differ) ↦ inl (IsSome-same (fresh_at new.blocks.draft at) (fresh_at old.blocks.draft at)
      (sym (fresh_at-told old.blocks.draft new.blocks.draft at (puts.others (Unrecorded 0) at differ))) some)
]

pub Spares-put : (old new : Ground) (now : ℕ) (node : Node) → new.blocks.draft.sizes ≡ old.blocks.draft.sizes
    → new.space ≡ record old.space { slots = with_number now old.space.slots }
    → Puts old new now node → Spares old new
Spares-put old new now node sizes space puts =
    let slots : new.space.slots ≡ with_number now old.space.slots = ap (λ (h : Holding). h.slots) space in
    record {
      sizes = sizes;
      fresh = put_fresh_stays old new now node puts;
      only = put_fresh_only old new now node puts;
      taken = λ at has.
          (Contains-has_slot new.space at).1
          (subst (λ (ns : List ℕ). Contains ns at) (sym slots)
          (taken-more now old.space.slots at ((Contains-has_slot old.space at).0 has)));
      space = space ∙ ap (λ (ns : List ℕ). record old.space { slots = ns }) (sym slots);
    }

-- a slot was taken and no node put
pub Spares-taken : (old new : Ground) (now : ℕ) → new.blocks ≡ old.blocks
    → new.space ≡ record old.space { slots = with_number now old.space.slots } → Spares old new
Spares-taken old new now blocks space =
    let slots : new.space.slots ≡ with_number now old.space.slots = ap (λ (h : Holding). h.slots) space in
    record {
      sizes = ap (λ (b : Held). b.draft.sizes) blocks;
      fresh = λ at some. IsSome-same (fresh_at old.blocks.draft at) (fresh_at new.blocks.draft at)
          (ap (λ (b : Held). fresh_at b.draft at) blocks) some;
      only = λ at some. inl (IsSome-same (fresh_at new.blocks.draft at) (fresh_at old.blocks.draft at)
          (sym (ap (λ (b : Held). fresh_at b.draft at) blocks)) some);
      taken = λ at has.
          (Contains-has_slot new.space at).1
          (subst (λ (ns : List ℕ). Contains ns at) (sym slots)
          (taken-more now old.space.slots at ((Contains-has_slot old.space at).0 has)));
      space = space ∙ ap (λ (ns : List ℕ). record old.space { slots = ns }) (sym slots);
    }

-- a copy takes one slot at most
pub Takes-copied : (old new : Ground) (history : History) (at now owner generation : ℕ) → IsGround old
    → new.space.sizes ≡ old.space.sizes → new.space.held_slots ≡ old.space.held_slots
    → Copies old new history at now owner generation → Takes 1 (λ q. q ≡ at) old new
Takes-copied old new history at now owner generation is sizes held copies =
    let more : (q : ℕ) → q ≢ at → Contains old.space.slots q → Contains new.space.slots q = λ q other has.
    lack-more at (with_number now old.space.slots) new.space.slots q copies.slots other
    (taken-more now old.space.slots q has) in
    record {
      count = free_slots-put old.space new.space now at is.served copies.puts.free sizes held copies.slots;
      less = λ q free. elim (eqb_tells q at) [
        | inl (equal, same) ↦ inr same
        | inr (unequal, differ) ↦ inl (free-less old.space new.space q sizes held (more q differ) free)
      ];
      taken = λ q other has. (Contains-has_slot new.space q).1 (more q other ((Contains-has_slot old.space q).0 has));
      fresh = λ q other some. put_fresh_stays old new now copies.copy copies.puts q some;
      only = λ q some. elim (put_fresh_only old new now copies.copy copies.puts q some) [
        | inl was ↦ inl was
        | inr free ↦ inr (inl free)
      ];
    }

-- and so does a new node
pub Takes-made : (old new : Ground) (now : ℕ) (node : Node) → IsGround old → new.space.sizes ≡ old.space.sizes
    → new.space.held_slots ≡ old.space.held_slots → Makes old new now node
    → Takes 1 (λ q. ⊥) old new
Takes-made old new now node is sizes held makes =
    let more : (q : ℕ) → Contains old.space.slots q → Contains new.space.slots q = λ q has.
    subst (λ (ns : List ℕ). Contains ns q) (sym makes.slots) (taken-more now old.space.slots q has) in
    record {
      count = free_slots-put old.space new.space now now is.served makes.puts.free sizes held (inl makes.slots);
      less = λ q free. inl (free-less old.space new.space q sizes held (more q) free);
      taken = λ q other has. (Contains-has_slot new.space q).1 (more q ((Contains-has_slot old.space q).0 has));
      fresh = λ q other some. put_fresh_stays old new now (node_at now node) makes.puts q some;
      only = λ q some. elim (put_fresh_only old new now (node_at now node) makes.puts q some) [
        | inl was ↦ inl was
        | inr free ↦ inr (inl free)
      ];
    }

-- a node that is left takes none
pub Takes-left : (old new : Ground) (at : ℕ) → new.space.sizes ≡ old.space.sizes
    → new.space.held_slots ≡ old.space.held_slots → LetsGo old new at → Takes 0 (λ q. q ≡ at) old new
Takes-left old new at sizes held left =
    let more : (q : ℕ) → q ≢ at → Contains old.space.slots q → Contains new.space.slots q =
    λ q other has. lack-more at old.space.slots new.space.slots q left.slots other has in
    let same : (q : ℕ) → q ≢ at → fresh_at new.blocks.draft q ≡ fresh_at old.blocks.draft q =
    λ q other. fresh_at-told old.blocks.draft new.blocks.draft q (left.others (Unrecorded 0) q other) in
    record {
      count = let more = free_slots-lack old.space new.space at sizes held left.slots in omega (arith, more);
      less = λ q free. elim (eqb_tells q at) [
        | inl (equal, is) ↦ inr is
        | inr (unequal, differ) ↦ inl (free-less old.space new.space q sizes held (more q differ) free)
      ];
      taken = λ q other has. (Contains-has_slot new.space q).1 (more q other ((Contains-has_slot old.space q).0 has));
      fresh = λ q other some. IsSome-same (fresh_at old.blocks.draft q) (fresh_at new.blocks.draft q)
          (same q other) some;
      only = λ q some. elim (eqb_tells q at) [
        | inl (equal, is) ↦ inr (inr is)
        | inr (unequal, differ) ↦ inl (IsSome-same (fresh_at new.blocks.draft q) (fresh_at old.blocks.draft q)
            (sym (same q differ)) some)
      ];
    }

-- nothing changed
pub Takes-none : (old new : Ground) (most : ℕ) (Gone : ℕ → Type 0) → new ≡ old → Takes most Gone old new
Takes-none old new most Gone same = subst (λ (g : Ground). Takes most Gone old g) (sym same) (record {
  count = omega arith;
  less = λ q free. inl free;
  taken = λ q other has. has;
  fresh = λ q other some. some;
  only = λ q some. inl some;
})

-- one call after another
pub Takes-after : (old mid new : Ground) (m n : ℕ) (G H : ℕ → Type 0) → Takes m G old mid → Takes n H mid new
    → Takes (m + n) (λ q. G q ⊎ H q) old new
Takes-after old mid new m n G H one two = record {
  count = let a = one.count in let b = two.count in omega (arith, a, b);
  less = λ q free. elim (two.less q free) [
    | inl was ↦ elim (one.less q was) [ inl first ↦ inl first | inr gone ↦ inr (inl gone) ]
    | inr gone ↦ inr (inr gone)
  ];
  taken = λ q other has. two.taken q (λ gone. other (inr gone)) (one.taken q (λ gone. other (inl gone)) has);
  fresh = λ q other some. two.fresh q (λ gone. other (inr gone)) (one.fresh q (λ gone. other (inl gone)) some);
  only = λ q some. elim (two.only q some) [
    | inl was ↦ elim (one.only q was) [
      | inl first ↦ inl first
      | inr rest ↦ elim rest [ inl free ↦ inr (inl free) | inr gone ↦ inr (inr (inl gone)) ]
    ]
    | inr rest ↦ elim rest [
      | inl free ↦ elim (one.less q free) [ inl first ↦ inr (inl first) | inr gone ↦ inr (inr (inl gone)) ]
      | inr gone ↦ inr (inr (inr gone))
    ]
  ];
}

-- ---- a copy, and then the book

-- what the book leaves of it
pub Copies-back : (old mid new : Ground) (history : History) (at now owner generation : ℕ)
    → Copies old mid history at now owner generation
    → mid.space.slots ≡ with_number now old.space.slots → GivesBack mid new at
    → Copies old new history at now owner generation
Copies-back old mid new history at now owner generation copies slots back = record {
  copy = copies.copy;
  puts = record {
    free = copies.puts.free;
    here = ap (λ (d : Draft). fresh_at d now) back.draft ∙ copies.puts.here;
    others = λ h q other. ap (λ (d : Draft). told d h q) back.draft ∙ copies.puts.others h q other;
  };
  owned = copies.owned;
  dated = copies.dated;
  same = copies.same;
  lent = copies.lent;
  slots = subst (λ (ns : List ℕ). MayLack at ns new.space.slots) slots back.slots;
}

-- where the book changed neither fresh nodes nor slots, it gave back none
pub GivesBack-none : (old new : Ground) (at : ℕ) → TakesNone old new → GivesBack old new at
GivesBack-none old new at none = record { draft = none.draft; slots = inl none.slots }

-- the book may be told of it
pub IsCopied-copies : (old mid : Ground) (history history' : History) (at now owner generation : ℕ)
    → fresh_at old.blocks.draft at ≡ None → now ≢ at
    → Copies old mid history at now owner generation → history' ≡ history → IsCopied mid history' at now
IsCopied-copies old mid history history' at now owner generation clean other copies is =
    let differ : at ≢ now = λ same. other (sym same) in
    record {
      clean = fresh_at-told old.blocks.draft mid.blocks.draft at (copies.puts.others (Unrecorded 0) at differ) ∙ clean;
      fresh = IsSome-is (fresh_at mid.blocks.draft now) copies.copy copies.puts.here;
      same = λ node new there here.
          let that : Some new ≡ Some copies.copy = sym here ∙ copies.puts.here in
          let one : new ≡ copies.copy = cc in
          let was : told old.blocks.draft history at ≡ Some node = sym (copies.puts.others history at differ)
          ∙ sym (ap (λ (h : History). told mid.blocks.draft h at) is) ∙ there in
          (owner, generation, one ∙ copies.same node was);
    }

-- what is told there is told still
pub told-copies : (old mid : Ground) (history history' : History) (at now owner generation : ℕ)
    (node : Node) → now ≢ at → Copies old mid history at now owner generation
    → history' ≡ history → told old.blocks.draft history at ≡ Some node → told mid.blocks.draft history' at ≡ Some node
told-copies old mid history history' at now owner generation node other copies is there =
    ap (λ (h : History). told mid.blocks.draft h at) is
    ∙ copies.puts.others history at (λ same. other (sym same)) ∙ there

-- a slot that is free is not one that isn't
pub free-differs : (holding : Holding) (at now : ℕ) → is_free_slot holding now ≡ true → is_free_slot holding at ≡ false
    → now ≢ at
free-differs holding at now free held same = true≢false (sym free ∙ ap (is_free_slot holding) same ∙ held)

-- a node that was loaded, and then the book
pub LetsGo-draft : (old mid new : Ground) (at : ℕ) → mid.blocks.draft ≡ old.blocks.draft
    → mid.space.slots ≡ old.space.slots → LetsGo mid new at → LetsGo old new at
LetsGo-draft old mid new at draft slots left = record {
  here = subst (λ (d : Draft). (fresh_at new.blocks.draft at ≡ fresh_at d at) ⊎ (fresh_at new.blocks.draft at ≡ None))
      draft left.here;
  others = λ history other differ. left.others history other differ ∙ ap (λ (d : Draft). told d history other) draft;
  slots = subst (λ (ns : List ℕ). MayLack at ns new.space.slots) slots left.slots;
}

-- a new node, and then the book
pub Makes-after : (old mid new : Ground) (now : ℕ) (node : Node) → Makes old mid now node
    → new.blocks.draft ≡ mid.blocks.draft → new.space.slots ≡ mid.space.slots → Makes old new now node
Makes-after old mid new now node makes draft slots = record {
  puts = record {
    free = makes.puts.free;
    here = ap (λ (d : Draft). fresh_at d now) draft ∙ makes.puts.here;
    others = λ h q other. ap (λ (d : Draft). told d h q) draft ∙ makes.puts.others h q other;
  };
  slots = slots ∙ makes.slots;
}

-- what a book answers that breaks no rule
pub Answers-unbroken : (A B : Type 0) (fault : BlockFault) (at : ℕ) (wanted : Result Node Rule)
    → BreaksNone {A = A} (Err fault) → Answers {A = B} (Err fault) at wanted
Answers-unbroken A B NoMemory at wanted none = tt
Answers-unbroken A B Disk at wanted none = tt
Answers-unbroken A B (Image rule address) at wanted none = absurd none
