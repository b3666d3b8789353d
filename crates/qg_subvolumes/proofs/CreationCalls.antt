-- What the calls of a creation do, where nodes, disk and book hold a state.
use Rattle.std.proofs.Common.{◌≡◌, ℕ, ◌<◌, ◌≤◌, ◌^◌, true, List, [], Option, Some, None, arith, lit<, refl, sym, ap}
use Rattle.std.proofs.Common.{subst, ◌∙◌}
use Rattle.std.specs.Prelude.{not}
use Rattle.std.specs.Option.{option_map}
use Rattle.std.proofs.lemmas.List.Elements.{All-nil}
use Rattle.qg_device.specs.History.{History}
use Rattle.qg_node.specs.declared.node.Node.{Node}
use Rattle.qg_node.specs.Fits.{HeaderFits, ItemFits, NodeFits}
use Rattle.qg_node.specs.Nodes.{header_of, is_ascending, used_bytes}
use Rattle.qg_node.specs.NodeText.{IsNode}
use Rattle.qg_super.specs.declared.sizes.Sizes.{Sizes}
use Rattle.qg_super.proofs.Served.{SizesFit-is_served}
use Rattle.qg_image.specs.ItemMeaning.{is_subvolume_number}
use Rattle.qg_image.specs.Table.{value_at, with_value}
use Rattle.qg_image.specs.State.{Placed, State, has_subvolume, next_generation, node_at, blank_subvolume}
use Rattle.qg_image.specs.Reach.{level_of}
use Rattle.qg_machine.specs.GroupChange.{new_group, with_group}
use Rattle.qg_machine.specs.Step.{CreatesSubvolume, empty_leaf}
use Rattle.qg_machine.specs.Refusals.{root_level}
use Rattle.qg_blocks.specs.NodesFound.{told}
use Rattle.qg_space.specs.Holding.{is_free_slot}
use Rattle.qg_node_alloc.specs.declared.ground.Ground.{Ground}
use Rattle.qg_node_alloc.specs.Changes.{Makes, node_at as placed_at}
use Rattle.qg_node_alloc.specs.Land.{IsGround}
use Rattle.qg_node_alloc.specs.Tellings.Telling.{Made}
use Rattle.qg_node_alloc.proofs.Lands.{told-fresh_at}
use Rattle.qg_reach.proofs.Layouts.{value_at-with_same}
use Rattle.qg_extents.specs.Table.{IsTable, book_of}
use Rattle.qg_tree_read.specs.Tree.{Root}
use Rattle.qg_tree_backrefs.specs.declared.tree_refs.TreeRefs.{TreeRefs}
use Rattle.qg_tree_backrefs.specs.Exchange.{Exchanges}
use Rattle.qg_tree_backrefs.specs.Following.{Step, coming_of}
use Rattle.qg_tree_backrefs.specs.Settled.{IsSettled}
use Rattle.qg_tree_backrefs.proofs.Gains.{Gives-none}
use Rattle.qg_shared_trees.specs.ForestStanding.{HoldsState, root_of, tree_of}
use Rattle.qg_shared_trees.proofs.ForestRoots.{root_level-value, root_of-value}
use Rattle.qg_subvolumes.proofs.Copied.{nothing_else}
use Rattle.qg_subvolumes.proofs.Creation.{leaf-tree, more, owes-none}
use Rattle.qg_subvolumes.proofs.OneMoreHeld.{IsDone, holds-then}
use Rattle.qg_subvolumes.proofs.More.{OneMore}
use Rattle.qg_subvolumes.proofs.Putting.{address-low, exchanged, no-value, noted-refs, number-fits}
use Rattle.qg_subvolumes.proofs.Referred.{free-none, free-slot, free-state}

-- ---- an empty leaf

-- it has a text
pub leaf-sound : (size generation sub address : ℕ) → 101 ≤ size
    → IsNode size (empty_leaf generation sub address).node
unfolding is_ascending
leaf-sound size generation sub address large =
    let nothing : used_bytes (empty_leaf generation sub address).node ≡ 0 = refl in
    record { levelled = refl; ascending = refl; fits = omega (arith, nothing, large) }

leaf_fits : (generation sub address : ℕ) → generation < 2 ^ 64 → sub < 2 ^ 64 → address < 2 ^ 64
    → NodeFits (empty_leaf generation sub address).node
leaf_fits generation sub address dated own lies =
    (record { address = lies; generation = dated; owner = own; level = lit< tt }, All-nil ItemFits)

-- a node that is made of one is so, and of the generation that its header has
pub leaf-dated : (leaf : Node) (generation sub address : ℕ) → leaf ≡ (empty_leaf generation sub address).node
    → (header_of leaf).generation ≡ generation
leaf-dated leaf generation sub address is = ap (λ (node : Node). (header_of node).generation) is

pub leaf-low : (leaf : Node) (generation sub address : ℕ) → leaf ≡ (empty_leaf generation sub address).node
    → HeaderFits (header_of leaf) → generation < 2 ^ 64
leaf-low leaf generation sub address is fits =
    let same = leaf-dated leaf generation sub address is in
    let low = fits.generation in
    omega (arith, same, low)

pub leaf-made : (land : Ground) (leaf : Node) (generation sub address : ℕ) → IsGround land
    → leaf ≡ (empty_leaf generation sub address).node → IsNode land.space.sizes.nodesize leaf
leaf-made land leaf generation sub address ground is =
    let least = (SizesFit-is_served land.space.sizes ground.served).least in
    subst (λ (node : Node). IsNode land.space.sizes.nodesize node) (sym is)
    (leaf-sound land.space.sizes.nodesize generation sub address (omega (arith, least)))

-- ---- the calls

-- what the calls of a creation answer: an empty leaf was made
pub record Calls (land new : Ground) (history : History) (old made : TreeRefs) (sub next now : ℕ) : Type 0
  where
    pub tree : old.tree ≡ sub
    pub to_come : next ≡ old.next
    pub first : IsTable old.refs
    pub leaf : Node
    pub empty : leaf ≡ (empty_leaf next sub 0).node
    pub makes : Makes land new now leaf
    pub step : Step old (Made now) made
    pub fits : made.misfit ≡ None
    pub settled : old.misfit ≡ None → IsSettled old land history → IsSettled made new history
    pub sizes : new.space.sizes ≡ land.space.sizes
    pub runs : new.space.runs ≡ land.space.runs
    pub held_slots : new.space.held_slots ≡ land.space.held_slots
    pub held_runs : new.space.held_runs ≡ land.space.held_runs
    pub dated : next < 2 ^ 64

-- ---- a state that is held

module _ (state : State) (sub next now : ℕ) (land : Ground) (history : History) (old : TreeRefs)
    (holds : HoldsState land history old state) (unused : not (has_subvolume state sub) ≡ true) (ground : IsGround land)
    (free : is_free_slot land.space now ≡ true) (new : Ground) (made : TreeRefs)
    (number : is_subvolume_number sub ≡ true) (calls : Calls land new history old made sub next now) where
  abbrev generation : ℕ
  generation = next_generation state

  abbrev pub after : State
  after = record state {
    subvolumes = with_value sub (blank_subvolume now) state.subvolumes;
    layout = with_value now (empty_leaf generation sub now) state.layout;
    quota = option_map (with_group sub (new_group generation)) state.quota;
  }

  abbrev pub creation : CreatesSubvolume state sub after
  creation = record {
    address = now;
    free = free-state land history old state holds now free;
    created = refl;
  }

  other : value_at sub state.subvolumes ≡ None
  other = no-value (value_at sub state.subvolumes) unused

  none_there : value_at now state.layout ≡ None
  none_there = free-none land history old state holds now free

  abbrev one_more : OneMore state after sub
  one_more = more state after sub creation holds.whole holds.numbers other none_there

  next_is : next ≡ generation
  next_is = calls.to_come ∙ holds.next

  put_is : placed_at now calls.leaf ≡ (empty_leaf generation sub now).node
  put_is =
      ap (λ (node : Node). placed_at now node) calls.empty ∙ ap (λ (n : ℕ). (empty_leaf n sub now).node) next_is

  here : told new.blocks.draft history now ≡ Some (empty_leaf generation sub now).node
  here =
      told-fresh_at new.blocks.draft history now (placed_at now calls.leaf) calls.makes.puts.here
      ∙ ap (λ (node : Node). Some node) put_is

  sound : IsNode state.sizes.nodesize (empty_leaf generation sub now).node
  sound =
      let least = (SizesFit-is_served land.space.sizes ground.served).least in
      let same = ap (λ (sizes : Sizes). sizes.nodesize) holds.sizes in
      leaf-sound state.sizes.nodesize generation sub now (omega (arith, least, same))

  dated : generation < 2 ^ 64
  dated = let same = next_is in let last = calls.dated in omega (arith, same, last)

  fits : NodeFits (empty_leaf generation sub now).node
  fits =
      leaf_fits generation sub now dated (number-fits sub number)
      (address-low state now land history old holds free ground)

  done : Exchanges (book_of old.refs) (book_of made.refs) nothing_else (coming_of old calls.step.level (Made now))
  done = exchanged state now land history old holds free made calls.step calls.fits

  is_done : IsDone state after sub one_more [] land new history old made made
  is_done = record {
    tree = calls.tree;
    level = calls.step.level;
    first = calls.first.book;
    mid = done.book;
    last = done.book;
    done = done;
    noted = noted-refs state now land history old holds free made calls.step calls.fits;
    gives = Gives-none (book_of made.refs);
    others = refl;
    owes = owes-none state after sub creation holds.whole holds.numbers other none_there;
    settled = calls.settled holds.fits holds.settled;
    slot = free-slot land history old state holds now free;
    elsewhere = λ q differ. calls.makes.puts.others history q differ;
    here = here;
    placed = refl;
    sound = sound;
    fits = fits;
    own = leaf-tree state after sub creation holds.whole holds.numbers other none_there holds.home number;
    sizes = calls.sizes;
    runs = calls.runs;
    held_slots = calls.held_slots;
    held_runs = calls.held_runs;
  }

  held : HoldsState new history made after
  held = holds-then state after sub one_more [] land new history old made made holds is_done

  made_there : value_at sub after.subvolumes ≡ Some (blank_subvolume now)
  made_there = value_at-with_same sub (blank_subvolume now) state.subvolumes

  leaf_there : node_at after.layout now ≡ Some (empty_leaf generation sub now).node
  leaf_there =
      ap (λ (o : Option Placed). option_map (λ (placed : Placed). placed.node) o)
      (value_at-with_same now (empty_leaf generation sub now) state.layout)

  root_after : root_of after sub ≡ now
  root_after = root_of-value after sub (blank_subvolume now) made_there

  height_after : root_level after sub ≡ 0
  height_after =
      root_level-value after sub (blank_subvolume now) made_there
      ∙ ap level_of leaf_there

  -- the answer is the new subvolume's tree
  tree_after : (answer : Root) → answer ≡ record { address = now; height = 0; owner = sub; next = next } → answer
      ≡ tree_of after sub
  tree_after answer given =
      given
      ∙ (λ i. record {
        address = sym root_after i;
        height = sym height_after i;
        owner = sub;
        next = next_is i;
      })

  -- what is left is the machine's state, over a disk of the same history
  pub created-then : (later : History) → later ≡ history → (answer : Root)
      → answer ≡ record { address = now; height = 0; owner = sub; next = next }
      → (then : State) × CreatesSubvolume state sub then × HoldsState new later made then
      × (answer ≡ tree_of then sub)
  created-then later same answer given = (
    after,
    creation,
    subst (λ (h : History). HoldsState new h made after) (sym same) held,
    tree_after answer given,
  )
