-- What the calls of a snapshot do, where nodes, disk and book hold a state.
use Rattle.std.proofs.Common.{◌≡◌, ℕ, ◌+◌, ◌<◌, ◌^◌, true, false, List, [], ◌∷◌, Option, Some, None, arith, refl, sym}
use Rattle.std.proofs.Common.{ap, subst, ◌∙◌}
use Rattle.std.specs.Prelude.{not}
use Rattle.std.specs.Option.{option_map}
use Rattle.std.proofs.lemmas.Option.{same_Some}
use Rattle.qg_device.specs.History.{History}
use Rattle.qg_node.specs.declared.node.Node.{Node}
use Rattle.qg_node.specs.declared.node.Node.TheVariants.{Leaf, Inner}
use Rattle.qg_node.specs.Fits.{HeaderFits, NodeFits}
use Rattle.qg_node.specs.Nodes.{header_of}
use Rattle.qg_node.specs.NodeText.{IsNode}
use Rattle.qg_items.specs.declared.extent.Reference.{Reference}
use Rattle.qg_super.specs.declared.superblock.Super.{Super}
use Rattle.qg_image.specs.ItemMeaning.{is_subvolume_number}
use Rattle.qg_image.specs.Table.{value_at, with_value}
use Rattle.qg_image.specs.State.{Placed, State, Subvolume, has_subvolume, layout_of, next_generation, node_at}
use Rattle.qg_image.specs.Reach.{level_of}
use Rattle.qg_image.specs.declared.expected.Expected.{Expected}
use Rattle.qg_image.specs.declared.tree.TreeKind.TheVariants.{Files}
use Rattle.qg_machine.specs.GroupChange.{inherited}
use Rattle.qg_machine.specs.Step.{Snapshots, copy_of, subvolume_copy}
use Rattle.qg_machine.specs.Refusals.{root_level}
use Rattle.qg_cow_refs.specs.Children.{keyed_children, way_to}
use Rattle.qg_blocks.specs.NodesInMemory.{Draft, Held}
use Rattle.qg_blocks.specs.NodesFound.{held_at, told}
use Rattle.qg_space.specs.Holding.{Holding, is_free_slot}
use Rattle.qg_node_alloc.specs.declared.ground.Ground.{Ground}
use Rattle.qg_node_alloc.specs.Changes.{Makes, node_at as placed_at}
use Rattle.qg_node_alloc.specs.Land.{IsGround}
use Rattle.qg_node_alloc.specs.Tellings.{node_copy}
use Rattle.qg_node_alloc.specs.Tellings.Telling.{Made}
use Rattle.qg_node_alloc.proofs.Lands.{node_copy-generation, told-fresh_at}
use Rattle.qg_reach.proofs.Layouts.{value_at-with_same}
use Rattle.qg_refs.specs.Book.{count_at}
use Rattle.qg_extents.specs.Table.{IsTable, book_of}
use Rattle.qg_tree_read.specs.Tree.{Root}
use Rattle.qg_tree_read.specs.Way.{IsVisited}
use Rattle.qg_tree_backrefs.specs.declared.tree_refs.TreeRefs.{TreeRefs}
use Rattle.qg_tree_backrefs.specs.Exchange.{CanGive, Exchanges, Gives, times}
use Rattle.qg_tree_backrefs.specs.Following.{Step, coming_of}
use Rattle.qg_tree_backrefs.specs.Settled.{IsSettled}
use Rattle.qg_shared_trees.specs.ForestStanding.{HoldsState, root_of, tree_of}
use Rattle.qg_shared_trees.proofs.Meeting.{root-valued}
use Rattle.qg_shared_trees.proofs.ForestRoots.{root_level-value, root_of-value}
use Rattle.qg_subvolumes.proofs.Copied.{nothing_else}
use Rattle.qg_subvolumes.proofs.OneMoreHeld.{IsDone, holds-then}
use Rattle.qg_subvolumes.proofs.CopyWalked.{copy-level}
use Rattle.qg_subvolumes.proofs.More.{OneMore}
use Rattle.qg_subvolumes.proofs.Putting.{address-low, counts-made, exchanged, no-node, no-value, nodes-small}
use Rattle.qg_subvolumes.proofs.Putting.{noted-refs}
use Rattle.qg_subvolumes.proofs.Putting.{number-fits}
use Rattle.qg_subvolumes.proofs.Referred.{free-none, free-slot, free-state}
use Rattle.qg_subvolumes.proofs.Room.{can-give}
use Rattle.qg_subvolumes.proofs.Snapped.{copy-address, copy-tree, more, owes-children}
use Rattle.qg_subvolumes.proofs.Source.{HasRoot, has-root, level-is, node-there, root-reached, root-told}

-- ---- the copy

-- the machine's copy is the one that was put
copy_put : (node : Node) (from address owner generation : ℕ)
    → placed_at address (node_copy node from owner generation) ≡ copy_of generation owner address node
copy_put (Leaf header items) from address owner generation = refl
copy_put (Inner header pointers) from address owner generation = refl

copy_sound : (size generation owner address : ℕ) (node : Node) → IsNode size node
    → IsNode size (copy_of generation owner address node)
copy_sound size generation owner address (Leaf header items) is = record {
  levelled = is.levelled;
  ascending = is.ascending;
  fits = is.fits;
}
copy_sound size generation owner address (Inner header pointers) is = record {
  levelled = is.levelled;
  ascending = is.ascending;
  fits = is.fits;
}

copy_fits : (generation owner address : ℕ) (node : Node) → generation < 2 ^ 64 → owner < 2 ^ 64 → address < 2 ^ 64
    → NodeFits node → NodeFits (copy_of generation owner address node)
copy_fits generation owner address (Leaf header items) dated own lies fits =
    (record { address = lies; generation = dated; owner = own; level = fits.0.level }, fits.1)
copy_fits generation owner address (Inner header pointers) dated own lies fits =
    (record { address = lies; generation = dated; owner = own; level = fits.0.level }, fits.1)

-- a generation fits its field, where a copy's header does
pub generation-low : (copy node : Node) (owner generation : ℕ)
    → copy ≡ node_copy node (header_of node).address owner generation → HeaderFits (header_of copy)
    → generation < 2 ^ 64
generation-low copy node owner generation is fits =
    let same = ap (λ (n : Node). (header_of n).generation) is
    ∙ node_copy-generation node (header_of node).address owner generation in
    let low = fits.generation in
    omega (arith, same, low)

-- a node that was visited is the one that is told, if one is
pub peeked-alone : (super : Super) (expected : Expected) (draft : Draft) (history : History) (held : Held)
    (address at : ℕ) (peeked : Node) → address ≡ at → IsVisited Files super expected draft history held address
    → held_at held address ≡ Some peeked → (node : Node) → told draft history at ≡ Some node → node ≡ peeked
peeked-alone super expected draft history held address at peeked same visited here node there =
    let told_there = ap (λ (q : ℕ). told draft history q) same ∙ there in
    visited.alone node told_there ∙ same_Some visited.node peeked (sym visited.is ∙ here)

-- what the calls of a snapshot answer: the source's root was visited, its copy made, and its children given a
-- reference each
pub record Calls (land mid new : Ground) (history : History) (old made given : TreeRefs) (source : Root)
    (copy now : ℕ) : Type 0 where
  pub tree : old.tree ≡ copy
  pub first : IsTable old.refs
  pub last : IsTable given.refs
  pub peeked : Node
  pub alone : (node : Node) → told land.blocks.draft history source.address ≡ Some node → node ≡ peeked
  pub draft : mid.blocks.draft ≡ land.blocks.draft
  pub space : mid.space ≡ land.space
  pub node : Node
  pub copied : node ≡ node_copy peeked (header_of peeked).address copy source.next
  pub makes : Makes mid new now node
  pub step : Step old (Made now) made
  pub fits : made.misfit ≡ None
  pub settled : old.misfit ≡ None → IsSettled old land history → IsSettled made new history
  pub gives : Gives (book_of made.refs) (book_of given.refs) (keyed_children peeked copy)
  pub others : given ≡ record made { refs = given.refs }
  pub sizes : new.space.sizes ≡ mid.space.sizes
  pub runs : new.space.runs ≡ mid.space.runs
  pub held_slots : new.space.held_slots ≡ mid.space.held_slots
  pub held_runs : new.space.held_runs ≡ mid.space.held_runs
  pub dated : source.next < 2 ^ 64

-- ---- a state that is held

module _ (state : State) (sub copy now : ℕ) (land : Ground) (history : History) (old : TreeRefs)
    (holds : HoldsState land history old state) (has : has_subvolume state sub ≡ true)
    (unused : not (has_subvolume state copy) ≡ true) (ground : IsGround land)
    (free : is_free_slot land.space now ≡ true) where
  pub other : value_at copy state.subvolumes ≡ None
  other = no-value (value_at copy state.subvolumes) unused

  abbrev pub root_source : HasRoot state sub
  root_source = has-root state sub holds.whole has

  other_root : value_at copy (layout_of state).roots ≡ None
  other_root =
      root-valued copy state.subvolumes
      ∙ ap (λ (o : Option Subvolume). option_map (λ (subvolume : Subvolume). subvolume.root) o) other

  -- children may get their references
  pub can-give-children : (made : TreeRefs) (peeked : Node) → IsTable old.refs → old.tree ≡ copy
      → Step old (Made now) made → made.misfit ≡ None → root_source.placed.node ≡ peeked
      → CanGive (book_of made.refs) (keyed_children peeked copy)
  can-give-children made peeked first tree step fits same =
      subst (λ (node : Node). CanGive (book_of made.refs) (keyed_children node copy)) same
      (can-give state sub copy now holds.whole holds.home root_source other_root
      (no-node state now land history old holds free) (nodes-small state now land history old holds free ground)
      (book_of old.refs) (book_of made.refs) holds.agrees first.fitting
      (subst (λ (n : ℕ). (at : ℕ) (reference : Reference) → count_at (book_of made.refs) at reference
      ≡ count_at (book_of old.refs) at reference + times (way_to now n ∷ []) at reference) tree
      (counts-made state now land history old holds free made step fits)))

  -- ---- what is left is the machine's state

  module _ (parents : List ℕ) (mid new : Ground) (made given : TreeRefs) (source : Root)
      (is : source ≡ tree_of state sub) (number : is_subvolume_number copy ≡ true)
      (calls : Calls land mid new history old made given source copy now) where
    abbrev root : Node
    root = root_source.placed.node

    abbrev generation : ℕ
    generation = next_generation state

    abbrev pub after : State
    after = record state {
      subvolumes = with_value copy
          (subvolume_copy generation root_source.source now)
          (with_value sub (record root_source.source { last_snapshot = generation }) state.subvolumes);
      layout = with_value now (record { node = copy_of generation copy now root; full = false }) state.layout;
      quota = option_map (inherited generation sub copy parents) state.quota;
    }

    abbrev pub snapshot : Snapshots state sub parents copy after
    snapshot = record {
      source = root_source.source;
      there = root_source.there;
      root = root;
      root_there = node-there state sub root_source;
      address = now;
      free = free-state land history old state holds now free;
      copied = refl;
    }

    same_root : root ≡ calls.peeked
    same_root = calls.alone root (root-told state sub root_source land history old holds source is)

    next_is : source.next ≡ generation
    next_is = ap (λ (r : Root). r.next) is

    put_is : placed_at now calls.node ≡ copy_of generation copy now root
    put_is =
        ap (λ (node : Node). placed_at now node) calls.copied
        ∙ copy_put calls.peeked (header_of calls.peeked).address now copy source.next
        ∙ ap (λ (n : ℕ). copy_of n copy now calls.peeked) next_is
        ∙ sym (ap (λ (node : Node). copy_of generation copy now node) same_root)

    here : told new.blocks.draft history now ≡ Some (copy_of generation copy now root)
    here =
        told-fresh_at new.blocks.draft history now (placed_at now calls.node) calls.makes.puts.here
        ∙ ap (λ (node : Node). Some node) put_is

    sound : IsNode state.sizes.nodesize (copy_of generation copy now root)
    sound =
        copy_sound state.sizes.nodesize generation copy now root
        (root-reached state sub root_source holds.whole).node_of_format

    dated : generation < 2 ^ 64
    dated = let same = next_is in let last = calls.dated in omega (arith, same, last)

    fits : NodeFits (copy_of generation copy now root)
    fits =
        copy_fits generation copy now root dated (number-fits copy number)
        (address-low state now land history old holds free ground)
        (root-reached state sub root_source holds.whole).fits

    done : Exchanges (book_of old.refs) (book_of made.refs) nothing_else (coming_of old calls.step.level (Made now))
    done = exchanged state now land history old holds free made calls.step calls.fits

    none_there : value_at now state.layout ≡ None
    none_there = free-none land history old state holds now free

    abbrev one_more : OneMore state after copy
    one_more = more state after sub copy parents snapshot holds.whole holds.numbers other none_there

    is_done : IsDone state after copy one_more (keyed_children root copy) land new history old made given
    is_done = record {
      tree = calls.tree;
      level = calls.step.level;
      first = calls.first.book;
      mid = done.book;
      last = calls.last.book;
      done = done;
      noted = noted-refs state now land history old holds free made calls.step calls.fits;
      gives = subst (λ (node : Node). Gives (book_of made.refs) (book_of given.refs) (keyed_children node copy))
          (sym same_root) calls.gives;
      others = calls.others;
      owes = owes-children state after sub copy parents snapshot holds.whole holds.numbers other none_there;
      settled = calls.settled holds.fits holds.settled;
      slot = free-slot land history old state holds now free;
      elsewhere = λ q differ. calls.makes.puts.others history q differ
          ∙ ap (λ (draft : Draft). told draft history q) calls.draft;
      here = here;
      placed = copy-address generation copy now root;
      sound = sound;
      fits = fits;
      own = copy-tree state after sub copy parents snapshot holds.whole holds.numbers other none_there holds.home
          number;
      sizes = calls.sizes ∙ ap (λ (space : Holding). space.sizes) calls.space;
      runs = calls.runs ∙ ap (λ (space : Holding). space.runs) calls.space;
      held_slots = calls.held_slots ∙ ap (λ (space : Holding). space.held_slots) calls.space;
      held_runs = calls.held_runs ∙ ap (λ (space : Holding). space.held_runs) calls.space;
    }

    pub held : HoldsState new history given after
    held = holds-then state after copy one_more (keyed_children root copy) land new history old made given holds is_done

    made_there : value_at copy after.subvolumes
        ≡ Some (subvolume_copy generation root_source.source now)
    made_there =
        value_at-with_same copy (subvolume_copy generation root_source.source now)
        (with_value sub (record root_source.source { last_snapshot = generation }) state.subvolumes)

    copy_there : node_at after.layout now ≡ Some (copy_of generation copy now root)
    copy_there =
        ap (λ (o : Option Placed). option_map (λ (placed : Placed). placed.node) o)
        (value_at-with_same now (record { node = copy_of generation copy now root; full = false }) state.layout)

    root_after : root_of after copy ≡ now
    root_after =
        root_of-value after copy (subvolume_copy generation root_source.source now)
        made_there

    height_after : root_level after copy ≡ source.height
    height_after =
        root_level-value after copy (record {
          files = root_source.source.files;
          root = now;
          last_snapshot = generation;
        })
        made_there
        ∙ ap level_of copy_there ∙ copy-level generation copy now root ∙ sym (level-is state sub root_source)
        ∙ sym (ap (λ (r : Root). r.height) is)

    -- the answer is the new subvolume's tree
    pub tree-after : (answer : Root) → answer ≡ record source { address = now; owner = copy } → answer
        ≡ tree_of after copy
    tree-after answer given =
        given
        ∙ (λ i. record {
          address = sym root_after i;
          height = sym height_after i;
          owner = copy;
          next = next_is i;
        })

    -- so it is, over a disk of the same history
    pub copied-then : (later : History) → later ≡ history → (answer : Root)
        → answer ≡ record source { address = now; owner = copy }
        → (then : State) × Snapshots state sub parents copy then × HoldsState new later given then
        × (answer ≡ tree_of then copy)
    copied-then later same answer given_is = (
      after,
      snapshot,
      subst (λ (h : History). HoldsState new h given after) (sym same) held,
      tree-after answer given_is,
    )
