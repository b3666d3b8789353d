-- Trees that stand do so where the same is told.
use Rattle.std.proofs.Common.{◌≡◌, ℕ, ◌+◌, ◌≤◌, false, List, ◌∷◌, ◌++◌, length, get_or, map, Option, Some, None, arith}
use Rattle.std.proofs.Common.{refl, sym, ap, subst, ◌∙◌, inl, inr}
use Rattle.std.specs.Prelude.{◌⊎◌, ◌↔◌, ⊤, IsTrue, nat_lt, if◌then◌else◌}
use Rattle.std.specs.List.{All, Contains, filter_map, flat_map, list_any}
use Rattle.std.specs.Option.{option_map}
use Rattle.qg_device.specs.History.{Event, History, Recorded, Wrote, Synced, content}
use Rattle.qg_num.specs.declared.piece.Piece.{Piece}
use Rattle.qg_node.specs.declared.item.Item.{Item}
use Rattle.qg_node.specs.declared.node.Node.{Node}
use Rattle.qg_node.specs.Nodes.{header_of}
use Rattle.qg_items.specs.declared.extent.Reference.{Reference}
use Rattle.qg_super.specs.declared.sizes.Sizes.{Sizes}
use Rattle.qg_super.specs.declared.superblock.Super.{Super}
use Rattle.qg_super.specs.Places.{first_place, is_served, is_slot, second_place, slots_begin, total_bytes}
use Rattle.qg_super.specs.SuperText.{super_text}
use Rattle.qg_super.proofs.SuperTexts.{length-super_text}
use Rattle.qg_image.specs.Below.{items_below}
use Rattle.qg_image.specs.Owed.{owed_count}
use Rattle.qg_image.specs.Reach.{extent_of}
use Rattle.qg_image.specs.State.{Layout, Placed}
use Rattle.qg_image.specs.declared.tree.TreeKind.TheVariants.{Files}
use Rattle.qg_blocks.specs.Standing.{has_slot, standing}
use Rattle.qg_blocks.specs.NodesFound.{IsBacked, fresh_at}
use Rattle.qg_blocks.specs.Writing.{Keeps}
use Rattle.qg_blocks.proofs.Written.{Keeps-fewer, Keeps-synced, Keeps-then, Keeps-wrote, told-keeps}
use Rattle.qg_refs.specs.Book.{full_in}
use Rattle.qg_extents.specs.Table.{book_of}
use Rattle.qg_tree_read.specs.Tree.{IsTree, Reaches, Root, super_of}
use Rattle.qg_shared_trees.specs.Counting.{ways}
use Rattle.qg_shared_trees.specs.Rooting.{IsRooted}
use Rattle.qg_shared_trees.specs.Types.{FsTree}
use Rattle.qg_shared_trees.specs.Standing.{IsAtHome, IsBeside, IsKnownExtent, IsReachedBy, IsSubvolume, Stands}
use Rattle.qg_shared_trees.specs.Standing.{every_slot}
use Rattle.qg_shared_trees.specs.Standing.{items_in, layout_in, name_told, names_elsewhere, names_times, nodes_of}
use Rattle.qg_shared_trees.specs.Standing.{roots_of}
use Rattle.qg_shared_trees.specs.Standing.{trees_of}
use Rattle.qg_commit_trees.specs.Committing.{StandsStill}
use Rattle.qg_commit_trees.specs.Knowing.{IsSameButClean}

-- ---- words

-- a slot's entry in a layout, and the layout, by what is told
abbrev entry_over : FsTree → (ℕ → Option Node) → ℕ → Option (ℕ × Placed)
entry_over fs nodes at =
    if list_any (λ tree. nat_lt 0 (ways nodes tree.height tree.address at)) (trees_of fs)
    then option_map (λ node. (at, record { node = node; full = full_in (book_of fs.refs.refs at) })) (nodes at)
    else None

abbrev layout_over : FsTree → (ℕ → Option Node) → Layout
layout_over fs nodes = record {
  nodesize = fs.land.space.sizes.nodesize;
  roots = roots_of fs;
  nodes = filter_map (entry_over fs nodes) (every_slot fs.land.space.sizes);
}

-- trees, with other clean nodes in memory
abbrev with_clean : FsTree → List (ℕ × Node) → FsTree
with_clean fs clean = record fs { land = record fs.land { blocks = record fs.land.blocks { clean = clean } } }

-- the items of a tree, where the same are told
items_same : (a b : FsTree) (after before : History) (tree : Root)
    → items_below (nodes_of a after) tree.height tree.address
    ≡ items_below (nodes_of b before) tree.height tree.address
    → items_in a after tree ≡ items_in b before tree
items_same a b after before tree same = rw same refl

-- ---- where the same is told

module _ (fs : FsTree) (clean : List (ℕ × Node)) (before after : History) (items : List Item)
    (names : List (ℕ × Piece)) (alike : (q : ℕ) → nodes_of fs after q ≡ nodes_of fs before q)
    (stands : Stands fs before items names) where
  maps_alike : nodes_of fs after ≡ nodes_of fs before
  maps_alike = λ i q. alike q i

  reach_then : (tree : Root) (q : ℕ) → IsReachedBy fs before tree q → IsReachedBy fs after tree q
  reach_then tree q =
      subst (λ (nodes : ℕ → Option Node). Reaches nodes tree.height tree.address q) (sym maps_alike)

  reach_before : (tree : Root) (q : ℕ) → IsReachedBy fs after tree q → IsReachedBy fs before tree q
  reach_before tree q = subst (λ (nodes : ℕ → Option Node). Reaches nodes tree.height tree.address q) maps_alike

  layout_alike : layout_in (with_clean fs clean) after ≡ layout_in fs before
  unfolding layout_in
  layout_alike = ap (layout_over fs) maps_alike

  -- ---- each tree

  each_alike : (tree : Root) → items_in (with_clean fs clean) after tree ≡ items_in fs before tree
  each_alike tree = items_same (with_clean fs clean) fs after before tree
      (ap (λ (nodes : ℕ → Option Node). items_below nodes tree.height tree.address) maps_alike)

  rooted_alike : (tree : Root) (own : List Item) → IsRooted Files tree fs.land before own
      → IsRooted Files tree (with_clean fs clean).land after own
  rooted_alike tree own rooted = record {
    tells = subst (λ (nodes : ℕ → Option Node). IsTree Files (super_of tree fs.land.blocks.draft) nodes tree.height
        tree.address own) (sym maps_alike) rooted.tells;
    apart = λ q free reached. rooted.apart q free (reach_before tree q reached);
    short = rooted.short;
  }

  beside_alike : (tree : Root) → IsBeside fs before tree → IsBeside (with_clean fs clean) after tree
  beside_alike tree was = record {
    items = was.items;
    rooted = rooted_alike tree was.items was.rooted;
    next = was.next;
    number = was.number;
  }

  -- ---- names

  abbrev told_by : History → Root → List (ℕ × Piece)
  told_by history tree = filter_map name_told (items_in fs history tree)

  told_alike : told_by after ≡ told_by before
  told_alike = λ i tree. ap (λ (xs : List Item). filter_map name_told xs) (each_alike tree) i

  elsewhere_alike : names_elsewhere (with_clean fs clean) after ≡ names_elsewhere fs before
  unfolding names_elsewhere
  elsewhere_alike = ap (λ (told : Root → List (ℕ × Piece)). flat_map told fs.others.items) told_alike

  -- ---- all of it

  counts_alike : (at : ℕ) (reference : Reference)
      → owed_count (layout_in fs before) at reference + names_times fs.tree.owner names at reference
      ≡ owed_count (layout_in (with_clean fs clean) after) at reference + names_times fs.tree.owner names at reference
  counts_alike at reference =
      ap (λ (layout : Layout). owed_count layout at reference + names_times fs.tree.owner names at reference)
      (sym layout_alike)

  home_alike : (tree : Root) (q : ℕ) (node : Node) → Contains (trees_of fs) tree → IsReachedBy fs after tree q
      → nodes_of fs after q ≡ Some node → full_in (book_of fs.refs.refs q) ≡ false
      → IsAtHome (with_clean fs clean) after q (header_of node).owner
  home_alike tree q node has reached there bare =
      let home = stands.home tree q node has (reach_before tree q reached) (sym (alike q) ∙ there) bare in
      record {
        tree = home.tree;
        among = home.among;
        number = home.number;
        reached = reach_then home.tree q home.reached;
      }

  stands_alike : Stands (with_clean fs clean) after items names
  stands_alike = record {
    book = record { owner = stands.book.owner; next = stands.book.next; nodesize = stands.book.nodesize };
    rooted = rooted_alike fs.tree items stands.rooted;
    ascending = stands.ascending;
    beside = λ i d inside. beside_alike (get_or fs.others.items i d) (stands.beside i d inside);
    placed = λ tree q has reached. stands.placed tree q has (reach_before tree q reached);
    home = home_alike;
    young = λ tree q node has reached fresh. stands.young tree q node has (reach_before tree q reached) fresh;
    fits = stands.fits;
    counts = λ at reference. stands.counts at reference ∙ counts_alike at reference;
    within = stands.within;
    few = stands.few;
    settled = record {
      slots = stands.settled.slots;
      written = stands.settled.written;
      fresh = stands.settled.fresh;
      newer = stands.settled.newer;
      clean = λ at node none there some. stands.settled.clean at node none (sym (alike at) ∙ there) some;
    };
    known = subst (λ (others : List (ℕ × Piece)). All
        (λ (name : ℕ × Piece). IsKnownExtent fs.land.space.sizes fs.tree.next (book_of fs.refs.refs) name.1)
        (names ++ others)) (sym elsewhere_alike) stands.known;
    runs = λ run. subst (λ (others : List (ℕ × Piece)). Contains fs.land.space.runs run
        ↔ Contains (map (λ (name : ℕ × Piece). extent_of name.1) (names ++ others)) run) (sym elsewhere_alike)
        (stands.runs run);
  }

  stands_over : StandsStill fs (with_clean fs clean) before after items names
  stands_over = record {
    stands = stands_alike;
    reach = λ tree has q. (reach_before tree q, reach_then tree q);
    each = λ tree has. each_alike tree;
    nodes = λ q met. alike q;
    marks = λ q. refl;
    layout = layout_alike;
  }

pub stands-alike : (old new : FsTree) (before after : History) (items : List Item)
    (names : List (ℕ × Piece)) → IsSameButClean old new
    → ((q : ℕ) → nodes_of new after q ≡ nodes_of old before q)
    → Stands old before items names → StandsStill old new before after items names
stands-alike old new before after items names same alike stands =
    subst (λ (fs : FsTree). StandsStill old fs before after items names) (sym same)
    (stands_over old new.land.blocks.clean before after items names
    (λ q. subst (λ (fs : FsTree). nodes_of fs after q ≡ nodes_of old before q) same (alike q)) stands)

-- ---- over any disk

pub subvolume-alike : (old new : FsTree) (before after : History) (bytes left : ℕ)
    → IsSubvolume old before bytes → IsSameButClean old new → IsBacked new.land.blocks after → bytes ≤ left
    → IsSubvolume new after left
subvolume-alike old new before after bytes left subvolume same =
    subst (λ (fs : FsTree). IsBacked fs.land.blocks after → bytes ≤ left → IsSubvolume fs after left) (sym same)
    (λ backed long. record {
      editable = record {
        backed = backed;
        drafted = record {
          sizes = record {
            served = subvolume.editable.drafted.sizes.served;
            nodesize = subvolume.editable.drafted.sizes.nodesize;
            slots = subvolume.editable.drafted.sizes.slots;
          };
          each = subvolume.editable.drafted.each;
        };
        room = let room = subvolume.editable.room in omega (arith, room, long);
      };
      makes = subvolume.makes;
    })

-- ---- slots that stay

pub told-alike : (old new : FsTree) (before : History) (later : List Event) → IsSameButClean old new
    → Keeps old.land.blocks.draft.sizes before (Recorded later) (λ at. ⊤)
    → (q : ℕ) → nodes_of new (Recorded later) q ≡ nodes_of old before q
told-alike old new before later same keeps q =
    ap (λ (fs : FsTree). nodes_of fs (Recorded later) q) same
    ∙ told-keeps old.land.blocks.draft before later q
    (Keeps-fewer old.land.blocks.draft.sizes before (Recorded later) (λ at. ⊤)
    (λ at. fresh_at old.land.blocks.draft at ≡ None) (λ at none. tt) keeps)

pub syncs-keep : (sizes : Sizes) (events : List Event)
    → Keeps sizes (Recorded events) (Recorded (Synced ∷ events)) (λ at. ⊤)
syncs-keep sizes events = Keeps-synced sizes (Recorded events) (Recorded (Synced ∷ events)) refl

-- a superblock's place is in front of the slots, or behind them
place_apart : (place : ℕ) → (place ≡ first_place) ⊎ (place ≡ second_place)
    → (place + 4096 ≤ slots_begin) ⊎ (second_place ≤ place)
place_apart place (inl first) = inl (omega (arith, first))
place_apart place (inr second) = inr (omega (arith, second))

place_inside : (place : ℕ) → (place ≡ first_place) ⊎ (place ≡ second_place) → place ≤ second_place
place_inside place (inl first) = omega (arith, first)
place_inside place (inr second) = omega (arith, second)

long_enough : (sizes : Sizes) (place bytes : ℕ) → place ≤ second_place → total_bytes sizes ≤ bytes
    → place + 4096 ≤ bytes
long_enough sizes place bytes low long = omega (arith, low, long)

module _ (sizes : Sizes) (super : Super) (place : ℕ) (events : List Event) (served : IsTrue (is_served sizes))
    (long : total_bytes sizes ≤ length (content events))
    (either : (place ≡ first_place) ⊎ (place ≡ second_place)) where
  abbrev written : History
  written = Recorded (Wrote place (super_text place super) ∷ events)

  text_long : length (super_text place super) ≡ 4096
  text_long = length-super_text place super

  text_inside : place + length (super_text place super) ≤ length (content events)
  text_inside = subst (λ (n : ℕ). place + n ≤ length (content events)) (sym text_long)
      (long_enough sizes place (length (content events)) (place_inside place either) long)

  text_apart : (place + length (super_text place super) ≤ slots_begin) ⊎ (second_place ≤ place)
  text_apart = subst (λ (n : ℕ). (place + n ≤ slots_begin) ⊎ (second_place ≤ place)) (sym text_long)
      (place_apart place either)

  text_keeps : Keeps sizes (Recorded events) written (λ at. ⊤)
  text_keeps = Keeps-wrote sizes (length (content events)) place (super_text place super)
      (Recorded events) written served
      refl (λ others told. ap (λ (es : List Event). length (content es)) (same_events others told)) text_inside
      text_apart where
        same_events : (others : List Event) → Recorded events ≡ Recorded others → events ≡ others
        same_events others told = cc

  written_keep : Keeps sizes (Recorded events) (Recorded (Synced ∷ Wrote place (super_text place super) ∷ events))
      (λ at. ⊤)
  written_keep = Keeps-then sizes (Recorded events) written
      (Recorded (Synced ∷ Wrote place (super_text place super) ∷ events)) (λ at. ⊤) text_keeps
      (syncs-keep sizes (Wrote place (super_text place super) ∷ events))

-- what stands depends on nodes and slots alone
sectors_free : (nodesize slots a b : ℕ) (image : List ℕ) (at : ℕ)
    → standing (record { nodesize = nodesize; slots = slots; sectors = a }) image at
    ≡ standing (record { nodesize = nodesize; slots = slots; sectors = b }) image at
unfolding standing has_slot is_slot
sectors_free nodesize slots a b image at = refl

standing_alike : (a b : Sizes) (image : List ℕ) (at : ℕ) → a.nodesize ≡ b.nodesize → a.slots ≡ b.slots
    → standing a image at ≡ standing b image at
standing_alike a b image at size slots =
    ap (λ (n : ℕ). standing (record { nodesize = n; slots = a.slots; sectors = a.sectors }) image at) size
    ∙ ap (λ (n : ℕ). standing (record { nodesize = b.nodesize; slots = n; sectors = a.sectors }) image at) slots
    ∙ sectors_free b.nodesize b.slots a.sectors b.sectors image at

keeps_alike : (a b : Sizes) (before after : History) → a.nodesize ≡ b.nodesize → a.slots ≡ b.slots
    → Keeps b before after (λ at. ⊤) → Keeps a before after (λ at. ⊤)
keeps_alike a b before after size slots keeps later told =
    let was = keeps later told in (
      was.0,
      was.1,
      λ at any. standing_alike a b (content later) at size slots ∙ was.2 at any
          ∙ sym (standing_alike a b (content was.0) at size slots),
    )

pub superblocks-keep : (sizes whole : Sizes) (super : Super) (place : ℕ) (events : List Event)
    → IsTrue (is_served whole) → sizes.nodesize ≡ whole.nodesize → sizes.slots ≡ whole.slots
    → total_bytes whole ≤ length (content events) → (place ≡ first_place) ⊎ (place ≡ second_place)
    → Keeps sizes (Recorded events) (Recorded (Synced ∷ Wrote place (super_text place super) ∷ events)) (λ at. ⊤)
superblocks-keep sizes whole super place events served size slots long either =
    keeps_alike sizes whole (Recorded events) (Recorded (Synced ∷ Wrote place (super_text place super) ∷ events)) size
    slots
    (written_keep whole super place events served long either)
