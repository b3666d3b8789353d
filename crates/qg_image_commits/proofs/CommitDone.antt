-- A commit that was written is one of the machine, and what is left is kept of the state that it comes to. All in
-- bytes.
use Rattle.std.proofs.Common.{◌≡◌, ◌≤◌, ℕ, Bool, true, false, List, [], ◌∷◌, length, map, get_or, Option, Some, cond}
use Rattle.std.proofs.Common.{arith, refl, sym, ap, subst, ◌∙◌}
use Rattle.std.specs.Prelude.{◌==◌, All}
use Rattle.std.specs.List.{flat_map}
use Rattle.std.specs.Option.{option_map}
use Rattle.std.proofs.lemmas.List.Elements.{Contains-get_or}
use Rattle.qg_device.specs.History.{Event, History, Recorded, content}
use Rattle.qg_node.specs.declared.node.Node.{Node}
use Rattle.qg_node.specs.Nodes.{header_of}
use Rattle.qg_node.specs.NodeText.{IsNode}
use Rattle.qg_super.specs.declared.sizes.Sizes.{Sizes}
use Rattle.qg_super.specs.Places.{is_slot, total_bytes}
use Rattle.qg_super.specs.SuperText.{sizes_of}
use Rattle.qg_image.specs.Table.{value_at}
use Rattle.qg_image.specs.declared.quota.Quota.{Quota}
use Rattle.qg_image.specs.Record.{Record}
use Rattle.qg_image.specs.State.{State, Subvolume}
use Rattle.qg_machine.specs.Step.{Commits}
use Rattle.qg_root_items.specs.Written.{items_of_file}
use Rattle.qg_blocks.specs.NodesInMemory.{Draft, nothing_fresh}
use Rattle.qg_crashes.specs.Slots.{IsInSlot}
use Rattle.qg_super.specs.declared.superblock.Super.{Super}
use Rattle.qg_open_image.specs.Calls.{Call, MadeFront}
use Rattle.qg_open_image.specs.Named.{named}
use Rattle.qg_tree_read.specs.Tree.{Root}
use Rattle.qg_open_image.specs.CommitTreesCommitting.{StandsStill}
use Rattle.qg_open_image.specs.Types.{OtherTrees}
use Rattle.qg_open_image.specs.Sound.{committed}
use Rattle.qg_open_image.specs.HoldsAfter.{with_tree_commit}
use Rattle.qg_open_image.specs.Writing.{IsLaying, nodes_written}
use Rattle.qg_open_image.proofs.AllNodes.{written-lies, written-sizes}
use Rattle.qg_open_image.proofs.Subvolume.{fresh-AreWritable, given-slot}
use Rattle.qg_open_image.specs.FsLawsKeeping.{quota_laid}
use Rattle.qg_open_image.specs.FsLawsCommitting.{AreRootsNow, IsSoundCommit, LaysTree}
use Rattle.qg_open_image.specs.FsLawsCommitting as kept_by
use Rattle.qg_open_image.proofs.CommitKept.{commit-kept}
use Rattle.qg_open_image.proofs.SoundCommit.{sound-commit}
use Rattle.qg_open_image.specs.declared.open_image.OpenImage.{OpenImage}
use Rattle.qg_open_image.specs.declared.open_image.KeptSubvolume.{KeptSubvolume}
use Rattle.qg_image_commits.specs.declared.planning.Plan.{Plan}
use Rattle.qg_image_commits.specs.Committing.{IsLaidBy, KeepsCommit}
use Rattle.qg_open_image.specs.Keeping.{IsKept, IsKeptOf, IsKeptWith, kept_subvolume}
use Rattle.qg_open_image.specs.Making.{BringsTo}
use Rattle.qg_image_commits.specs.Planning.{CommitsOn, IsPlanTold, CommitsOfSoFar}
use Rattle.qg_image_commits.proofs.ByNumber.{keys-kept}
use Rattle.qg_image_commits.proofs.Cleaned.{tree-now}
use Rattle.qg_open_image.proofs.Settled.{settled-holds}

-- a state's subvolume, as it is kept
abbrev copied : ℕ × Subvolume → ℕ × KeptSubvolume
copied entry = (entry.0, kept_subvolume entry.1)

copied_value : (n : ℕ) (table : List (ℕ × Subvolume))
    → value_at n (map copied table) ≡ option_map kept_subvolume (value_at n table)
copied_value n [] = refl
copied_value n (entry ∷ table) = from (entry.0 == n) (copied_value n table) where
  from : (b : Bool) → value_at n (map copied table)
      ≡ option_map kept_subvolume (value_at n table)
      → cond b (Some (kept_subvolume entry.1)) (value_at n (map copied table))
      ≡ option_map kept_subvolume (cond b (Some entry.1) (value_at n table))
  from true rest = refl
  from false rest = rest

module _ (old : OpenImage) (plan : Plan) (trees : OtherTrees) (events : List Event) (bytes : ℕ) (state : State)
    (names : List Record) (fits : IsKept old (Recorded events) bytes)
    (keeps : IsKeptWith old state (Recorded events) names)
    (so : IsPlanTold state old plan) (laid : IsLaidBy old plan trees)
    (long : total_bytes old.fs.land.space.sizes ≤ length (content events)) where
  -- ---- what it tells of the state

  abbrev pub quota_then : Option Quota
  quota_then = quota_laid old.fs.tree.next so.counters state.quota

  -- the plan tells quota so
  planned : plan.quota ≡ quota_then
  planned = so.is.quota ∙ ap (quota_laid old.fs.tree.next so.counters) (sym keeps.quota)

  snapshot_there : (tree : Root) (subvolume : Subvolume) → value_at tree.owner state.subvolumes ≡ Some subvolume
      → value_at tree.owner old.snapshots ≡ Some (kept_subvolume subvolume)
  snapshot_there tree subvolume there =
      ap (λ (table : List (ℕ × KeptSubvolume)). value_at tree.owner table) (sym keeps.snapshots)
      ∙ copied_value tree.owner state.subvolumes
      ∙ ap (option_map kept_subvolume) there

  roots-are : AreRootsNow old.fs state plan.roots
  roots-are = record {
    numbers = so.is.roots.numbers ∙ keys-kept old state (Recorded events) names keeps;
    each = λ tree subvolume root among there named_so.
        so.is.roots.each tree (kept_subvolume subvolume) root among (snapshot_there tree subvolume there) named_so;
  }

  laying : IsLaying old.fs.land.space.sizes old.fs.tree.next plan.roots old.fs.refs.refs quota_then plan.slots
      old.fs.land.blocks.draft trees
  laying =
      subst (λ (sizes : Sizes). IsLaying sizes old.fs.tree.next plan.roots old.fs.refs.refs quota_then plan.slots
      old.fs.land.blocks.draft trees) (sym fits.fitted.sizes)
      (subst (λ (told : Option Quota). IsLaying (sizes_of old.superblock) old.fs.tree.next plan.roots old.fs.refs.refs
      told plan.slots old.fs.land.blocks.draft trees) planned laid)

  lays : LaysTree old.fs events bytes state keeps.mine keeps.files plan.roots so.counters plan.slots trees
  lays = record {
    kept = tree-now old (Recorded events) bytes fits so.is.table;
    keeps = keeps.keeps;
    order = so.is.order;
    short = keeps.short;
    long = long;
    counted = so.direct;
    roots_are = roots-are;
    free = so.is.free;
    laid = laying;
  }

  pub sound : IsSoundCommit old.fs events state quota_then plan.slots trees
  sound = sound-commit old.fs events bytes state keeps.mine keeps.files plan.roots so.counters plan.slots trees lays

  -- the state that it comes to
  abbrev pub state_now : State
  state_now = committed sound.is.others state quota_then

  pub commits : Commits state state_now
  commits = sound.machine

  -- its superblock is of the image's sizes, and its nodes lie in slots
  abbrev nodes : List Node
  nodes = nodes_written old.fs.land.blocks.draft trees

  are-sizes : sizes_of trees.superblock ≡ old.fs.land.space.sizes
  are-sizes =
      written-sizes old.fs.land.space.sizes old.fs.tree.next plan.roots old.fs.refs.refs quota_then plan.slots
      old.fs.land.blocks.draft trees laying (fresh-AreWritable old.fs fits.fitted.drafted)
      (given-slot old.fs plan.slots so.is.free)

  in-slots : All (IsInSlot trees.superblock) (nodes_written old.fs.land.blocks.draft trees)
  in-slots = λ k any below.
      let node = get_or nodes k any in
      let lies = written-lies old.fs.land.space.sizes old.fs.tree.next plan.roots old.fs.refs.refs quota_then plan.slots
      old.fs.land.blocks.draft trees laying (fresh-AreWritable old.fs fits.fitted.drafted)
      (given-slot old.fs plan.slots so.is.free) node (Contains-get_or nodes k any below) in
      record {
        node_of_format = subst (λ (s : Sizes). IsNode s.nodesize node) (sym are-sizes) lies.formed;
        slot = subst (λ (s : Sizes). is_slot s (header_of node).address ≡ true) (sym are-sizes) lies.slot;
      }

  pub brings : BringsTo state.held state_now events trees.superblock (nodes_written old.fs.land.blocks.draft trees)
  brings = record {
    superblock = laying.superblock;
    sizes = are-sizes ∙ sym keeps.keeps.laid.sizes;
    in_slots = in-slots;
    written = sound.written;
    committed = record { stands = sound.is.stands; counted = sound.counted };
  }

  -- its calls came so far
  pub comes-so-far : (calls : Super → List Node → List Call) (history : History)
      → MadeFront (calls trees.superblock (nodes_written old.fs.land.blocks.draft trees)) events history
      → CommitsOfSoFar calls state events history
  comes-so-far calls history made = record {
    new = state_now;
    commits = commits;
    super = trees.superblock;
    nodes = nodes_written old.fs.land.blocks.draft trees;
    brings = brings;
    made = made;
  }

  -- ---- what is left

  module _ (new : OpenImage) (later : List Event) (becomes : KeepsCommit old plan trees new)
      (still : StandsStill old.fs new.fs (Recorded events) (Recorded later) (flat_map items_of_file keeps.files)
      (named keeps.files)) where
    kept-now : kept_by.KeepsCommit new.fs (Recorded later) state_now keeps.mine keeps.files
    kept-now = commit-kept old.fs new.fs events later bytes state keeps.mine keeps.files plan.roots so.counters
        plan.slots trees sound.is.others lays sound.is.told becomes.fs still

    keeps-now : IsKeptOf new state_now (Recorded later)
    keeps-now = record {
      files = keeps.files;
      mine = keeps.mine;
      keeps = kept-now.keeps;
      short = keeps.short;
      snapshots = keeps.snapshots ∙ sym becomes.snapshots;
      quota = sym (becomes.quota ∙ planned);
      holds = settled-holds new.quota becomes.settled;
      pending = sym becomes.pending;
      recorded = kept-now.recorded;
      others = kept-now.others;
      reserved = λ some. let none = becomes.pending in absurd (omega (arith, some, none));
      reserve = tt;
      idle = λ none same. becomes.fs.draft
          ∙ ap nothing_fresh (sym (ap (λ (draft : Draft). draft.sizes) becomes.fs.draft));
    }

    -- what was done, where the disk was given the calls
    pub commits-on : Recorded later ≡ Recorded (with_tree_commit old.fs trees events)
        → CommitsOn state new events (Recorded later)
    commits-on told = record {
      new = state_now;
      commits = commits;
      keeps = keeps-now;
      super = trees.superblock;
      nodes = nodes_written old.fs.land.blocks.draft trees;
      brings = brings;
      told = told;
    }
