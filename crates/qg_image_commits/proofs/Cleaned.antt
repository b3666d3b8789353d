-- What is kept, with other clean nodes in memory: it is kept of the same state, and so is what a survey leaves.
use Rattle.std.proofs.Common.{◌≡◌, ℕ, List, refl, sym, ap, subst}
use Rattle.std.specs.List.{flat_map}
use Rattle.std.proofs.lemmas.List.Sorted.{IsPermutation-refl}
use Rattle.qg_device.specs.History.{History}
use Rattle.qg_node.specs.declared.node.Node.{Node}
use Rattle.qg_image.specs.Record.{Record}
use Rattle.qg_image.specs.State.{State}
use Rattle.qg_root_items.specs.Written.{items_of_file}
use Rattle.qg_blocks.specs.NodesInMemory.{Held}
use Rattle.qg_tree_read.specs.Way.{HasRead}
use Rattle.qg_extents.specs.Table.{IsTable}
use Rattle.qg_open_image.specs.TreeEditsEditing.{IsEditable}
use Rattle.qg_open_image.specs.Named.{named}
use Rattle.qg_node_alloc.specs.declared.ground.Ground.{Ground}
use Rattle.qg_node_alloc.proofs.Editing.{ArePlaced-drafted}
use Rattle.qg_open_image.specs.ForestStanding.{HoldsState}
use Rattle.qg_open_image.proofs.Alike.{stands-alike}
use Rattle.qg_open_image.specs.Types.{FsTree}
use Rattle.qg_open_image.specs.Standing.{trees_of}
use Rattle.qg_open_image.specs.FsLawsKeeping as step
use Rattle.qg_open_image.proofs.Runs.{state-held}
use Rattle.qg_open_image.proofs.KeptStill.{kept-still}
use Rattle.qg_open_image.specs.declared.open_image.OpenImage.{OpenImage}
use Rattle.qg_open_image.specs.Editing.{HasLooked}
use Rattle.qg_open_image.specs.Keeping.{IsKept, IsKeptWith, SameButClean}
use Rattle.qg_image_commits.specs.Planning.{HasSurveyed}
use Rattle.qg_open_image.proofs.Looked.{is-near, is-subvolume, kept-read, with_blocks}

-- ---- other clean nodes

abbrev with_clean : FsTree → List (ℕ × Node) → FsTree
with_clean fs clean = record fs { land = record fs.land { blocks = record fs.land.blocks { clean = clean } } }

blocks_same : (old new : Held) → new.draft ≡ old.draft → new.bound ≡ old.bound
    → new ≡ record old { clean = new.clean }
blocks_same old new draft bound = λ i. record new { draft = draft i; bound = bound i }

keeps_clean : (kept : OpenImage) (clean : List (ℕ × Node)) (history : History) (state : State)
    (names : List Record) → IsKeptWith kept state history names
    → IsKeptWith (with_blocks kept (record kept.fs.land.blocks { clean = clean })) state history names
keeps_clean kept clean history state names keeps = record {
  files = keeps.files;
  mine = keeps.mine;
  keeps = kept-still kept.fs (with_clean kept.fs clean) history history state keeps.mine keeps.files refl refl refl
      (stands-alike kept.fs (with_clean kept.fs clean) history history (flat_map items_of_file keeps.files)
      (named keeps.files) refl (λ q. refl) keeps.keeps.holds.stands) keeps.keeps;
  short = keeps.short;
  snapshots = keeps.snapshots;
  quota = keeps.quota;
  holds = keeps.holds;
  pending = keeps.pending;
  recorded = keeps.recorded;
  others = keeps.others;
  reserved = keeps.reserved;
  reserve = keeps.reserve;
  idle = keeps.idle;
}

pub keeps-cleaned : (kept : OpenImage) (blocks : Held) (history : History) (state : State)
    (names : List Record) → blocks.draft ≡ kept.fs.land.blocks.draft → blocks.bound ≡ kept.fs.land.blocks.bound
    → IsKeptWith kept state history names → IsKeptWith (with_blocks kept blocks) state history names
keeps-cleaned kept blocks history state names draft bound keeps =
    subst (λ (held : Held). IsKeptWith (with_blocks kept held) state history names)
    (sym (blocks_same kept.fs.land.blocks blocks draft bound))
    (keeps_clean kept blocks.clean history state names keeps)

-- ---- a survey

module _ (old new : OpenImage) (before after : History) (bytes left : ℕ)
    (surveyed : HasSurveyed old new before after bytes left) where
  -- it has only looked
  same_nodes : SameButClean old (with_blocks old new.fs.land.blocks)
  same_nodes = record {
    rest = ap (with_blocks old)
        (blocks_same old.fs.land.blocks new.fs.land.blocks surveyed.read.draft surveyed.read.bound);
    trees = IsPermutation-refl (trees_of old.fs);
  }

  pub surveyed-looked : HasLooked old new before after bytes left
  surveyed-looked = record {
    same = subst (λ (kept : OpenImage). SameButClean old kept) (sym surveyed.rest) same_nodes;
    history = surveyed.read.history;
    size = surveyed.read.size;
  }

  -- what is kept then is kept of the same state
  pub surveyed-keeps : (state : State) (names : List Record) → IsKeptWith old state before names
      → IsKeptWith new state after names
  surveyed-keeps state names keeps =
      subst (λ (history : History). IsKeptWith new state history names) (sym surveyed.read.history)
      (subst (λ (kept : OpenImage). IsKeptWith kept state before names) (sym surveyed.rest)
      (keeps-cleaned old new.fs.land.blocks before state names surveyed.read.draft surveyed.read.bound keeps))

-- ---- nodes and space after one

abbrev pub with_land : OpenImage → Ground → OpenImage
with_land kept land = record kept { fs = record kept.fs { land = land } }

land_same : (old new : Ground) → new.space ≡ old.space → new ≡ record old { blocks = new.blocks }
land_same old new space = λ i. record new { space = space i }

module _ (kept : OpenImage) (land : Ground) (before after : History) (bytes left next : ℕ)
    (read : HasRead kept.fs.land.blocks land.blocks before after bytes left)
    (space : land.space ≡ kept.fs.land.space) where
  pub surveyed-there : HasSurveyed kept (with_land kept land) before after bytes left
  surveyed-there = record { rest = ap (with_land kept) (land_same kept.fs.land land space); read = read }

  -- where they are such as a tree is edited in, what is kept fits together
  pub surveyed-kept : IsKept kept before bytes → IsEditable land after left next
      → IsKept (with_land kept land) after left
  surveyed-kept fits editable =
      subst (λ (ground : Ground). IsKept (with_land kept ground) after left) (sym (land_same kept.fs.land land space))
      (kept-read kept land.blocks before after bytes left fits read (record {
        backed = editable.backed;
        placed = ArePlaced-drafted land next left editable.room editable.drafted;
      }))

-- where nothing was read, nothing was done
pub nothing-surveyed : (kept : OpenImage) (history : History) (bytes : ℕ)
    → HasSurveyed kept kept history history bytes bytes
nothing-surveyed kept history bytes =
    record { rest = refl; read = record { draft = refl; bound = refl; history = refl; size = refl } }

-- and nothing was looked at
pub looked-nothing : (kept : OpenImage) (history : History) (bytes : ℕ)
    → HasLooked kept kept history history bytes bytes
looked-nothing kept history bytes = record {
  same = record { rest = refl; trees = IsPermutation-refl (trees_of kept.fs) };
  history = refl;
  size = refl;
}

-- ---- what is held of a state

pub tree-now : (kept : OpenImage) (history : History) (bytes : ℕ) → IsKept kept history bytes
    → IsTable kept.fs.refs.refs → step.IsKept kept.fs history bytes
tree-now kept history bytes fits table = record {
  subvolume = is-subvolume kept history bytes fits;
  table = table;
  near = is-near kept fits.fitted;
}

pub held-now : (kept : OpenImage) (history : History) (bytes : ℕ) (state : State) (names : List Record)
    → IsKept kept history bytes → IsTable kept.fs.refs.refs → IsKeptWith kept state history names
    → HoldsState kept.fs.land history kept.fs.refs state
held-now kept history bytes state names fits table keeps =
    state-held kept.fs history bytes state keeps.mine keeps.files (tree-now kept history bytes fits table) keeps.keeps
