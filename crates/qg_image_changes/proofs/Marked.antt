-- What is kept, where the last snapshot of the subvolume at hand is another one: it is kept of the state that says so.
use Rattle.std.proofs.Common.{◌≡◌, ℕ, ◌≤◌, Bool, true, false, List, [], ◌∷◌, arith, length, map, Some, refl}
use Rattle.std.proofs.Common.{sym, ap, subst, ◌∙◌}
use Rattle.std.specs.Prelude.{◌==◌, nat_lt, if◌then◌else◌}
use Rattle.std.specs.List.Sorted.{IsPermutation, IsStrictlyIncreasing}
use Rattle.std.proofs.lemmas.List.{length-map}
use Rattle.qg_device.specs.History.{History}
use Rattle.qg_items.specs.declared.tree.TheConstants.{TOP_LEVEL}
use Rattle.qg_qgroups.specs.Tracked.{quota_of}
use Rattle.qg_image.specs.ItemMeaning.{is_subvolume_number}
use Rattle.qg_image.specs.Table.{keys_of, value_at, with_value}
use Rattle.qg_image.specs.Record.{Record}
use Rattle.qg_image.specs.State.{Layout, State, Subvolume, layout_of}
use Rattle.qg_reach.proofs.Layouts.{value_at-with_other, value_at-with_same}
use Rattle.qg_tree_read.specs.Tree.{Root}
use Rattle.qg_open_image.proofs.Snapshotted.{root_entry}
use Rattle.qg_inodes.proofs.Tables.{increasing-with}
use Rattle.qg_open_image.specs.Standing.{trees_of}
use Rattle.qg_open_image.specs.Editable.{AreGroupsOf}
use Rattle.qg_open_image.specs.FsLawsCommitting.{AreShort}
use Rattle.qg_open_image.specs.FsLawsKeeping.{KeepsState, NamesOthers, other_names}
use Rattle.qg_open_image.specs.declared.open_image.OpenImage.{OpenImage}
use Rattle.qg_open_image.specs.declared.open_image.KeptSubvolume.{KeptSubvolume}
use Rattle.qg_open_image.specs.Keeping.{IsFitted, IsKept, IsKeptOf, kept_subvolume, kept_at}
use Rattle.qg_image_changes.proofs.Added.{key-still}
use Rattle.qg_open_image.proofs.Changed.{short-files}
use Rattle.qg_open_image.proofs.Looked.{hand-among, tree-listed, tree-numbered}
use Rattle.qg_open_image.proofs.Reserve.{reserve-none}
use Rattle.qg_open_image.proofs.Stepped.{ascend-kept, names-same}
use Rattle.qg_open_image.proofs.Tables.{all-put, listed-key, map-put, value-there}

-- ---- a table made of another

mapped_step : {A B : Type 0} (f : A → B) (n : ℕ) (value : A) (entry : ℕ × A) (table : List (ℕ × A))
    (less same : Bool)
    → map (λ e. (e.0, f e.1)) (with_value n value table) ≡ with_value n (f value) (map (λ e. (e.0, f e.1)) table)
    → map (λ e. (e.0, f e.1)) (if less then (n, value) ∷ entry ∷ table
    else (if same then (n, value) ∷ table else entry ∷ with_value n value table))
    ≡ (if less then (n, f value) ∷ (entry.0, f entry.1) ∷ map (λ e. (e.0, f e.1)) table
    else (if same then (n, f value) ∷ map (λ e. (e.0, f e.1)) table
    else (entry.0, f entry.1) ∷ with_value n (f value) (map (λ e. (e.0, f e.1)) table)))
mapped_step f n value entry table true same rest = refl
mapped_step f n value entry table false true rest = refl
mapped_step {A} {B} f n value entry table false false rest =
    ap (λ (later : List (ℕ × B)). (entry.0, f entry.1) ∷ later) rest

pub mapped-put : {A B : Type 0} (f : A → B) (n : ℕ) (value : A) (table : List (ℕ × A))
    → map (λ e. (e.0, f e.1)) (with_value n value table) ≡ with_value n (f value) (map (λ e. (e.0, f e.1)) table)
mapped-put f n value [] = refl
mapped-put f n value (entry ∷ table) =
    mapped_step f n value entry table (nat_lt n entry.0) (entry.0 == n) (mapped-put f n value table)

-- ---- what is kept

-- what is kept with this generation as that of the last snapshot of the subvolume at hand
abbrev pub marked : OpenImage → ℕ → OpenImage
marked kept stamp = record kept { snapshots = with_value kept.fs.tree.owner (kept_at stamp) kept.snapshots }

module _ (old : OpenImage) (stamp : ℕ) (fits : IsFitted old) (dated : stamp ≤ old.fs.tree.next) where
  abbrev own : ℕ
  own = old.fs.tree.owner

  before : (snapshot : KeptSubvolume) × (value_at own old.snapshots ≡ Some snapshot)
  before =
      value-there own old.snapshots
      (listed-key own old.snapshots (tree-listed old fits old.fs.tree (hand-among old.fs)))

  pub keys-marked : keys_of (with_value own (kept_at stamp) old.snapshots) ≡ keys_of old.snapshots
  keys-marked =
      map-put (λ (e : ℕ × KeptSubvolume). e.0) own before.0 (kept_at stamp) old.snapshots refl
      fits.subvolumes.ascending before.1

  pub many-marked : length (with_value own (kept_at stamp) old.snapshots) ≡ length old.snapshots
  many-marked =
      sym (length-map (with_value own (kept_at stamp) old.snapshots) (λ (e : ℕ × KeptSubvolume). e.0))
      ∙ ap (λ (keys : List ℕ). length keys) keys-marked ∙ length-map old.snapshots (λ (e : ℕ × KeptSubvolume). e.0)

  pub fitted-marked : IsFitted (marked old stamp)
  fitted-marked = record {
    superblock = fits.superblock;
    subvolumes = record {
      few = let same = many-marked in let few = fits.subvolumes.few in omega (arith, same, few);
      ascending = increasing-with own old.snapshots fits.subvolumes.ascending (kept_at stamp);
      numbers = all-put (λ (e : ℕ × KeptSubvolume). is_subvolume_number e.0 ≡ true) own (kept_at stamp) old.snapshots
          (tree-numbered old fits old.fs.tree (hand-among old.fs)) fits.subvolumes.numbers;
      top_level = key-still own TOP_LEVEL (kept_at stamp) old.snapshots fits.subvolumes.top_level;
      copied = all-put (λ (e : ℕ × KeptSubvolume). e.1.last_snapshot ≤ old.fs.tree.next) own (kept_at stamp)
          old.snapshots dated fits.subvolumes.copied;
    };
    trees = subst (λ (keys : List ℕ). IsPermutation (map (λ (t : Root). t.owner) (trees_of old.fs)) keys)
        (sym keys-marked) fits.trees;
    numbered = fits.numbered;
    turn = fits.turn;
    groups = subst (λ (keys : List ℕ). AreGroupsOf old.fs.tree.next keys (quota_of old.quota)) (sym keys-marked)
        fits.groups;
    tracked = fits.tracked;
    bounded = fits.bounded;
    next = fits.next;
    sizes = fits.sizes;
    drafted = fits.drafted;
  }

-- ---- the state

module _ (old : OpenImage) (stamp : ℕ) (history : History) (bytes : ℕ) (state : State)
    (fits : IsKept old history bytes) (keeps : IsKeptOf old state history) (none : old.pending ≡ 0) where
  abbrev own_number : ℕ
  own_number = old.fs.tree.owner

  abbrev pub mine_marked : Subvolume
  mine_marked = record keeps.mine { last_snapshot = stamp }

  abbrev pub state_marked : State
  state_marked = record state { subvolumes = with_value own_number mine_marked state.subvolumes }

  ascend : IsStrictlyIncreasing (keys_of state.subvolumes)
  ascend = ascend-kept old state history (other_names state) fits.fitted keeps

  roots_same : map root_entry state_marked.subvolumes ≡ map root_entry state.subvolumes
  roots_same =
      map-put root_entry own_number keeps.mine mine_marked state.subvolumes refl ascend
      keeps.keeps.there

  layout_same : layout_of state_marked ≡ layout_of state
  layout_same = λ i. let layout : Layout = record {
    nodesize = state.sizes.nodesize;
    roots = roots_same i;
    nodes = state.layout;
  } in layout

  keys_same : keys_of (with_value own_number mine_marked state.subvolumes) ≡ keys_of state.subvolumes
  keys_same =
      map-put (λ (e : ℕ × Subvolume). e.0) own_number keeps.mine mine_marked state.subvolumes refl ascend
      keeps.keeps.there

  pub names_same : other_names state_marked ≡ other_names state
  names_same = names-same state (with_value own_number mine_marked state.subvolumes) keys_same

  state_kept : KeepsState old.fs history state_marked mine_marked keeps.files
  state_kept = record {
    there = value_at-with_same own_number mine_marked state.subvolumes;
    are = keeps.keeps.are;
    holds = keeps.keeps.holds;
    have = λ tree subvolume among there.
        keeps.keeps.have tree subvolume among
        (sym (value_at-with_other own_number tree.owner mine_marked state.subvolumes
        (λ same. fits.fitted.numbered.apart_at tree among (sym same))) ∙ there);
    laid = record {
      sizes = keeps.keeps.laid.sizes;
      generation = keeps.keeps.laid.generation;
      layout = layout_same ∙ keeps.keeps.laid.layout;
    };
    held_slots = keeps.keeps.held_slots;
    held_runs = keeps.keeps.held_runs;
  }

  pub keeps-marked : IsKeptOf (marked old stamp) state_marked history
  keeps-marked = record {
    files = keeps.files;
    mine = mine_marked;
    keeps = state_kept;
    short = all-put (λ (e : ℕ × Subvolume). AreShort e.1.files) own_number mine_marked state.subvolumes
        (short-files state own_number keeps.mine keeps.short keeps.keeps.there) keeps.short;
    snapshots = mapped-put kept_subvolume own_number mine_marked state.subvolumes
        ∙ ap (λ (table : List (ℕ × KeptSubvolume)). with_value own_number (kept_at stamp) table) keeps.snapshots;
    quota = keeps.quota;
    holds = keeps.holds;
    pending = keeps.pending;
    recorded = record { kept = keeps.recorded.kept; same = keeps.recorded.same };
    others = subst (λ (names : List Record). NamesOthers state.held names) (sym names_same) keeps.others;
    reserved = λ some. absurd (omega (arith, some, none));
    reserve = reserve-none state_marked (keeps.pending ∙ none);
    idle = λ none same. keeps.idle none refl;
  }
