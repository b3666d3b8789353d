-- What is kept stays kept of its state where the same is told, as once a superblock place was written again.
use Rattle.std.proofs.Common.{◌≡◌, ℕ, ◌≤◌, Bool, true, false, List, ◌∷◌, length, Option, Some, None, refl, sym, ap, ◌∙◌}
use Rattle.std.proofs.Common.{◌⊎◌, inl, inr}
use Rattle.std.specs.Prelude.{⊤, IsTrue, nat_lt, if◌then◌else◌}
use Rattle.std.specs.List.{flat_map}
use Rattle.qg_device.specs.History.{Event, History, Recorded, Synced, content}
use Rattle.qg_super.specs.declared.sizes.Sizes.{Sizes}
use Rattle.qg_super.specs.declared.superblock.Super.{Super}
use Rattle.qg_super.specs.Places.{first_place, is_served, second_place, total_bytes}
use Rattle.qg_super.specs.SuperText.{is_super, same_super, sizes_of}
use Rattle.qg_super.proofs.Served.{SuperFits-is_super}
use Rattle.qg_image.specs.declared.file.File.{File}
use Rattle.qg_image.specs.State.{State, Subvolume}
use Rattle.qg_image.proofs.Contained.{contains_later}
use Rattle.qg_root_items.specs.Written.{items_of_file}
use Rattle.qg_blocks.specs.Writing.{Keeps}
use Rattle.qg_blocks.proofs.Written.{Keeps-then}
use Rattle.qg_image_commits.specs.Stale.{stale_place}
use Rattle.qg_image_commits.specs.CommitOpening.{with_repair}
use Rattle.qg_image_commits.specs.Types.{FsTree}
use Rattle.qg_image_commits.specs.Standing.{nodes_of}
use Rattle.qg_image_commits.specs.CommitTreesCommitting.{StandsStill}
use Rattle.qg_image_commits.proofs.Alike.{stands-alike, superblocks-keep, syncs-keep, told-alike}
use Rattle.qg_image_commits.specs.Named.{named}
use Rattle.qg_image_commits.specs.FsLawsKeeping.{KeepsState}
use Rattle.qg_image_commits.specs.Types.{OpenImage}
use Rattle.qg_image_commits.specs.Keeping.{IsFitted, IsKeptOf}

-- ---- where the same is told

module _ (fs : FsTree) (before after : History) (state : State) (mine : Subvolume)
    (files : List (ℕ × File)) (alike : (q : ℕ) → nodes_of fs after q ≡ nodes_of fs before q)
    (keeps : KeepsState fs before state mine files) where
  still : StandsStill fs fs before after (flat_map items_of_file files) (named files)
  still = stands-alike fs fs before after (flat_map items_of_file files) (named files) refl alike keeps.holds.stands

  state-told : KeepsState fs after state mine files
  state-told = record {
    there = keeps.there;
    are = keeps.are;
    holds = record { stands = still.stands; writable = keeps.holds.writable; by = keeps.holds.by };
    have = λ tree subvolume among there.
        let has = keeps.have tree subvolume among there in
        record {
          items = still.each tree (contains_later fs.tree fs.others.items tree among) ∙ has.items;
          writable = has.writable;
          by = has.by;
        };
    laid = record {
      sizes = keeps.laid.sizes;
      generation = keeps.laid.generation;
      layout = keeps.laid.layout ∙ sym still.layout;
    };
    held_slots = keeps.held_slots;
    held_runs = keeps.held_runs;
  }

-- what is kept is kept of its state over a disk that tells the same
pub kept-told : (kept : OpenImage) (before after : History) (state : State)
    → ((q : ℕ) → nodes_of kept.fs after q ≡ nodes_of kept.fs before q)
    → IsKeptOf kept state before → IsKeptOf kept state after
kept-told kept before after state alike keeps = record {
  files = keeps.files;
  mine = keeps.mine;
  keeps = state-told kept.fs before after state keeps.mine keeps.files alike keeps.keeps;
  short = keeps.short;
  snapshots = keeps.snapshots;
  quota = keeps.quota;
  holds = keeps.holds;
  pending = keeps.pending;
  recorded = keeps.recorded;
  others = keeps.others;
  reserved = keeps.reserved;
  reserve = keeps.reserve;
  idle = keeps.idle;
}

-- ---- the repair

-- which place is stale
of_two : (same later : Bool) (place : ℕ)
    → (if same then None else (if later then Some first_place else Some second_place)) ≡ Some place
    → (place ≡ first_place) ⊎ (place ≡ second_place)
of_two true later place is = absurd cc
of_two false true place is = inl cc
of_two false false place is = inr cc

stale-is : (first second : Option Super) (place : ℕ) → stale_place first second ≡ Some place
    → (place ≡ first_place) ⊎ (place ≡ second_place)
stale-is None None place is = absurd cc
stale-is None (Some second) place is = inl cc
stale-is (Some first) None place is = inr cc
stale-is (Some first) (Some second) place is =
    of_two (same_super first second) (nat_lt first.generation second.generation) place is

module _ (sizes whole : Sizes) (super : Super) (events : List Event) (served : IsTrue (is_served whole))
    (nodesize : sizes.nodesize ≡ whole.nodesize) (slots : sizes.slots ≡ whole.slots)
    (long : total_bytes whole ≤ length (content events)) where
  -- nothing in slots is changed by it
  pub repair-keeps : (first second : Option Super) (place : Option ℕ) → place ≡ stale_place first second
      → Keeps sizes (Recorded events) (Recorded (with_repair super place (Synced ∷ events))) (λ at. ⊤)
  repair-keeps first second None is = syncs-keep sizes events
  repair-keeps first second (Some place) is =
      Keeps-then sizes (Recorded events) (Recorded (Synced ∷ events))
      (Recorded (with_repair super (Some place) (Synced ∷ events)))
      (λ at. ⊤) (syncs-keep sizes events)
      (superblocks-keep sizes whole super place (Synced ∷ events) served nodesize slots long
      (stale-is first second place (sym is)))

-- so what is kept is kept of its state once the place was written
pub kept-repaired : (kept : OpenImage) (whole : Sizes) (super : Super) (events : List Event)
    (first second : Option Super)
    (place : Option ℕ) (state : State) → IsTrue (is_served whole)
    → kept.fs.land.blocks.draft.sizes.nodesize ≡ whole.nodesize → kept.fs.land.blocks.draft.sizes.slots ≡ whole.slots
    → total_bytes whole ≤ length (content events) → place ≡ stale_place first second
    → IsKeptOf kept state (Recorded events) → IsKeptOf kept state (Recorded (with_repair super place (Synced ∷ events)))
kept-repaired kept whole super events first second place state served nodesize slots long stale keeps =
    kept-told kept (Recorded events) (Recorded (with_repair super place (Synced ∷ events))) state
    (told-alike kept.fs kept.fs (Recorded events) (with_repair super place (Synced ∷ events)) refl
    (repair-keeps kept.fs.land.blocks.draft.sizes whole super events served nodesize slots long first second place
    stale)) keeps

-- and so it is of an image that was just opened
pub kept-reopened : (kept : OpenImage) (super : Super) (events : List Event) (first second : Option Super)
    (place : Option ℕ) (state : State) → IsTrue (is_super super) → IsFitted kept → kept.superblock ≡ super
    → total_bytes (sizes_of super) ≤ length (content events) → place ≡ stale_place first second
    → IsKeptOf kept state (Recorded events) → IsKeptOf kept state (Recorded (with_repair super place (Synced ∷ events)))
kept-reopened kept super events first second place state fits fitted same long stale keeps =
    let sizes : kept.fs.land.space.sizes ≡ sizes_of super = fitted.sizes ∙ ap sizes_of same in
    kept-repaired kept (sizes_of super) super events first second place state (SuperFits-is_super super fits).served
    (fitted.drafted.sizes.nodesize ∙ ap (λ (s : Sizes). s.nodesize) sizes)
    (fitted.drafted.sizes.slots ∙ ap (λ (s : Sizes). s.slots) sizes) long stale keeps
