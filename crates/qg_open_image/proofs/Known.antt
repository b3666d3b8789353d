-- What is known of the state that something is kept of: its subvolumes, the files of the one at hand, and what is
-- pending. Sizes are in bytes.
use Rattle.std.proofs.Common.{◌≡◌, ℕ, Bool, true, false, List, None, Some, Option, sym, ap, ◌∙◌}
use Rattle.std.specs.Prelude.{is_none, not, nat_le, nat_lt}
use Rattle.qg_device.specs.History.{History}
use Rattle.qg_num.specs.declared.refusal.Refusal.TheVariants as why
use Rattle.qg_super.specs.declared.sizes.Sizes.{Sizes}
use Rattle.qg_image.specs.declared.file.File.{File}
use Rattle.qg_image.specs.ItemMeaning.{some_passes}
use Rattle.qg_image.specs.Table.{has_key, value_at}
use Rattle.qg_image.specs.State.{State, file_at, files_in_sub, has_subvolume}
use Rattle.qg_machine.specs.Refusals.{most_pending, no_file, no_source, no_sub, refuse, too_many_pending}
use Rattle.qg_open_image.specs.declared.open_image.OpenImage.{OpenImage}
use Rattle.qg_open_image.specs.declared.open_image.KeptSubvolume.{KeptSubvolume}
use Rattle.qg_open_image.specs.Keeping.{IsFitted, IsKeptOf, kept_subvolume}
use Rattle.qg_open_image.proofs.Tables.{key-mapped, key-of-value}

module _ (kept : OpenImage) (state : State) (history : History) (keeps : IsKeptOf kept state history) where
  -- ---- the subvolumes

  pub files-known : files_in_sub state kept.fs.tree.owner ≡ keeps.files
  files-known = rw keeps.keeps.there keeps.keeps.are

  pub file-known : (ino : ℕ) → file_at state kept.fs.tree.owner ino ≡ value_at ino keeps.files
  file-known ino = ap (λ (table : List (ℕ × File)). value_at ino table) files-known

  pub sub-known : (sub : ℕ) → has_subvolume state sub ≡ has_key sub kept.snapshots
  sub-known sub =
      sym (key-mapped kept_subvolume sub state.subvolumes)
      ∙ ap (λ (table : List (ℕ × KeptSubvolume)). has_key sub table) keeps.snapshots

  hand_known : has_subvolume state kept.fs.tree.owner ≡ true
  hand_known = key-of-value kept.fs.tree.owner state.subvolumes keeps.mine keeps.keeps.there

  -- ---- why a command may be refused

  pub hand-there : no_sub state kept.fs.tree.owner ≡ None
  hand-there = ap (λ (b : Bool). refuse (not b) why.NoSub) hand_known

  pub sub-there : (sub : ℕ) → has_key sub kept.snapshots ≡ true → no_sub state sub ≡ None
  sub-there sub is = ap (λ (b : Bool). refuse (not b) why.NoSub) (sub-known sub ∙ is)

  pub no-other : (sub : ℕ) → has_key sub kept.snapshots ≡ false → no_sub state sub ≡ Some why.NoSub
  no-other sub none = ap (λ (b : Bool). refuse (not b) why.NoSub) (sub-known sub ∙ none)

  pub file-missing : (ino : ℕ)
      → no_file state kept.fs.tree.owner ino ≡ refuse (is_none (value_at ino keeps.files)) why.NoFile
  file-missing ino = ap (λ (file : Option File). refuse (is_none file) why.NoFile) (file-known ino)

  pub source-short : (ino end : ℕ) → no_source state kept.fs.tree.owner ino end
      ≡ refuse (some_passes (λ file. nat_lt file.size end) (value_at ino keeps.files)) why.Source
  source-short ino end =
      ap (λ (file : Option File). refuse (some_passes (λ file. nat_lt file.size end) file) why.Source) (file-known ino)

  pub many-pending : too_many_pending state ≡ refuse (nat_le most_pending kept.pending) why.TooMany
  many-pending = ap (λ (n : ℕ). refuse (nat_le most_pending n) why.TooMany) keeps.pending

  -- the size of a node
  pub nodesize-known : IsFitted kept → state.sizes.nodesize ≡ kept.superblock.nodesize
  nodesize-known fits =
      ap (λ (sizes : Sizes). sizes.nodesize) keeps.keeps.laid.sizes ∙ ap (λ (sizes : Sizes). sizes.nodesize) fits.sizes
