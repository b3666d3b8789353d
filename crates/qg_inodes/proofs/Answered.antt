-- What a reading of a file answers, where its tree is told.
use Rattle.std.proofs.Common.{◌≡◌, ℕ, List, Some, None, sym, ap, subst, ◌∙◌, inr}
use Rattle.std.specs.Prelude.{Err, Ok, Option, IsTrue, Result}
use Rattle.std.specs.Option.{option_map}
use Rattle.qg_device.specs.History.{Event, History, Recorded}
use Rattle.qg_num.specs.declared.fault.BlockFault.{BlockFault}
use Rattle.qg_num.specs.declared.fault.BlockFault.TheVariants.{Disk, Image, NoMemory}
use Rattle.qg_num.specs.declared.rule.Rule.TheVariants as rule
use Rattle.qg_node.specs.declared.item.Item.{Item}
use Rattle.qg_items.specs.declared.file.InodeItem.{InodeItem}
use Rattle.qg_items.specs.ItemReading.{inode_read}
use Rattle.qg_image.specs.declared.file.File.{File}
use Rattle.qg_image.specs.Table.{value_at}
use Rattle.qg_image.specs.declared.tree.TreeKind.TheVariants.{Files}
use Rattle.qg_tree_items.specs.Keys.{key_with}
use Rattle.qg_root_items.specs.Written.{inode_of}
use Rattle.qg_blocks.specs.NodesInMemory.{Draft}
use Rattle.qg_blocks.specs.NodesFound.{BreaksNone}
use Rattle.qg_tree_read.specs.Reading.{body_at}
use Rattle.qg_tree_read.specs.Tree.{Root, TellsTree}
use Rattle.qg_tree_read.specs.Way.{FailsOnWay}
use Rattle.qg_inodes.specs.Items.{has_unread}
use Rattle.qg_inodes.specs.TreeFiles.{FailsOnFile, TellsFiles}
use Rattle.qg_inodes.proofs.Files.{are-told, inode-none, inode-some}
use Rattle.qg_inodes.proofs.Inodes.{unread-there}

-- ---- one fault, whatever else would be answered

pub unbroken-other : (A B : Type 0) (fault : BlockFault) → BreaksNone {A = A} (Err fault)
    → BreaksNone {A = B} (Err fault)
unbroken-other A B (Image broken address) none = none
unbroken-other A B Disk none = none
unbroken-other A B NoMemory none = none

pub way-other : (A B : Type 0) (root : Root) (draft : Draft) (events : List Event) (fault : BlockFault)
    → FailsOnWay {A = A} Files root draft events (Err fault)
    → FailsOnWay {A = B} Files root draft events (Err fault)
way-other A B root draft events (Image broken address) fails = fails
way-other A B root draft events Disk fails = tt
way-other A B root draft events NoMemory fails = tt

-- ---- the INODE_ITEM

module _ (root : Root) (draft : Draft) (history : History) (files : List (ℕ × File))
    (tells : TellsFiles root draft history files) (ino : ℕ) where
  same_none : (told : Option File) → told ≡ None → ◌≡◌ {A = Option InodeItem} None (option_map inode_of told)
  same_none told none = sym (ap (option_map inode_of) none)

  pub inode-absent : ◌≡◌ None (body_at (key_with ino 1 0) tells.items)
      → ◌≡◌ {A = Option InodeItem} None (option_map inode_of (value_at ino files))
  inode-absent is =
      same_none (value_at ino files)
      (inode-none tells.generation tells.items files (are-told tells.generation tells.items files tells.are) ino
      (sym is))

  pub inode-present : (body : List ℕ) (inode : InodeItem) → Some body ≡ body_at (key_with ino 1 0) tells.items
      → Some inode ≡ inode_read body
      → Some inode ≡ option_map inode_of (value_at ino files)
  inode-present body inode is read =
      let has =
      inode-some tells.generation tells.items files (are-told tells.generation tells.items files tells.are) ino body
      (sym is)
      in
      read ∙ has.1 ∙ ap (λ (i : InodeItem). Some i) (sym has.2.told) ∙ sym (ap (option_map inode_of) has.2.there)

  pub inode-read : (body : List ℕ) → Some body ≡ body_at (key_with ino 1 0) tells.items → ◌≡◌ None (inode_read body) → ⊥
  inode-read body is none =
      let has =
      inode-some tells.generation tells.items files (are-told tells.generation tells.items files tells.are) ino body
      (sym is)
      in
      none_some (none ∙ has.1) where
        none_some : {A : Type 0} {x : A} → ◌≡◌ None (Some x) → ⊥
        none_some is = cc

-- what stands under its key says nothing
pub inode-misread : (A : Type 0) (root : Root) (draft : Draft) (history : History) (events : List Event)
    (ino : ℕ) (fault : BlockFault) (body : List ℕ) → fault ≡ Image rule.Item root.address → history ≡ Recorded events
    → ((items : List Item) → TellsTree Files root draft history items → Some body ≡ body_at (key_with ino 1 0) items)
    → ◌≡◌ None (inode_read body) → FailsOnFile {A = A} root draft events ino (Err fault)
inode-misread A root draft history events ino fault body answer is there none =
    inr (record {
      answer = ap (λ (f : BlockFault). Err f) answer;
      there = λ items tells.
          let told = subst (λ (h : History). TellsTree Files root draft h items) (sym is) tells in
          unread-there ino items body (sym (there items told)) (sym none);
    })
