-- A call names a rule at an address only where this is so.
use Rattle.std.proofs.Common.{◌≡◌, ℕ}
use Rattle.std.specs.Prelude.{List, Result, Ok, Err, IsErrOf}
use Rattle.qg_device.specs.History.{Event, content}
use Rattle.qg_num.specs.declared.fault.BlockFault.{BlockFault}
use Rattle.qg_num.specs.declared.fault.BlockFault.TheVariants.{NoMemory, Disk, Image}
use Rattle.qg_num.specs.declared.rule.Rule.{Rule}
use Rattle.qg_image.specs.declared.expected.Expected.{Expected}
use Rattle.qg_image.specs.declared.tree.TreeKind.{TreeKind}
use Rattle.qg_blocks.specs.NodesFound.{BreaksNone, found}
use Rattle.qg_node_alloc.specs.declared.ground.Ground.{Ground}
use Rattle.qg_edit.specs.Answering.{AnswersBy}
use Rattle.qg_tree_read.specs.Tree.{Root, super_of}
use Rattle.qg_tree_read.specs.Way.{FailsThere}
use Rattle.qg_tree_edits.specs.Failing.{IsRefused, NamesOnly}

-- what follows from what is so
pub names-weaker : {A : Type 0} (result : Result A BlockFault) (P Q : Rule → ℕ → Type 0)
    → ((rule : Rule) (at : ℕ) → P rule at → Q rule at) → NamesOnly P result → NamesOnly Q result
names-weaker (Ok x) P Q so names = tt
names-weaker (Err (Image rule at)) P Q so names = so rule at names
names-weaker (Err Disk) P Q so names = tt
names-weaker (Err NoMemory) P Q so names = tt

-- whatever would have been answered
pub names-other : (A B : Type 0) (fault : BlockFault) (P Q : Rule → ℕ → Type 0)
    → ((rule : Rule) (at : ℕ) → P rule at → Q rule at) → NamesOnly {A = A} P (Err fault)
    → NamesOnly {A = B} Q (Err fault)
names-other A B (Image rule at) P Q so names = so rule at names
names-other A B Disk P Q so names = tt
names-other A B NoMemory P Q so names = tt

-- a call that breaks no rule names none
pub names-none : {A : Type 0} (result : Result A BlockFault) (Q : Rule → ℕ → Type 0) → BreaksNone result
    → NamesOnly Q result
names-none (Ok x) Q none = tt
names-none (Err (Image rule at)) Q none = absurd none
names-none (Err Disk) Q none = tt
names-none (Err NoMemory) Q none = tt

pub names-none_other : (A B : Type 0) (fault : BlockFault) (Q : Rule → ℕ → Type 0) → BreaksNone {A = A} (Err fault)
    → NamesOnly {A = B} Q (Err fault)
names-none_other A B (Image rule at) Q none = absurd none
names-none_other A B Disk Q none = tt
names-none_other A B NoMemory Q none = tt

-- what a call on nodes answers
pub names-answers : {A : Type 0} (result : Result A BlockFault) (P : Type 0) (Q : Rule → ℕ → Type 0)
    → AnswersBy P Q result → NamesOnly Q result
names-answers (Ok x) P Q answers = tt
names-answers (Err (Image rule at)) P Q answers = answers
names-answers (Err Disk) P Q answers = tt
names-answers (Err NoMemory) P Q answers = tt

-- and it never answers `Disk`
pub answers-no_disk : {A : Type 0} (result : Result A BlockFault) (P : Type 0) (Q : Rule → ℕ → Type 0)
    → AnswersBy P Q result → IsErrOf result Disk → ⊥
answers-no_disk result P Q answers is =
    let that : result ≡ Err Disk = is in
    rw that at answers

-- what is answered of a node that is misread
pub names-refused : (A B : Type 0) (tree : TreeKind) (root : Root) (old new : Ground) (events : List Event)
    (expected : Expected) (at : ℕ) (fault : BlockFault) → new.blocks.draft ≡ old.blocks.draft
    → FailsThere {A = A} tree (super_of root old.blocks.draft) expected at (found old.blocks.draft (content events) at)
    (Err fault) → NamesOnly {A = B} (IsRefused tree root old new events expected at) (Err fault)
names-refused A B tree root old new events expected at (Image rule q) same fails =
    (record { there = fails.0; breaks = fails.1 }, same)
names-refused A B tree root old new events expected at Disk same fails = tt
names-refused A B tree root old new events expected at NoMemory same fails = tt
