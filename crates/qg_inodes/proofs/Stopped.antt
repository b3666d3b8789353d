-- Where a reading of one file names a rule, over any disk.
use Rattle.std.proofs.Common.{◌≡◌, ℕ, List, refl, sym, subst, inl, inr}
use Rattle.std.specs.Prelude.{Result, Ok, Err, IsErrAnd}
use Rattle.qg_num.specs.declared.fault.BlockFault.{BlockFault}
use Rattle.qg_num.specs.declared.fault.BlockFault.TheVariants.{NoMemory, Disk, Image}
use Rattle.qg_num.specs.declared.piece.Piece.{Piece}
use Rattle.qg_num.specs.declared.rule.Rule.{Rule}
use Rattle.qg_num.specs.declared.rule.Rule.TheVariants as rule
use Rattle.qg_node.specs.declared.item.Item.{Item}
use Rattle.qg_image.specs.declared.tree.TreeKind.TheVariants.{Files}
use Rattle.qg_blocks.specs.NodesInMemory.{Draft}
use Rattle.qg_blocks.specs.Stopping.{IsMisfit, StopsForCause}
use Rattle.qg_blocks.proofs.Broken.{handed}
use Rattle.qg_blocks.proofs.Stopping.{misfit-file, misfit-item}
use Rattle.qg_tree_read.specs.Stopping.{StopsOnWay}
use Rattle.qg_tree_read.specs.Tree.{Root}
use Rattle.qg_tree_read.proofs.Stopping.{stops-way}
use Rattle.qg_inodes.specs.Judged.{AreAdded, IsJudged}
use Rattle.qg_inodes.specs.TreeFiles.{StopsOnPieces}

-- ---- one call

way_fault : (A B : Type 0) (root : Root) (draft : Draft) (bytes : ℕ) (fault : BlockFault)
    → StopsOnWay {A = A} (Err fault) Files root draft bytes → StopsOnPieces {A = B} (Err fault) root draft bytes
way_fault A B root draft bytes (Image broken at) stops = inl stops
way_fault A B root draft bytes Disk stops = tt
way_fault A B root draft bytes NoMemory stops = tt

pieces_fault : (A B : Type 0) (root : Root) (draft : Draft) (bytes : ℕ) (fault : BlockFault)
    → StopsOnPieces {A = A} (Err fault) root draft bytes → StopsOnPieces {A = B} (Err fault) root draft bytes
pieces_fault A B root draft bytes (Image broken at) stops = stops
pieces_fault A B root draft bytes Disk stops = tt
pieces_fault A B root draft bytes NoMemory stops = tt

-- an item that says nothing
pub pieces-unread : {A : Type 0} (result : Result A BlockFault) (root : Root) (draft : Draft) (bytes : ℕ)
    → result ≡ Err (Image rule.Item root.address) → StopsOnPieces result root draft bytes
pieces-unread {A} result root draft bytes is =
    subst (λ (r : Result A BlockFault). StopsOnPieces r root draft bytes) (sym is) (inr (inl refl, refl))

-- pieces that were judged
pub pieces-judged : (root : Root) (pieces : List Piece) (result : Result (List Piece) BlockFault) (draft : Draft)
    (bytes : ℕ) → IsJudged root pieces result → StopsOnPieces result root draft bytes
pieces-judged root pieces (Ok x) draft bytes judged = tt
pieces-judged root pieces (Err fault) draft bytes judged =
    subst (λ (f : BlockFault). StopsOnPieces {A = List Piece} (Err f) root draft bytes) (sym judged.0)
    (inr (inr refl, refl))

added_fault : (A B : Type 0) (root : Root) (items : List Item) (old new : List Piece) (fault : BlockFault)
    (draft : Draft) (bytes : ℕ) → AreAdded {A = A} root items old new (Err fault)
    → StopsOnPieces {A = B} (Err fault) root draft bytes
added_fault A B root items old new (Image broken at) draft bytes added = inr (inl added.0, added.1)
added_fault A B root items old new Disk draft bytes added = tt
added_fault A B root items old new NoMemory draft bytes added = tt

-- pieces that were put behind others
pub pieces-added : (A : Type 0) {B : Type 0} (root : Root) (items : List Item) (old new : List Piece)
    (result : Result B BlockFault) (fault : BlockFault) (draft : Draft) (bytes : ℕ)
    → IsErrAnd result (λ given. given ≡ fault) → AreAdded {A = A} root items old new (Err fault)
    → StopsOnPieces result root draft bytes
pieces-added A {B} root items old new result fault draft bytes is added =
    subst (λ (r : Result B BlockFault). StopsOnPieces r root draft bytes) (sym (handed result fault is))
    (added_fault A B root items old new fault draft bytes added)

-- ---- handed on, where nodes and disk are as they were

same_there : {A : Type 0} (result : Result A BlockFault) (root : Root) (draft other : Draft) (bytes left : ℕ)
    → other ≡ draft → left ≡ bytes → StopsOnPieces result root other left → StopsOnPieces result root draft bytes
same_there result root draft other bytes left same size stops =
    subst (λ (d : Draft). StopsOnPieces result root d bytes) same
    (subst (λ (n : ℕ). StopsOnPieces result root other n) size stops)

-- what a reading of the tree answered
pub pieces-way : (A : Type 0) {B : Type 0} (result : Result B BlockFault) (root : Root) (draft other : Draft)
    (bytes left : ℕ) (fault : BlockFault) → IsErrAnd result (λ given. given ≡ fault) → other ≡ draft → left ≡ bytes
    → StopsOnWay {A = A} (Err fault) Files root other left → StopsOnPieces result root draft bytes
pieces-way A {B} result root draft other bytes left fault is same size stops =
    subst (λ (r : Result B BlockFault). StopsOnPieces r root draft bytes) (sym (handed result fault is))
    (same_there {A = B} (Err fault) root draft other bytes left same size
    (way_fault A B root other left fault stops))

-- what a reading of the file did
pub pieces-err : (A : Type 0) {B : Type 0} (result : Result B BlockFault) (root : Root) (draft other : Draft)
    (bytes left : ℕ) (fault : BlockFault) → IsErrAnd result (λ given. given ≡ fault) → other ≡ draft → left ≡ bytes
    → StopsOnPieces {A = A} (Err fault) root other left → StopsOnPieces result root draft bytes
pieces-err A {B} result root draft other bytes left fault is same size stops =
    subst (λ (r : Result B BlockFault). StopsOnPieces r root draft bytes) (sym (handed result fault is))
    (same_there {A = B} (Err fault) root draft other bytes left same size
    (pieces_fault A B root other left fault stops))

-- ---- in any call

pub stops-pieces : {A : Type 0} (result : Result A BlockFault) (root : Root) (draft : Draft) (bytes : ℕ)
    → StopsOnPieces result root draft bytes → StopsForCause result draft.sizes bytes
stops-pieces (Ok x) root draft bytes stops = tt
stops-pieces {A} (Err (Image broken at)) root draft bytes (inl way) =
    stops-way {A = A} (Err (Image broken at)) Files root draft bytes way
stops-pieces (Err (Image broken at)) root draft bytes (inr (inl is, there)) =
    inr (inr (inr (subst (λ (r : Rule). IsMisfit r) (sym is) misfit-item)))
stops-pieces (Err (Image broken at)) root draft bytes (inr (inr is, there)) =
    inr (inr (inr (subst (λ (r : Rule). IsMisfit r) (sym is) misfit-file)))
stops-pieces (Err Disk) root draft bytes stops = tt
stops-pieces (Err NoMemory) root draft bytes stops = tt
