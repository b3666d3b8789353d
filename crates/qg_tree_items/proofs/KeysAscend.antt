-- Items whose keys ascend.
use Rattle.std.proofs.Common.{◌≡◌, true, List, [], ◌∷◌, ◌++◌, map, refl, arith}
use Rattle.std.specs.List.{AllByRecursion}
use Rattle.std.specs.Ordering.{is_lt}
use Rattle.std.proofs.lemmas.Bool.{and_parts, and_from}
use Rattle.qg_num.specs.Key.{key_cmp}
use Rattle.qg_num.specs.declared.key.Key.{Key}
use Rattle.qg_node.specs.Nodes.{ascends_from, is_ascending}
use Rattle.qg_image.specs.declared.part.FilePart.{FilePart}
use Rattle.qg_image.specs.declared.part.FilePart.TheVariants.{Inode, PieceOf}
use Rattle.qg_tree_items.specs.Keys.{file_key}
use Rattle.qg_tree_items.proofs.Standing.{IsBehind, all_behind, all_later, ascending-behind, ino_of}

-- ---- all of some items

pub all_weaker : (P Q : FilePart → Type 0) → ((part : FilePart) → P part → Q part) → (parts : List FilePart)
    → AllByRecursion P parts → AllByRecursion Q parts
all_weaker P Q each [] all = tt
all_weaker P Q each (part ∷ parts) all = (each part all.0, all_weaker P Q each parts all.1)

pub all_both : (P : FilePart → Type 0) (front parts : List FilePart) → AllByRecursion P front → AllByRecursion P parts
    → AllByRecursion P (front ++ parts)
all_both P [] parts all more = more
all_both P (part ∷ front) parts all more = (all.0, all_both P front parts all.1 more)

-- ---- some of what ascends

-- the items' keys ascend
abbrev pub Ascend : List FilePart → Type 0
Ascend parts = is_ascending (map file_key parts) ≡ true

ascends_front : (low : Key) (front parts : List FilePart) → ascends_from low (map file_key (front ++ parts)) ≡ true
    → ascends_from low (map file_key front) ≡ true
unfolding ascends_from
ascends_front low [] parts h = refl
ascends_front low (part ∷ front) parts h =
    let both =
    and_parts (is_lt (key_cmp low (file_key part))) (ascends_from (file_key part) (map file_key (front ++ parts))) h in
    and_from (is_lt (key_cmp low (file_key part))) (ascends_from (file_key part) (map file_key front)) both.0
    (ascends_front (file_key part) front parts both.1)

pub ascending_front : (front parts : List FilePart) → Ascend (front ++ parts) → Ascend front
unfolding is_ascending
ascending_front [] parts h = refl
ascending_front (part ∷ front) parts h = ascends_front (file_key part) front parts h

pub ascending_within : (front parts behind : List FilePart) → Ascend (front ++ (parts ++ behind)) → Ascend parts
ascending_within front parts behind h = ascending_front parts behind (ascending-behind front (parts ++ behind) h)

-- ---- what stands behind an item, and before it

pub all_after : (part : FilePart) (behind : List FilePart) → Ascend (part ∷ behind)
    → AllByRecursion (IsBehind (ino_of part)) behind
unfolding is_ascending
all_after (Inode ino inode) behind h = all_behind (file_key (Inode ino inode)) behind (omega arith) h
all_after (PieceOf ino piece) behind h = all_behind (file_key (PieceOf ino piece)) behind (omega arith) h

pub all_before : (front : List FilePart) (part : FilePart) (behind : List FilePart) → Ascend (front ++ (part ∷ behind))
    → AllByRecursion (λ one. IsBehind (ino_of one) part) front
all_before [] part behind h = tt
all_before (one ∷ front) part behind h =
    let after = all_later (IsBehind (ino_of one)) front (part ∷ behind) (all_after one (front ++ (part ∷ behind)) h) in
    (after.0, all_before front part behind (ascending-behind (one ∷ []) (front ++ (part ∷ behind)) h))
