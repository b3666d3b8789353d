-- The texts of bodies are bytes.
use Rattle.std.proofs.Common.{◌<◌, lit<}
use Rattle.qg_num.proofs.AreBytes.{AreBytes, append, of_byte, of_zeros, of_u16, of_u32, of_u64}
use Rattle.qg_items.specs.declared.file.InodeItem.{InodeItem}
use Rattle.qg_items.specs.declared.file.ExtentData.{ExtentData}
use Rattle.qg_items.specs.declared.root.RootItem.{RootItem}
use Rattle.qg_items.specs.ItemText.{inode_text, extent_data_text, root_text}

pub root_text-AreBytes : (root : RootItem) → root.level < 256 → AreBytes (root_text root)
unfolding root_text
root_text-AreBytes root small =
    let generation = append (of_zeros 160) (of_u64 root.generation) in
    let bytenr = append (append generation (of_zeros 8)) (of_u64 root.bytenr) in
    let last_snapshot = append (append bytenr (of_zeros 16)) (of_u64 root.last_snapshot) in
    let refs = append (append last_snapshot (of_zeros 8)) (of_u32 root.refs) in
    let level = append (append refs (of_zeros 18)) (of_byte root.level small) in
    append level (of_zeros 200)

pub inode_text-AreBytes : (inode : InodeItem) → AreBytes (inode_text inode)
unfolding inode_text
inode_text-AreBytes inode =
    let size = append (append (of_u64 inode.generation) (of_u64 inode.transid)) (of_u64 inode.size) in
    append (append size (of_u64 inode.nbytes)) (of_zeros 128)

pub extent_data_text-AreBytes : (piece : ExtentData) → AreBytes (extent_data_text piece)
unfolding extent_data_text
extent_data_text-AreBytes piece =
    let ram_bytes = append (of_u64 piece.generation) (of_u64 piece.ram_bytes) in
    let encoding = append (append ram_bytes (append (of_byte 0 (lit< tt)) (of_byte 0 (lit< tt)))) (of_u16 0) in
    let bytenr = append (append encoding (of_byte 1 (lit< tt))) (of_u64 piece.disk_bytenr) in
    append (append (append bytenr (of_u64 piece.disk_num_bytes)) (of_u64 piece.offset)) (of_u64 piece.num_bytes)
