use Rattle.std.proofs.Common.{[], ◌∷◌, set, refl, arith}
use Rattle.std.proofs.lemmas.List.{set_split}
use Rattle.qg_num.specs.Fields.{u16_bytes, u64_bytes}
use Rattle.qg_num.proofs.Written.{nothing_written, Written-put, Written-u64, Written-whole, Written-zeros}
use Rattle.qg_items.specs.ItemText.{extent_data_text}
use Rattle.qg_items.proofs.file.write_extent_data.Goals as goal

pub returns : goal.returns
unfolding extent_data_text u16_bytes u64_bytes
returns c =
    let piece = c.args.piece.now in
    let generation = Written-u64 piece.generation c.put_u64.new.bytes (nothing_written c.args.bytes.now)
    (rw c.value.ensures at c.put_u64.ensures) in
    let ram_bytes = Written-u64 piece.ram_bytes c.put_u64-2.new.bytes generation c.put_u64-2.ensures in
    let plain = Written-zeros 4 c.put_zeros.new.bytes ram_bytes c.put_zeros.ensures in
    let regular = Written-put 1 (1 ∷ []) (set c.put_zeros.new.bytes 20 1) plain refl
    (set_split c.put_zeros.new.bytes 20 1 (omega arith)) in
    let disk_bytenr = Written-u64 piece.disk_bytenr c.put_u64-3.new.bytes regular
    (rw c.value-2.ensures at c.put_u64-3.ensures) in
    let disk_num_bytes = Written-u64 piece.disk_num_bytes c.put_u64-4.new.bytes disk_bytenr c.put_u64-4.ensures in
    let offset = Written-u64 piece.offset c.put_u64-5.new.bytes disk_num_bytes c.put_u64-5.ensures in
    let num_bytes = Written-u64 piece.num_bytes c.put_u64-6.new.bytes offset c.put_u64-6.ensures in
    Written-whole num_bytes c.requires
