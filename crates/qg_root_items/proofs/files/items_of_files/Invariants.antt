use Rattle.std.proofs.Common.{◌≡◌, take}
use Rattle.std.specs.List.{flat_map}
use Rattle.qg_root_items.specs.Written.{items_of_file}
use Rattle.qg_root_items.proofs.files.items_of_files.Given as goal

abbrev pub invariant-loop-file : goal.invariant-loop-file
invariant-loop-file l = l.items ≡ flat_map items_of_file (take l.file-index l.files)
