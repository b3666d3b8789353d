use Rattle.std.proofs.Common.{◌≡◌, take}
use Rattle.qg_image.specs.ImageState.{subvolume_roots}
use Rattle.qg_check.proofs.trees.subvolumes_of.Given as goal

abbrev pub invariant-loop-part : goal.invariant-loop-part
invariant-loop-part l = l.subvolumes ≡ subvolume_roots (take l.part-index l.roots)
