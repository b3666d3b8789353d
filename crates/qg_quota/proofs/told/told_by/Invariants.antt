use Rattle.std.proofs.Common.{◌≡◌, take}
use Rattle.std.specs.List.{filter_map}
use Rattle.qg_image.specs.ImageState.{info_told, limit_told}
use Rattle.qg_quota.specs.QuotaKinds.{relation_told}
use Rattle.qg_quota.proofs.told.told_by.Given as goal

abbrev pub invariant-loop-part : goal.invariant-loop-part
invariant-loop-part l = record {
  infos : l.told.infos ≡ filter_map info_told (take l.part-index l.parts);
  limits : l.told.limits ≡ filter_map limit_told (take l.part-index l.parts);
  relations : l.told.relations.items ≡ filter_map relation_told (take l.part-index l.parts);
}
