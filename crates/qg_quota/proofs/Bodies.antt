-- The texts of bodies are bytes.
use Rattle.std.proofs.Common.{[], lit<}
use Rattle.qg_num.proofs.AreBytes.{AreBytes, append, of_zeros, of_u64}
use Rattle.qg_items.specs.declared.quota.QgroupStatus.{QgroupStatus}
use Rattle.qg_items.specs.declared.quota.QgroupInfo.{QgroupInfo}
use Rattle.qg_items.specs.declared.quota.QgroupLimit.{QgroupLimit}
use Rattle.qg_items.specs.ItemText.{status_text, info_text, limit_text}

pub status_text-AreBytes : (status : QgroupStatus) → AreBytes (status_text status)
unfolding status_text
status_text-AreBytes status = append (append (append (of_u64 1) (of_u64 status.generation)) (of_u64 status.flags))
    (of_u64 status.cursor)

pub info_text-AreBytes : (info : QgroupInfo) → AreBytes (info_text info)
unfolding info_text
info_text-AreBytes info =
    let rfer = append (append (of_u64 info.generation) (of_u64 info.rfer)) (of_u64 info.rfer_cmpr) in
    append (append rfer (of_u64 info.excl)) (of_u64 info.excl_cmpr)

pub limit_text-AreBytes : (limit : QgroupLimit) → AreBytes (limit_text limit)
unfolding limit_text
limit_text-AreBytes limit =
    append (append (append (of_u64 limit.flags) (of_u64 limit.max_rfer)) (of_u64 limit.max_excl)) (of_zeros 16)

pub nothing-AreBytes : AreBytes []
nothing-AreBytes = record { are = λ i. lit< tt }
