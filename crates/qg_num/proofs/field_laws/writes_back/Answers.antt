use Rattle.qg_num.specs.Fields.{u32_at, u32_bytes, u64_at, u64_bytes}
use Rattle.qg_num.proofs.Numbers.{u32_bytes-u32_at, u64_bytes-u64_at}
use Rattle.qg_num.proofs.Written.{put_same}
use Rattle.qg_num.proofs.field_laws.writes_back.Goals as goal

pub returns-clause-u64 : goal.returns-clause-u64
returns-clause-u64 c = λ place bytes are within. put_same place 8 (u64_bytes (u64_at place bytes)) bytes
    (u64_bytes-u64_at place bytes are within)

pub returns-clause-u32 : goal.returns-clause-u32
returns-clause-u32 c = λ place bytes are within. put_same place 4 (u32_bytes (u32_at place bytes)) bytes
    (u32_bytes-u32_at place bytes are within)
