use Rattle.std.proofs.Common.{length, refl}
use Rattle.qg_num.proofs.Numbers.{u32_at-u32_bytes, u64_at-u64_bytes}
use Rattle.qg_num.proofs.field_laws.reads_back.Goals as goal

pub returns-clause-u64 : goal.returns-clause-u64
returns-clause-u64 c = λ n front rest fits. u64_at-u64_bytes (length front) n front rest refl fits

pub returns-clause-u32 : goal.returns-clause-u32
returns-clause-u32 c = λ n front rest fits. u32_at-u32_bytes (length front) n front rest refl fits
