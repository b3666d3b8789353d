use Rattle.qg_num.proofs.KeyBytes.{key_put}
use Rattle.qg_num.proofs.key.Key.write_at.Goals as goal

pub returns : goal.returns
returns c =
    key_put c.args.self c.args.place c.args.bytes.now c.put_u64.new.bytes c.put_u64-2.new.bytes c.requires
    c.put_u64.ensures c.put_u64-2.ensures
