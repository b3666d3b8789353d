use Rattle.std.proofs.Common.{sym, ◌∙◌, arith}
use Rattle.qg_device.specs.History.{content}
use Rattle.qg_check.proofs.SuperIn.{super_in-short, super_in-range}
use Rattle.qg_check.proofs.places.read_place.Goals as goal

pub returns-then-len-place-clause-found : goal.returns-then-len-place-clause-found
returns-then-len-place-clause-found g c = λ events told.
    let long = g.met.D.Disk.sized c.args.disk.now events told in
    sym (super_in-short (content events) c.args.place (omega (arith, long, c.len.ensures, c.if-len-place.true)))

pub returns-clause-found : goal.returns-clause-found
returns-clause-found g c = λ events told.
    c.read_super.ensures.exact ∙ super_in-range (content events) c.args.place c.read.new.buf
    (c.in_ok-read.ensures.bytes events told)
