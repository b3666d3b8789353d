use Rattle.std.proofs.Common.{◌≤◌, length, refl, arith}
use Rattle.qg_script.proofs.Places.{fed-handed_out, fed-line}
use Rattle.qg_script.proofs.feed.Feed.hand_out.Goals as goal

pub returns : goal.returns
returns c =
    let bound : c.self.inside.filled ≤ length c.self.inside.bytes.items = omega (arith, c.self.inside.bytes.ok.0) in
    let line = fed-line c.args.self.now _ _ _ _ _ c.self.view_is c.requires.bound bound in (
      (refl, λ _. tt, fed-handed_out c.args.self.now _ _ _ _ _ _ c.self.view_is c.min-self-inside.ensures),
      record { line = rw c.deref.ensures.value line; leaves = tt },
    )
