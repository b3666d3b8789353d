use Rattle.std.proofs.Common.{◌≡◌, map, Some, sym, ap, ◌∙◌}
use Rattle.std.specs.Prelude.{slice_get}
use Rattle.std.specs.Option.{option_map}
use Rattle.std.proofs.lemmas.Option.{slice_get-map}
use Rattle.qg_image.specs.IsShaped.{same_key}
use Rattle.qg_walk.proofs.KeyRanges.{begins_at-first, same_key-nested}
use Rattle.qg_walk.proofs.keys.begin_at.Goals as goal

pub returns-in-Some-Some : goal.returns-in-Some-Some
returns-in-Some-Some g c =
    let key_of = g.T.Keyed.key_of in
    let keys = map key_of c.args.list.now in
    let first : slice_get c.args.list.now 0 ≡ Some c.in-Some-Some.first.now = sym c.in-Some-Some.ensures.value in
    let read : slice_get keys 0 ≡ Some (key_of c.in-Some-Some.first.now) = slice_get-map key_of c.args.list.now 0
    ∙ ap (option_map key_of) first in
    let same : c.eq.result ≡ same_key (key_of c.in-Some-Some.first.now) c.in-Some-Some.from = c.eq.ensures
    ∙ same_key-nested c.key.result c.in-Some-Some.from
    ∙ ap (λ key. same_key key c.in-Some-Some.from) c.key.ensures in
    rw c.in-Some-Some.is-0 (same
    ∙ sym (begins_at-first c.in-Some-Some.from (key_of c.in-Some-Some.first.now) keys c.requires read))
