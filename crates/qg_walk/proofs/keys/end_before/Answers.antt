use Rattle.std.proofs.Common.{◌≡◌, ◌-◌, length, map, Some, sym, ap, ◌∙◌}
use Rattle.std.specs.Prelude.{slice_get}
use Rattle.std.specs.Option.{option_map}
use Rattle.std.specs.Ordering.{is_lt}
use Rattle.std.proofs.lemmas.List.{length-map}
use Rattle.std.proofs.lemmas.Option.{slice_get-map}
use Rattle.qg_num.specs.Key.{key_cmp}
use Rattle.qg_walk.proofs.KeyRanges.{ends_before-last}
use Rattle.qg_walk.proofs.keys.end_before.Goals as goal

pub returns-in-Some-Some : goal.returns-in-Some-Some
returns-in-Some-Some g c =
    let key_of = g.T.Keyed.key_of in
    let list = c.args.list.now in
    let keys = map key_of list in
    let last : slice_get list (length list - 1) ≡ Some c.in-Some-Some.last.now = sym c.in-Some-Some.ensures.value in
    let there : slice_get keys (length list - 1) ≡ Some (key_of c.in-Some-Some.last.now) =
    slice_get-map key_of list (length list - 1) ∙ ap (option_map key_of) last in
    let read : slice_get keys (length keys - 1) ≡ Some (key_of c.in-Some-Some.last.now) =
    rw (length-map list key_of) there in
    let less : c.is_before.result ≡ is_lt (key_cmp (key_of c.in-Some-Some.last.now) c.in-Some-Some.to) =
    c.is_before.ensures ∙ ap (λ key. is_lt (key_cmp key c.in-Some-Some.to)) c.key.ensures in
    rw c.in-Some-Some.is-0 (less
    ∙ sym (ends_before-last c.in-Some-Some.to (key_of c.in-Some-Some.last.now) keys c.requires read))
