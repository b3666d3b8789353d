use Rattle.std.proofs.Common.{◌≡◌, ◌<◌, ℕ, List, ap, get_or, length, subst, sym, ◌∙◌}
use Rattle.std.specs.List.{All}
use Rattle.std.specs.Prelude.{◌≢◌}
use Rattle.qg_image_changes.proofs.Numbers.{all-stay, none-of, removed-without}
use Rattle.qg_image_changes.proofs.changing.forget_snapshot.Goals as goal
use Rattle.qg_open_image.specs.declared.open_image.KeptSubvolume.{KeptSubvolume}
use Rattle.qg_open_image.specs.Keeping.{kept_at}

pub returns-in-Some : goal.returns-in-Some
returns-in-Some c =
    let kept = c.args.kept.now in
    let entry : ℕ × KeptSubvolume = (c.args.sub, kept_at 0) in
    ap (λ (table : List (ℕ × KeptSubvolume)). record kept { snapshots = table })
    (c.remove.ensures.left
    ∙ removed-without (λ (e : ℕ × KeptSubvolume). e.0) kept.snapshots c.in-Some.place entry c.args.sub
    c.requires.ascending
    (subst (λ (table : List (ℕ × KeptSubvolume)). c.in-Some.place < length table) c.as_slice.ensures
    c.in-Some.ensures.inside)
    (subst (λ (table : List (ℕ × KeptSubvolume)). (get_or table c.in-Some.place entry).0 ≡ c.args.sub)
    c.as_slice.ensures (c.in-Some.ensures.at entry)))

-- none is known
pub returns-in_default : goal.returns-in_default
returns-in_default c =
    let kept = c.args.kept.now in
    ap (λ (table : List (ℕ × KeptSubvolume)). record kept { snapshots = table })
    (sym (all-stay (λ (e : ℕ × KeptSubvolume). e.0) c.args.sub kept.snapshots
    (none-of (λ (e : ℕ × KeptSubvolume). e.0) c.args.sub kept.snapshots
    (subst (λ (table : List (ℕ × KeptSubvolume)). All (λ (e : ℕ × KeptSubvolume). e.0 ≢ c.args.sub) table)
    c.as_slice.ensures c.in_default.ensures.none))))
