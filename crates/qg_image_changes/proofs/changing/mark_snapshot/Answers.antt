use Rattle.std.proofs.Common.{◌≡◌, ◌<◌, ℕ, List, ap, get_or, length, refl, subst, ◌∙◌}
use Rattle.std.specs.List.{All}
use Rattle.std.specs.Prelude.{◌≢◌}
use Rattle.qg_image_changes.proofs.Numbers.{none-of, set-with}
use Rattle.qg_open_image.proofs.Tables.{key-listed}
use Rattle.qg_open_image.specs.declared.open_image.KeptSubvolume.{KeptSubvolume}
use Rattle.qg_open_image.specs.Keeping.{kept_at}
use Rattle.qg_image_changes.proofs.changing.mark_snapshot.Goals as goal

pub returns-in-Some : goal.returns-in-Some
returns-in-Some c =
    let kept = c.args.kept.now in
    let entry : ℕ × KeptSubvolume = (c.args.sub, kept_at c.args.generation) in
    ap (λ (table : List (ℕ × KeptSubvolume)). record kept { snapshots = table })
    (c.set.ensures
    ∙ set-with kept.snapshots c.in-Some.place entry c.args.sub (kept_at c.args.generation) c.requires.ascending
    (subst (λ (table : List (ℕ × KeptSubvolume)). c.in-Some.place < length table) c.as_slice.ensures
    c.in-Some.ensures.inside)
    (subst (λ (table : List (ℕ × KeptSubvolume)). (get_or table c.in-Some.place entry).0 ≡ c.args.sub)
    c.as_slice.ensures (c.in-Some.ensures.at entry)))

-- the subvolume is there
pub returns-in_default : goal.returns-in_default
returns-in_default c =
    let kept = c.args.kept.now in
    absurd (none-of (λ (e : ℕ × KeptSubvolume). e.0) c.args.sub kept.snapshots
    (subst (λ (table : List (ℕ × KeptSubvolume)). All (λ (e : ℕ × KeptSubvolume). e.0 ≢ c.args.sub) table)
    c.as_slice.ensures c.in_default.ensures.none)
    c.args.sub (key-listed c.args.sub kept.snapshots c.requires.there) refl)
