use Rattle.std.proofs.Common.{ℕ, List, sym, subst}
use Rattle.qg_delayed.specs.declared.entry.Entry.{Entry}
use Rattle.qg_delayed.specs.Flushing.{IsFlushed, edits_of}
use Rattle.qg_delayed.specs.Making.{HasRoomFor}
use Rattle.qg_delayed.specs.Merged.{Fits}
use Rattle.qg_delayed.proofs.Flushed.{flush_made, flush_may}
use Rattle.qg_delayed.proofs.delayed.Delayed.flush.Goals as goal

pub make_entries-requires : goal.make_entries-requires
make_entries-requires g c =
    let b = g.B.RefBook in
    let es = c.self.inside.entries.entries in
    let is = sym c.self.view_is in
    record {
      stood = c.requires.stands;
      may = λ below holds. flush_may below es c.self.invariant
          (subst (λ (ws : List (ℕ × Entry)). Fits below ws) is (c.requires.fits below holds));
      room = subst (λ (ws : List (ℕ × Entry)). HasRoomFor b.stands b.holds b.has_room b.edits (edits_of ws)
          c.args.book.now c.args.land.now c.args.disk.now) is c.requires.room;
    }

pub returns-clause-flushed : goal.returns-clause-flushed
returns-clause-flushed g c below holds =
    let es = c.self.inside.entries.entries in
    let after = c.make_entries.new in
    let made = c.in_ok-make_entries.ensures.made in
    let t = made.turned below holds in (
      t.0,
      t.1,
      subst (λ (ws : List (ℕ × Entry)). IsFlushed below t.0 ws) c.self.view_is
          (flush_made below t.0 es c.self.invariant
          (subst (λ (ws : List (ℕ × Entry)). Fits below ws) (sym c.self.view_is) (c.requires.fits below holds))
          (g.met.B.RecordBook.sound after.book after.land after.disk t.0 made.stood t.1) t.2),
    )
