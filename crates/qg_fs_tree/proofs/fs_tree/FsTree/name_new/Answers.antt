use Rattle.std.proofs.Common.{◌≡◌, ◌*◌, ◌/◌, ℕ, true, None, arith, refl, sym, ap, subst, ◌∙◌}
use Rattle.std.specs.Prelude.{◌++◌, IsTrue, List, length}
use Rattle.std.proofs.lemmas.Bool.{true≢false}
use Rattle.qg_items.specs.declared.extent.Reference.{Reference}
use Rattle.qg_super.specs.Places.{sector}
use Rattle.qg_image.specs.declared.element.Element.{Element}
use Rattle.qg_refs.specs.declared.kept.Kept.{Kept}
use Rattle.qg_refs.specs.declared.kept.What.{What}
use Rattle.qg_refs.specs.Book.{Adds, full_in, references_at}
use Rattle.qg_space.specs.Holding.{Holding, free_slots, is_free_run, with_run}
use Rattle.qg_extents.specs.Table.{IsTable, book_of}
use Rattle.qg_tree_backrefs.specs.Weight.{reference_bytes}
use Rattle.qg_fs_tree.proofs.Heavier.{heavier-new}
use Rattle.qg_fs_tree.proofs.Kept.{slots-runs, subvolume-space}
use Rattle.qg_fs_tree.proofs.Named.{Stands-new, free-run, none-named, room-new, unknown-new, whole-bytes}
use Rattle.qg_fs_tree.proofs.fs_tree.FsTree.name_new.Goals as goal

-- the run is of whole sectors
whole : (space : Holding) (at bytes : ℕ) → is_free_run space at bytes ≡ true → bytes / sector * sector ≡ bytes
whole space at bytes free = whole-bytes space.sizes at bytes
    (free-run space.sizes (space.runs ++ space.held_runs) at bytes free)

pub returns-then-how_many-ne0-clause-sound : goal.returns-then-how_many-ne0-clause-sound
returns-then-how_many-ne0-clause-sound c history bytes items names subvolume stands =
    let fs = c.args.self.now in
    let piece = c.args.piece.now in
    let table = subst (λ (refs : List (ℕ × Kept)). IsTable refs) c.refs.ensures c.len-ascending.ensures.table in
    let none = none-named fs history items subvolume.editable.drafted c.args.ino piece names stands c.requires.free
    table in
    let many = c.how_many.ensures ∙ ap (λ (refs : List (ℕ × Kept)). length (references_at (book_of refs) piece.extent))
    c.refs-2.ensures in
    let some = c.if-how_many-ne0.true in
    absurd (some (omega (arith, none, many)))

pub take_run-requires : goal.take_run-requires
take_run-requires c =
    let space = c.args.self.now.land.space in
    let piece = c.args.piece.now in
    subst (λ (n : ℕ). IsTrue (is_free_run space piece.extent n))
    (sym (whole space piece.extent piece.extent_bytes c.requires.free)) c.requires.free

pub returns-in_err-name-clause-subvolume : goal.returns-in_err-name-clause-subvolume
returns-in_err-name-clause-subvolume c history bytes subvolume =
    subvolume-space c.args.self.now c.take_run.new.self _ c.name.new.self history bytes c.in_ok-take_run.ensures.ok
    subvolume

pub returns-in_err-name-clause-slots : goal.returns-in_err-name-clause-slots
returns-in_err-name-clause-slots c = ap free_slots c.in_ok-take_run.ensures.ok ∙ slots-runs c.args.self.now.land.space _

pub returns-then-not-branch-clause-sound : goal.returns-then-not-branch-clause-sound
returns-then-not-branch-clause-sound c history bytes items names subvolume stands =
    let fs = c.args.self.now in
    let piece = c.args.piece.now in
    let room = room-new fs history items subvolume.editable.drafted c.args.ino piece names stands c.requires.free
    c.reference_of-reference.result c.reference_of-reference.ensures in
    absurd (true≢false (sym room ∙ sym c.in_ok-name.ensures.room ∙ c.if-not-branch.true))

pub returns-then-not-branch-clause-subvolume : goal.returns-then-not-branch-clause-subvolume
returns-then-not-branch-clause-subvolume c history bytes subvolume =
    subvolume-space c.args.self.now c.take_run.new.self _ c.name.new.self history bytes c.in_ok-take_run.ensures.ok
    subvolume

pub returns-then-not-branch-clause-slots : goal.returns-then-not-branch-clause-slots
returns-then-not-branch-clause-slots c = ap free_slots c.in_ok-take_run.ensures.ok
    ∙ slots-runs c.args.self.now.land.space _

pub returns-clause-named : goal.returns-clause-named
returns-clause-named c history bytes items names subvolume stands =
    let fs = c.args.self.now in
    let piece = c.args.piece.now in
    let drafted = subvolume.editable.drafted in
    let table = subst (λ (refs : List (ℕ × Kept)). IsTable refs) c.refs.ensures c.len-ascending.ensures.table in
    let what : What = record { bytes = piece.extent_bytes; level = None; generation = fs.refs.next } in
    let adds = subst (λ (r : Reference). Adds (book_of fs.refs.refs) (book_of c.name.new.self.refs) piece.extent what
    r) c.reference_of-reference.ensures
    (c.in_ok-name.ensures.given c.if-not-branch.false) in
    let runs = ap (λ (h : Holding). h.runs) c.in_ok-take_run.ensures.ok
    ∙ ap (λ (n : ℕ). with_run (record { address = piece.extent; bytes = n }) fs.land.space.runs)
    (whole fs.land.space piece.extent piece.extent_bytes c.requires.free) in
    Stands-new fs history items drafted c.args.ino piece names stands c.requires.free
    (record fs { land = record fs.land { space = c.take_run.new.self }; refs = c.name.new.self })
    (record {
      tree = refl;
      others = refl;
      land = ap (λ (h : Holding). record fs.land { space = h })
          (c.in_ok-take_run.ensures.ok ∙ ap (λ (rs : List Element). record fs.land.space { runs = rs })
          (sym (ap (λ (h : Holding). h.runs) c.in_ok-take_run.ensures.ok)));
      refs = c.name.ensures.others;
    }) what adds fs.refs.next refl (omega (arith, stands.book.next))
    (unknown-new fs history items drafted c.args.ino piece names stands c.requires.free table) runs

pub returns-clause-subvolume : goal.returns-clause-subvolume
returns-clause-subvolume c history bytes subvolume =
    subvolume-space c.args.self.now c.take_run.new.self _ c.name.new.self history bytes c.in_ok-take_run.ensures.ok
    subvolume

pub returns-clause-slots : goal.returns-clause-slots
returns-clause-slots c = ap free_slots c.in_ok-take_run.ensures.ok ∙ slots-runs c.args.self.now.land.space _

pub returns-clause-marks : goal.returns-clause-marks
returns-clause-marks c q other =
    ap full_in ((c.in_ok-name.ensures.given c.if-not-branch.false).elsewhere q other)

pub returns-clause-heavier : goal.returns-clause-heavier
returns-clause-heavier c =
    let fs = c.args.self.now in
    let piece = c.args.piece.now in
    let table = subst (λ (refs : List (ℕ × Kept)). IsTable refs) c.refs.ensures c.len-ascending.ensures.table in
    let later = subst (λ (refs : List (ℕ × Kept)). IsTable refs) c.refs-3.ensures c.len-ascending_still.ensures.table in
    let what : What = record { bytes = piece.extent_bytes; level = None; generation = fs.refs.next } in
    heavier-new fs.refs c.name.new.self piece.extent c.reference_of-reference.result table later c.name.ensures.others
    what (c.in_ok-name.ensures.given c.if-not-branch.false)
    (ap (λ (r : Reference). reference_bytes r) c.reference_of-reference.ensures)
