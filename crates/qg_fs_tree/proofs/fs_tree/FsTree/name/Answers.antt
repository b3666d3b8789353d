use Rattle.std.proofs.Common.{ℕ, ◌<◌, None, arith, refl, sym, ap, subst, ◌∙◌}
use Rattle.std.specs.Prelude.{List, length}
use Rattle.std.proofs.lemmas.Bool.{true≢false}
use Rattle.qg_items.specs.declared.extent.Reference.{Reference}
use Rattle.qg_refs.specs.declared.kept.Kept.{Kept}
use Rattle.qg_refs.specs.declared.kept.What.{What}
use Rattle.qg_refs.specs.Book.{Adds, full_in, references_at}
use Rattle.qg_extents.specs.Table.{IsTable, book_of}
use Rattle.qg_tree_backrefs.specs.Weight.{reference_bytes}
use Rattle.qg_fs_tree.proofs.Heavier.{heavier-named}
use Rattle.qg_fs_tree.proofs.Named.{Stands-named, room-named, some-named, taken-named}
use Rattle.qg_fs_tree.proofs.fs_tree.FsTree.name.Goals as goal
use Rattle.qg_fs_tree.proofs.fs_tree.FsTree.name.Goals.{then-how_many-eq0-via-then-how_many-eq0}
use Rattle.qg_fs_tree.proofs.fs_tree.FsTree.name.Goals.{then-how_many-eq0-via-else-how_many-eq0+then-not-is_taken}

pub returns-then-how_many-eq0-clause-sound : goal.returns-then-how_many-eq0-clause-sound
returns-then-how_many-eq0-clause-sound c history bytes items names subvolume stands among few =
    let fs = c.args.self.now in
    let piece = c.args.piece.now in
    let drafted = subvolume.editable.drafted in
    absurd (elim c.then-how_many-eq0.branch [
      | then-how_many-eq0-via-then-how_many-eq0 w ↦
          let some = some-named fs history items drafted c.args.ino piece names stands among in
          let many = c.how_many.ensures
          ∙ ap (λ (refs : List (ℕ × Kept)). length (references_at (book_of refs) piece.extent)) c.refs-2.ensures in
          let none = w.if-how_many-eq0.true in
          omega (arith, some, many, none)
      | then-how_many-eq0-via-else-how_many-eq0+then-not-is_taken w ↦
          true≢false (sym (taken-named fs history items drafted c.args.ino piece names stands among)
          ∙ sym w.is_taken.ensures ∙ w.if-not-is_taken.true)
    ])

pub returns-then-not-branch-clause-sound : goal.returns-then-not-branch-clause-sound
returns-then-not-branch-clause-sound c history bytes items names subvolume stands among few =
    let room = room-named c.args.self.now history items subvolume.editable.drafted c.args.ino c.args.piece.now names
    stands among few c.reference_of-reference.result c.reference_of-reference.ensures in
    absurd (true≢false (sym room ∙ sym c.in_ok-name.ensures.room ∙ c.if-not-branch.true))

pub returns-clause-named : goal.returns-clause-named
returns-clause-named c history bytes items names subvolume stands among few =
    let fs = c.args.self.now in
    let piece = c.args.piece.now in
    let what : What = record { bytes = piece.extent_bytes; level = None; generation = fs.refs.next } in
    let adds = subst (λ (r : Reference). Adds (book_of fs.refs.refs) (book_of c.name.new.self.refs) piece.extent what
    r) c.reference_of-reference.ensures
    (c.in_ok-name.ensures.given c.if-not-branch.false) in
    Stands-named fs history items subvolume.editable.drafted c.args.ino piece names stands among
    (record fs { refs = c.name.new.self })
    (record { tree = refl; others = refl; land = refl; refs = c.name.ensures.others }) what adds refl few

pub returns-clause-marks : goal.returns-clause-marks
returns-clause-marks c q other =
    ap full_in ((c.in_ok-name.ensures.given c.if-not-branch.false).elsewhere q other)

pub returns-clause-heavier : goal.returns-clause-heavier
returns-clause-heavier c =
    let fs = c.args.self.now in
    let piece = c.args.piece.now in
    let table = subst (λ (refs : List (ℕ × Kept)). IsTable refs) c.refs.ensures c.len-ascending.ensures.table in
    let later = subst (λ (refs : List (ℕ × Kept)). IsTable refs) c.refs-3.ensures c.len-ascending_still.ensures.table in
    let what : What = record { bytes = piece.extent_bytes; level = None; generation = fs.refs.next } in
    let many = c.how_many.ensures
    ∙ ap (λ (refs : List (ℕ × Kept)). length (references_at (book_of refs) piece.extent)) c.refs-2.ensures in
    let differs = c.if-how_many-eq0.false in
    let some : 0 < length (references_at (book_of fs.refs.refs) piece.extent) = omega (arith, many, differs) in
    heavier-named fs.refs c.name.new.self piece.extent c.reference_of-reference.result table later
    c.name.ensures.others what (c.in_ok-name.ensures.given c.if-not-branch.false)
    (ap (λ (r : Reference). reference_bytes r) c.reference_of-reference.ensures) some
