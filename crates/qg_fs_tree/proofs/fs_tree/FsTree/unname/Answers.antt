use Rattle.std.proofs.Common.{◌≡◌, ℕ, arith, refl, sym, ap, subst, ◌∙◌}
use Rattle.std.specs.Prelude.{List, length, nat_lt}
use Rattle.std.proofs.lemmas.Bool.{lt-ltb, true≢false}
use Rattle.qg_items.specs.declared.extent.Reference.{Reference}
use Rattle.qg_image.specs.declared.element.Element.{Element}
use Rattle.qg_refs.specs.declared.kept.Kept.{Kept}
use Rattle.qg_refs.specs.Book.{Drops, count_at, full_in, references_at}
use Rattle.qg_space.specs.Holding.{Holding, free_slots, without_run}
use Rattle.qg_extents.specs.Table.{IsTable, book_of}
use Rattle.qg_fs_tree.proofs.Heavier.{heavier-unnamed}
use Rattle.qg_fs_tree.proofs.Kept.{slots-runs, subvolume-space}
use Rattle.qg_fs_tree.proofs.Named.{Stands-gone, Stands-left, taken-own, there-own, whole-own}
use Rattle.qg_fs_tree.proofs.fs_tree.FsTree.unname.Goals as goal

pub returns-then-not-unname-clause-sound : goal.returns-then-not-unname-clause-sound
returns-then-not-unname-clause-sound c history bytes items names subvolume stands covered =
    let fs = c.args.self.now in
    let piece = c.args.piece.now in
    let some = there-own fs history items subvolume.editable.drafted c.args.ino piece names stands covered in
    let there = subst (λ (r : Reference). c.unname.result ≡ nat_lt 0 (count_at (book_of fs.refs.refs) piece.extent r))
    c.reference_of-reference.ensures c.unname.ensures.there in
    absurd (true≢false (sym (lt-ltb 0 _ some) ∙ sym there ∙ c.if-not-unname.true))

pub returns-then-how_many-gt0-clause-unnamed : goal.returns-then-how_many-gt0-clause-unnamed
returns-then-how_many-gt0-clause-unnamed c history bytes items names subvolume stands covered =
    let fs = c.args.self.now in
    let piece = c.args.piece.now in
    let table_left = subst (λ (refs : List (ℕ × Kept)). IsTable refs) c.refs-2.ensures
    c.len-ascending_still.ensures.table in
    let drops = subst (λ (r : Reference). Drops (book_of fs.refs.refs) (book_of c.unname.new.self.refs) piece.extent r)
    c.reference_of-reference.ensures
    (c.unname.ensures.taken c.if-not-unname.false) in
    let many = c.how_many.ensures ∙ ap (λ (refs : List (ℕ × Kept)). length (references_at (book_of refs) piece.extent))
    c.refs-3.ensures in
    let some = c.if-how_many-gt0.true in
    Stands-left fs history items subvolume.editable.drafted c.args.ino piece names stands
    covered (record fs { refs = c.unname.new.self })
    (record { tree = refl; others = refl; land = refl; refs = c.unname.ensures.others }) drops table_left.book.sound
    (omega (arith, many, some)) refl

pub returns-then-not-is_taken-clause-sound : goal.returns-then-not-is_taken-clause-sound
returns-then-not-is_taken-clause-sound c history bytes items names subvolume stands covered =
    let fs = c.args.self.now in
    let piece = c.args.piece.now in
    absurd (true≢false (sym (taken-own fs history items subvolume.editable.drafted c.args.ino piece names stands)
    ∙ sym c.is_taken.ensures ∙ c.if-not-is_taken.true))

pub returns-clause-unnamed : goal.returns-clause-unnamed
returns-clause-unnamed c history bytes items names subvolume stands covered =
    let fs = c.args.self.now in
    let piece = c.args.piece.now in
    let drafted = subvolume.editable.drafted in
    let drops = subst (λ (r : Reference). Drops (book_of fs.refs.refs) (book_of c.unname.new.self.refs) piece.extent r)
    c.reference_of-reference.ensures
    (c.unname.ensures.taken c.if-not-unname.false) in
    let many = c.how_many.ensures ∙ ap (λ (refs : List (ℕ × Kept)). length (references_at (book_of refs) piece.extent))
    c.refs-3.ensures in
    let none = c.if-how_many-gt0.false in
    let runs = ap (λ (h : Holding). h.runs) c.give_run.ensures
    ∙ ap (λ (n : ℕ). without_run piece.extent n fs.land.space.runs)
    (whole-own fs history items drafted c.args.ino piece names stands) in
    Stands-gone fs history items drafted c.args.ino piece names stands covered
    (record fs { land = record fs.land { space = c.give_run.new.self }; refs = c.unname.new.self })
    (record {
      tree = refl;
      others = refl;
      land = ap (λ (h : Holding). record fs.land { space = h })
          (c.give_run.ensures ∙ ap (λ (rs : List Element). record fs.land.space { runs = rs })
          (sym (ap (λ (h : Holding). h.runs) c.give_run.ensures)));
      refs = c.unname.ensures.others;
    }) drops (omega (arith, many, none)) runs

pub returns-clause-subvolume : goal.returns-clause-subvolume
returns-clause-subvolume c history bytes subvolume =
    subvolume-space c.args.self.now c.give_run.new.self _ c.unname.new.self history bytes c.give_run.ensures subvolume

pub returns-clause-slots : goal.returns-clause-slots
returns-clause-slots c = ap free_slots c.give_run.ensures ∙ slots-runs c.args.self.now.land.space _

pub returns-then-how_many-gt0-clause-marks : goal.returns-then-how_many-gt0-clause-marks
returns-then-how_many-gt0-clause-marks c q other =
    ap full_in ((c.unname.ensures.taken c.if-not-unname.false).elsewhere q other)

pub returns-clause-marks : goal.returns-clause-marks
returns-clause-marks c q other =
    ap full_in ((c.unname.ensures.taken c.if-not-unname.false).elsewhere q other)

pub returns-then-how_many-gt0-clause-heavier : goal.returns-then-how_many-gt0-clause-heavier
returns-then-how_many-gt0-clause-heavier c =
    let fs = c.args.self.now in
    let table = subst (λ (refs : List (ℕ × Kept)). IsTable refs) c.refs.ensures c.len-ascending.ensures.table in
    let later = subst (λ (refs : List (ℕ × Kept)). IsTable refs) c.refs-2.ensures c.len-ascending_still.ensures.table in
    heavier-unnamed fs.refs c.unname.new.self c.args.piece.now.extent c.reference_of-reference.result table later
    c.unname.ensures.others (c.unname.ensures.taken c.if-not-unname.false)

pub returns-clause-heavier : goal.returns-clause-heavier
returns-clause-heavier c =
    let fs = c.args.self.now in
    let table = subst (λ (refs : List (ℕ × Kept)). IsTable refs) c.refs.ensures c.len-ascending.ensures.table in
    let later = subst (λ (refs : List (ℕ × Kept)). IsTable refs) c.refs-2.ensures c.len-ascending_still.ensures.table in
    heavier-unnamed fs.refs c.unname.new.self c.args.piece.now.extent c.reference_of-reference.result table later
    c.unname.ensures.others (c.unname.ensures.taken c.if-not-unname.false)
