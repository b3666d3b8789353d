use Rattle.std.proofs.Common.{◌≡◌, true, false, ◌++◌, Option, sym, subst, refl, ◌∙◌}
use Rattle.qg_image.specs.FilesOf.{are_files}
use Rattle.qg_tree_items.specs.Rows.{AreOfNoFiles, HasEnds, IsLast, IsToldOf}
use Rattle.qg_tree_items.specs.declared.last.LastFile.{LastFile}
use Rattle.qg_tree_items.specs.declared.row.Ends.{Ends}
use Rattle.qg_tree_items.proofs.Rows.{join_apart, join_broken, join_files, join_pieces, middle, middle_told}
use Rattle.qg_tree_items.proofs.row.Ends.joined.Goals as goal

pub returns-in_err-last : goal.returns-in_err-last
returns-in_err-last c xs ys ahead after ascends =
    let front = c.args.self.now in
    let behind = c.args.behind.now in
    let last = c.in-Some.last in
    let told = middle_told front behind last xs ys ahead after c.in-Some.is c.joined.result c.joined.ensures in
    let none : AreOfNoFiles (middle front behind last xs ys ahead after c.in-Some.is) =
    subst (λ (file : Option LastFile). IsToldOf IsLast file (middle front behind last xs ys ahead after c.in-Some.is))
    c.in_err-last.was told in
    subst (λ (ends : Option Ends). IsToldOf HasEnds ends (xs ++ ys)) (sym c.from_residual.ensures)
    (join_apart front behind last xs ys ahead after c.in-Some.is none)

pub returns-in_default-last : goal.returns-in_default-last
returns-in_default-last c xs ys ahead after ascends =
    let front = c.args.self.now in
    let behind = c.args.behind.now in
    let last = c.in-Some.last in
    let told = middle_told front behind last xs ys ahead after c.in-Some.is c.joined.result c.joined.ensures in
    let still : IsLast c.in_ok-last.last (middle front behind last xs ys ahead after c.in-Some.is) =
    subst (λ (file : Option LastFile). IsToldOf IsLast file (middle front behind last xs ys ahead after c.in-Some.is))
    c.in_ok-last.was told in
    join_pieces front behind last xs ys ahead after c.in-Some.is _ c.in_ok-last.last c.in_default-last.is still refl
    refl

pub returns-then-is_whole : goal.returns-then-is_whole
returns-then-is_whole c xs ys ahead after ascends =
    let front = c.args.self.now in
    let behind = c.args.behind.now in
    let last = c.in-Some.last in
    let told = middle_told front behind last xs ys ahead after c.in-Some.is c.joined.result c.joined.ensures in
    let still : IsLast c.in_ok-last.last (middle front behind last xs ys ahead after c.in-Some.is) =
    subst (λ (file : Option LastFile). IsToldOf IsLast file (middle front behind last xs ys ahead after c.in-Some.is))
    c.in_ok-last.was told in
    let sound : are_files (middle front behind last xs ys ahead after c.in-Some.is) ≡ true =
    sym (c.is_whole.ensures _ still) ∙ c.if-is_whole.true in
    join_files front behind last xs ys ahead after c.in-Some.is c.in_ok-last.last c.in-Some-last.next c.in-Some-last.is
    still ascends _ sound refl refl

pub returns-else-is_whole : goal.returns-else-is_whole
returns-else-is_whole c xs ys ahead after ascends =
    let front = c.args.self.now in
    let behind = c.args.behind.now in
    let last = c.in-Some.last in
    let told = middle_told front behind last xs ys ahead after c.in-Some.is c.joined.result c.joined.ensures in
    let still : IsLast c.in_ok-last.last (middle front behind last xs ys ahead after c.in-Some.is) =
    subst (λ (file : Option LastFile). IsToldOf IsLast file (middle front behind last xs ys ahead after c.in-Some.is))
    c.in_ok-last.was told in
    let broken : are_files (middle front behind last xs ys ahead after c.in-Some.is) ≡ false =
    sym (c.is_whole.ensures _ still) ∙ c.if-is_whole.false in
    join_broken front behind last xs ys ahead after c.in-Some.is c.in_ok-last.last c.in-Some-last.next
    c.in-Some-last.is still ascends broken
