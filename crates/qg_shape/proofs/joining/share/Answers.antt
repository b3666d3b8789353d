use Rattle.std.proofs.Common.{◌≡◌, ℕ, ◌++◌, ◌∙◌, List, Result, Ok, Err, take, drop, ap, sym, append_assoc}
use Rattle.std.proofs.lemmas.List.{take-append-drop}
use Rattle.std.specs.Prelude.{OnOk}
use Rattle.qg_num.specs.declared.fault.NoMemory.{NoMemory}
use Rattle.qg_shape.proofs.joining.share.Goals as goal

-- what moved on is put in front
moved_right : {A : Type 0} (index : ℕ) (left right new_left new_right : List A) (moved : Result (Unit {0}) NoMemory)
    → OnOk moved (new_left ≡ take index left) → OnOk moved (new_right ≡ drop index left ++ right)
    → OnOk moved (new_left ++ new_right ≡ left ++ right)
moved_right {A} index left right new_left new_right (Ok _) kept put =
    rw (kept, put) (sym (append_assoc (take index left) (drop index left) right)
    ∙ ap (λ (all : List A). all ++ right) (take-append-drop index left))
moved_right index left right new_left new_right (Err e) kept put = kept

pub returns-then-aim-first-clause-whole : goal.returns-then-aim-first-clause-whole
returns-then-aim-first-clause-whole g c =
    moved_right c.nearest_front-count.result c.args.left.now c.args.right.now c.move_right.new.left
    c.move_right.new.right c.move_right.result c.move_right.ensures.kept c.move_right.ensures.moved
