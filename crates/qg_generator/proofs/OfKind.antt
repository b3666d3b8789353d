-- The line of each kind.
use Rattle.std.proofs.Common.{◌≡◌, ℕ, ◌<◌, ◌≤◌, refl, sym}
use Rattle.std.proofs.lemmas.Bool.{lt-ltb, le-ltb}
use Rattle.qg_num.specs.declared.command.Command.TheVariants.{Commit}
use Rattle.qg_generator.specs.GeneratedScript.{Drawn, drawn_on, draw, write_drawn, clone_drawn, truncate_drawn}
use Rattle.qg_generator.specs.GeneratedScript.{unlink_drawn, snap_drawn, delete_drawn, assign_drawn, limit_drawn}
use Rattle.qg_generator.specs.GeneratedScript.{line_of_kind, line_drawn}

-- a line is that of its kind, from the state behind the draw of the kind
pub of_kind :
    (before kind state : ℕ) {line : Drawn} → kind ≡ draw 16 before → state ≡ drawn_on before
    → line_of_kind kind state ≡ line → line_drawn before ≡ line
unfolding line_drawn
of_kind before kind state kind_is state_is line_is = rw (sym kind_is) (rw (sym state_is) line_is)

pub kind-write : (kind state : ℕ) → kind < 7 → line_of_kind kind state ≡ write_drawn state
unfolding line_of_kind
kind-write kind state below = rw (lt-ltb kind 7 below) refl

pub kind-clone : (kind state : ℕ) → 7 ≤ kind → kind < 9 → line_of_kind kind state ≡ clone_drawn state
unfolding line_of_kind
kind-clone kind state above below = rw (le-ltb kind 7 above) (rw (lt-ltb kind 9 below) refl)

pub kind-truncate : (kind state : ℕ) → kind ≡ 9 → line_of_kind kind state ≡ truncate_drawn state
unfolding line_of_kind
kind-truncate kind state is = rw is refl

pub kind-unlink : (kind state : ℕ) → kind ≡ 10 → line_of_kind kind state ≡ unlink_drawn state
unfolding line_of_kind
kind-unlink kind state is = rw is refl

pub kind-snap : (kind state : ℕ) → kind ≡ 11 → line_of_kind kind state ≡ snap_drawn state
unfolding line_of_kind
kind-snap kind state is = rw is refl

pub kind-delete : (kind state : ℕ) → kind ≡ 12 → line_of_kind kind state ≡ delete_drawn state
unfolding line_of_kind
kind-delete kind state is = rw is refl

pub kind-assign : (kind state : ℕ) → kind ≡ 13 → line_of_kind kind state ≡ assign_drawn state
unfolding line_of_kind
kind-assign kind state is = rw is refl

pub kind-limit : (kind state : ℕ) → kind ≡ 14 → line_of_kind kind state ≡ limit_drawn state
unfolding line_of_kind
kind-limit kind state is = rw is refl

pub kind-commit : (kind state : ℕ) → kind ≡ 15 → line_of_kind kind state ≡ record { command = Commit; behind = state }
unfolding line_of_kind
kind-commit kind state is = rw is refl
