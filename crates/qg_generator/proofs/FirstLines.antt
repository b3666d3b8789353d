-- The five lines that come first are lines of the grammar.
use Rattle.std.proofs.Common.{ℕ, ◌<◌, ◌^◌, refl}
use Rattle.qg_num.specs.declared.command.Command.TheVariants.{GroupCreate, Assign}
use Rattle.qg_grammar.specs.ScriptText.{IsLineOf, command_text, is_in_grammar, is_word}
use Rattle.std.proofs.lemmas.Bool.{and_from, lt-ltb}
use Rattle.qg_generator.proofs.Short.{assign-short, create-short}

pub create-line : (group : ℕ) → group < 2 ^ 64 → IsLineOf (command_text (GroupCreate group)) (GroupCreate group)
unfolding is_in_grammar
create-line group below = record {
  text = refl;
  in_grammar = lt-ltb group (2 ^ 64) below;
  short = create-short group below;
}

pub assign-line : (member parent : ℕ) → member < 2 ^ 64 → parent < 2 ^ 64
    → IsLineOf (command_text (Assign member parent)) (Assign member parent)
unfolding is_in_grammar
assign-line member parent below below' = record {
  text = refl;
  in_grammar = and_from (is_word member) (is_word parent) (lt-ltb member (2 ^ 64) below)
      (lt-ltb parent (2 ^ 64) below');
  short = assign-short member parent below below';
}
