-- The command, as its parts are put together.
use Rattle.std.proofs.Common.{◌≡◌, ◌∙◌, false, refl, ap, ap₂}
use Rattle.clap.specs.Built.{AddsArg, AddsSubcommand}
use Rattle.clap.specs.Simple.{App, with_rule, with_subcommand}
use Rattle.clap.specs.Walk.{Rule, rule_of}
use Rattle.clap.specs.declared.builder.arg.Arg.{Arg}
use Rattle.clap.specs.declared.builder.command.Command.{Command}
use Rattle.qg_words.specs.Command.{ReadsAs}

-- an argument more
pub with-number : {app : App} {rule : Rule} {old new : Command} {arg : Arg} → ReadsAs app old → rule_of arg ≡ rule
    → arg.global ≡ false → AddsArg old arg new → ReadsAs (with_rule app rule) new
with-number reads is local added = record {
  read = added.shape local ∙ ap₂ with_rule reads.read is;
  local = added.globals ∙ rw (reads.local, local) refl;
}

-- a subcommand more
pub with-form : {app form : App} {old sub new : Command} → ReadsAs app old → ReadsAs form sub
    → AddsSubcommand old sub new → ReadsAs (with_subcommand app form.top) new
with-form {app} {form} reads sub added = record {
  read = added.shape sub.local ∙ ap₂ with_subcommand reads.read (ap (λ (a : App). a.top) sub.read);
  local = added.globals ∙ rw (reads.local, sub.local) refl;
}
