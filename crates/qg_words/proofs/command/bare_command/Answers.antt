use Rattle.std.proofs.Common.{◌≡◌, ◌∙◌, ap, true}
use Rattle.clap.specs.Simple.{App, app_of_fields}
use Rattle.clap.specs.declared.builder.command.Command.{Command}
use Rattle.clap.specs.declared.builder.command.Command.TheOpen.{Command-F}
use Rattle.clap.specs.declared.builder.command.Command.TheViews.{out-Command}
use Rattle.qg_words.proofs.command.bare_command.Goals as goal

-- the settings, one after the other
abbrev set : Command-F Command → Command-F Command
set f = record f {
  no_binary_name = true;
  disable_help_flag = true;
  disable_help_subcommand = true;
  disable_version_flag = true;
  subcommand_required = true;
}

pub returns : goal.returns
returns c =
    let fields : out-Command c.subcommand_required.result ≡ set (out-Command c.new.result) =
    c.subcommand_required.ensures
    ∙ ap (λ (f : Command-F Command). record f { subcommand_required = true }) (c.disable_version_flag.ensures
    ∙ ap (λ (f : Command-F Command). record f { disable_version_flag = true }) (c.disable_help_subcommand.ensures
    ∙ ap (λ (f : Command-F Command). record f { disable_help_subcommand = true }) (c.disable_help_flag.ensures
    ∙ ap (λ (f : Command-F Command). record f { disable_help_flag = true }) c.no_binary_name.ensures))) in
    record {
      read = ap app_of_fields fields ∙ ap (λ (a : App). record {
        top = record a.top {
          no_binary_name = true;
          disable_help_flag = true;
          disable_help_subcommand = true;
          disable_version_flag = true;
          subcommand_required = true;
        };
        subs = a.subs;
      }) c.new.ensures.app;
      local = ap (λ (f : Command-F Command). f.has_globals) fields ∙ c.new.ensures.local;
    }
