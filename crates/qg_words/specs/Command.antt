-- What `clap` is told of a command line, and what it tells of one (this project's own).
use Rattle.std.specs.Prelude.{◌≡◌, ◌<◌, ◌^◌, ℕ, List, [], Option, Some, codes, true, false}
use Rattle.std.specs.Fmt.{decimal}
use Rattle.clap.specs.Walk.{Row, Rule, Text, one_of}
use Rattle.clap.specs.Simple.{App, app_of, new_app, new_rule, new_shape, with_rule, with_subcommand}
use Rattle.clap.specs.declared.builder.command.Command.{Command}
use Rattle.clap.specs.declared.builder.command.Command.TheViews.{out-Command}
use Rattle.clap.specs.declared.builder.value_parser.ValueParser.TheVariants as vp
use Rattle.qg_super.specs.declared.sizes.Sizes.{Sizes}
use Rattle.qg_words.specs.declared.form.Form.{Form}
use Rattle.qg_words.specs.declared.form.Form.TheVariants.{Mkfs, Run, Check, Generate}

-- a number that a form asks for, below 2^64
abbrev pub number_rule : Text → Rule
number_rule name =
    record (new_rule name) { required = true; parser = Some (vp.Unsigned 0 18446744073709551615) }

-- `mkfs` and its three numbers
abbrev pub mkfs_app : App
mkfs_app = with_rule (with_rule (with_rule (new_app (codes "mkfs")) (number_rule (codes "NODESIZE")))
    (number_rule (codes "SLOTS"))) (number_rule (codes "SECTORS"))

-- `gen` and its two numbers
abbrev pub generate_app : App
generate_app =
    with_rule (with_rule (new_app (codes "gen")) (number_rule (codes "SEED"))) (number_rule (codes "COUNT"))

-- a command that is nothing without a subcommand, with neither help nor version, and without the program's own name
abbrev pub bare_app : App
bare_app = record {
  top = record (new_shape (codes "qgfs")) {
    no_binary_name = true;
    disable_help_flag = true;
    disable_help_subcommand = true;
    disable_version_flag = true;
    subcommand_required = true;
  };
  subs = [];
}

-- the command whose subcommands are the four forms
abbrev pub line_app : App
line_app = with_subcommand (with_subcommand (with_subcommand (with_subcommand bare_app mkfs_app.top)
    (new_app (codes "run")).top) (new_app (codes "check")).top) generate_app.top

-- the command reads as this one, and none of its arguments is that of its subcommands too
pub record ReadsAs (app : App) (command : Command) : Type 0 where
  pub read : app_of command ≡ app
  pub local : (out-Command command).has_globals ≡ false

-- a number under a name, in its one text
pub record TellNumber (rows : List Row) (name : Text) (number : ℕ) : Type 0 where
  pub fits : number < 2 ^ 64
  pub is : one_of name rows ≡ Some (decimal number)

-- the numbers of sizes
pub record TellSizes (rows : List Row) (sizes : Sizes) : Type 0 where
  pub nodesize : TellNumber rows (codes "NODESIZE") sizes.nodesize
  pub slots : TellNumber rows (codes "SLOTS") sizes.slots
  pub sectors : TellNumber rows (codes "SECTORS") sizes.sectors

-- a seed and a count
pub record TellLines (rows : List Row) (seed count : ℕ) : Type 0 where
  pub first : TellNumber rows (codes "SEED") seed
  pub second : TellNumber rows (codes "COUNT") count

-- the name of a subcommand, and what was found for its numbers, are those of this form
abbrev pub Tell : Text → List Row → Form → Type 0
Tell name rows (Mkfs sizes) = (name ≡ codes "mkfs") × TellSizes rows sizes
Tell name rows Run = name ≡ codes "run"
Tell name rows Check = name ≡ codes "check"
Tell name rows (Generate seed count) = (name ≡ codes "gen") × TellLines rows seed count

-- a subcommand was met, and it is this form's
abbrev pub TellsForm : Option (Text × List Row) → Form → Type 0
TellsForm told form = (name : Text) × (rows : List Row) × (told ≡ Some (name, rows)) × Tell name rows form
