-- What is said of an image that is not sound (this project's own): one line, the first rule that is broken, or the
-- first stored counter that is not the direct count.
use Rattle.std.specs.Prelude.{ℕ, List, ◌++◌, codes}
use Rattle.qg_num.specs.declared.counters.Which.{Which}
use Rattle.qg_num.specs.declared.rule.Rule.{Rule}
use Rattle.qg_num.specs.declared.rule.Rule.TheVariants as rule
use Rattle.qg_grammar.specs.ScriptText.{then_number, then_word, then_group, which_text}
use Rattle.qg_grammar.specs.ReplyText.{line}

-- the name of a rule
unfoldable pub rule_text : Rule → List ℕ
rule_text rule.Super = codes "super"
rule_text rule.Length = codes "length"
rule_text rule.Mirror = codes "mirror"
rule_text rule.Slot = codes "slot"
rule_text rule.Csum = codes "csum"
rule_text rule.Place = codes "place"
rule_text rule.Level = codes "level"
rule_text rule.Empty = codes "empty"
rule_text rule.Bounds = codes "bounds"
rule_text rule.Order = codes "order"
rule_text rule.Slack = codes "slack"
rule_text rule.Depth = codes "depth"
rule_text rule.Owner = codes "owner"
rule_text rule.Gen = codes "gen"
rule_text rule.Range = codes "range"
rule_text rule.Shape = codes "shape"
rule_text rule.Item = codes "item"
rule_text rule.Root = codes "root"
rule_text rule.Quota = codes "quota"
rule_text rule.Limits = codes "limits"
rule_text rule.File = codes "file"
rule_text rule.Space = codes "space"
rule_text rule.Refs = codes "refs"
rule_text rule.Home = codes "home"

-- a rule is broken at an address, in bytes
abbrev pub broken_text : Rule → ℕ → List ℕ
broken_text broken address = line (codes "broken" ++ then_word (rule_text broken) ++ then_number address)

-- a group's stored counter differs from the direct count, both in bytes
abbrev pub differs_text : ℕ → Which → ℕ → ℕ → List ℕ
differs_text group which stored counted =
    line (codes "differs" ++ then_group group ++ then_word (which_text which) ++ then_number stored
    ++ then_number counted)
