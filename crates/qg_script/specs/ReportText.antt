-- What is said of a sound image, and of a run of the generator's lines (this project's own). Each is one line.
use Rattle.std.specs.Prelude.{ℕ, List, ◌++◌, codes}
use Rattle.qg_grammar.specs.ScriptText.{then_number}
use Rattle.qg_grammar.specs.ReplyText.{line}

-- an image is sound, with this generation
abbrev pub sound_text : ℕ → List ℕ
sound_text generation = line (codes "sound" ++ then_number generation)

-- so many lines were drawn; so many lines were done, and so many refused
abbrev pub summary_text : ℕ → ℕ → ℕ → List ℕ
summary_text count done refused = line (codes "gen" ++ then_number count ++ then_number done ++ then_number refused)
