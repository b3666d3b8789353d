use Rattle.std.proofs.Common.{◌≡◌, drop}
use Rattle.std.specs.Prelude.{string_bytes}
use Rattle.std.specs.List.{list_any}
use Rattle.qg_words.specs.Words.{begins_with_hyphen}
use Rattle.qg_words.proofs.spelling.has_option.Given as goal

abbrev pub invariant-loop-word : goal.invariant-loop-word
invariant-loop-word l =
    list_any (λ word. begins_with_hyphen (string_bytes word)) (drop l.word-index l.words)
    ≡ list_any (λ word. begins_with_hyphen (string_bytes word)) l.words
