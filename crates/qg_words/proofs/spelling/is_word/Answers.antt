use Rattle.std.proofs.Common.{◌≡◌, ℕ, List, [], ◌∷◌, ap, ◌∙◌}
use Rattle.qg_words.specs.Words.{texts}
use Rattle.qg_words.proofs.FourWords.{one_text}
use Rattle.qg_words.proofs.spelling.is_word.Goals as goal

pub returns-in-len1 : goal.returns-in-len1
returns-in-len1 c =
    let are : texts c.args.words.now ≡ c.as_str.result.now ∷ [] =
    one_text {a = c.word-item.result} c.in-len1.len_at_least c.in-len1.len_below
    (record { stands = c.word-item.is; text_is = c.as_str.ensures.value }) in (
      λ is. are ∙ ap (λ (text : List ℕ). text ∷ []) (c.is_text.ensures.0 is),
      λ same. let first : c.as_str.result.now ≡ c.args.name.now = cc in c.is_text.ensures.1 first,
    )
