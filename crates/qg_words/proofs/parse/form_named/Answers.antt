use Rattle.std.proofs.Common.{sym, ◌∙◌}
use Rattle.std.proofs.lemmas.Bool.{false≢true}
use Rattle.qg_words.proofs.FormsOfMatches.{check-told, lines-told, run-told, sizes-told}
use Rattle.qg_words.proofs.parse.form_named.Goals as goal

pub returns-then-is_text : goal.returns-then-is_text
returns-then-is_text c = λ form tell. run-told _ _ form (c.is_text.ensures.0 c.if-is_text.true) tell

pub returns-then-is_text-2 : goal.returns-then-is_text-2
returns-then-is_text-2 c = λ form tell. check-told _ _ form (c.is_text-2.ensures.0 c.if-is_text-2.true) tell

pub returns-then-is_text-3 : goal.returns-then-is_text-3
returns-then-is_text-3 c = λ form tell. lines-told _ _ form _ _ (c.is_text-3.ensures.0 c.if-is_text-3.true)
    (λ seed count told. (c.number_of-seed.ensures seed told.first, c.number_of-count.ensures count told.second)) tell

pub returns : goal.returns
returns c = λ form tell. sizes-told _ _ form _
    (λ run. false≢true (sym c.if-is_text.false ∙ c.is_text.ensures.1 run))
    (λ check. false≢true (sym c.if-is_text-2.false ∙ c.is_text-2.ensures.1 check))
    (λ lines. false≢true (sym c.if-is_text-3.false ∙ c.is_text-3.ensures.1 lines))
    c.sizes_of.ensures tell
