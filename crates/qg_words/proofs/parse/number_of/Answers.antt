use Rattle.std.proofs.Common.{◌≡◌, ◌∙◌, ℕ, Option, Some, ap}
use Rattle.std.specs.Prelude.{unwrap_or}
use Rattle.std.specs.Fmt.{decimal}
use Rattle.std.specs.Str.Parse.{ParsesUnsigned, ExplainsUnsignedError, HasUnsignedDigitsIfOk}
use Rattle.clap.specs.Matches.{found_of, one_text}
use Rattle.clap.proofs.WalkLemmas.{one_text-rows}
use Rattle.qg_words.proofs.FormsOfMatches.{number-read}
use Rattle.qg_words.proofs.parse.number_of.Goals as goal

pub returns : goal.returns
returns c = λ number tell.
    let text : one_text (found_of c.args.matches.now) c.args.name.now ≡ Some (decimal number) =
    one_text-rows (found_of c.args.matches.now) c.args.name.now ∙ tell.is in
    let read : c.get_one.result ≡ Some number = number-read
    (λ bs r. ParsesUnsigned 64 10 bs r × ExplainsUnsignedError 10 bs r × HasUnsignedDigitsIfOk bs r)
    (λ bs r gives. gives.0) c.get_one.result number tell.fits (c.get_one.ensures.value (decimal number) text) in
    c.unwrap_or.ensures ∙ ap (λ (found : Option ℕ). unwrap_or found 0) read
