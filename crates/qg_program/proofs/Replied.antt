-- What was put so far: replies, and perhaps the line of a failure behind them.
use Rattle.std.proofs.Common.{◌≡◌, ℕ, List, [], ◌∷◌, ◌++◌, Option, sym, ap, ◌∙◌}
use Rattle.std.specs.List.{concat}
use Rattle.std.specs.Io.KnownBytes.{append_known}
use Rattle.std.proofs.lemmas.List.{append-nil}
use Rattle.std.proofs.lemmas.List.Elements.{All-append, All-cons, All-nil}
use Rattle.std.proofs.lemmas.List.Folds.{concat-append}
use Rattle.qg_image.specs.declared.failure.Failure.{Failure}
use Rattle.qg_program.specs.Putting.{IsReplyText, PutsFailure, PutsReplies, SaysFailure, TellsFailure, failure_text}
use Rattle.qg_program.proofs.Steps.{append_known-more, append_known-nil}

-- nothing
pub replies-none : (held : Option (List ℕ)) → PutsReplies held held
replies-none held = record { replies = []; told = All-nil IsReplyText; put = append_known-nil held }

-- one reply
pub replies-one : (old new : Option (List ℕ)) (reply : List ℕ) → IsReplyText reply → new ≡ append_known old reply
    → PutsReplies old new
replies-one old new reply is put = record {
  replies = reply ∷ [];
  told = All-cons IsReplyText reply [] is (All-nil IsReplyText);
  put = put ∙ ap (append_known old) (sym (append-nil reply));
}

-- some, and then more
pub replies-more : (old mid new : Option (List ℕ)) → PutsReplies old mid → PutsReplies mid new → PutsReplies old new
replies-more old mid new first then = record {
  replies = first.replies ++ then.replies;
  told = All-append IsReplyText first.replies then.replies first.told then.told;
  put = then.put ∙ ap (λ (told : Option (List ℕ)). append_known told (concat then.replies)) first.put
      ∙ append_known-more old (concat first.replies) (concat then.replies)
      ∙ ap (append_known old) (sym (concat-append first.replies then.replies));
}

-- the line of a failure alone
pub failure-alone : (old new : Option (List ℕ)) (text : List ℕ) → TellsFailure text → new ≡ append_known old text
    → PutsFailure old new
failure-alone old new text tells put = record {
  mid = old;
  replied = replies-none old;
  failure = tells.failure;
  put = put ∙ ap (append_known old) tells.told;
}

-- behind replies
pub failure-behind : (old mid new : Option (List ℕ)) → PutsReplies old mid → PutsFailure mid new → PutsFailure old new
failure-behind old mid new replied fails = record {
  mid = fails.mid;
  replied = replies-more old mid fails.mid replied fails.replied;
  failure = fails.failure;
  put = fails.put;
}

-- the line of a failure, by itself
pub failure-said : (old new : Option (List ℕ)) (failure : Failure) → new ≡ append_known old (failure_text failure)
    → SaysFailure old new
failure-said old new failure put = record { failure = failure; put = put }

pub failure-put : (old new : Option (List ℕ)) → SaysFailure old new → PutsFailure old new
failure-put old new says = record { mid = old; replied = replies-none old; failure = says.failure; put = says.put }

-- and as it stands in a text
pub failure-told : (old new : Option (List ℕ)) (text : List ℕ) → TellsFailure text → new ≡ append_known old text
    → SaysFailure old new
failure-told old new text tells put = record { failure = tells.failure; put = put ∙ ap (append_known old) tells.told }
