-- A line is answered.
use Rattle.std.proofs.Common.{◌≡◌, ◌≢◌, true, ℕ, List, [], Option, None, refl, sym, subst, inl, inr, IsTrue}
use Rattle.std.specs.Prelude.{Bool, Result, Err, IfErr}
use Rattle.std.specs.Io.KnownBytes.{append_known}
use Rattle.qg_device.specs.History.{Event, History, Recorded}
use Rattle.qg_num.specs.declared.answer.Answer.{Answer}
use Rattle.qg_num.specs.declared.command.Command.{Command}
use Rattle.qg_grammar.specs.ReplyText.{reply_text, no_line}
use Rattle.qg_script.specs.Lines.{TakesLine}
use Rattle.qg_grammar.specs.ScriptText.{IsLineOf}
use Rattle.qg_image.specs.State.{State}
use Rattle.qg_store.specs.Answering.{AnswersOn, IsDoneSoFar}
use Rattle.qg_store.specs.Stored.{Stored, IsStoreOf}
use Rattle.qg_program.specs.declared.status.Status.{Status}
use Rattle.qg_program.specs.declared.status.Status.TheVariants as status
use Rattle.qg_program.specs.Ends.{is_stop}
use Rattle.qg_program.specs.Putting.{FailsToPut}
use Rattle.qg_program.specs.Turning.{FailsToTurn, IsLineSoFar, IsReply, IsTurn, StopsLine}

-- a command was done or refused
pub reply-command : (old : State) (events : List Event) (line reply : List ℕ) (store : Stored)
    (history : History) (command : Command) (answer : Answer)
    → IsLineOf line command → AnswersOn old command answer store.kept events history → store.stopped ≡ None
    → reply ≡ reply_text answer
    → IsReply old events line reply store history
reply-command old events line reply store history command answer asked does running told = record {
  new = does.1.new;
  commits = does.0;
  turn = inl (record {
    command = command;
    answer = answer;
    asked = asked;
    step = does.1.step;
    told = told;
  });
  stands = record { running = running; keeps = does.1.keeps };
  made = does.2;
}

-- the line is no command's
pub reply-no_line : (old : State) (events : List Event) (line reply : List ℕ) (store : Stored)
    (history : History)
    → ((command : Command) → IsLineOf line command → ⊥) → IsStoreOf store old history → history ≡ Recorded events
    → reply ≡ no_line
    → IsReply old events line reply store history
reply-no_line old events line reply store history none stands known told = record {
  new = old;
  commits = [];
  turn = inr (record {
    asked = none;
    stays = (refl, refl);
    told = told;
  });
  stands = stands;
  made = record { after = events; told = known; made = refl };
}

-- what the command of a line has done
pub so_far-command : (old : State) (events : List Event) (line : List ℕ) (history : History)
    (command : Command)
    → IsLineOf line command → IsDoneSoFar old command events history → IsLineSoFar old line events history
so_far-command old events line history command asked (inl none) = inl none
so_far-command old events line history command asked (inr starts) =
    inr (record { command = command; asked = asked; starts = starts })

-- a line that was taken is the one that is not answered
stops-line : (old : State) (events : List Event) (before taken : Option (List ℕ)) (line : List ℕ)
    (history : History) → TakesLine before taken line
    → IsLineSoFar old line events history → StopsLine old before events history
stops-line old events before taken line history takes (inl none) = inl none
stops-line old events before taken line history takes (inr starts) =
    inr (record { line = line; after = taken; takes = takes; starts = starts })

-- where it was not answered
pub fails-answer : (end : Status) (old : State) (events : List Event) (before taken after : Option (List ℕ))
    (line : List ℕ) (store : Stored)
    (history : History) (held : Option (List ℕ)) → TakesLine before taken line
    → IsLineSoFar old line events history
    → IsTrue (is_stop end) → end ≢ status.Image → FailsToTurn end old events before after store history held held
fails-answer status.NoMemory old events before taken after line store history held takes so_far stops sound =
    (stops-line old events before taken line history takes so_far, refl)
fails-answer status.Disk old events before taken after line store history held takes so_far stops sound =
    (stops-line old events before taken line history takes so_far, refl)
fails-answer status.Image old events before taken after line store history held takes so_far stops sound =
    absurd (sound refl)
fails-answer status.Done old events before taken after line store history held takes so_far stops sound = absurd cc
fails-answer status.Words old events before taken after line store history held takes so_far stops sound = absurd cc
fails-answer status.Source old events before taken after line store history held takes so_far stops sound = absurd cc
fails-answer status.Sink old events before taken after line store history held takes so_far stops sound = absurd cc
fails-answer status.Found old events before taken after line store history held takes so_far stops sound = absurd cc
fails-answer status.Sizes old events before taken after line store history held takes so_far stops sound = absurd cc
fails-answer status.TooLong old events before taken after line store history held takes so_far stops sound = absurd cc

-- and that was handed on
pub fails-handed : (end : Status) (result : Result Bool Status) (old : State) (events : List Event)
    (before after : Option (List ℕ)) (store : Stored) (history : History) (held now : Option (List ℕ))
    → result ≡ Err end → now ≡ held → FailsToTurn end old events before after store history held held
    → IfErr result (λ status. FailsToTurn status old events before after store history held now)
fails-handed end result old events before after store history held now handed same fails =
    subst (λ (r : Result Bool Status).
    IfErr r (λ status. FailsToTurn status old events before after store history held now)) (sym handed)
    (subst (λ (told : Option (List ℕ)). FailsToTurn end old events before after store history held told)
    (sym same) fails)

-- where the reply was put
pub turns-reply : (old : State) (events : List Event) (before taken : Option (List ℕ)) (line reply : List ℕ)
    (store : Stored)
    (history : History) (held now : Option (List ℕ)) → TakesLine before taken line
    → IsReply old events line reply store history
    → now ≡ append_known held reply → IsTurn true old events before taken store history held now
turns-reply old events before taken line reply store history held now takes is put = record {
  reply = reply;
  replies = record { line = line; takes = takes; answered = is };
  put = put;
}

-- where the reply was not put whole
pub fails-reply : (end : Status) (old : State) (events : List Event) (before taken after : Option (List ℕ))
    (line reply : List ℕ) (store : Stored)
    (history : History) (held now : Option (List ℕ)) → TakesLine before taken line
    → IsReply old events line reply store history
    → IsLineSoFar old line events history → FailsToPut end reply held now
    → FailsToTurn end old events before after store history held now
fails-reply status.Sink old events before taken after line reply store history held now takes is later fails = record {
  after = taken;
  reply = reply;
  replies = record { line = line; takes = takes; answered = is };
  put = fails;
}
fails-reply status.NoMemory old events before taken after line reply store history held now takes is later fails =
    (stops-line old events before taken line history takes later, fails)
fails-reply status.Done old events before taken after line reply store history held now takes is later fails =
    absurd fails
fails-reply status.Words old events before taken after line reply store history held now takes is later fails =
    absurd fails
fails-reply status.Image old events before taken after line reply store history held now takes is later fails =
    absurd fails
fails-reply status.Source old events before taken after line reply store history held now takes is later fails =
    absurd fails
fails-reply status.Disk old events before taken after line reply store history held now takes is later fails =
    absurd fails
fails-reply status.Found old events before taken after line reply store history held now takes is later fails =
    absurd fails
fails-reply status.Sizes old events before taken after line reply store history held now takes is later fails =
    absurd fails
fails-reply status.TooLong old events before taken after line reply store history held now takes is later fails =
    absurd fails
