use Rattle.qg_grammar.specs.ReplyText.{refusal_text}
use Rattle.qg_script.proofs.reply.write_refusal.Goals as goal

pub returns-in-NoGeneration : goal.returns-in-NoGeneration
unfolding refusal_text
returns-in-NoGeneration c = rw (c.in-NoGeneration.is, refusal_text) c.add-in-NoGeneration.ensures
