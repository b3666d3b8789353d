use Rattle.std.proofs.Common.{arith}
use Rattle.qg_node.proofs.Again.{node_again, one_again, text_again}
use Rattle.qg_node.proofs.Found.{node_found}
use Rattle.qg_node.proofs.TextBytes.{IsBytes-node_text}
use Rattle.qg_node.proofs.Texts.{length-node_text}
use Rattle.qg_node.proofs.laws.round_trips.Goals as goal

pub returns-clause-reads_texts : goal.returns-clause-reads_texts
returns-clause-reads_texts c = λ at bytes node are sized. (
  λ read. let found = node_found at bytes node are (omega arith) read in
      (found.text, found.fits),
  λ is. (node_again at bytes node (omega arith) is.1 is.0).read,
)

pub returns-clause-reads_back : goal.returns-clause-reads_back
returns-clause-reads_back c = λ size node sized sound fits. text_again size node (omega arith) fits sound

pub returns-clause-one_node : goal.returns-clause-one_node
returns-clause-one_node c = λ at at' bytes node node' sized fits fits' is is'. one_again at at' bytes node node'
    (omega arith) fits fits' is is'

pub returns-clause-fills_its_size : goal.returns-clause-fills_its_size
returns-clause-fills_its_size c =
    λ size node sound fits. (length-node_text size node sound.fits, IsBytes-node_text size node fits)
