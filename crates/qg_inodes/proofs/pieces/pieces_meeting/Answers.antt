use Rattle.std.proofs.Common.{◌+◌, List, sym, ap, subst, ◌∙◌, arith}
use Rattle.std.specs.Prelude.{Err, Result}
use Rattle.qg_num.specs.declared.fault.BlockFault.{BlockFault}
use Rattle.qg_num.specs.declared.key.Key.{Key}
use Rattle.qg_num.specs.declared.piece.Piece.{Piece}
use Rattle.qg_blocks.specs.NodesFound.{BreaksNone}
use Rattle.qg_tree_read.specs.Reading.{last_upto}
use Rattle.qg_inodes.proofs.PiecesRead.{AreMet, are-met-alone, are-met-more, files-read, handed, judged-broken}
use Rattle.qg_inodes.proofs.PiecesRead.{judged-found}
use Rattle.qg_inodes.proofs.PiecesRead.{judged-sound, misread-broken, misread-sound, steps-more, unread-before}
use Rattle.std.proofs.Common.{refl}
use Rattle.std.specs.Prelude.{Option}
use Rattle.qg_node.specs.declared.item.Item.{Item}
use Rattle.qg_inodes.proofs.Stopped.{pieces-err, pieces-judged, pieces-unread, pieces-way}
use Rattle.qg_inodes.proofs.pieces.pieces_meeting.Given.{Over}
use Rattle.qg_inodes.proofs.pieces.pieces_meeting.Goals as goal
use Rattle.qg_inodes.proofs.pieces.pieces_meeting.Goals.{After-judged, After-judged-2}

-- ---- where the last item says nothing

pub returns-in_err-reaching-clause-sound : goal.returns-in_err-reaching-clause-sound
returns-in_err-reaching-clause-sound g c =
    let root = c.args.tree.now in
    let history = g.D.Disk.history c.args.disk.now in
    misread-sound _ root c.args.blocks.now.draft history c.args.ino c.from_residual-in_err-reaching.result
    (unread-before root c.args.blocks.now.draft history c.args.ino c.piece_key-end.result c.in_ok-last.last
    c.in_err-reaching.ensures.1 c.in_ok-last.ensures.found)

pub returns-in_err-reaching-clause-broken : goal.returns-in_err-reaching-clause-broken
returns-in_err-reaching-clause-broken g c events is =
    let root = c.args.tree.now in
    let history = g.D.Disk.history c.args.disk.now in
    misread-broken _ root c.args.blocks.now.draft history events c.args.ino c.from_residual-in_err-reaching.result is
    (handed c.from_residual-in_err-reaching.result _ c.from_residual-in_err-reaching.ensures.1
    ∙ ap (λ (f : BlockFault). Err f) c.in_err-reaching.ensures.0)
    (unread-before root c.args.blocks.now.draft history c.args.ino c.piece_key-end.result c.in_ok-last.last
    c.in_err-reaching.ensures.1 c.in_ok-last.ensures.found)

-- ---- where no piece begins behind the range's begin

alone-met : (g : Over) (c : After-judged g)
    → AreMet c.args.tree.now c.args.blocks.now.draft (g.D.Disk.history c.args.disk.now) c.args.ino c.args.from c.args.to
    c.in_ok-pieces.pieces
alone-met g c =
    are-met-alone c.args.tree.now c.args.blocks.now.draft (g.D.Disk.history c.args.disk.now) c.args.ino c.args.from
    c.args.to (g.D.Disk.size c.args.disk.now) (omega arith) c.requires.readable.placed c.in_ok-last.last
    c.in_ok-reaching.reaching
    (λ items tells.
    c.in_ok-last.ensures.found items tells ∙ ap (λ (k : Key). last_upto k items) c.piece_key-end.ensures)
    c.in_ok-reaching.ensures c.in_ok-pieces.pieces c.in_ok-pieces.ensures c.in_default.ensures.none

pub returns-in_default-clause-found : goal.returns-in_default-clause-found
returns-in_default-clause-found g c =
    judged-found c.args.tree.now c.args.blocks.now.draft c.args.ino c.args.from c.args.to c.in_ok-pieces.pieces
    (g.D.Disk.history c.args.disk.now) c.judged.result c.judged.ensures
    (alone-met g (goal.at.returns-in_default-clause-found g c).After-judged)

pub returns-in_default-clause-sound : goal.returns-in_default-clause-sound
returns-in_default-clause-sound g c =
    judged-sound c.args.tree.now c.args.blocks.now.draft c.args.ino c.args.from c.args.to c.in_ok-pieces.pieces
    (g.D.Disk.history c.args.disk.now) c.judged.result c.judged.ensures
    (alone-met g (goal.at.returns-in_default-clause-sound g c).After-judged)

pub returns-in_default-clause-broken : goal.returns-in_default-clause-broken
returns-in_default-clause-broken g c events is =
    judged-broken c.args.tree.now c.args.blocks.now.draft c.args.ino c.args.from c.args.to c.in_ok-pieces.pieces
    (g.D.Disk.history c.args.disk.now) events c.judged.result is c.judged.ensures
    (alone-met g (goal.at.returns-in_default-clause-broken g c).After-judged)

-- ---- where the last one does

pub returns-in_err-pieces-2-clause-sound : goal.returns-in_err-pieces-2-clause-sound
returns-in_err-pieces-2-clause-sound g c files tells =
    let history = g.D.Disk.history c.args.disk.now in
    subst (λ (r : Result (List Piece) BlockFault). BreaksNone r)
    (sym (handed c.from_residual-in_err-pieces-2.result _ c.from_residual-in_err-pieces-2.ensures.1))
    (c.in_err-pieces-2.ensures.sound files
    (files-read c.args.tree.now c.args.blocks.now c.last_to.new.blocks history (g.D.Disk.history c.last_to.new.disk)
    (g.D.Disk.size c.args.disk.now) (g.D.Disk.size c.last_to.new.disk) c.in_ok-last.ensures.read files tells))

pub returns-in_err-pieces-2-clause-reads : goal.returns-in_err-pieces-2-clause-reads
returns-in_err-pieces-2-clause-reads g c files tells =
    let root = c.args.tree.now in
    let history = g.D.Disk.history c.args.disk.now in
    steps-more root c.args.blocks.now.draft history c.args.ino c.args.from c.args.to (g.D.Disk.size c.args.disk.now)
    (omega arith) c.requires.readable.placed c.in_ok-last.last c.in_ok-reaching.reaching
    (λ items told.
    c.in_ok-last.ensures.found items told ∙ ap (λ (k : Key). last_upto k items) c.piece_key-end.ensures)
    c.in_ok-reaching.ensures (root.height + 1) c.args.reads.now c.last_to.new.reads c.parted-2.new.reads c.in-Some.piece
    c.in-Some.ensures.some.0 c.in-Some.ensures.some.1 files tells (omega (arith, c.in_ok-last.ensures.reads))
    (c.in_err-pieces-2.ensures.reads files
    (files-read root c.args.blocks.now c.last_to.new.blocks history (g.D.Disk.history c.last_to.new.disk)
    (g.D.Disk.size c.args.disk.now) (g.D.Disk.size c.last_to.new.disk) c.in_ok-last.ensures.read files tells))

pub returns-in_err-push-clause-reads : goal.returns-in_err-push-clause-reads
returns-in_err-push-clause-reads g c files tells =
    let root = c.args.tree.now in
    let history = g.D.Disk.history c.args.disk.now in
    steps-more root c.args.blocks.now.draft history c.args.ino c.args.from c.args.to (g.D.Disk.size c.args.disk.now)
    (omega arith) c.requires.readable.placed c.in_ok-last.last c.in_ok-reaching.reaching
    (λ items told.
    c.in_ok-last.ensures.found items told ∙ ap (λ (k : Key). last_upto k items) c.piece_key-end.ensures)
    c.in_ok-reaching.ensures (root.height + 1) c.args.reads.now c.last_to.new.reads c.parted-2.new.reads c.in-Some.piece
    c.in-Some.ensures.some.0 c.in-Some.ensures.some.1 files tells (omega (arith, c.in_ok-last.ensures.reads))
    (c.in_ok-pieces-2.ensures.reads files
    (files-read root c.args.blocks.now c.last_to.new.blocks history (g.D.Disk.history c.last_to.new.disk)
    (g.D.Disk.size c.args.disk.now) (g.D.Disk.size c.last_to.new.disk) c.in_ok-last.ensures.read files tells))

pub returns-clause-reads : goal.returns-clause-reads
returns-clause-reads g c files tells =
    let root = c.args.tree.now in
    let history = g.D.Disk.history c.args.disk.now in
    steps-more root c.args.blocks.now.draft history c.args.ino c.args.from c.args.to (g.D.Disk.size c.args.disk.now)
    (omega arith) c.requires.readable.placed c.in_ok-last.last c.in_ok-reaching.reaching
    (λ items told.
    c.in_ok-last.ensures.found items told ∙ ap (λ (k : Key). last_upto k items) c.piece_key-end.ensures)
    c.in_ok-reaching.ensures (root.height + 1) c.args.reads.now c.last_to.new.reads c.parted-2.new.reads c.in-Some.piece
    c.in-Some.ensures.some.0 c.in-Some.ensures.some.1 files tells (omega (arith, c.in_ok-last.ensures.reads))
    (c.in_ok-pieces-2.ensures.reads files
    (files-read root c.args.blocks.now c.last_to.new.blocks history (g.D.Disk.history c.last_to.new.disk)
    (g.D.Disk.size c.args.disk.now) (g.D.Disk.size c.last_to.new.disk) c.in_ok-last.ensures.read files tells))

more-met : (g : Over) (c : After-judged-2 g)
    → AreMet c.args.tree.now c.args.blocks.now.draft (g.D.Disk.history c.args.disk.now) c.args.ino c.args.from c.args.to
    c.push.new.self
more-met g c =
    are-met-more c.args.tree.now c.args.blocks.now.draft (g.D.Disk.history c.args.disk.now) c.args.ino c.args.from
    c.args.to (g.D.Disk.size c.args.disk.now) (omega arith) c.requires.readable.placed c.in_ok-last.last
    c.in_ok-reaching.reaching
    (λ items tells.
    c.in_ok-last.ensures.found items tells ∙ ap (λ (k : Key). last_upto k items) c.piece_key-end.ensures)
    c.in_ok-reaching.ensures c.in-Some.piece c.in-Some.ensures.some.0 c.in-Some.ensures.some.1
    c.in_ok-pieces-2.pieces c.push.new.self
    (λ files tells.
    c.in_ok-pieces-2.ensures.found files
    (files-read c.args.tree.now c.args.blocks.now c.last_to.new.blocks (g.D.Disk.history c.args.disk.now)
    (g.D.Disk.history c.last_to.new.disk) (g.D.Disk.size c.args.disk.now) (g.D.Disk.size c.last_to.new.disk)
    c.in_ok-last.ensures.read files tells))
    c.in_ok-push.ensures.ok

pub returns-clause-found : goal.returns-clause-found
returns-clause-found g c =
    judged-found c.args.tree.now c.args.blocks.now.draft c.args.ino c.args.from c.args.to c.push.new.self
    (g.D.Disk.history c.args.disk.now) c.judged-2.result c.judged-2.ensures
    (more-met g (goal.at.returns-clause-found g c).After-judged-2)

pub returns-clause-sound : goal.returns-clause-sound
returns-clause-sound g c =
    judged-sound c.args.tree.now c.args.blocks.now.draft c.args.ino c.args.from c.args.to c.push.new.self
    (g.D.Disk.history c.args.disk.now) c.judged-2.result c.judged-2.ensures
    (more-met g (goal.at.returns-clause-sound g c).After-judged-2)

pub returns-clause-broken : goal.returns-clause-broken
returns-clause-broken g c events is =
    judged-broken c.args.tree.now c.args.blocks.now.draft c.args.ino c.args.from c.args.to c.push.new.self
    (g.D.Disk.history c.args.disk.now) events c.judged-2.result is c.judged-2.ensures
    (more-met g (goal.at.returns-clause-broken g c).After-judged-2)

-- ---- over any disk

pub returns-in_err-last-clause-stops : goal.returns-in_err-last-clause-stops
returns-in_err-last-clause-stops g c =
    let draft = c.args.blocks.now.draft in
    let bytes = g.D.Disk.size c.args.disk.now in
    pieces-way (Option Item) c.from_residual.result c.args.tree.now draft draft bytes bytes
    c.in_err-last.field-0.0 c.from_residual.ensures.1 refl refl c.in_err-last.ensures.stops

pub returns-in_err-reaching-clause-stops : goal.returns-in_err-reaching-clause-stops
returns-in_err-reaching-clause-stops g c =
    let residual = c.from_residual-in_err-reaching in
    pieces-unread residual.result c.args.tree.now c.args.blocks.now.draft (g.D.Disk.size c.args.disk.now)
    (handed residual.result _ residual.ensures.1 ∙ ap (λ (f : BlockFault). Err f) c.in_err-reaching.ensures.0)

pub returns-in_default-clause-stops : goal.returns-in_default-clause-stops
returns-in_default-clause-stops g c =
    pieces-judged c.args.tree.now c.in_ok-pieces.pieces c.judged.result c.args.blocks.now.draft
    (g.D.Disk.size c.args.disk.now) c.judged.ensures

pub returns-in_err-pieces-2-clause-stops : goal.returns-in_err-pieces-2-clause-stops
returns-in_err-pieces-2-clause-stops g c =
    let residual = c.from_residual-in_err-pieces-2 in
    let read = c.in_ok-last.ensures.read in
    pieces-err (List Piece) residual.result c.args.tree.now c.args.blocks.now.draft c.last_to.new.blocks.draft
    (g.D.Disk.size c.args.disk.now) (g.D.Disk.size c.last_to.new.disk) c.in_err-pieces-2.field-0.0 residual.ensures.1
    read.draft read.size c.in_err-pieces-2.ensures.stops

pub returns-clause-stops : goal.returns-clause-stops
returns-clause-stops g c =
    pieces-judged c.args.tree.now _ c.judged-2.result c.args.blocks.now.draft
    (g.D.Disk.size c.args.disk.now) c.judged-2.ensures
