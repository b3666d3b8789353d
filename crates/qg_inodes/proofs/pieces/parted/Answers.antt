use Rattle.std.proofs.Common.{◌≡◌, ◌+◌, ◌*◌, ◌-◌, ◌<◌, ◌≤◌, ℕ, List, length, sym, ap, ◌∙◌, arith}
use Rattle.std.specs.Prelude.{Err, IsTrue, is_none}
use Rattle.std.specs.List.{list_any}
use Rattle.qg_num.specs.declared.fault.BlockFault.{BlockFault}
use Rattle.qg_num.specs.declared.key.Key.{Key}
use Rattle.qg_num.specs.declared.piece.Piece.{Piece}
use Rattle.qg_node.specs.declared.item.Item.{Item}
use Rattle.qg_image.specs.declared.file.File.{File}
use Rattle.qg_image.specs.declared.tree.TreeKind.TheVariants.{Files}
use Rattle.qg_tree_items.specs.Keys.{key_with}
use Rattle.qg_tree_read.specs.Reading.{items_within, last_upto}
use Rattle.qg_tree_read.specs.Tree.{TellsTree}
use Rattle.qg_inodes.specs.PiecesWritten.{pieces_met}
use Rattle.qg_inodes.specs.Items.{piece_of}
use Rattle.qg_inodes.specs.Pieces.{pieces_at}
use Rattle.qg_inodes.specs.TreeFiles.{TellsFiles}
use Rattle.qg_inodes.proofs.PiecesRead.{AreMet, added-broken, added-sound, are-met-long, are-met-short, found-after}
use Rattle.qg_inodes.proofs.PiecesRead.{handed, judged-broken, judged-found, judged-sound, misread-broken}
use Rattle.qg_inodes.proofs.PiecesRead.{misread-sound, steps-met, unread-before, unread-begun}
use Rattle.qg_inodes.proofs.pieces.parted.Given.{Over}
use Rattle.qg_inodes.proofs.pieces.parted.Goals.{After-as_slice, After-judged, After-judged-2, After-range}
use Rattle.qg_inodes.proofs.pieces.parted.Goals.{then-to-from-via-then-to-from}
use Rattle.qg_inodes.proofs.pieces.parted.Goals.{then-to-from-via-else-to-from+then-to-from-eq1}
use Rattle.std.proofs.Common.{refl}
use Rattle.std.specs.Prelude.{Option}
use Rattle.qg_inodes.proofs.Stopped.{pieces-added, pieces-judged, pieces-unread, pieces-way}
use Rattle.qg_inodes.proofs.pieces.parted.Goals as goal

-- ---- where the last item says nothing

pub returns-in_err-reaching-clause-sound : goal.returns-in_err-reaching-clause-sound
returns-in_err-reaching-clause-sound g c =
    let root = c.args.tree.now in
    let history = g.D.Disk.history c.args.disk.now in
    misread-sound _ root c.args.blocks.now.draft history c.args.ino c.from_residual-in_err-reaching.result
    (unread-before root c.args.blocks.now.draft history c.args.ino c.piece_key.result c.in_ok-last.last
    c.in_err-reaching.ensures.1 c.in_ok-last.ensures.found)

pub returns-in_err-reaching-clause-broken : goal.returns-in_err-reaching-clause-broken
returns-in_err-reaching-clause-broken g c events is =
    let root = c.args.tree.now in
    let history = g.D.Disk.history c.args.disk.now in
    misread-broken _ root c.args.blocks.now.draft history events c.args.ino c.from_residual-in_err-reaching.result is
    (handed c.from_residual-in_err-reaching.result _ c.from_residual-in_err-reaching.ensures.1
    ∙ ap (λ (f : BlockFault). Err f) c.in_err-reaching.ensures.0)
    (unread-before root c.args.blocks.now.draft history c.args.ino c.piece_key.result c.in_ok-last.last
    c.in_err-reaching.ensures.1 c.in_ok-last.ensures.found)

-- ---- where no other piece may begin in the range

short-met : (g : Over) (c : After-judged g)
    → AreMet c.args.tree.now c.args.blocks.now.draft (g.D.Disk.history c.args.disk.now) c.args.ino c.args.from c.args.to
    c.in_ok-pieces.pieces
short-met g c =
    let short : c.args.to ≤ c.args.from + 1 = elim c.then-to-from.branch [
      | then-to-from-via-then-to-from w ↦ (let less = w.if-to-from.true in omega arith)
      | then-to-from-via-else-to-from+then-to-from-eq1 w ↦ (let one = w.if-to-from-eq1.true in omega arith)
    ] in
    are-met-short c.args.tree.now c.args.blocks.now.draft (g.D.Disk.history c.args.disk.now) c.args.ino c.args.from
    c.args.to (g.D.Disk.size c.args.disk.now) c.requires.readable.placed c.in_ok-last.last c.in_ok-reaching.reaching
    c.in_ok-pieces.pieces
    (λ items tells.
    c.in_ok-last.ensures.found items tells ∙ ap (λ (k : Key). last_upto k items) c.piece_key.ensures)
    c.in_ok-reaching.ensures c.in_ok-pieces.ensures short

pub returns-then-to-from-clause-found : goal.returns-then-to-from-clause-found
returns-then-to-from-clause-found g c =
    judged-found c.args.tree.now c.args.blocks.now.draft c.args.ino c.args.from c.args.to c.in_ok-pieces.pieces
    (g.D.Disk.history c.args.disk.now) c.judged.result c.judged.ensures
    (short-met g (goal.at.returns-then-to-from-clause-found g c).After-judged)

pub returns-then-to-from-clause-sound : goal.returns-then-to-from-clause-sound
returns-then-to-from-clause-sound g c =
    judged-sound c.args.tree.now c.args.blocks.now.draft c.args.ino c.args.from c.args.to c.in_ok-pieces.pieces
    (g.D.Disk.history c.args.disk.now) c.judged.result c.judged.ensures
    (short-met g (goal.at.returns-then-to-from-clause-sound g c).After-judged)

pub returns-then-to-from-clause-broken : goal.returns-then-to-from-clause-broken
returns-then-to-from-clause-broken g c events is =
    judged-broken c.args.tree.now c.args.blocks.now.draft c.args.ino c.args.from c.args.to c.in_ok-pieces.pieces
    (g.D.Disk.history c.args.disk.now) events c.judged.result is c.judged.ensures
    (short-met g (goal.at.returns-then-to-from-clause-broken g c).After-judged)

-- ---- where others may

reads-met : (g : Over) (c : After-range g)
    → ((whole : List Item) → TellsTree Files c.args.tree.now c.last_to.new.blocks.draft
    (g.D.Disk.history c.last_to.new.disk) whole
    → c.range.new.reads ≤ c.last_to.new.reads + (c.args.tree.now.height + 1)
    * (1 + length (items_within c.piece_key-first.result c.piece_key-end.result whole)))
    → (files : List (ℕ × File))
    → TellsFiles c.args.tree.now c.args.blocks.now.draft (g.D.Disk.history c.args.disk.now) files
    → c.range.new.reads ≤ c.args.reads.now + (c.args.tree.now.height + 1)
    * (2 + length (pieces_met c.args.from c.args.to (pieces_at c.args.ino files)))
reads-met g c =
    steps-met c.args.tree.now c.args.blocks.now c.last_to.new.blocks (g.D.Disk.history c.args.disk.now)
    (g.D.Disk.history c.last_to.new.disk) (g.D.Disk.size c.args.disk.now) (g.D.Disk.size c.last_to.new.disk)
    c.in_ok-last.ensures.read c.args.ino c.args.from c.args.to c.args.reads.now c.last_to.new.reads c.range.new.reads
    c.piece_key-first.result c.piece_key-end.result c.piece_key-first.ensures c.piece_key-end.ensures (omega arith)
    (omega (arith, c.in_ok-last.ensures.reads))

pub returns-in_err-items-clause-reads : goal.returns-in_err-items-clause-reads
returns-in_err-items-clause-reads g c =
    reads-met g (goal.at.returns-in_err-items-clause-reads g c).After-range c.in_err-items.ensures.reads

pub returns-in_err-add_pieces-clause-reads : goal.returns-in_err-add_pieces-clause-reads
returns-in_err-add_pieces-clause-reads g c =
    reads-met g (goal.at.returns-in_err-add_pieces-clause-reads g c).After-range c.in_ok-items.ensures.reads

pub returns-clause-reads : goal.returns-clause-reads
returns-clause-reads g c = reads-met g (goal.at.returns-clause-reads g c).After-range c.in_ok-items.ensures.reads

begun : (g : Over) (c : After-as_slice g)
    → (whole : List Item)
    → TellsTree Files c.args.tree.now c.args.blocks.now.draft (g.D.Disk.history c.args.disk.now) whole
    → c.as_slice.result.now
    ≡ items_within (key_with c.args.ino 108 (c.args.from + 1)) (key_with c.args.ino 108 (c.args.to - 1)) whole
begun g c =
    found-after c.args.tree.now c.args.blocks.now c.last_to.new.blocks (g.D.Disk.history c.args.disk.now)
    (g.D.Disk.history c.last_to.new.disk) (g.D.Disk.size c.args.disk.now) (g.D.Disk.size c.last_to.new.disk)
    c.in_ok-last.ensures.read c.as_slice.result.now c.piece_key-first.result c.piece_key-end.result
    (key_with c.args.ino 108 (c.args.from + 1)) (key_with c.args.ino 108 (c.args.to - 1)) c.piece_key-first.ensures
    c.piece_key-end.ensures (λ whole tells. c.as_slice.ensures ∙ c.in_ok-items.ensures.found whole tells)

pub returns-in_err-add_pieces-clause-sound : goal.returns-in_err-add_pieces-clause-sound
returns-in_err-add_pieces-clause-sound g c =
    let root = c.args.tree.now in
    let draft = c.args.blocks.now.draft in
    let history = g.D.Disk.history c.args.disk.now in
    let at = (goal.at.returns-in_err-add_pieces-clause-sound g c).After-as_slice in
    let unread = λ (none : IsTrue (list_any (λ item. is_none (piece_of item)) c.as_slice.result.now)).
    unread-begun root draft history c.args.ino (c.args.from + 1) (c.args.to - 1) c.as_slice.result.now none (begun g at)
    in
    let result = handed c.from_residual-in_err-add_pieces.result _ c.from_residual-in_err-add_pieces.ensures.1 in
    added-sound root draft history c.args.ino c.as_slice.result.now c.in_ok-pieces.pieces c.add_pieces.new.pieces
    c.from_residual-in_err-add_pieces.result c.in_err-add_pieces.field-0.0 result c.in_err-add_pieces.ensures unread

pub returns-in_err-add_pieces-clause-broken : goal.returns-in_err-add_pieces-clause-broken
returns-in_err-add_pieces-clause-broken g c =
    let root = c.args.tree.now in
    let draft = c.args.blocks.now.draft in
    let history = g.D.Disk.history c.args.disk.now in
    let at = (goal.at.returns-in_err-add_pieces-clause-broken g c).After-as_slice in
    let unread = λ (none : IsTrue (list_any (λ item. is_none (piece_of item)) c.as_slice.result.now)).
    unread-begun root draft history c.args.ino (c.args.from + 1) (c.args.to - 1) c.as_slice.result.now none (begun g at)
    in
    let result = handed c.from_residual-in_err-add_pieces.result _ c.from_residual-in_err-add_pieces.ensures.1 in
    added-broken root draft history c.args.ino c.as_slice.result.now c.in_ok-pieces.pieces c.add_pieces.new.pieces
    c.from_residual-in_err-add_pieces.result c.in_err-add_pieces.field-0.0 result c.in_err-add_pieces.ensures unread

long-met : (g : Over) (c : After-judged-2 g)
    → ((whole : List Item)
    → TellsTree Files c.args.tree.now c.args.blocks.now.draft (g.D.Disk.history c.args.disk.now) whole
    → c.as_slice.result.now
    ≡ items_within (key_with c.args.ino 108 (c.args.from + 1)) (key_with c.args.ino 108 (c.args.to - 1)) whole)
    → AreMet c.args.tree.now c.args.blocks.now.draft (g.D.Disk.history c.args.disk.now) c.args.ino c.args.from c.args.to
    c.add_pieces.new.pieces
long-met g c read =
    are-met-long c.args.tree.now c.args.blocks.now.draft (g.D.Disk.history c.args.disk.now) c.args.ino c.args.from
    c.args.to (g.D.Disk.size c.args.disk.now) c.requires.readable.placed c.in_ok-last.last c.in_ok-reaching.reaching
    c.in_ok-pieces.pieces
    (λ items tells.
    c.in_ok-last.ensures.found items tells ∙ ap (λ (k : Key). last_upto k items) c.piece_key.ensures)
    c.in_ok-reaching.ensures c.in_ok-pieces.ensures (omega arith) c.as_slice.result.now c.add_pieces.new.pieces
    read c.in_ok-add_pieces.ensures

pub returns-clause-found : goal.returns-clause-found
returns-clause-found g c =
    judged-found c.args.tree.now c.args.blocks.now.draft c.args.ino c.args.from c.args.to c.add_pieces.new.pieces
    (g.D.Disk.history c.args.disk.now) c.judged-2.result c.judged-2.ensures
    (long-met g (goal.at.returns-clause-found g c).After-judged-2
    (begun g (goal.at.returns-clause-found g c).After-as_slice))

pub returns-clause-sound : goal.returns-clause-sound
returns-clause-sound g c =
    judged-sound c.args.tree.now c.args.blocks.now.draft c.args.ino c.args.from c.args.to c.add_pieces.new.pieces
    (g.D.Disk.history c.args.disk.now) c.judged-2.result c.judged-2.ensures
    (long-met g (goal.at.returns-clause-sound g c).After-judged-2
    (begun g (goal.at.returns-clause-sound g c).After-as_slice))

pub returns-clause-broken : goal.returns-clause-broken
returns-clause-broken g c events is =
    judged-broken c.args.tree.now c.args.blocks.now.draft c.args.ino c.args.from c.args.to c.add_pieces.new.pieces
    (g.D.Disk.history c.args.disk.now) events c.judged-2.result is c.judged-2.ensures
    (long-met g (goal.at.returns-clause-broken g c).After-judged-2
    (begun g (goal.at.returns-clause-broken g c).After-as_slice))

-- ---- over any disk

pub returns-in_err-last-clause-stops : goal.returns-in_err-last-clause-stops
returns-in_err-last-clause-stops g c =
    let draft = c.args.blocks.now.draft in
    let bytes = g.D.Disk.size c.args.disk.now in
    pieces-way (Option Item) c.from_residual.result c.args.tree.now draft draft bytes bytes
    c.in_err-last.field-0.0 c.from_residual.ensures.1 refl refl c.in_err-last.ensures.stops

pub returns-in_err-reaching-clause-stops : goal.returns-in_err-reaching-clause-stops
returns-in_err-reaching-clause-stops g c =
    let residual = c.from_residual-in_err-reaching in
    pieces-unread residual.result c.args.tree.now c.args.blocks.now.draft (g.D.Disk.size c.args.disk.now)
    (handed residual.result _ residual.ensures.1 ∙ ap (λ (f : BlockFault). Err f) c.in_err-reaching.ensures.0)

pub returns-then-to-from-clause-stops : goal.returns-then-to-from-clause-stops
returns-then-to-from-clause-stops g c =
    pieces-judged c.args.tree.now c.in_ok-pieces.pieces c.judged.result c.args.blocks.now.draft
    (g.D.Disk.size c.args.disk.now) c.judged.ensures

pub returns-in_err-items-clause-stops : goal.returns-in_err-items-clause-stops
returns-in_err-items-clause-stops g c =
    let residual = c.from_residual-in_err-items in
    let read = c.in_ok-last.ensures.read in
    pieces-way (List Item) residual.result c.args.tree.now c.args.blocks.now.draft c.last_to.new.blocks.draft
    (g.D.Disk.size c.args.disk.now) (g.D.Disk.size c.last_to.new.disk) c.in_err-items.field-0.0 residual.ensures.1
    read.draft read.size c.in_err-items.ensures.stops

pub returns-in_err-add_pieces-clause-stops : goal.returns-in_err-add_pieces-clause-stops
returns-in_err-add_pieces-clause-stops g c =
    let residual = c.from_residual-in_err-add_pieces in
    pieces-added (Unit {0}) c.args.tree.now c.as_slice.result.now c.in_ok-pieces.pieces c.add_pieces.new.pieces
    residual.result c.in_err-add_pieces.field-0.0 c.args.blocks.now.draft (g.D.Disk.size c.args.disk.now)
    residual.ensures.1 c.in_err-add_pieces.ensures

pub returns-clause-stops : goal.returns-clause-stops
returns-clause-stops g c =
    pieces-judged c.args.tree.now c.add_pieces.new.pieces c.judged-2.result c.args.blocks.now.draft
    (g.D.Disk.size c.args.disk.now) c.judged-2.ensures
