use Rattle.std.proofs.Common.{◌+◌, ◌++◌, List, drop, subst}
use Rattle.std.proofs.lemmas.List.{drop_all}
use Rattle.qg_num.specs.declared.piece.Piece.{Piece}
use Rattle.qg_file_edits.specs.Named.{names_of}
use Rattle.qg_file_edits.specs.Naming.{StandsMoved}
use Rattle.qg_file_edits.proofs.Handed.{handed, misfit-other, named-failed}
use Rattle.qg_file_edits.proofs.Items.{is-at}
use Rattle.qg_file_edits.proofs.Kept.{nodes-then}
use Rattle.qg_file_edits.proofs.Named.{can-unname, unnames-more, unnames-none}
use Rattle.qg_num.specs.declared.rule.Rule.TheVariants.{Refs}
use Rattle.qg_blocks.proofs.Stopping.{rule-err}
use Rattle.qg_file_edits.proofs.Handed.{misfit-rule}
use Rattle.qg_file_edits.proofs.naming.unname_each.Goals as goal

pub loop-piece-init : goal.loop-piece-init
loop-piece-init c = unnames-none c.args.fs.now c.args.ino c.args.pieces.now

pub loop-piece-preserved : goal.loop-piece-preserved
loop-piece-preserved c =
    let piece = c.piece-item.result in
    let i = c.loop-piece.piece-index in
    let at = is-at c.args.pieces.now i piece c.loop-piece-test.true c.piece-item.is in
    unnames-more c.args.fs.now c.loop-piece.fs c.args.ino c.args.pieces.now i piece at c.unname.new.self
    c.loop-piece.invariant
    (record { tree = c.unname.ensures.tree; subvolume = c.unname.ensures.subvolume; slots = c.unname.ensures.slots })
    c.in_ok-unname.ensures.marks c.in_ok-unname.ensures.heavier
    (λ history bytes items names can.
    c.in_ok-unname.ensures.unnamed history bytes items names can.subvolume can.stands can.covered)

pub returns-in_err-unname-clause-unnamed : goal.returns-in_err-unname-clause-unnamed
returns-in_err-unname-clause-unnamed c history bytes items names subvolume stands covered =
    let piece = c.piece-item.result in
    let i = c.loop-piece.piece-index in
    let at = is-at c.args.pieces.now i piece c.loop-piece-test.true c.piece-item.is in
    let can = can-unname c.args.fs.now c.loop-piece.fs c.args.ino c.args.pieces.now i piece at c.loop-piece.invariant
    history bytes items names subvolume stands covered in
    named-failed c.args.fs.now c.unname.new.self history items _ c.from_residual.result _
    (handed c.from_residual.result _ c.from_residual.ensures.1)
    (c.in_err-unname.ensures.sound history bytes items (names_of c.args.ino (drop (i + 1) c.args.pieces.now) ++ names)
    can.subvolume can.stands can.covered)

pub returns-in_err-unname-clause-nodes : goal.returns-in_err-unname-clause-nodes
returns-in_err-unname-clause-nodes c =
    nodes-then c.args.fs.now c.loop-piece.fs c.unname.new.self c.loop-piece.invariant.nodes
    (record { tree = c.unname.ensures.tree; subvolume = c.unname.ensures.subvolume; slots = c.unname.ensures.slots })

pub returns-clause-unnamed : goal.returns-clause-unnamed
returns-clause-unnamed c history bytes items names subvolume stands covered =
    let done = c.loop-piece.invariant.told history bytes items names subvolume stands covered in
    let all = drop_all c.loop-piece.piece-index c.args.pieces.now c.loop-piece-test.false in
    record {
      done = subst (λ (xs : List Piece). StandsMoved c.args.fs.now c.loop-piece.fs history items
          (names_of c.args.ino xs ++ names)) all done;
      sound = tt;
    }

pub returns-clause-heavier : goal.returns-clause-heavier
returns-clause-heavier c = c.loop-piece.invariant.heavier

pub returns-clause-nodes : goal.returns-clause-nodes
returns-clause-nodes c = c.loop-piece.invariant.nodes

pub returns-in_err-unname-clause-fault : goal.returns-in_err-unname-clause-fault
returns-in_err-unname-clause-fault c is =
    misfit-other c.piece-item.result.extent c.from_residual.result _
    (handed c.from_residual.result _ c.from_residual.ensures.1) c.in_err-unname.ensures.fault is

pub returns-in_err-unname-clause-refs : goal.returns-in_err-unname-clause-refs
returns-in_err-unname-clause-refs c =
    let fault = c.in_err-unname.field-0.0 in
    rule-err (Unit {0}) c.from_residual.result fault Refs c.from_residual.ensures.1
    (misfit-rule (Unit {0}) c.piece-item.result.extent fault c.in_err-unname.ensures.fault)
