use Rattle.std.proofs.Common.{◌++◌, ◌*◌, Ok, length, sym, subst}
use Rattle.std.specs.Prelude.{⊤, IsTrue, MatchOption, OnOk, Option}
use Rattle.std.specs.Option.{option_to_list}
use Rattle.qg_num.specs.declared.piece.Piece.{Piece}
use Rattle.qg_space.specs.Holding.{is_free_run}
use Rattle.qg_shared_trees.specs.Heavier.{BookGetsHeavier, name_new_bytes}
use Rattle.qg_shared_trees.proofs.Sums.{BookGetsHeavier-same}
use Rattle.qg_file_edits.specs.Named.{names_of}
use Rattle.qg_shared_trees.proofs.Moved.{moves-itself}
use Rattle.qg_file_edits.specs.Naming.{AreNamed}
use Rattle.qg_file_edits.proofs.Handed.{misfit-none}
use Rattle.qg_file_edits.proofs.Kept.{nodes-itself}
use Rattle.qg_file_edits.proofs.Named.{named-new}
use Rattle.qg_file_edits.proofs.Handed.{misfit-match}
use Rattle.qg_file_edits.proofs.naming.name_new.Goals as goal

pub name_new-requires : goal.name_new-requires
name_new-requires c = record {
  free = subst (λ (o : Option Piece). MatchOption o ⊤
      (λ piece. IsTrue (is_free_run c.args.fs.now.land.space piece.extent piece.extent_bytes))) c.in-Some.is c.requires;
}

pub returns-in-Some-clause-named : goal.returns-in-Some-clause-named
returns-in-Some-clause-named c history bytes items names subvolume stands =
    let old = c.args.fs.now in
    let new = c.name_new.new.self in
    subst (λ (o : Option Piece). AreNamed old new history items (names_of c.args.ino (option_to_list o) ++ names)
    c.name_new.result) (sym c.in-Some.is)
    (named-new old new c.args.ino c.in-Some.piece history bytes items names c.name_new.result subvolume stands
    (record {
      tree = c.name_new.ensures.tree;
      subvolume = c.name_new.ensures.subvolume;
      slots = c.name_new.ensures.slots;
    })
    (c.name_new.ensures.named history bytes items names subvolume stands)
    (c.name_new.ensures.sound history bytes items names subvolume stands) c.name_new.ensures.marks)

pub returns-in-Some-clause-nodes : goal.returns-in-Some-clause-nodes
returns-in-Some-clause-nodes c =
    record {
      tree = c.name_new.ensures.tree;
      subvolume = c.name_new.ensures.subvolume;
      slots = c.name_new.ensures.slots;
    }

pub returns-in-Some-clause-fault : goal.returns-in-Some-clause-fault
returns-in-Some-clause-fault c = misfit-none c.in-Some.piece.extent c.name_new.result c.name_new.ensures.fault

pub returns-in-None-clause-named : goal.returns-in-None-clause-named
returns-in-None-clause-named c history bytes items names subvolume stands =
    subst (λ (o : Option Piece). AreNamed c.args.fs.now c.args.fs.now history items
    (names_of c.args.ino (option_to_list o) ++ names) (Ok tt)) (sym c.in-None.is)
    (record {
      done = record { stands = stands; moved = moves-itself c.args.fs.now history items names stands };
      sound = tt;
    })

pub returns-in-Some-clause-heavier : goal.returns-in-Some-clause-heavier
returns-in-Some-clause-heavier c =
    subst (λ (o : Option Piece). OnOk c.name_new.result (BookGetsHeavier c.args.fs.now.refs c.name_new.new.self.refs
    (length (option_to_list o) * name_new_bytes))) (sym c.in-Some.is) c.name_new.ensures.heavier

pub returns-in-None-clause-heavier : goal.returns-in-None-clause-heavier
returns-in-None-clause-heavier c =
    subst (λ (o : Option Piece). BookGetsHeavier c.args.fs.now.refs c.args.fs.now.refs
    (length (option_to_list o) * name_new_bytes)) (sym c.in-None.is) (BookGetsHeavier-same c.args.fs.now.refs)

pub returns-in-None-clause-nodes : goal.returns-in-None-clause-nodes
returns-in-None-clause-nodes c = nodes-itself c.args.fs.now

pub returns-in-Some-clause-refs : goal.returns-in-Some-clause-refs
returns-in-Some-clause-refs c = misfit-match c.in-Some.piece.extent c.name_new.result c.name_new.ensures.fault
