use Rattle.std.proofs.Common.{◌≡◌, ◌≤◌, ℕ, List, [], Option, length, false, sym, subst, arith}
use Rattle.std.specs.Prelude.{MatchOption, slice_range}
use Rattle.std.proofs.lemmas.List.{take_all}
use Rattle.qg_tree_items.specs.Types.{ExtentPart}
use Rattle.qg_refs.specs.declared.kept.Kept.{Kept}
use Rattle.qg_extents.specs.Table.{book_of}
use Rattle.qg_extents.specs.BookRecords.{IsEntryOf, IsTold, is_entry}
use Rattle.qg_extents.proofs.Records.{HaveEntries, records_failure-none, told-none}
use Rattle.qg_extents.proofs.Runs.{address_is, done_next, done_none, entries_run, failure_run, told_run}
use Rattle.qg_extents.proofs.extents.Extents.read.Goals as goal

pub loop-from-init : goal.loop-from-init
loop-from-init c = record {
  bound = omega arith;
  done = done_none c.args.parts.now;
  told = subst (λ (table : List (ℕ × Kept)). IsTold c.args.nodesize [] (book_of table)) (sym c.new-extents.ensures)
      (told-none c.args.nodesize);
  have = tt;
}

pub returns-in_default-clause-fault : goal.returns-in_default-clause-fault
returns-in_default-clause-fault c =
    let parts = c.args.parts.now in
    let from = c.loop-from.from in
    let to = c.end_of_address-to.result in
    let is = address_is parts from c.index-parts-from.result c.address_of-at.result c.loop-from-test.true
    c.index-parts-from.is c.address_of-at.ensures in
    let bad : is_entry (slice_range parts from to) ≡ false =
    subst (λ (found : Option Kept). MatchOption found (is_entry (slice_range parts from to) ≡ false)
    (IsEntryOf c.args.nodesize (slice_range parts from to))) c.in_default.is c.in_ok-kept.ensures in
    failure_run parts from to c.address_of-at.result c.requires c.loop-from.invariant.done c.loop-from-test.true
    c.end_of_address-to.ensures is c.loop-from.invariant.have bad

pub loop-from-preserved : goal.loop-from-preserved
loop-from-preserved c =
    let parts = c.args.parts.now in
    let from = c.loop-from.from in
    let to = c.end_of_address-to.result in
    let at = c.address_of-at.result in
    let inside = c.loop-from-test.true in
    let run = c.end_of_address-to.ensures in
    let is = address_is parts from c.index-parts-from.result at inside c.index-parts-from.is c.address_of-at.ensures in
    let entry : IsEntryOf c.args.nodesize (slice_range parts from to) c.in-Some.kept =
    subst (λ (found : Option Kept). MatchOption found (is_entry (slice_range parts from to) ≡ false)
    (IsEntryOf c.args.nodesize (slice_range parts from to))) c.in-Some.is c.in_ok-kept.ensures in
    record {
      bound = run.bound;
      done = done_next parts from to c.requires run;
      told = told_run c.args.nodesize parts from to at (book_of c.loop-from.extents)
          (book_of c.put.new.self) c.in-Some.kept c.loop-from.invariant.done inside run is
          c.loop-from.invariant.told entry c.in_ok-put.ensures;
      have = entries_run parts from to at c.loop-from.invariant.done inside run is c.loop-from.invariant.have
          entry.sound;
    }

pub returns-clause-sound : goal.returns-clause-sound
returns-clause-sound c =
    let parts = c.args.parts.now in
    let bound : length parts ≤ c.loop-from.from = omega arith in
    records_failure-none parts (subst (λ (some : List ExtentPart). HaveEntries some some)
    (take_all c.loop-from.from parts bound) c.loop-from.invariant.have)
