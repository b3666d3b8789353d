use Rattle.std.proofs.Common.{ℕ, ◌<◌, List, [], Some, arith, sym, subst}
use Rattle.qg_items.specs.declared.extent.Reference.TheVariants.{KeyedBlock}
use Rattle.qg_tree_items.specs.State.{layout_of}
use Rattle.qg_tree_items.specs.Owed.{Agrees}
use Rattle.qg_tree_items.specs.IsFresh.{fresh_state}
use Rattle.qg_refs.specs.declared.kept.Kept.{Kept}
use Rattle.qg_refs.specs.Book.{Adds, AgreesWithOwed, count_at}
use Rattle.qg_refs.proofs.Counting.{count-nil}
use Rattle.qg_extents.specs.Table.{IsTable, book_of}
use Rattle.qg_extents.specs.Written.{parts_of_book}
use Rattle.qg_extents.proofs.FreshRecords.{fresh-agrees, fresh-owed, fresh_is}
use Rattle.qg_extents.proofs.fresh.fresh_records.Goals as goal

pub add_one-requires : goal.add_one-requires
add_one-requires c =
    subst (λ (table : List (ℕ × Kept)). count_at (book_of table) c.args.root (KeyedBlock c.new-2.result) < 1)
    (sym c.new-extents.ensures) (omega (arith, count-nil (KeyedBlock c.new-2.result)))

-- what the one addition makes
made : goal.returns-clause-exact
made c =
    let table : List (ℕ × Kept) = c.add_one.new.self in
    let from_none =
    subst (λ (old : List (ℕ × Kept)). Adds (book_of old) (book_of table) c.args.root
    (record { bytes = c.args.sizes.nodesize; level = Some 0; generation = c.new.result }) (KeyedBlock c.new-2.result))
    c.new-extents.ensures c.in_ok-add_one.ensures.ok in
    let from_first =
    subst (λ (generation : ℕ). Adds (book_of []) (book_of table) c.args.root
    (record { bytes = c.args.sizes.nodesize; level = Some 0; generation = generation }) (KeyedBlock c.new-2.result))
    c.new.ensures from_none in
    fresh_is table c.args.sizes.nodesize c.args.root (subst IsTable c.extents.view_is c.extents.invariant)
    (subst (λ (tree : ℕ). Adds (book_of []) (book_of table) c.args.root
    (record { bytes = c.args.sizes.nodesize; level = Some 0; generation = 1 }) (KeyedBlock tree))
    c.new-2.ensures from_first)

pub returns-clause-exact : goal.returns-clause-exact
returns-clause-exact c = made c

pub returns-clause-owed : goal.returns-clause-owed
returns-clause-owed c others =
    subst (λ (table : List (ℕ × Kept)). AgreesWithOwed (layout_of (fresh_state c.args.sizes others c.args.root))
    (book_of table))
    (sym (made c))
    (fresh-owed c.args.sizes c.args.root others
    (subst IsTable (made c) (subst IsTable c.extents.view_is c.extents.invariant)))

pub returns-clause-agrees : goal.returns-clause-agrees
returns-clause-agrees c others =
    subst (λ (table : List (ℕ × Kept)). Agrees (layout_of (fresh_state c.args.sizes others c.args.root))
    (parts_of_book table))
    (sym (made c)) (fresh-agrees c.args.sizes c.args.root others)
