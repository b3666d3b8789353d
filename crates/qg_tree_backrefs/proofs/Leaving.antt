-- A node that is left where references lead to it still: its level is the one that is known.
use Rattle.std.proofs.Common.{◌≡◌, ℕ, zero, suc, ◌+◌, ◌<◌, ◌≤◌, Bool, true, false, List, [], ◌∷◌, ◌++◌, length, Option}
use Rattle.std.proofs.Common.{Some, None, arith, refl, sym, ap, ◌∙◌}
use Rattle.std.specs.Prelude.{◌&&◌, ◌==◌, not, nat_lt, if◌then◌else◌, unwrap_or}
use Rattle.std.specs.Option.{option_map}
use Rattle.std.proofs.lemmas.Bool.{eq-eqb, eqb-true, lt-ltb, ltb-true}
use Rattle.qg_node.specs.declared.node.Node.{Node}
use Rattle.qg_node.specs.Nodes.{header_of, own_items, own_pointers}
use Rattle.qg_items.specs.declared.extent.Reference.{Reference}
use Rattle.qg_items.specs.declared.extent.Reference.TheVariants.{KeyedBlock}
use Rattle.qg_image.specs.State.{Placed}
use Rattle.qg_image.specs.Record.{same_reference}
use Rattle.qg_image.specs.Owed.{Owing}
use Rattle.qg_cow_refs.specs.declared.cases.Leaving.{Leaving}
use Rattle.qg_cow_refs.specs.declared.cases.Leaving.TheVariants.{Goes, TurnsFull, Stays}
use Rattle.qg_cow_refs.specs.Children.{keyed_children, owner_of, shared_children, way_to}
use Rattle.qg_cow_refs.specs.Left.{leaving_gains, leaving_losses}
use Rattle.qg_refs.specs.declared.counted.Counted.{Counted}
use Rattle.qg_refs.specs.declared.kept.What.{What}
use Rattle.qg_refs.specs.Book.{Book, count_at, references_at, what_in}
use Rattle.qg_refs.specs.Counts.{count_of, counted}
use Rattle.qg_refs.proofs.Counting.{count-cons, count-nil}
use Rattle.qg_weighed.specs.Table.{IsTable, book_of}
use Rattle.qg_tree_backrefs.specs.declared.tree_refs.TreeRefs.{TreeRefs}
use Rattle.qg_tree_backrefs.specs.Exchange.{Exchange, Exchanges, times}
use Rattle.qg_tree_backrefs.specs.Following.{exchange_by_leaving, is_of_level, leaving_in, other_level, placed_by}
use Rattle.qg_tree_backrefs.specs.Following.{references_to}
use Rattle.qg_tree_backrefs.proofs.ReferenceTotals.{many, total, total-cons}
use Rattle.qg_tree_backrefs.proofs.Keeping.{bare-keyed}
use Rattle.qg_tree_backrefs.proofs.Owings.{children-alike, many-alike, many-cons, shared-no_block, times-cons}
use Rattle.qg_tree_backrefs.proofs.Placing.{known-kept, total-moved}
use Rattle.qg_tree_backrefs.proofs.Single.{length-total}
use Rattle.qg_tree_backrefs.proofs.Times.{times-nil, times-own}

-- ---- levels

level_from : (what : What) (known : Option ℕ) (level : ℕ) → what.level ≡ known
    → unwrap_or (option_map (λ (k : ℕ). k == level) known) false ≡ true → what.level ≡ Some level
level_from what None level same is = cc
level_from what (Some known) level same is = same ∙ ap (λ (n : ℕ). Some n) (eqb-true known level is)

level_known : (known : Option What) (level : ℕ) → is_of_level known level ≡ true
    → (what : What) × (known ≡ Some what) × (what.level ≡ Some level)
level_known None level is = cc
level_known (Some what) level is = (what, refl, level_from what what.level level refl is)

known_else : (several known : Bool) (at : ℕ) → several ≡ true → (if several && not known then Some at else None) ≡ None
    → known ≡ true
known_else true true at is none = refl
known_else true false at is none = cc
known_else false known at is none = cc

-- ---- the only reference

whole_or_none : (b : Bool) (n : ℕ) → 0 < (if b then n else 0) → (if b then n else 0) ≡ n
whole_or_none true n some = refl
whole_or_none false n some = absurd (omega (arith, some))

only_one : (references : List Counted) (reference : Reference) → length references ≤ 1
    → 0 < count_of references reference → count_of references reference ≤ 1 → total references ≤ 1
only_one [] reference short some most = let none = count-nil reference in absurd (omega (arith, none, some))
only_one (entry ∷ []) reference short some most =
    let count = count-cons entry [] reference in
    let none = count-nil reference in
    let sum = total-cons entry [] in
    let own = whole_or_none (same_reference reference entry.reference) entry.count (omega (arith, count, none, some)) in
    omega (arith, count, none, sum, own, most)
only_one (entry ∷ other ∷ rest) reference short some most = absurd (omega (arith, short))

-- ---- a node that holds nothing gives its children nothing

bare_gains : (leaving : Leaving) (placed : Placed) (q : ℕ) → own_items placed.node ≡ [] → own_pointers placed.node ≡ []
    → many (leaving_gains leaving placed) q ≡ 0
bare_gains Goes placed q no_items no_pointers = refl
bare_gains TurnsFull placed q no_items no_pointers =
    let alike = many-alike (keyed_children placed.node (owner_of placed)) (shared_children placed.node)
    (children-alike placed.node (owner_of placed)) q in
    let none = ap (λ (xs : List Owing). many xs q) (bare-keyed placed.node (owner_of placed) no_items no_pointers) in
    omega (arith, alike, none)
bare_gains Stays placed q no_items no_pointers = refl

no_block : (leaving : Leaving) (placed : Placed) (q tree : ℕ)
    → times (leaving_gains leaving placed) q (KeyedBlock tree) ≡ 0
no_block Goes placed q tree = times-nil q (KeyedBlock tree)
no_block TurnsFull placed q tree = shared-no_block placed.node tree q
no_block Stays placed q tree = times-nil q (KeyedBlock tree)

module _ (old new : TreeRefs) (node : Node) (table : IsTable old.refs)
    (done : Exchanges (book_of old.refs) (book_of new.refs) (exchange_by_leaving (book_of old.refs) old.tree node) None)
    (no_items : own_items node ≡ []) (no_pointers : own_pointers node ≡ []) where
  abbrev at : ℕ
  at = (header_of node).address

  abbrev gains : List Owing
  gains = leaving_gains (leaving_in (book_of old.refs) old.tree node) (placed_by (book_of old.refs) node)

  abbrev others : List Owing
  others = leaving_losses (leaving_in (book_of old.refs) old.tree node) (placed_by (book_of old.refs) node)

  -- the tree's reference was there
  was_there : 0 < count_at (book_of old.refs) at (KeyedBlock old.tree)
  was_there =
      let count = done.counts at (KeyedBlock old.tree) in
      let none = no_block (leaving_in (book_of old.refs) old.tree node) (placed_by (book_of old.refs) node) at old.tree
      in
      let lost = times-cons (way_to at old.tree) others at (KeyedBlock old.tree) in
      let one = times-own (way_to at old.tree) in
      omega (arith, count, none, lost, one)

  -- a reference that is left was not the only one
  not_only : 0 < references_to (book_of new.refs) at → references_to (book_of old.refs) at ≤ 1 → ⊥
  not_only some few =
      let most = table.fitting at (KeyedBlock old.tree) in
      let all = only_one (references_at (book_of old.refs) at) (KeyedBlock old.tree) few was_there most in
      let moved = total-moved (book_of old.refs) (book_of new.refs)
      (exchange_by_leaving (book_of old.refs) old.tree node) None table.book done at in
      let none = bare_gains (leaving_in (book_of old.refs) old.tree node) (placed_by (book_of old.refs) node) at
      no_items
      no_pointers in
      let lost = many-cons (way_to at old.tree) others at in
      let one = ap {B = ℕ} (λ (b : Bool). if b then 1 else 0) (eq-eqb at at refl) in
      let least = length-total (references_at (book_of new.refs) at) (done.book.sound at) in
      absurd (omega (arith, some, all, moved, none, lost, one, least))

  pub level-left : other_level (book_of old.refs) node ≡ None → 0 < references_to (book_of new.refs) at
      → (what : What) × (what_in (book_of new.refs at) ≡ Some what) × (what.level ≡ Some (header_of node).level)
  level-left none some =
      let known = known-kept (book_of old.refs) (book_of new.refs)
      (exchange_by_leaving (book_of old.refs) old.tree node) None table.book done at refl some in
      let is = known_else (nat_lt 1 (references_to (book_of old.refs) at))
      (is_of_level (what_in (book_of old.refs at)) (header_of node).level) at
      (several (nat_lt 1 (references_to (book_of old.refs) at)) refl) none in
      let level = level_known (what_in (book_of old.refs at)) (header_of node).level is in
      (level.0, known ∙ level.1, level.2)
    where
      few_from : (n : ℕ) → nat_lt 1 n ≡ false → n ≤ 1
      few_from zero is = omega arith
      few_from (suc zero) is = omega arith
      few_from (suc (suc n)) is = let many_there : nat_lt 1 (suc (suc n)) ≡ true =
          lt-ltb 1 (suc (suc n)) (omega arith) in cc

      several : (b : Bool) → nat_lt 1 (references_to (book_of old.refs) at) ≡ b
          → nat_lt 1 (references_to (book_of old.refs) at) ≡ true
      several true is = is
      several false is = absurd (not_only some (few_from (references_to (book_of old.refs) at) is))
