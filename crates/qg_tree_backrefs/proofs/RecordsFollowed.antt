-- Which records a subvolume's book has besides, once its tree told it something.
use Rattle.std.proofs.Common.{◌≡◌, ℕ, ◌+◌, ◌≤◌, List, [], ◌∷◌, ◌++◌, Option, Some, None, arith, sym, ap, subst, ◌∙◌}
use Rattle.std.specs.List.{sum_by}
use Rattle.std.proofs.lemmas.List.Sums.{sum_by-append, sum_by-cons}
use Rattle.qg_node.specs.Nodes.{header_of, used_bytes}
use Rattle.qg_image.specs.State.{Placed}
use Rattle.qg_image.specs.Owed.{Owing}
use Rattle.qg_image.specs.Record.{Record, record_bytes}
use Rattle.qg_cow_refs.specs.declared.cases.Edits.{Edits}
use Rattle.qg_cow_refs.specs.declared.cases.Edits.TheVariants.{ShareOld, AddKeyed, TurnKeyed, TakeOver}
use Rattle.qg_cow_refs.specs.declared.cases.Leaving.{Leaving}
use Rattle.qg_cow_refs.specs.declared.cases.Leaving.TheVariants.{Goes, TurnsFull, Stays}
use Rattle.qg_cow_refs.specs.Copying.{children_gain}
use Rattle.qg_cow_refs.specs.Left.{leaving_gains}
use Rattle.qg_node_alloc.specs.Tellings.{Telling}
use Rattle.qg_node_alloc.specs.Tellings.Telling.{Copied, Made, Left}
use Rattle.qg_refs.specs.declared.kept.What.{What}
use Rattle.qg_weighed.specs.Table.{IsTable, book_of}
use Rattle.qg_tree_backrefs.specs.declared.tree_refs.TreeRefs.{TreeRefs}
use Rattle.qg_tree_backrefs.specs.Exchange.{Exchanges, ways_to}
use Rattle.qg_tree_backrefs.specs.Following.{Follows, Step, coming_of, copying_in, exchange_of, leaving_in, placed_by}
use Rattle.qg_tree_backrefs.proofs.Stepping.{or-none}
use Rattle.qg_tree_backrefs.specs.Heavier.{BookGetsHeavier, owings_bytes, telling_bytes}
use Rattle.qg_tree_backrefs.proofs.Besides.{GetsHeavier-besides, HasBesides, HasBesides-none, HasBesides-then}
use Rattle.qg_tree_backrefs.proofs.Changed.{HasBesides-exchanged, come_bytes, gained-bytes, records_gained}
use Rattle.qg_tree_backrefs.proofs.Owed.{keyed-bytes, shared-bytes}

-- ---- what children gain

gain-bytes : (edits : Edits) (placed : Placed) (tree : ℕ) → owings_bytes (children_gain edits placed tree)
    ≤ used_bytes placed.node
gain-bytes ShareOld placed tree = shared-bytes placed.node
gain-bytes AddKeyed placed tree = keyed-bytes placed.node tree
gain-bytes TurnKeyed placed tree = keyed-bytes placed.node tree
gain-bytes TakeOver placed tree = omega arith

left-bytes : (leaving : Leaving) (placed : Placed) → owings_bytes (leaving_gains leaving placed)
    ≤ used_bytes placed.node
left-bytes Goes placed = omega arith
left-bytes TurnsFull placed = shared-bytes placed.node
left-bytes Stays placed = omega arith

-- a node that comes, at its address
abbrev come_of : TreeRefs → ℕ → Telling → Option (ℕ × What)
come_of before level (Copied node copy) =
    Some (copy, record { bytes = before.nodesize; level = Some (header_of node).level; generation = before.next })
come_of before level (Made address) =
    Some (address, record { bytes = before.nodesize; level = Some level; generation = before.next })
come_of before level (Left node) = None

-- the references that come
abbrev owed_of : TreeRefs → ℕ → Telling → List Owing
owed_of before level telling = ways_to (coming_of before level telling) ++ (exchange_of before telling).gains

told-bytes : (before : TreeRefs) (telling : Telling) (level : ℕ)
    → come_bytes (come_of before level telling)
    + (owings_bytes (ways_to (coming_of before level telling)) + owings_bytes (exchange_of before telling).gains)
    ≤ telling_bytes telling
told-bytes before (Copied node copy) level =
    let book = book_of before.refs in
    let gains = gain-bytes (copying_in book before.tree node) (placed_by book node) before.tree in
    omega (arith, gains)
told-bytes before (Made address) level = omega arith
told-bytes before (Left node) level =
    let book = book_of before.refs in
    let gains = left-bytes (leaving_in book before.tree node) (placed_by book node) in
    omega (arith, gains)

-- ---- one telling

HasBesides-told : (before after : TreeRefs) (telling : Telling) (level : ℕ)
    → Exchanges (book_of before.refs) (book_of after.refs) (exchange_of before telling) (coming_of before level telling)
    → HasBesides (book_of before.refs) (book_of after.refs)
    (records_gained (come_of before level telling) (owed_of before level telling))
HasBesides-told before after (Copied node copy) level made =
    HasBesides-exchanged (book_of before.refs) (book_of after.refs) (owed_of before level (Copied node copy))
    (exchange_of before (Copied node copy)).losses (come_of before level (Copied node copy)) made.counts made.known
HasBesides-told before after (Made address) level made =
    HasBesides-exchanged (book_of before.refs) (book_of after.refs) (owed_of before level (Made address))
    (exchange_of before (Made address)).losses (come_of before level (Made address)) made.counts made.known
HasBesides-told before after (Left node) level made =
    HasBesides-exchanged (book_of before.refs) (book_of after.refs) (owed_of before level (Left node))
    (exchange_of before (Left node)).losses (come_of before level (Left node)) made.counts made.known

module _ (before after : TreeRefs) (telling : Telling) (step : Step before telling after) where
  abbrev pub records_told : List Record
  records_told = records_gained (come_of before step.level telling) (owed_of before step.level telling)

  pub HasBesides-step : step.misfit ≡ None
      → HasBesides (book_of before.refs) (book_of after.refs) records_told
  HasBesides-step none = HasBesides-told before after telling step.level (step.done none)

  pub told-records : sum_by record_bytes records_told ≤ telling_bytes telling
  told-records =
      let all = gained-bytes (come_of before step.level telling) (ways_to (coming_of before step.level telling))
      (exchange_of before telling).gains in
      let few = told-bytes before telling step.level in
      omega (arith, all, few)

  pub held-step : after.held ≡ before.held
  held-step = ap (λ (book : TreeRefs). book.held) step.noted

  pub fits-step : after.misfit ≡ None → (before.misfit ≡ None) × (step.misfit ≡ None)
  fits-step fits = or-none before.misfit step.misfit (sym (ap (λ (book : TreeRefs). book.misfit) step.noted) ∙ fits)

  pub BookGetsHeavier-step : IsTable before.refs → IsTable after.refs → step.misfit ≡ None
      → BookGetsHeavier before after (telling_bytes telling)
  BookGetsHeavier-step before_is after_is none = record {
    held = held-step;
    heavier = GetsHeavier-besides before.refs after.refs records_told (telling_bytes telling) before_is after_is
        (HasBesides-step none) told-records;
  }

-- ---- a list of them

pub held-followed : (before after : TreeRefs) (tellings : List Telling) → Follows before tellings after
    → after.held ≡ before.held
unfolding Follows
held-followed before after [] follows = ap (λ (book : TreeRefs). book.held) follows
held-followed before after (telling ∷ tellings) follows =
    held-followed follows.0 after tellings follows.2 ∙ held-step before follows.0 telling follows.1

fits-before : (before after : TreeRefs) (tellings : List Telling) → Follows before tellings after
    → after.misfit ≡ None → before.misfit ≡ None
unfolding Follows
fits-before before after [] follows fits = sym (ap (λ (book : TreeRefs). book.misfit) follows) ∙ fits
fits-before before after (telling ∷ tellings) follows fits =
    (fits-step before follows.0 telling follows.1
    (fits-before follows.0 after tellings follows.2 fits)).0

-- the records that come, one after the other
record ComesAtMost (before after : TreeRefs) (most : ℕ) : Type 0 where
  pub more : List Record
  pub has : HasBesides (book_of before.refs) (book_of after.refs) more
  pub few : sum_by record_bytes more ≤ most

comes-followed : (before after : TreeRefs) (tellings : List Telling) → Follows before tellings after
    → after.misfit ≡ None → ComesAtMost before after (sum_by telling_bytes tellings)
unfolding Follows
comes-followed before after [] follows fits = record {
  more = [];
  has = subst (λ (book : TreeRefs). HasBesides (book_of before.refs) (book_of book.refs) []) (sym follows)
      (HasBesides-none (book_of before.refs));
  few = omega arith;
}
comes-followed before after (telling ∷ tellings) follows fits =
    let mid = follows.0 in
    let step = follows.1 in
    let rest = comes-followed mid after tellings follows.2 fits in
    let none = (fits-step before mid telling step (fits-before mid after tellings follows.2 fits)).1 in
    let first = records_told before mid telling step in
    let few = told-records before mid telling step in
    let later = rest.few in
    record {
      more = first ++ rest.more;
      has = HasBesides-then (book_of before.refs) (book_of mid.refs) (book_of after.refs) first rest.more
          (HasBesides-step before mid telling step none) rest.has;
      few = omega (
        arith,
        few,
        later,
        sum_by-append record_bytes first rest.more,
        sum_by-cons telling_bytes telling tellings,
      );
    }

pub BookGetsHeavier-followed : (before after : TreeRefs) (tellings : List Telling) → IsTable before.refs
    → IsTable after.refs → Follows before tellings after → after.misfit ≡ None
    → BookGetsHeavier before after (sum_by telling_bytes tellings)
BookGetsHeavier-followed before after tellings before_is after_is follows fits =
    let comes = comes-followed before after tellings follows fits in
    record {
      held = held-followed before after tellings follows;
      heavier = GetsHeavier-besides before.refs after.refs comes.more (sum_by telling_bytes tellings) before_is
          after_is comes.has comes.few;
    }
