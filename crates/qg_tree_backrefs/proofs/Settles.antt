-- What a subvolume's book leaves standing where no misfit is met: after a copy, a node that is made and one that is
-- left.
use Rattle.std.proofs.Common.{◌≡◌, ◌≢◌, ℕ, ◌<◌, List, [], Option, Some, None, refl, sym, ap, subst, ◌∙◌, inl, inr}
use Rattle.std.specs.Prelude.{◌⊎◌, IsSome}
use Rattle.std.specs.Option.{option_or}
use Rattle.qg_device.specs.History.{History}
use Rattle.qg_node.specs.declared.node.Node.{Node}
use Rattle.qg_node.specs.declared.node.Node.TheVariants.{Leaf, Inner}
use Rattle.qg_node.specs.Nodes.{header_of, own_items, own_pointers}
use Rattle.qg_image.specs.Table.{with_number}
use Rattle.qg_node_alloc.specs.NodesInMemory.{Draft, Held}
use Rattle.qg_node_alloc.specs.NodesFound.{clean_at, first_of, fresh_at, held_at}
use Rattle.qg_space.specs.Holding.{Holding}
use Rattle.qg_node_alloc.specs.declared.ground.Ground.{Ground}
use Rattle.qg_node_alloc.specs.Changes.{PutsFresh}
use Rattle.qg_node_alloc.specs.Tellings.{Empties, HoldsNothing, IsCopyAt, Telling, node_copy}
use Rattle.qg_node_alloc.specs.Tellings.Telling.{Copied, Made, Left}
use Rattle.qg_refs.specs.declared.kept.What.{What}
use Rattle.qg_refs.specs.Book.{what_in}
use Rattle.qg_weighed.specs.Table.{IsTable, book_of}
use Rattle.qg_tree_backrefs.specs.declared.tree_refs.TreeRefs.{TreeRefs}
use Rattle.qg_tree_backrefs.specs.Exchange.{Exchanges}
use Rattle.qg_tree_backrefs.specs.Following.{Step, coming_of, exchange_of, other_level, references_to}
use Rattle.qg_tree_backrefs.specs.Settled.{IsSettled}
use Rattle.qg_tree_backrefs.proofs.Keeping.{IsEmptied, IsPutAt, IsSettled-copied, IsSettled-left, IsSettled-made}
use Rattle.qg_tree_backrefs.proofs.Leaving.{level-left}
use Rattle.qg_tree_backrefs.proofs.Placing.{IsLetGo}
use Rattle.qg_tree_backrefs.proofs.Stepping.{or-none}

-- ---- nodes in memory

pub some-fresh : (o : Option Node) → IsSome o → (node : Node) × (o ≡ Some node)
some-fresh None some = cc
some-fresh (Some node) some = (node, refl)

pub held-fresh : (held : Held) (draft : Draft) (at : ℕ) (node : Node) → held.draft ≡ draft
    → fresh_at draft at ≡ Some node → held_at held at ≡ Some node
held-fresh held draft at node same is =
    ap (λ (o : Option Node). first_of o (clean_at held at)) (ap (λ (d : Draft). fresh_at d at) same ∙ is)

level_copy : (node : Node) (address owner generation : ℕ)
    → (header_of (node_copy node address owner generation)).level ≡ (header_of node).level
level_copy (Leaf header items) address owner generation = refl
level_copy (Inner header pointers) address owner generation = refl

-- a copy is of the node's level
pub level-copied : (address : ℕ) (node copy : Node) → IsCopyAt address node copy
    → (header_of copy).level ≡ (header_of node).level
level-copied address node copy is =
    ap (λ (n : Node). (header_of n).level) is.2 ∙ level_copy node address is.0 is.1

-- ---- one telling

module _ (old new : TreeRefs) (telling : Telling) (step : Step old telling new) (fits : new.misfit ≡ None) where
  none_met : option_or old.misfit step.misfit ≡ None
  none_met = sym (ap (λ (book : TreeRefs). book.misfit) step.noted) ∙ fits

  -- none was met before
  pub fit-before : old.misfit ≡ None
  fit-before = (or-none old.misfit step.misfit none_met).0

  pub none-met : step.misfit ≡ None
  none-met = (or-none old.misfit step.misfit none_met).1

  pub exchanged : Exchanges (book_of old.refs) (book_of new.refs) (exchange_of old telling)
      (coming_of old step.level telling)
  exchanged = step.done none-met

  pub same-size : new.nodesize ≡ old.nodesize
  same-size = ap (λ (book : TreeRefs). book.nodesize) step.noted

  pub same-next : new.next ≡ old.next
  same-next = ap (λ (book : TreeRefs). book.next) step.noted

-- ---- a node that is made

pub Settled-made : (old new : TreeRefs) (before land : Ground) (history : History) (at : ℕ) (mine : Node)
    → IsTable old.refs → (old.misfit ≡ None → IsSettled old before history)
    → (step : Step old (Made at) new) → step.level ≡ (header_of mine).level → IsPutAt before land at mine
    → new.misfit ≡ None → IsSettled new land history
Settled-made old new before land history at mine table settled step levelled put fits =
    let was = settled (fit-before old new (Made at) step fits) in
    let done = exchanged old new (Made at) step fits in
    let nodesize = same-size old new (Made at) step fits in
    let next = same-next old new (Made at) step fits in
    IsSettled-made old new before land history at step.level mine was table.book done nodesize next put (sym levelled)

-- ---- a copy

pub Settled-copied : (old new : TreeRefs) (before land after : Ground) (history : History) (at : ℕ)
    (node : Node) (copy : ℕ) (mine : Node)
    → IsTable old.refs → (old.misfit ≡ None → IsSettled old before history)
    → Step old (Copied node copy) new → IsPutAt before land copy mine
    → (header_of mine).level ≡ (header_of node).level → (header_of node).address ≡ at
    → fresh_at land.blocks.draft at ≡ None → IsLetGo (book_of new.refs) land after at
    → after.blocks.draft.sizes ≡ land.blocks.draft.sizes → new.misfit ≡ None → IsSettled new after history
Settled-copied old new before land after history at node copy mine table settled step put levelled placed clean let_go
    sizes fits =
    let was = settled (fit-before old new (Copied node copy) step fits) in
    let done = exchanged old new (Copied node copy) step fits in
    let nodesize = same-size old new (Copied node copy) step fits in
    let next = same-next old new (Copied node copy) step fits in
    let clean_there = subst (λ (a : ℕ). fresh_at land.blocks.draft a ≡ None) (sym placed) clean in
    let gone_there = subst (λ (a : ℕ). IsLetGo (book_of new.refs) land after a) (sym placed) let_go in
    IsSettled-copied old new before land after history node copy mine was table.book done nodesize next put levelled
    clean_there gone_there sizes

-- ---- a node that is left

pub Settled-left : (old new : TreeRefs) (before land after : Ground) (history : History) (at : ℕ)
    (node : Node)
    → IsTable old.refs → (old.misfit ≡ None → IsSettled old before history)
    → (step : Step old (Left node) new) → (step.misfit ≡ None → other_level (book_of old.refs) node ≡ None)
    → IsEmptied before land at node → IsLetGo (book_of new.refs) land after at
    → after.blocks.draft.sizes ≡ land.blocks.draft.sizes → new.misfit ≡ None → IsSettled new after history
Settled-left old new before land after history at node table settled step level emptied let_go sizes fits =
    let was = settled (fit-before old new (Left node) step fits) in
    let done = exchanged old new (Left node) step fits in
    let none = level (none-met old new (Left node) step fits) in
    let nodesize = same-size old new (Left node) step fits in
    let next = same-next old new (Left node) step fits in
    let known = level-left old new node table done emptied.no_items emptied.no_pointers none in
    let known_there = subst (λ (a : ℕ). 0 < references_to (book_of new.refs) a
    → (what : What) × (what_in (book_of new.refs a) ≡ Some what) × (what.level ≡ Some (header_of node).level))
    emptied.address known in
    IsSettled-left old new before land after history at node was table.book done nodesize next emptied known_there
    let_go
    sizes

-- ---- what a tree does to land, in these words

pub IsPutAt-fresh : (old land mid : Ground) (now : ℕ) (mine : Node) → PutsFresh old land now
    → mid.blocks.draft ≡ land.blocks.draft → mid.space ≡ land.space → fresh_at land.blocks.draft now ≡ Some mine
    → IsPutAt old mid now mine
IsPutAt-fresh old land mid now mine puts draft space is = record {
  here = ap (λ (d : Draft). fresh_at d now) draft ∙ is;
  others = λ q differ. ap (λ (d : Draft). fresh_at d q) draft ∙ puts.others q differ;
  space = space ∙ puts.space;
  sizes = ap (λ (d : Draft). d.sizes) draft ∙ puts.sizes;
}

level_elsewhere : (at q : ℕ) (was node : Node) → q ≢ at
    → ((header_of was).level ≡ (header_of node).level) ⊎ ((q ≡ at) × HoldsNothing node)
    → (header_of was).level ≡ (header_of node).level
level_elsewhere at q was node differ (inl same) = same
level_elsewhere at q was node differ (inr here) = absurd (differ here.0)

pub IsEmptied-fresh : (old new : Ground) (at : ℕ) (node : Node) → Empties old new at
    → fresh_at new.blocks.draft at ≡ Some node → IsEmptied old new at node
IsEmptied-fresh old new at node empties is =
    let one : Some empties.here.0 ≡ Some node = sym empties.here.1 ∙ is in
    let same : empties.here.0 ≡ node = cc in
    let was = empties.each at node is in
    record {
      space = empties.space;
      sizes = empties.sizes;
      here = is;
      address = ap (λ (n : Node). (header_of n).address) (sym same) ∙ empties.here.3;
      no_items = ap own_items (sym same) ∙ empties.here.2.0;
      no_pointers = ap own_pointers (sym same) ∙ empties.here.2.1;
      was = was.0;
      there = was.1;
      each = λ q other differ there.
          let before = empties.each q other there in
          (before.0, before.1, level_elsewhere at q before.0 other differ before.2);
      still = empties.stays;
    }
