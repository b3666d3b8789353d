-- What a snapshot makes of the extent tree's weight: a node that comes, and a reference to each of its children.
use Rattle.std.proofs.Common.{◌≡◌, ℕ, ◌+◌, ◌≤◌, List, [], ◌++◌, Option, Some, None, arith, sym, ap, ◌∙◌}
use Rattle.std.specs.List.{sum_by}
use Rattle.std.specs.Option.{option_or}
use Rattle.std.proofs.lemmas.List.Sums.{sum_by-append}
use Rattle.qg_items.specs.declared.extent.Reference.{Reference}
use Rattle.qg_node.specs.declared.node.Node.{Node}
use Rattle.qg_node.specs.NodeText.{IsNode}
use Rattle.qg_super.specs.Places.{capacity}
use Rattle.qg_image.specs.Owed.{Owing}
use Rattle.qg_image.specs.Record.{Record, record_bytes}
use Rattle.qg_cow_refs.specs.Children.{keyed_children}
use Rattle.qg_node_alloc.specs.Tellings.Telling.{Made}
use Rattle.qg_refs.specs.declared.kept.Kept.{Kept}
use Rattle.qg_refs.specs.declared.kept.What.{What}
use Rattle.qg_refs.specs.Book.{Book, count_at, what_in}
use Rattle.qg_extents.specs.Table.{IsTable, book_of}
use Rattle.qg_tree_backrefs.specs.declared.tree_refs.TreeRefs.{TreeRefs}
use Rattle.qg_tree_backrefs.specs.Exchange.{Gives, times}
use Rattle.qg_tree_backrefs.specs.Following.{Step}
use Rattle.qg_tree_backrefs.proofs.Times.{times-nil}
use Rattle.qg_tree_backrefs.specs.Heavier.{BookGetsHeavier, node_bytes}
use Rattle.qg_tree_backrefs.proofs.Besides.{GetsHeavier-besides, HasBesides, HasBesides-then}
use Rattle.qg_tree_backrefs.proofs.Changed.{HasBesides-exchanged, gained-bytes, records_gained}
use Rattle.qg_tree_backrefs.proofs.Owed.{keyed-bytes}
use Rattle.qg_tree_backrefs.proofs.RecordsFollowed.{HasBesides-step, fits-step, held-step, records_told, told-records}

-- references that are given to what is known are all that comes
known_given : (here : Option What) (what : What) → here ≡ Some what → option_or here None ≡ Some what
known_given None what is = is
known_given (Some other) what is = is

module _ (made given : Book) (children : List Owing) (gives : Gives made given children) where
  counts_given : (at : ℕ) (reference : Reference) → count_at given at reference + times [] at reference
      ≡ count_at made at reference + times children at reference
  counts_given at reference =
      let more = gives.counts at reference in
      let none = times-nil at reference in
      omega (arith, more, none)

  what_given : (at : ℕ) (kept : Kept) → given at ≡ Some kept → option_or (what_in (made at)) None ≡ Some kept.what
  what_given at kept here =
      known_given (what_in (made at)) kept.what (sym (gives.known at) ∙ ap what_in here)

  HasBesides-given : HasBesides made given (records_gained None children)
  HasBesides-given = HasBesides-exchanged made given children [] None counts_given what_given

module _ (old made given : TreeRefs) (now : ℕ) (step : Step old (Made now) made) (fits : made.misfit ≡ None)
    (root : Node) (copy nodesize : ℕ) (sound : IsNode nodesize root)
    (gives : Gives (book_of made.refs) (book_of given.refs) (keyed_children root copy))
    (others : given ≡ record made { refs = given.refs }) (first : IsTable old.refs) (last : IsTable given.refs) where
  abbrev by_node : List Record
  by_node = records_told old made (Made now) step

  abbrev by_children : List Record
  by_children = records_gained None (keyed_children root copy)

  comes : HasBesides (book_of old.refs) (book_of given.refs) (by_node ++ by_children)
  comes =
      HasBesides-then (book_of old.refs) (book_of made.refs) (book_of given.refs) by_node by_children
      (HasBesides-step old made (Made now) step (fits-step old made (Made now) step fits).1)
      (HasBesides-given (book_of made.refs) (book_of given.refs) (keyed_children root copy) gives)

  few : sum_by record_bytes (by_node ++ by_children) ≤ node_bytes + capacity nodesize
  few =
      let both = sum_by-append record_bytes by_node by_children in
      let node = told-records old made (Made now) step in
      let children = gained-bytes None [] (keyed_children root copy) in
      let bytes = keyed-bytes root copy in
      let used = sound.fits in
      omega (arith, both, node, children, bytes, used)

  pub heavier-then : BookGetsHeavier old given (node_bytes + capacity nodesize)
  heavier-then = record {
    held = ap (λ (book : TreeRefs). book.held) others ∙ held-step old made (Made now) step;
    heavier = GetsHeavier-besides old.refs given.refs (by_node ++ by_children) (node_bytes + capacity nodesize) first
        last
        comes few;
  }
