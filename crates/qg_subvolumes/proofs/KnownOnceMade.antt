-- What a book knows once a node was told as made, and references were given: what it knew, and of what came that it is
-- of the generation to come.
use Rattle.std.proofs.Common.{◌≡◌, ℕ, Bool, true, false, List, Option, Some, None, refl, sym, ap, ◌∙◌, inl, inr}
use Rattle.std.specs.Prelude.{◌⊎◌, if◌then◌else◌, ◌==◌}
use Rattle.std.specs.Option.{option_or}
use Rattle.std.proofs.lemmas.Option.{same_Some}
use Rattle.qg_image.specs.Owed.{Owing}
use Rattle.qg_node_alloc.specs.Tellings.Telling.{Made}
use Rattle.qg_refs.specs.declared.kept.Kept.{Kept}
use Rattle.qg_refs.specs.declared.kept.What.{What}
use Rattle.qg_refs.specs.Book.{what_in}
use Rattle.qg_extents.specs.Table.{book_of}
use Rattle.qg_tree_backrefs.specs.declared.tree_refs.TreeRefs.{TreeRefs}
use Rattle.qg_tree_backrefs.specs.Exchange.{Gives, what_comes}
use Rattle.qg_tree_backrefs.specs.Following.{Step, coming_of}
use Rattle.qg_subvolumes.specs.Beginning.{BookGoesOn}

known_or : (had come : Option What) (what : What) → option_or had come ≡ Some what
    → (had ≡ Some what) ⊎ (come ≡ Some what)
known_or (Some some) come what is = inl is
known_or None come what is = inr is

what_there : (here : Bool) (come what : What) → (if here then Some come else None) ≡ Some what → come ≡ what
what_there true come what is = same_Some come what is
what_there false come what is = let wrong : ◌≡◌ {A = Option What} None (Some what) = is in absurd cc

-- what comes is of the generation to come
came : (book : TreeRefs) (level now at : ℕ) (what : What)
    → what_comes (coming_of book level (Made now)) at ≡ Some what → what.generation ≡ book.next
came book level now at what is =
    sym (ap (λ (w : What). w.generation)
    (what_there (at == now) (record { bytes = book.nodesize; level = Some level; generation = book.next }) what is))

module _ (old made : TreeRefs) (now : ℕ) (step : Step old (Made now) made) (none : step.misfit ≡ None) where
  known_kept : (at : ℕ) (what : What) (kept : Option Kept) → book_of made.refs at ≡ kept → what_in kept ≡ Some what
      → (what_in (book_of old.refs at) ≡ Some what) ⊎ (what.generation ≡ old.next)
  known_kept at what None here is = let wrong : ◌≡◌ {A = Option What} None (Some what) = is in absurd cc
  known_kept at what (Some kept) here is =
      let had = what_in (book_of old.refs at) in
      let come = what_comes (coming_of old step.level (Made now)) at in
      elim (known_or had come what ((step.done none).known at kept here ∙ is)) [
        | inl before ↦ inl before
        | inr new ↦ inr (came old step.level now at what new)
      ]

  known_made : (at : ℕ) (what : What) → what_in (book_of made.refs at) ≡ Some what
      → (what_in (book_of old.refs at) ≡ Some what) ⊎ (what.generation ≡ old.next)
  known_made at what is = known_kept at what (book_of made.refs at) refl is

  -- after the node
  pub goes-made : BookGoesOn old made
  goes-made = record {
    tree = ap (λ (book : TreeRefs). book.tree) step.noted;
    nodesize = ap (λ (book : TreeRefs). book.nodesize) step.noted;
    next = ap (λ (book : TreeRefs). book.next) step.noted;
    known = known_made;
  }

  -- and after references to what is known
  pub goes-given : (given : TreeRefs) (children : List Owing)
      → Gives (book_of made.refs) (book_of given.refs) children → given ≡ record made { refs = given.refs }
      → BookGoesOn old given
  goes-given given children gives others = record {
    tree = ap (λ (book : TreeRefs). book.tree) others ∙ ap (λ (book : TreeRefs). book.tree) step.noted;
    nodesize = ap (λ (book : TreeRefs). book.nodesize) others ∙ ap (λ (book : TreeRefs). book.nodesize) step.noted;
    next = ap (λ (book : TreeRefs). book.next) others ∙ ap (λ (book : TreeRefs). book.next) step.noted;
    known = λ at what is. known_made at what (sym (gives.known at) ∙ is);
  }
