-- What a book knows once a reference was taken, or a node was parted with: nothing that it did not know.
use Rattle.std.proofs.Common.{◌≡◌, ◌≢◌, ℕ, List, [], ◌∷◌, Option, Some, None, refl, sym, ap, ◌∙◌, inl, inr}
use Rattle.std.specs.Option.{option_or}
use Rattle.std.proofs.lemmas.Bool.Decides.{eqb_tells}
use Rattle.qg_items.specs.declared.extent.Reference.{Reference}
use Rattle.qg_refs.specs.declared.counted.Counted.{Counted}
use Rattle.qg_refs.specs.declared.kept.Kept.{Kept}
use Rattle.qg_refs.specs.declared.kept.What.{What}
use Rattle.qg_refs.specs.Book.{Book, Drops, references_at, what_in}
use Rattle.qg_extents.specs.Table.{book_of}
use Rattle.qg_tree_backrefs.specs.declared.tree_refs.TreeRefs.{TreeRefs}
use Rattle.qg_tree_backrefs.specs.Exchange.{Exchange}
use Rattle.qg_tree_backrefs.specs.Following.{IsExchanged}
use Rattle.qg_tree_backrefs.proofs.Stepping.{or-none}
use Rattle.qg_subvolumes.specs.Dropping.{KnowsNoMore}

pub knows-same : (book : TreeRefs) → KnowsNoMore book book
knows-same book = record { known = λ at what is. is }

pub knows-on : (old mid new : TreeRefs) → KnowsNoMore old mid → KnowsNoMore mid new → KnowsNoMore old new
knows-on old mid new first last = record { known = λ at what is. first.known at what (last.known at what is) }

-- ---- a reference that was taken

module _ (old new : Book) (at : ℕ) (reference : Reference) (drops : Drops old new at reference) where
  known_here : (what : What) (references : List Counted) → references_at new at ≡ references
      → what_in (new at) ≡ Some what → what_in (old at) ≡ Some what
  known_here what [] gone is =
      let wrong : ◌≡◌ {A = Option What} None (Some what) = sym (ap what_in (drops.gone gone)) ∙ is in absurd cc
  known_here what (entry ∷ references) some is =
      let left : references_at new at ≢ [] = λ none.
      let wrong : ◌≡◌ {A = List Counted} [] (entry ∷ references) = sym none ∙ some in cc in
      sym (drops.known left) ∙ is

  known_dropped : (q : ℕ) (what : What) → what_in (new q) ≡ Some what → what_in (old q) ≡ Some what
  known_dropped q what is = elim (eqb_tells q at) [
    | inl (equal, same) ↦
        ap (λ (n : ℕ). what_in (old n)) same
        ∙ known_here what (references_at new at) refl (ap (λ (n : ℕ). what_in (new n)) (sym same) ∙ is)
    | inr (unequal, differ) ↦ ap what_in (sym (drops.elsewhere q differ)) ∙ is
  ]

pub knows-dropped : (old new : TreeRefs) (at : ℕ) (reference : Reference)
    → Drops (book_of old.refs) (book_of new.refs) at reference → KnowsNoMore old new
knows-dropped old new at reference drops = record {
  known = known_dropped (book_of old.refs) (book_of new.refs) at reference drops;
}

-- ---- a node that was parted with

known_before : (had : Option What) (what : What) → option_or had None ≡ Some what → had ≡ Some what
known_before None what is = is
known_before (Some other) what is = is

module _ (old new : TreeRefs) (exchange : Exchange) (exchanged : IsExchanged old exchange new)
    (fits : new.misfit ≡ None)
  where
    none_met : exchanged.misfit ≡ None
    none_met =
        (or-none old.misfit exchanged.misfit (sym (ap (λ (book : TreeRefs). book.misfit) exchanged.noted) ∙ fits)).1

    known_kept : (at : ℕ) (what : What) (kept : Option Kept) → book_of new.refs at ≡ kept → what_in kept ≡ Some what
        → what_in (book_of old.refs at) ≡ Some what
    known_kept at what None here is = let wrong : ◌≡◌ {A = Option What} None (Some what) = is in absurd cc
    known_kept at what (Some kept) here is =
        known_before (what_in (book_of old.refs at)) what ((exchanged.done none_met).known at kept here ∙ is)

    pub knows-exchanged : KnowsNoMore old new
    knows-exchanged = record { known = λ at what is. known_kept at what (book_of new.refs at) refl is }
