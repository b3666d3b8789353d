-- A state that is held, once a root was made and its children got references: what the book counts, its marks, and that
-- it is settled.
use Rattle.std.proofs.Common.{◌≡◌, ◌≢◌, ℕ, ◌+◌, Bool, true, false, List, [], ◌∷◌, Option, Some, None, arith, refl, sym}
use Rattle.std.proofs.Common.{ap, subst, ◌∙◌, inl, inr}
use Rattle.std.specs.Prelude.{◌||◌, IsTrue}
use Rattle.std.specs.Option.{option_or}
use Rattle.std.proofs.lemmas.Bool.Decides.{eqb_tells}
use Rattle.std.proofs.lemmas.Option.{same_Some}
use Rattle.qg_device.specs.History.{History}
use Rattle.qg_items.specs.declared.extent.Reference.{Reference}
use Rattle.qg_super.specs.Places.{is_slot}
use Rattle.qg_super.specs.declared.sizes.Sizes.{Sizes}
use Rattle.qg_image.specs.Table.{value_at}
use Rattle.qg_image.specs.State.{Placed, State}
use Rattle.qg_image.specs.Owed.{Owing}
use Rattle.qg_cow_refs.specs.Children.{way_to}
use Rattle.qg_blocks.specs.NodesFound.{told}
use Rattle.qg_node_alloc.specs.declared.ground.Ground.{Ground}
use Rattle.qg_node_alloc.specs.Tellings.Telling.{Made}
use Rattle.qg_refs.specs.declared.kept.Kept.{Kept}
use Rattle.qg_refs.specs.declared.kept.What.{What}
use Rattle.qg_refs.specs.Book.{Book, IsBook, count_at, full_in, what_in}
use Rattle.qg_extents.specs.Table.{book_of}
use Rattle.qg_reach.proofs.Layouts.{value_at-with_other, value_at-with_same}
use Rattle.qg_tree_backrefs.specs.declared.tree_refs.TreeRefs.{TreeRefs}
use Rattle.qg_tree_backrefs.specs.Exchange.{Exchange, Exchanges, Gives, times, what_comes}
use Rattle.qg_tree_backrefs.specs.Following.{coming_of}
use Rattle.qg_tree_backrefs.specs.Settled.{IsSettled}
use Rattle.qg_tree_backrefs.proofs.Gains.{count-none}
use Rattle.qg_tree_backrefs.proofs.Times.{times-append, times-nil}
use Rattle.qg_tree_backrefs.proofs.ExchangeInSteps.{nothing-kept}
use Rattle.qg_shared_trees.specs.ForestStanding.{HoldsNode, HoldsState}
use Rattle.qg_shared_trees.proofs.Known.{Settled-known}
use Rattle.qg_subvolumes.proofs.More.{OneMore}

-- a node is made, and nothing else becomes of references
abbrev pub nothing_else : Exchange
nothing_else = record { full = None; gains = []; losses = [] }

or_nothing : (full : Bool) → (full || false) ≡ full
or_nothing true = refl
or_nothing false = refl

module _ (old made given : Book) (book : TreeRefs) (now level : ℕ) (children : List Owing) (first : IsBook old)
    (done : Exchanges old made nothing_else (coming_of book level (Made now))) (gives : Gives made given children) where
  -- the counts are those before, with the way to the node and what the children got
  pub counts-then : (at : ℕ) (reference : Reference) → count_at given at reference
      ≡ count_at old at reference + times (way_to now book.tree ∷ []) at reference
      + times children at reference
  counts-then at reference =
      let put = done.counts at reference in
      let none = times-nil at reference in
      let both = times-append (way_to now book.tree ∷ []) [] at reference in
      let more = gives.counts at reference in
      omega (arith, put, none, both, more)

  more_there : (at : ℕ) (reference : Reference) → count_at made at reference ≡ 0 → count_at old at reference ≡ 0
  more_there at reference none =
      let put = done.counts at reference in
      let nothing = times-nil at reference in
      omega (arith, put, nothing, none)

  none_made : (at : ℕ) → made at ≡ None → (reference : Reference) → count_at made at reference ≡ 0
  none_made at none reference = count-none made at reference none

  full_made : (at : ℕ) (kept : Option Kept) → made at ≡ kept → full_in (made at) ≡ full_in (old at)
  full_made at (Some kept) here = ap full_in here ∙ done.full at kept here ∙ or_nothing (full_in (old at))
  full_made at None here = ap full_in here ∙ sym (ap full_in (nothing-kept old at first (λ reference.
      more_there at reference (none_made at here reference))))

  -- marks are as they were
  pub marks-then : (at : ℕ) → full_in (given at) ≡ full_in (old at)
  marks-then at = gives.full at ∙ full_made at (made at) refl

  known_made : (at : ℕ) (what : What) (kept : Option Kept) → made at ≡ kept → what_in (old at) ≡ Some what
      → what_in (made at) ≡ Some what
  known_made at what (Some kept) here there =
      ap what_in here ∙ sym (done.known at kept here)
      ∙ ap (λ (known : Option What). option_or known (what_comes (coming_of book level (Made now)) at)) there
  known_made at what None here there =
      let none = nothing-kept old at first (λ reference. more_there at reference (none_made at here reference)) in
      let wrong : ◌≡◌ {A = Option What} None (Some what) = sym (ap what_in none) ∙ there in absurd cc

  -- what was known is known
  pub known-then : (at : ℕ) (what : What) → what_in (old at) ≡ Some what → what_in (given at) ≡ Some what
  known-then at what there = gives.known at ∙ known_made at what (made at) refl there

  -- what comes is not full
  pub bare-then : full_in (given now) ≡ false
  bare-then = marks-then now ∙ ap full_in (nothing-kept old now first done.first)

module _ (before after : State) (sub : ℕ) (more : OneMore before after sub) (land new : Ground)
    (history : History) (old given : TreeRefs) (holds : HoldsState land history old before)
    (sizes : new.space.sizes ≡ land.space.sizes) (slot : IsTrue (is_slot before.sizes more.made.root))
    (others : (q : ℕ) → q ≢ more.made.root → told new.blocks.draft history q ≡ told land.blocks.draft history q)
    (here : told new.blocks.draft history more.made.root ≡ Some more.placed.node)
    (marks : (q : ℕ) → full_in (book_of given.refs q) ≡ full_in (book_of old.refs q))
    (bare : full_in (book_of given.refs more.made.root) ≡ false) where
  made_held : (placed : Placed) → more.placed ≡ placed → HoldsNode new history given more.made.root placed
  made_held placed same = record {
    slot = subst (λ (s : Sizes). IsTrue (is_slot s more.made.root)) (holds.sizes ∙ sym sizes) slot;
    told = here ∙ ap (λ (p : Placed). Some p.node) same;
    mark = bare ∙ sym more.bare ∙ ap (λ (p : Placed). p.full) same;
  }

  -- the layout's nodes are held
  pub nodes-then : (at : ℕ) (placed : Placed) → value_at at after.layout ≡ Some placed
      → HoldsNode new history given at placed
  nodes-then at placed there = elim (eqb_tells more.made.root at) [
    | inl (equal, same) ↦
        let value = sym (value_at-with_same more.made.root more.placed before.layout)
        ∙ ap (λ (table : List (ℕ × Placed)). value_at more.made.root table) (sym more.layout)
        ∙ ap (λ (q : ℕ). value_at q after.layout) same ∙ there in
        subst (λ (q : ℕ). HoldsNode new history given q placed) same
        (made_held placed (same_Some more.placed placed value))
    | inr (unequal, differ) ↦
        let value = sym (value_at-with_other more.made.root at more.placed before.layout differ)
        ∙ ap (λ (table : List (ℕ × Placed)). value_at at table) (sym more.layout) ∙ there in
        let was = holds.nodes at placed value in
        record {
          slot = subst (λ (s : Sizes). IsTrue (is_slot s at)) (sym sizes) was.slot;
          told = others at (λ is. differ (sym is)) ∙ was.told;
          mark = marks at ∙ was.mark;
        }
  ]

-- the book stays settled while children get references
pub settled-then : (made given : TreeRefs) (land : Ground) (history : History) (children : List Owing)
    → IsBook (book_of made.refs) → IsBook (book_of given.refs) → given ≡ record made { refs = given.refs }
    → Gives (book_of made.refs) (book_of given.refs) children → IsSettled made land history
    → IsSettled given land history
settled-then made given land history children first last others gives settled =
    Settled-known made given land history first last (ap (λ (book : TreeRefs). book.nodesize) others)
    (ap (λ (book : TreeRefs). book.next) others) gives.known settled
