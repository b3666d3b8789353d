-- A node that is put into a free slot where a state is held, and told as made: no misfit is met.
use Rattle.std.proofs.Common.{◌≡◌, ℕ, ◌+◌, ◌<◌, ◌≤◌, ◌^◌, true, List, [], ◌∷◌, Option, Some, None, arith, refl, sym, ap}
use Rattle.std.proofs.Common.{◌∙◌, inl, inr}
use Rattle.std.specs.Prelude.{◌==◌, ◌&&◌, is_some, not, nat_le, nat_lt}
use Rattle.std.specs.Option.{option_map}
use Rattle.std.proofs.lemmas.Bool.{and_parts, eqb-true, ltb-true, or_cases, true≢false}
use Rattle.std.proofs.lemmas.List.Elements.{All-nil}
use Rattle.qg_device.specs.History.{History}
use Rattle.qg_items.specs.declared.extent.Reference.{Reference}
use Rattle.qg_super.specs.declared.sizes.Sizes.{Sizes}
use Rattle.qg_super.proofs.Served.{SizesFit-is_served}
use Rattle.qg_super.proofs.Slots.{slot_ends}
use Rattle.qg_image.specs.ItemMeaning.{is_subvolume_number}
use Rattle.qg_image.specs.Owed.{Owing}
use Rattle.qg_image.specs.State.{Placed, State, node_at}
use Rattle.qg_cow_refs.specs.Children.{way_to}
use Rattle.qg_space.specs.Holding.{is_free_slot}
use Rattle.qg_node_alloc.specs.declared.ground.Ground.{Ground}
use Rattle.qg_node_alloc.specs.Land.{IsGround}
use Rattle.qg_node_alloc.specs.Tellings.Telling.{Made}
use Rattle.qg_node_alloc.proofs.Slots.{free-parts}
use Rattle.qg_refs.specs.Book.{count_at}
use Rattle.qg_extents.specs.Table.{IsTable, book_of}
use Rattle.qg_tree_backrefs.specs.declared.tree_refs.TreeRefs.{TreeRefs}
use Rattle.qg_tree_backrefs.specs.Exchange.{Exchanges, IsKnown, times}
use Rattle.qg_tree_backrefs.specs.Following.{IsProper, Step, coming_of}
use Rattle.qg_tree_backrefs.proofs.Stepping.{none-or, or-none}
use Rattle.qg_tree_backrefs.proofs.Times.{times-append, times-nil}
use Rattle.qg_shared_trees.specs.ForestStanding.{HoldsState}
use Rattle.qg_subvolumes.proofs.Copied.{nothing_else}
use Rattle.qg_subvolumes.proofs.Referred.{free-count, free-none}

-- a subvolume's number fits its field
pub number-fits : (owner : ℕ) → is_subvolume_number owner ≡ true → owner < 2 ^ 64
unfolding is_subvolume_number
number-fits owner is = elim (or_cases (owner == 5) (nat_le 256 owner && nat_lt owner (2 ^ 48)) is) [
  | inl top ↦ let same : owner ≡ 5 = eqb-true owner 5 top in omega arith
  | inr free ↦
      let parts = and_parts (nat_le 256 owner) (nat_lt owner (2 ^ 48)) free in
      let low : owner < 2 ^ 48 = ltb-true owner (2 ^ 48) parts.1 in
      omega arith
]

pub no-value : {A : Type 0} (o : Option A) → not (is_some o) ≡ true → o ≡ None
no-value {A} None none = refl
no-value {A} (Some x) none = absurd (true≢false (sym none))

-- ---- a state that is held

module _ (state : State) (now : ℕ) (land : Ground) (history : History) (old : TreeRefs)
    (holds : HoldsState land history old state) (free : is_free_slot land.space now ≡ true) where
  pub no-node : node_at state.layout now ≡ None
  no-node =
      ap (λ (o : Option Placed). option_map (λ (placed : Placed). placed.node) o)
      (free-none land history old state holds now free)

  pub nodes-small : IsGround land → state.sizes.nodesize ≤ 16384
  nodes-small ground =
      let fits = (SizesFit-is_served land.space.sizes ground.served).nodesize in
      let same = ap (λ (sizes : Sizes). sizes.nodesize) holds.sizes in
      omega (arith, fits, same)

  pub address-low : IsGround land → now < 2 ^ 64
  address-low ground =
      let ends = slot_ends land.space.sizes now (SizesFit-is_served land.space.sizes ground.served)
      (free-parts land.space now free).0 in
      omega (arith, ends)

  proper : IsTable old.refs → IsProper (Made now) old
  proper first = record {
    can = record {
      there = record { there = λ at reference. let none = times-nil at reference in omega (arith, none) };
      room = record {
        room = λ at reference.
            let none = times-nil at reference in
            let fits = first.fitting at reference in
            omega (arith, none, fits);
        known = All-nil (λ (owing : Owing). IsKnown (book_of old.refs) owing.address);
      };
      first = λ reference. free-count land history old state holds now free reference;
    };
    level = tt;
  }

  pub fits-made : (made : TreeRefs) → IsTable old.refs → Step old (Made now) made → made.misfit ≡ None
  fits-made made first step =
      ap (λ (book : TreeRefs). book.misfit) step.noted
      ∙ none-or old.misfit step.misfit holds.fits (step.proper (proper first))

  module _ (made : TreeRefs) (step : Step old (Made now) made) (fits : made.misfit ≡ None) where
    pub exchanged : Exchanges (book_of old.refs) (book_of made.refs) nothing_else (coming_of old step.level (Made now))
    exchanged =
        step.done
        (or-none old.misfit step.misfit (sym (ap (λ (book : TreeRefs). book.misfit) step.noted) ∙ fits)).1

    -- the way to it is all that the book has besides
    pub counts-made : (at : ℕ) (reference : Reference) → count_at (book_of made.refs) at reference
        ≡ count_at (book_of old.refs) at reference + times (way_to now old.tree ∷ []) at reference
    counts-made at reference =
        let put = exchanged.counts at reference in
        let none = times-nil at reference in
        let both = times-append (way_to now old.tree ∷ []) [] at reference in
        omega (arith, put, none, both)

    pub noted-refs : made ≡ record old { refs = made.refs }
    noted-refs =
        step.noted
        ∙ ap (λ (misfit : Option ℕ). record old { refs = made.refs; misfit = misfit })
        (sym (ap (λ (book : TreeRefs). book.misfit) step.noted) ∙ fits ∙ sym holds.fits)
