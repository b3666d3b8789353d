-- Extents that a node refers to, one after the other, and those of them that have no reference.
use Rattle.std.proofs.Common.{◌≡◌, ◌≢◌, ℕ, get_or, take, length, ◌+◌, ◌<◌, ◌*◌, ◌/◌, Bool, true, false, List, [], ◌∷◌}
use Rattle.std.proofs.Common.{◌++◌, Option, Some, None, arith, refl, sym, ap, subst, ◌∙◌}
use Rattle.std.specs.Prelude.{◌==◌, if◌then◌else◌, option_to_list}
use Rattle.std.specs.List.{All, Contains, cons_option}
use Rattle.std.specs.Option.{option_and_then}
use Rattle.std.proofs.lemmas.Bool.{cond-false, cond-true, eq-eqb, ne_eqb, true≢false}
use Rattle.std.proofs.lemmas.List.{take_more}
use Rattle.std.proofs.lemmas.List.Elements.{Contains-get_or, filter-append, filter_map-append}
use Rattle.qg_super.specs.declared.sizes.Sizes.{Sizes}
use Rattle.qg_super.specs.Places.{is_run, sector}
use Rattle.qg_super.proofs.Runs.{WholeRun-is_run}
use Rattle.qg_image.specs.declared.element.Element.{Element}
use Rattle.qg_image.specs.Owed.{Owing}
use Rattle.qg_space.specs.Holding.{Holding, has_run}
use Rattle.qg_space.proofs.Members.{Contains-has_run, contains_filter}
use Rattle.qg_backref_rule.specs.declared.owing.Owing.{Owing as Listed}
use Rattle.qg_backref_rule.specs.OwedLists.{owing_told, owings_told}
use Rattle.qg_refs.specs.Book.{Book, what_in}
use Rattle.qg_tree_backrefs.specs.Following.{references_to}
use Rattle.qg_tree_backrefs.proofs.Times.{told-more}
use Rattle.qg_subvolumes.specs.Dropping.{extent_of_what, extents_known, without_references}

-- ---- what is known

listed_one : (o : Option Element) → cons_option o [] ≡ option_to_list o
listed_one None = refl
listed_one (Some extent) = refl

pub known-more : (book : Book) (owings : List Listed) (i : ℕ) (owing : Listed) (before after : List Element)
    → i < length owings → owing ≡ get_or owings i owing
    → before ≡ extents_known book (owings_told (take i owings))
    → after ≡ before ++ option_to_list (option_and_then (extent_of_what owing.address) (what_in (book owing.address)))
    → after ≡ extents_known book (owings_told (take (i + 1) owings))
known-more book owings i owing before after inside is was more =
    let f = λ (o : Owing). option_and_then (extent_of_what o.address) (what_in (book o.address)) in
    let front = owings_told (take i owings) in
    more
    ∙ ap (λ (es : List Element). es ++ option_to_list (f (owing_told owing))) was
    ∙ ap (λ (es : List Element). extents_known book front ++ es) (sym (listed_one (f (owing_told owing))))
    ∙ sym (filter_map-append f front (owing_told owing ∷ []))
    ∙ sym (ap (λ (os : List Owing). extents_known book os) (told-more owings i owing inside is))

-- ---- what has no reference

module _ (book : Book) (extents : List Element) (i : ℕ) (extent : Element) (inside : i < length extents)
    (is : extent ≡ get_or extents i extent) where
  front_is : take (i + 1) extents ≡ take i extents ++ extent ∷ []
  front_is = take_more extents i extent inside ∙ ap (λ (e : Element). take i extents ++ e ∷ []) (sym is)

  abbrev none_at : Element → Bool
  none_at e = references_to book e.address == 0

  split : without_references book (take (i + 1) extents)
      ≡ without_references book (take i extents) ++ (if none_at extent then extent ∷ [] else [])
  split =
      ap (λ (es : List Element). without_references book es) front_is
      ∙ filter-append none_at (take i extents) (extent ∷ [])

  pub gone-more : (before after : List Element) → before ≡ without_references book (take i extents)
      → references_to book extent.address ≡ 0 → after ≡ before ++ extent ∷ []
      → after ≡ without_references book (take (i + 1) extents)
  gone-more before after was none more =
      more
      ∙ ap (λ (es : List Element). es ++ extent ∷ []) was
      ∙ ap (λ (es : List Element). without_references book (take i extents) ++ es)
      (sym (cond-true (none_at extent) (extent ∷ []) [] (eq-eqb (references_to book extent.address) 0 none)))
      ∙ sym split

  pub gone-same : (before : List Element) → before ≡ without_references book (take i extents)
      → references_to book extent.address ≢ 0 → before ++ [] ≡ without_references book (take (i + 1) extents)
  gone-same before was some =
      ap (λ (es : List Element). es ++ []) was
      ∙ ap (λ (es : List Element). without_references book (take i extents) ++ es)
      (sym (cond-false (none_at extent) (extent ∷ []) [] (ne_eqb (references_to book extent.address) 0 some)))
      ∙ sym split

  -- one without a reference is among those that have none
  pub gone-here : references_to book extent.address ≡ 0 → Contains (without_references book extents) extent
  gone-here none =
      contains_filter none_at extents extent
      (subst (λ (e : Element). Contains extents e) (sym is) (Contains-get_or extents i extent inside))
      (eq-eqb (references_to book extent.address) 0 none)

-- ---- runs

pub has-run : (space : Holding) (extent : Element) (bytes : ℕ) → has_run space extent.address bytes ≡ true
    → bytes ≡ extent.bytes → Contains space.runs extent
has-run space extent bytes has same =
    subst (λ (n : ℕ). Contains space.runs (record { address = extent.address; bytes = n })) same
    ((Contains-has_run space extent.address bytes).0 has)

pub lacks-run : (space : Holding) (extent : Element) (bytes : ℕ) → has_run space extent.address bytes ≡ false
    → bytes ≡ extent.bytes → Contains space.runs extent → ⊥
lacks-run space extent bytes lacks same has =
    true≢false (sym ((Contains-has_run space extent.address bytes).1
    (subst (λ (n : ℕ). Contains space.runs (record { address = extent.address; bytes = n })) (sym same) has)) ∙ lacks)

-- what all are holds of one of them
pub all-one : {A : Type 0} (P : A → Type 0) (xs : List A) (x : A) → All P xs → Contains xs x → P x
all-one {A} P xs x all has = subst P has.2 (all has.0 x has.1)

pub whole-bytes : (sizes : Sizes) (address bytes : ℕ) → is_run sizes address bytes ≡ true → bytes / sector * sector
    ≡ bytes
whole-bytes sizes address bytes is = let whole = (WholeRun-is_run sizes address bytes is).whole in omega (arith, whole)
