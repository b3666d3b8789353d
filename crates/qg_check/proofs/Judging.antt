-- What the trees of an image say together, where its extents keep their rule.
use Rattle.std.proofs.Common.{◌≡◌, ℕ, Bool, true, false, List, [], ◌∷◌, map, Option, Some, None, refl, sym, ap, subst}
use Rattle.std.proofs.Common.{◌∙◌, inl, inr}
use Rattle.std.specs.Prelude.{IsTrue, ◌==◌, ◌||◌}
use Rattle.std.specs.List.{Contains, find, flat_map}
use Rattle.std.specs.Option.{option_map}
use Rattle.std.proofs.lemmas.Bool.{eq-eqb, true≢false}
use Rattle.qg_num.specs.declared.rule.Rule.TheVariants as rule
use Rattle.qg_node.specs.declared.node.Node.{Node}
use Rattle.qg_super.specs.declared.superblock.Super.{Super}
use Rattle.qg_super.specs.Places.{is_served}
use Rattle.qg_super.specs.SuperText.{sizes_of}
use Rattle.qg_image.specs.Table.{value_at}
use Rattle.qg_image.specs.declared.part.ExtentPart.{ExtentPart}
use Rattle.qg_image.specs.declared.element.Element.{Element}
use Rattle.qg_image.specs.Owed.{Agrees, disagreement, homeless, layout_extents, what_at, Data}
use Rattle.qg_image.specs.Reach.{extent_of, is_among, pieces_of}
use Rattle.qg_image.specs.Space.{present_extents}
use Rattle.qg_image.specs.State.{Layout, Placed, layout_of}
use Rattle.qg_image.proofs.Contained.{contains_cases, none_contained}
use Rattle.qg_image.specs.declared.failure.Failure.TheVariants.{Broken}
use Rattle.qg_image.specs.Failure.{first_failure}
use Rattle.qg_image.specs.ImageState.{extent_parts, state_in}
use Rattle.qg_image.specs.Verdict.{extent_set, references_failure, space_failure}
use Rattle.qg_reach.specs.Sets.{HaveSame}
use Rattle.qg_reach.proofs.ExtentSets.{extent_set_of_same, extent_set_same}
use Rattle.qg_reach.proofs.Distinct.{apart_same}
use Rattle.qg_refs.specs.Book.{Book}
use Rattle.qg_owner_rule.proofs.Reaching.{entry_of_value}
use Rattle.qg_backref_rule.proofs.Layouts.{some_or_none}
use Rattle.qg_extents.specs.Laws.{AreFew}
use Rattle.qg_extents.specs.BookRecords.{IsTold, records_failure}
use Rattle.qg_extents.proofs.Agreeing.{owed-sound}
use Rattle.qg_shared_walk.specs.declared.nodes.NodesRead.{NodesRead}
use Rattle.qg_shared_walk.specs.Gathered.{AreGathered}
use Rattle.qg_shared_walk.specs.NodeFacts.{AreOfNodes}
use Rattle.qg_shared_walk.proofs.Runs.{at_is, at_none}
use Rattle.qg_shared_walk.proofs.Verdicts.{extents_apart, named_there, no_extent}
use Rattle.qg_check.specs.declared.judge.Read.{Read}
use Rattle.qg_check.specs.IsImage.{IsBookOf}
use Rattle.qg_check.specs.Trees.{AreRead}
use Rattle.qg_check.proofs.Agreed.{agrees-everywhere, book-of}
use Rattle.qg_check.proofs.Owing.{entry-there, owing-image}
use Rattle.qg_check.proofs.Subvolumes.{each_walked, present_name}

-- where neither rule on references is broken, nothing disagrees
refs_kept : (refs home : Option ℕ)
    → first_failure (option_map (Broken rule.Refs) refs ∷ option_map (Broken rule.Home) home ∷ []) ≡ None → refs ≡ None
refs_kept None home none = refl
refs_kept (Some address) home none = absurd cc

no_disagreement : (super : Super) (image : List ℕ) (layout : Layout) → references_failure super image layout ≡ None
    → disagreement layout (extent_parts super image) ≡ None
unfolding references_failure
no_disagreement super image layout none = refs_kept (disagreement layout (extent_parts super image))
    (homeless layout) none

home_kept : (refs home : Option ℕ)
    → first_failure (option_map (Broken rule.Refs) refs ∷ option_map (Broken rule.Home) home ∷ []) ≡ None → home ≡ None
home_kept refs None none = refl
home_kept None (Some address) none = absurd cc
home_kept (Some address) (Some other) none = absurd cc

-- and each node that is not full is reached by its owner
pub all_at_home : (super : Super) (image : List ℕ) (layout : Layout) → references_failure super image layout ≡ None
    → homeless layout ≡ None
unfolding references_failure
all_at_home super image layout none = home_kept (disagreement layout (extent_parts super image)) (homeless layout) none

among_has : (elements : List Element) (element : Element) → Contains elements element
    → is_among element.address elements ≡ true
among_has [] element has = absurd (none_contained element has)
among_has (first ∷ elements) element has = elim (contains_cases first elements element has) [
  | inl is ↦ rw (eq-eqb first.address element.address (ap (λ (e : Element). e.address) is)) refl
  | inr later ↦ either (first.address == element.address) (is_among element.address elements)
      (among_has elements element later)
]
  where
    either : (b c : Bool) → c ≡ true → (b || c) ≡ true
    either true c is = refl
    either false c is = is

nodesize_in : (super : Super) (image : List ℕ) → super.nodesize ≡ (layout_of (state_in super image)).nodesize
unfolding state_in
nodesize_in super image = refl

-- these are the extents that the nodes name of which this was gathered
abbrev pub AreNamedBy : NodesRead → List Element → Type 0
AreNamedBy read extents =
    (nodes : List Node) → AreOfNodes read nodes
    → extents ≡ extent_set (flat_map (λ node. map extent_of (pieces_of node)) nodes)

-- they are those of the image's state
pub extents-read : (super : Super) (bytes : List ℕ) (read : Read) (are : AreRead super bytes read)
    (extents : List Element) → AreNamedBy read.nodes extents
    → extent_set (present_extents (state_in super bytes)) ≡ extents
extents-read super bytes read are extents named =
    extent_set_of_same (present_extents (state_in super bytes))
    (flat_map (λ node. map extent_of (pieces_of node)) are.subvolumes.found.nodes)
    (present_name super bytes read.trees.subvolumes read.nodes are.subvolumes are.trees.named.all)
    ∙ sym (named are.subvolumes.found.nodes are.subvolumes.found.kept)

module _ (super : Super) (bytes : List ℕ) (read : Read) (are : AreRead super bytes read)
    (served : IsTrue (is_served (sizes_of super))) (extents : List Element)
    (named : AreNamedBy read.nodes extents) (space : space_failure (sizes_of super) extents ≡ None) where
  pub parts-read : read.extents.parts ≡ extent_parts super bytes
  unfolding extent_parts
  parts-read = are.extents.said ∙ (rw are.trees.named.extent_tree refl)

  -- they are those that the nodes of the image name
  named_are : extents ≡ extent_set (flat_map (λ node. map extent_of (pieces_of node)) are.subvolumes.found.nodes)
  named_are = named are.subvolumes.found.nodes are.subvolumes.found.kept

  pub gathered-read : AreGathered super bytes read.trees.subvolumes read.nodes extents read.extents.parts
  gathered-read = record {
    served = served;
    subvolumes = are.trees.named.all;
    sound = each_walked super bytes read.trees.subvolumes read.nodes are.subvolumes;
    gathered = are.subvolumes.found;
    named = subst (λ (list : List Element). HaveSame list
        (flat_map (λ node. map extent_of (pieces_of node)) are.subvolumes.found.nodes)) (sym named_are)
        (extent_set_same (flat_map (λ node. map extent_of (pieces_of node)) are.subvolumes.found.nodes));
    space = space;
    told = parts-read;
  }

  -- an extent that leaves name is what begins at its address
  no_node : (run : Element) → Contains (layout_extents (layout_of (state_in super bytes))) run → (placed : Placed)
      → value_at run.address (layout_of (state_in super bytes)).nodes ≡ Some placed → ⊥
  no_node run has placed is =
      let entry = entry-there super bytes read.trees.subvolumes read.nodes extents read.extents.parts gathered-read
      (run.address, placed)
      (entry_of_value run.address placed (layout_of (state_in super bytes)).nodes is) in
      let apart = no_extent super bytes read.trees.subvolumes read.nodes extents read.extents.parts gathered-read
      placed.node entry.0 in
      let there = subst (λ (a : ℕ). is_among a (layout_extents (layout_of (state_in super bytes))) ≡ false) entry.1
      apart in
      true≢false (sym (among_has (layout_extents (layout_of (state_in super bytes))) run has) ∙ there)

  that_one : (run other : Element) → Contains (layout_extents (layout_of (state_in super bytes))) run
      → Contains (layout_extents (layout_of (state_in super bytes))) other
      → other.address ≡ run.address → other ≡ run
  that_one run other has has' same =
      let there = named_there super bytes read.trees.subvolumes read.nodes extents read.extents.parts gathered-read in
      let apart = extents_apart super bytes read.trees.subvolumes read.nodes extents read.extents.parts gathered-read in
      apart_same extents other run apart (there.back other has') (there.back run has) same

  extent_begins : (run : Element) → Contains (layout_extents (layout_of (state_in super bytes))) run
      → what_at (layout_of (state_in super bytes)) run.address ≡ Data run.bytes
  extent_begins run has =
      let layout = layout_of (state_in super bytes) in
      elim (some_or_none (value_at run.address layout.nodes)) [
        | inr placed ↦ absurd (no_node run has placed.0 placed.1)
        | inl none ↦ elim (some_or_none (find (λ extent. extent.address == run.address) (layout_extents layout))) [
          | inl none' ↦ absurd (at_none (layout_extents layout) run.address run none' has refl)
          | inr found ↦
              let its = at_is (layout_extents layout) run.address found.0 found.1 in
              what_is layout run.address found.0 none found.1
              ∙ ap (λ (e : Element). Data e.bytes) (that_one run found.0 has its.0 its.1)
        ]
      ]
    where
      what_is : (layout : Layout) (at : ℕ) (extent : Element) → value_at at layout.nodes ≡ None
          → find (λ extent. extent.address == at) (layout_extents layout) ≡ Some extent
          → what_at layout at ≡ Data extent.bytes
      what_is layout at extent none is = rw none (rw is refl)

  -- where the rules on references are kept
  module _ (none : references_failure super bytes (layout_of (state_in super bytes)) ≡ None) where
    agrees : Agrees (layout_of (state_in super bytes)) read.extents.parts
    agrees =
        agrees-everywhere (layout_of (state_in super bytes)) read.extents.parts
        (owing-image super bytes read.trees.subvolumes read.nodes extents read.extents.parts gathered-read)
        (subst (λ parts. disagreement (layout_of (state_in super bytes)) parts ≡ None) (sym parts-read)
        (no_disagreement super bytes (layout_of (state_in super bytes)) none))

    -- exactly what is owed is recorded
    pub agrees-recorded : Agrees (layout_of (state_in super bytes)) (extent_parts super bytes)
    agrees-recorded = subst (λ (parts : List ExtentPart). Agrees (layout_of (state_in super bytes)) parts) parts-read
        agrees

    -- the extent tree's items tell a book
    pub book-told : AreFew read.extents.parts → records_failure read.extents.parts ≡ None
    book-told few =
        owed-sound (layout_of (state_in super bytes)) read.extents.parts agrees
        (owing-image super bytes read.trees.subvolumes read.nodes extents read.extents.parts gathered-read) few

    -- which says what the layout owes
    pub book-owed : (book : Book) → IsTold super.nodesize read.extents.parts book
        → IsBookOf (layout_of (state_in super bytes)) book
    book-owed book told =
        book-of (layout_of (state_in super bytes)) read.extents.parts book agrees
        (subst (λ (n : ℕ). IsTold n read.extents.parts book) (nodesize_in super bytes) told)
        (owing-image super bytes read.trees.subvolumes read.nodes extents read.extents.parts gathered-read)
        extent_begins
