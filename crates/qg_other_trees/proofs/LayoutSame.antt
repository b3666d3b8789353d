-- The layout of an image is that of a whole state, where its extent tree agrees with what that owes.
use Rattle.std.proofs.Common.{◌≡◌, ℕ, Bool, true, false, List, [], ◌∷◌, refl, sym, ap, subst, ◌∙◌, inl, inr}
use Rattle.std.specs.Prelude.{◌&&◌, ◌||◌, ◌/◌, ◌%◌, ◌==◌, Option, Some, None, Contains}
use Rattle.std.specs.List.{filter, list_any}
use Rattle.std.specs.Option.{option_map}
use Rattle.std.proofs.lemmas.Bool.{and_parts, cases_Bool, eqb-true}
use Rattle.std.proofs.lemmas.Option.{same_Some}
use Rattle.qg_node.specs.declared.node.Header.{Header}
use Rattle.qg_node.specs.declared.node.Node.{Node}
use Rattle.qg_node.specs.Nodes.{header_of}
use Rattle.qg_super.specs.Places.{is_served, is_slot}
use Rattle.qg_image.specs.declared.part.ExtentPart.{ExtentPart}
use Rattle.qg_image.specs.declared.part.ExtentPart.TheVariants.{DataRecord, NodeRecord, Referenced}
use Rattle.qg_image.specs.Table.{value_at}
use Rattle.qg_image.specs.Owed.{Agrees, What, agrees_at, are_references, is_record, is_recorded_once, node_flags}
use Rattle.qg_image.specs.Owed.{owed_to, what_at}
use Rattle.qg_image.specs.Owed.What.{Block}
use Rattle.qg_image.specs.State.{Layout, Placed, State, layout_of, node_at}
use Rattle.qg_image.specs.ImageState.{is_full_record, placed}
use Rattle.qg_machine.specs.Layout.{IsReached, IsWhole}
use Rattle.qg_reach.proofs.Layouts.{AgreeByAddress, layout_by, node_at-layout, node_at-layout_other}
use Rattle.qg_extents.specs.BookRecords.{parts_at, told_in, told_sum}
use Rattle.qg_tree_layout.specs.Row.{address_of}
use Rattle.qg_other_trees.specs.Holds.{AreRuns}
use Rattle.qg_other_trees.proofs.MetNodes.{finds, met, those}
use Rattle.qg_reach.proofs.Members.{each_contained}
use Rattle.qg_other_trees.proofs.Slots.{value_contained}
use Rattle.qg_reach.proofs.Ascending.{tables_same}
use Rattle.qg_other_trees.proofs.Tables.{all_laid, layout-ascends}
use Rattle.qg_other_trees.proofs.SubvolumeTree.{node_placed}

-- ---- the full mark that a record tells

-- a record is that of a node with the full mark
abbrev tells_mark : ExtentPart → Bool
tells_mark (DataRecord other bytes extent) = false
tells_mark (NodeRecord other level extent) = extent.flags / 256 % 2 == 1
tells_mark (Referenced other reference count) = false

-- the records at an address tell the mark exactly where some part is a record of a full node there
marks_at : (q : ℕ) (parts : List ExtentPart)
    → list_any (is_full_record q) parts ≡ list_any tells_mark (filter is_record (parts_at parts q))
marks_at q [] = refl
marks_at q (DataRecord other bytes extent ∷ parts) = elim (cases_Bool (other == q)) [
  | inl here ↦ rw here (marks_at q parts)
  | inr there ↦ rw there (marks_at q parts)
]
marks_at q (NodeRecord other level extent ∷ parts) = elim (cases_Bool (other == q)) [
  | inl here ↦ rw here (ap (λ (rest : Bool). (extent.flags / 256 % 2 == 1) || rest) (marks_at q parts))
  | inr there ↦ rw there (marks_at q parts)
]
marks_at q (Referenced other reference count ∷ parts) = elim (cases_Bool (other == q)) [
  | inl here ↦ rw here (marks_at q parts)
  | inr there ↦ rw there (marks_at q parts)
]

flags_mark : (flags : ℕ) (full : Bool) → flags ≡ node_flags full → ((flags / 256 % 2 == 1) || false) ≡ full
flags_mark flags true is = rw is refl
flags_mark flags false is = rw is refl

-- the only record of a node tells its mark
once_marks : (header : Header) (full : Bool) (refs : ℕ) (records : List ExtentPart)
    → is_recorded_once (Block header full) refs records ≡ true → list_any tells_mark records ≡ full
once_marks header full refs [] once = absurd cc
once_marks header full refs (DataRecord other bytes extent ∷ []) once = absurd cc
once_marks header full refs (Referenced other reference count ∷ []) once = absurd cc
once_marks header full refs (NodeRecord other level extent ∷ []) once =
    let made = and_parts ((level == header.level) && (extent.flags == node_flags full) && (extent.refs == refs))
    (extent.generation == header.generation) once in
    let counted = and_parts ((level == header.level) && (extent.flags == node_flags full))
    (extent.refs == refs) made.0 in
    let marked = and_parts (level == header.level) (extent.flags == node_flags full) counted.0 in
    flags_mark extent.flags full (eqb-true extent.flags (node_flags full) marked.1)
once_marks header full refs (part ∷ other ∷ records) once = absurd cc

agrees_once : (layout : Layout) (parts : List ExtentPart) (q : ℕ) → agrees_at layout parts q ≡ true
    → is_recorded_once (what_at layout q) (told_sum (told_in (parts_at parts q))) (filter is_record (parts_at parts q))
    ≡ true
unfolding agrees_at
agrees_once layout parts q agrees =
    (and_parts (is_recorded_once (what_at layout q) (told_sum (told_in (parts_at parts q)))
    (filter is_record (parts_at parts q))) (are_references (told_in (parts_at parts q)) (owed_to layout q)) agrees).0

-- parts that agree tell the mark of each node
pub marks_told : (layout : Layout) (parts : List ExtentPart) (q : ℕ) (here : Placed) → Agrees layout parts
    → value_at q layout.nodes ≡ Some here → list_any (is_full_record q) parts ≡ here.full
marks_told layout parts q here agrees there =
    let what : what_at layout q ≡ Block (header_of here.node) here.full = rw there refl in
    let refs = told_sum (told_in (parts_at parts q)) in
    let records = filter is_record (parts_at parts q) in
    let once = subst (λ (w : What). is_recorded_once w refs records ≡ true) what
    (agrees_once layout parts q (agrees q)) in
    marks_at q parts ∙ once_marks (header_of here.node) here.full refs records once

-- ---- the layout

-- the entries of a layout are its nodes, as parts tell them
abbrev IsLaidAs : List ExtentPart → ℕ × Placed → Type 0
IsLaidAs parts entry = entry.1 ≡ placed parts entry.1.node

none_mapped : (here : Option Placed) → option_map (λ (placed : Placed). placed.node) here ≡ None → here ≡ None
none_mapped None none = refl
none_mapped (Some placed) none = absurd cc

module _ (state : State) (whole : IsWhole state) (served : is_served state.sizes ≡ true) (runs : AreRuns state)
    (slots : (q : ℕ) (placed : Placed) → value_at q state.layout ≡ Some placed → is_slot state.sizes q ≡ true)
    (parts : List ExtentPart) (agrees : Agrees (layout_of state) parts) where
  abbrev found : List Node
  found = those state whole

  found_at : (node : Node) → Contains found node → node_at state.layout (address_of node) ≡ Some node
  found_at node has = (finds state whole).each node has

  alike : AgreeByAddress found
  alike = record {
    agree = λ a b has has' same. same_Some a b (sym (found_at a has) ∙ ap (node_at state.layout) same
        ∙ found_at b has');
  }

  lies : (q : ℕ) (here : Placed) → value_at q state.layout ≡ Some here → address_of here.node ≡ q
  lies q here there =
      (each_contained (IsReached state) state.layout (q, here) whole.reached
      (value_contained q state.layout here there)).placed

  laid_as : (q : ℕ) (here : Placed) → value_at q (layout_by parts found) ≡ Some here → here ≡ placed parts here.node
  laid_as q here there =
      each_contained (IsLaidAs parts) (layout_by parts found) (q, here)
      (all_laid (IsLaidAs parts) parts found (λ node has. refl)) (value_contained q (layout_by parts found) here there)

  same_some : (q : ℕ) (here : Placed) → value_at q state.layout ≡ Some here
      → value_at q (layout_by parts found) ≡ value_at q state.layout
  same_some q here there =
      let has = met state whole served runs slots q here there in
      let at = lies q here there in
      let node = subst (λ (a : ℕ). node_at (layout_by parts found) a ≡ Some here.node) at
      (node_at-layout parts found here.node alike has) in
      let laid = node_placed (layout_by parts found) q here.node node in
      let full : (placed parts here.node).full ≡ here.full =
      ap (λ (a : ℕ). list_any (is_full_record a) parts) at ∙ marks_told (layout_of state) parts q here agrees there in
      let same : placed parts here.node ≡ here = λ i. record { node = here.node; full = full i } in
      laid.there
      ∙ ap (λ (p : Placed). Some p) (laid_as q laid.placed laid.there ∙ ap (placed parts) laid.is ∙ same)
      ∙ sym there

  same_none : (q : ℕ) → value_at q state.layout ≡ None → value_at q (layout_by parts found) ≡ value_at q state.layout
  same_none q none =
      none_mapped (value_at q (layout_by parts found)) (node_at-layout_other parts found q (λ node has at.
      no_node node (sym (ap (option_map (λ (placed : Placed). placed.node)) none)
      ∙ subst (λ (a : ℕ). node_at state.layout a ≡ Some node) at (found_at node has))))
      ∙ sym none
    where
      no_node : (node : Node) → None ≡ Some node → ⊥
      no_node node is = cc

  pub layout_is : layout_by parts found ≡ state.layout
  layout_is = tables_same (layout_by parts found) state.layout (layout-ascends parts found) whole.ascending each where
    each : (q : ℕ) → value_at q (layout_by parts found) ≡ value_at q state.layout
    each q = cases (value_at q state.layout) refl where
      cases : (here : Option Placed) → value_at q state.layout ≡ here
          → value_at q (layout_by parts found) ≡ value_at q state.layout
      cases None none = same_none q none
      cases (Some here) there = same_some q here there
