-- In a whole state whose book counts what is owed, references lead to a slot exactly where a node of the layout lies.
use Rattle.std.proofs.Common.{◌≡◌, ℕ, ◌<◌, true, Option, Some, None, refl, sym, ap, subst, ◌∙◌, ◌⊎◌, inl, inr}
use Rattle.std.specs.Prelude.{is_some, nat_lt}
use Rattle.std.specs.List.{Contains}
use Rattle.std.specs.List.Sorted.{IsStrictlyIncreasing}
use Rattle.std.proofs.lemmas.Bool.{cases_Bool, lt-ltb, ltb-true}
use Rattle.qg_node.specs.declared.node.Node.{Node}
use Rattle.qg_super.specs.declared.sizes.Sizes.{Sizes}
use Rattle.qg_super.specs.Places.{is_run, is_served, is_slot}
use Rattle.qg_image.specs.Table.{has_key, keys_of, value_at}
use Rattle.qg_image.specs.declared.element.Element.{Element}
use Rattle.qg_image.specs.Owed.{layout_extents}
use Rattle.qg_image.specs.State.{Placed, State, layout_of}
use Rattle.qg_machine.specs.Layout.{IsWhole}
use Rattle.qg_owner_rule.proofs.Reaching.{entry_of_value, value_of_entry}
use Rattle.qg_reach.proofs.Members.{contains_map, one_mapped}
use Rattle.qg_refs.specs.Book.{AgreesWithOwed, Book, IsBook}
use Rattle.qg_tree_backrefs.specs.Following.{references_to}
use Rattle.qg_shared_trees.proofs.ForestExtents.{AreApart, node-met, present-named, run-slot, some-of}
use Rattle.qg_shared_trees.proofs.Meeting.{IsMet, met-back, met-child, met-there, placed-there, root-met}
use Rattle.qg_shared_trees.proofs.Referring.{child-counted, children_of, extents-named, owed-referred, referred-owed}
use Rattle.qg_shared_trees.proofs.Referring.{root-counted}
use Rattle.qg_shared_trees.proofs.Snapshotted.{root_entry}
use Rattle.qg_subvolumes.proofs.Opened.{key_of, node_of}

module _ (state : State) (whole : IsWhole state) (numbers : IsStrictlyIncreasing (keys_of state.subvolumes))
    (sizes : Sizes) (served : is_served sizes ≡ true)
    (slots : (at : ℕ) (placed : Placed) → value_at at state.layout ≡ Some placed → is_slot sizes at ≡ true)
    (runs : (run : Element) → Contains (layout_extents (layout_of state)) run
    → is_run sizes run.address run.bytes ≡ true) where
  -- runs lie behind the slots
  pub run-apart : (run : Element) → Contains (layout_extents (layout_of state)) run → is_slot sizes run.address ≡ true
      → ⊥
  run-apart run has slot = run-slot sizes run.address run.bytes served (runs run has) slot

  pub apart : AreApart state
  apart run has there =
      let placed = some-of (value_at run.address state.layout) there in
      run-apart run (present-named state whole run has) (slots run.address placed.0 placed.1)

  -- each node of the layout is met
  pub met-node : (q : ℕ) (placed : Placed) → value_at q state.layout ≡ Some placed → IsMet state state.subvolumes q
  met-node q placed there = node-met state whole apart q placed there

  placed_met : (q : ℕ) → IsMet state state.subvolumes q → (placed : Placed) × (value_at q state.layout ≡ Some placed)
  placed_met q met =
      let node = met-there state whole state.subvolumes whole.trees q met in
      let placed = placed-there state.layout q (value_at q state.layout) refl node.0 node.1 in
      (placed.0, placed.1)

  module _ (book : Book) (agrees : AgreesWithOwed (layout_of state) book) (is : IsBook book) where
    pub there-referred : (q : ℕ) (placed : Placed) → value_at q state.layout ≡ Some placed
        → 0 < references_to book q
    there-referred q placed there =
        elim (met-back state whole state.subvolumes whole.trees q (met-node q placed there)) [
          | inl root ↦
              let counted = root-counted (layout_of state) q (record {
                entry = (root.number, root.subvolume.root);
                has = contains_map root_entry state.subvolumes (root.number, root.subvolume)
                    (entry_of_value root.number root.subvolume state.subvolumes root.there);
                here = root.here;
              }) in
              owed-referred (layout_of state) book agrees q counted.0 counted.1
          | inr led ↦
              let from = placed-there state.layout led.from (value_at led.from state.layout) refl led.node led.there in
              let counted = child-counted (layout_of state) q (record {
                entry = (led.from, from.0);
                has = entry_of_value led.from from.0 state.layout from.1;
                leads = subst (λ (n : Node). Contains (children_of n) q) (sym from.2) led.leads;
              }) in
              owed-referred (layout_of state) book agrees q counted.0 counted.1
        ]

    pub referred-there : (q : ℕ) → 0 < references_to book q
        → ((placed : Placed) × (value_at q state.layout ≡ Some placed))
        ⊎ ((run : Element) × Contains (layout_extents (layout_of state)) run × (run.address ≡ q))
    referred-there q some = elim (referred-owed (layout_of state) book agrees q is some) [
      | inl root ↦
          let one = one_mapped root_entry state.subvolumes root.entry root.has in
          inl (placed_met q (root-met state whole state.subvolumes whole.trees q (record {
            number = one.0.0;
            subvolume = one.0.1;
            there = value_of_entry state.subvolumes one.0 numbers one.1;
            here = ap (λ (e : ℕ × ℕ). e.1) one.2 ∙ root.here;
          })))
      | inr (inl child) ↦
          let there = value_of_entry state.layout child.entry whole.ascending child.has in
          inl (placed_met q (met-child state whole state.subvolumes whole.trees child.entry.0 child.entry.1.node q
          (met-node child.entry.0 child.entry.1 there) (node_of state.layout child.entry.0 child.entry.1 there)
          child.leads))
      | inr (inr run) ↦
          inr (run.run, extents-named (layout_of state) run.entry run.run run.has run.names, run.here)
    ]

    -- in a slot it is a node
    pub referred-node : (q : ℕ) → is_slot sizes q ≡ true → 0 < references_to book q
        → (placed : Placed) × (value_at q state.layout ≡ Some placed)
    referred-node q slot some = elim (referred-there q some) [
      | inl placed ↦ placed
      | inr (run, has, here) ↦
          absurd (run-apart run has (subst (λ (a : ℕ). is_slot sizes a ≡ true) (sym here) slot))
    ]

    pub taken : (q : ℕ) → is_slot sizes q ≡ true → has_key q state.layout ≡ nat_lt 0 (references_to book q)
    taken q slot = by (value_at q state.layout) refl where
      by : (o : Option Placed) → value_at q state.layout ≡ o → has_key q state.layout ≡ nat_lt 0 (references_to book q)
      by (Some placed) there =
          key_of state.layout q placed there
          ∙ sym (lt-ltb 0 (references_to book q) (there-referred q placed there))
      by None none = elim (cases_Bool (nat_lt 0 (references_to book q))) [
        | inl some ↦
            let found = referred-node q slot (ltb-true 0 (references_to book q) some) in
            let wrong : ◌≡◌ {A = Option Placed} None (Some found.0) = sym none ∙ found.1 in absurd cc
        | inr less ↦ ap (λ (o : Option Placed). is_some o) none ∙ sym less
      ]
