use Rattle.std.proofs.Common.{◌≡◌, ◌∙◌, ℕ, List, ◌++◌, true, ap, subst, sym, ◌⊎◌}
use Rattle.std.specs.Prelude.{◌↔◌, not}
use Rattle.std.specs.List.{Contains, list_all}
use Rattle.qg_super.specs.Places.{data_begin, is_slot}
use Rattle.qg_super.specs.SuperText.{sizes_of}
use Rattle.qg_super.specs.declared.sizes.Sizes.{Sizes}
use Rattle.qg_space.specs.Holding.{AscendApart, Holding, has_slot}
use Rattle.qg_space.specs.ManySlots.{ChangesSlots}
use Rattle.qg_image_changes.proofs.HeldSlots.{HoldsNodes, all_filtered, held-both, present-nodes}
use Rattle.qg_image_changes.proofs.Runs.{extents-apart}
use Rattle.qg_image_changes.proofs.holding.space_of.Goals as goal
use Rattle.qg_image_changes.proofs.holding.space_of.Goals.{After-drop-elsewhere-inside-2}

pub take_slots-requires-2-clause-slots : goal.take_slots-requires-2-clause-slots
take_slots-requires-2-clause-slots c =
    let sizes : c.take_slots.new.space.sizes ≡ sizes_of c.args.superblock.now =
    ap (λ (space : Holding). space.sizes) c.take_slots.ensures.taken.rest
    ∙ ap (λ (space : Holding). space.sizes) c.in_ok-space.ensures in
    let listed = c.as_slice.ensures ∙ c.in_ok-elsewhere.ensures in
    ap (list_all (is_slot c.take_slots.new.space.sizes)) listed
    ∙ all_filtered (is_slot c.take_slots.new.space.sizes) (λ slot. not (has_slot c.take_slots.new.space slot))
    c.args.others.now
    (subst (λ (s : Sizes). list_all (is_slot s) c.args.others.now ≡ true) (sym sizes) c.requires.others)

pub hold_runs-requires : goal.hold_runs-requires
hold_runs-requires c =
    let Sized : Holding → Sizes = λ space. space.sizes in
    let Apart : Sizes → Type 0 = λ sizes. AscendApart sizes data_begin c.args.extents.now in
    let sizes : c.give_slots.new.space.sizes ≡ sizes_of c.args.superblock.now =
    ap Sized c.give_slots.ensures.rest ∙ ap Sized c.committed.ensures ∙ ap Sized c.take_slots-2.ensures.taken.rest
    ∙ ap Sized c.take_slots.ensures.taken.rest ∙ ap Sized c.in_ok-space.ensures in
    subst Apart (sym sizes) (extents-apart (sizes_of c.args.superblock.now) c.args.extents.now c.requires.extents)

-- ---- slots

holds : (c : After-drop-elsewhere-inside-2)
    → HoldsNodes c.in_ok-space.space c.take_slots.new.space c.take_slots-2.new.space c.committed.new.self
    c.give_slots.new.space c.args.nodes.now c.args.others.now c.in_ok-elsewhere.elsewhere
holds c = record {
  nothing = ap (λ (space : Holding). space.slots) c.in_ok-space.ensures;
  taken = c.take_slots.ensures.taken;
  lacked = c.in_ok-elsewhere.ensures;
  more =
      let Has : List ℕ → ℕ → Type 0 = λ list slot. Contains c.take_slots.new.space.slots slot ⊎ Contains list slot in
      subst (λ (list : List ℕ). ChangesSlots c.take_slots.new.space c.take_slots-2.new.space (Has list))
      c.as_slice.ensures c.take_slots-2.ensures.taken;
  held = c.committed.ensures;
  given =
      let Has : List ℕ → ℕ → Type 0 = λ list slot. Contains c.committed.new.self.slots slot
      × (Contains list slot → ⊥) in
      subst (λ (list : List ℕ). ChangesSlots c.committed.new.self c.give_slots.new.space (Has list))
      c.as_slice-2.ensures c.give_slots.ensures;
}

pub returns-clause-slots : goal.returns-clause-slots
returns-clause-slots c = λ slot.
    let same : c.hold_runs.new.self.slots ≡ c.give_slots.new.space.slots =
    ap (λ (space : Holding). space.slots) c.in_ok-hold_runs.ensures.ok in
    subst (λ (slots : List ℕ). Contains slots slot ↔ Contains c.args.nodes.now slot) (sym same)
    (present-nodes _ _ _ _ _ _ _ _ (holds c) slot)

pub returns-clause-held_slots : goal.returns-clause-held_slots
returns-clause-held_slots c = λ slot.
    let same : c.hold_runs.new.self.held_slots ≡ c.give_slots.new.space.held_slots =
    ap (λ (space : Holding). space.held_slots) c.in_ok-hold_runs.ensures.ok in
    subst (λ (slots : List ℕ). Contains slots slot ↔ Contains (c.args.others.now ++ c.args.nodes.now) slot) (sym same)
    (held-both _ _ _ _ _ _ _ _ (holds c) slot)
