-- What the machine does where owners are asked, by what is kept.
use Rattle.std.proofs.Common.{◌≡◌, ℕ, List, [], ◌∷◌, map, None, Option, refl, sym, ap, subst, ◌∙◌}
use Rattle.std.specs.Prelude.{MatchOption}
use Rattle.std.specs.List.Sorted.{IsStrictlyIncreasing}
use Rattle.qg_device.specs.History.{History}
use Rattle.qg_num.specs.declared.answer.Answer.TheVariants as answer
use Rattle.qg_num.specs.declared.command.Command.TheVariants.{Owners}
use Rattle.qg_num.specs.declared.refusal.Refusal.{Refusal}
use Rattle.qg_image.specs.Table.{keys_of}
use Rattle.qg_image.specs.Reach.{owners}
use Rattle.qg_image.specs.Record.{Record}
use Rattle.qg_image.specs.State.{Placed, State, Subvolume, layout_of}
use Rattle.qg_machine.specs.Refusals.{refusal}
use Rattle.qg_machine.specs.Step as machine
use Rattle.qg_extents.specs.Table.{IsTable}
use Rattle.qg_owner_rule.specs.declared.linked.Linked.{Linked}
use Rattle.qg_owner_rule.specs.Linked.{AreLinksOf, linked_of}
use Rattle.qg_qgroup_counts.specs.declared.surveyed.Surveyed.{Surveyed}
use Rattle.qg_qgroup_counts.specs.Surveyed.{links_in, surveyed_of}
use Rattle.qg_survey.specs.Surveying.{trees_of as trees_of_state}
use Rattle.qg_survey.proofs.Links.{links-held}
use Rattle.qg_open_image.specs.declared.open_image.OpenImage.{OpenImage}
use Rattle.qg_open_image.specs.Answering.{Answered}
use Rattle.qg_open_image.specs.Keeping.{IsKept, IsKeptOf, IsKeptWith}
use Rattle.qg_image_commits.specs.Owning.{AreOwners}
use Rattle.qg_image_commits.specs.Planning.{root_of_tree}
use Rattle.qg_image_commits.proofs.ByNumber.{roots-are}
use Rattle.qg_image_commits.proofs.Cleaned.{held-now}
use Rattle.qg_image_commits.proofs.Owned.{owners-told}

never_refused : (state : State) (address : ℕ) → refusal state (Owners address) ≡ None
unfolding refusal
never_refused state address = refl

-- the state stays
pub does_own : (kept : OpenImage) (state : State) (history : History) (address : ℕ) (found : List ℕ)
    → IsKeptOf kept state history → found ≡ owners (layout_of state) address
    → Answered state (Owners address) (answer.Owners found) [] kept history
does_own kept state history address found keeps are = record {
  new = state;
  step = subst (λ (refused : Option Refusal). MatchOption refused
      (machine.Does state (Owners address) (answer.Owners found) [] state)
      (λ reason. (answer.Owners found ≡ answer.Refused reason) × machine.Stays state [] state))
      (sym (never_refused state address)) (ap (λ (list : List ℕ). answer.Owners list) are, (refl, refl));
  keeps = keeps;
  reserved = keeps.reserve;
}

linked_all : (layout : List (ℕ × Placed))
    → links_in (map (λ (entry : ℕ × Placed). surveyed_of entry.0 entry.1) layout)
    ≡ map (λ (entry : ℕ × Placed). linked_of entry.0 entry.1) layout
linked_all [] = refl
linked_all (entry ∷ layout) = ap (λ (list : List Linked). linked_of entry.0 entry.1 ∷ list) (linked_all layout)

addresses_all : (layout : List (ℕ × Placed))
    → map (λ (link : Linked). link.address) (map (λ (entry : ℕ × Placed). linked_of entry.0 entry.1) layout)
    ≡ keys_of layout
addresses_all [] = refl
addresses_all (entry ∷ layout) = ap (λ (ns : List ℕ). entry.0 ∷ ns) (addresses_all layout)

keys_rooted : (table : List (ℕ × Subvolume))
    → keys_of (map (λ (entry : ℕ × Subvolume). (entry.0, entry.1.root)) table) ≡ keys_of table
keys_rooted [] = refl
keys_rooted (entry ∷ table) = ap (λ (ns : List ℕ). entry.0 ∷ ns) (keys_rooted table)

-- what is found by what was surveyed are the state's owners
pub owners-now : (kept : OpenImage) (history : History) (bytes : ℕ) (state : State) (names : List Record)
    → IsKept kept history bytes → IsTable kept.fs.refs.refs → IsKeptWith kept state history names → (address : ℕ)
    (roots : List (ℕ × ℕ)) (nodes : List Surveyed) (found : List ℕ)
    → roots ≡ map root_of_tree (trees_of_state state)
    → nodes ≡ map (λ entry. surveyed_of entry.0 entry.1) state.layout
    → AreOwners roots nodes address found → found ≡ owners (layout_of state) address
owners-now kept history bytes state names fits table keeps address roots nodes found of_roots of_nodes are =
    let held = held-now kept history bytes state names fits table keeps in
    let same : links_in nodes ≡ map (λ (entry : ℕ × Placed). linked_of entry.0 entry.1) state.layout =
    ap links_in of_nodes ∙ linked_all state.layout in
    let links = subst (λ (list : List Linked). AreLinksOf (layout_of state) (layout_of state).roots list) (sym same)
    (links-held kept.fs.land history kept.fs.refs state held fits.fitted.drafted.sizes) in
    let up = subst (λ (list : List Linked). IsStrictlyIncreasing (map (λ (link : Linked). link.address) list))
    (sym same)
    (subst (λ (ns : List ℕ). IsStrictlyIncreasing ns) (sym (addresses_all state.layout)) held.whole.ascending) in
    let numbers = subst (λ (ns : List ℕ). IsStrictlyIncreasing ns) (sym (keys_rooted state.subvolumes)) held.numbers in
    owners-told (layout_of state) nodes of_nodes links up numbers held.whole.ascending address roots found
    (of_roots ∙ roots-are state held.numbers) are
