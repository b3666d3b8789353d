-- Trees that are kept of a state: the state is whole, what it owes is counted, and its slots and runs are those of the
-- trees.
use Rattle.std.proofs.Common.{◌≡◌, ℕ, ◌<◌, Bool, true, false, List, Option, Some, None, refl, sym}
use Rattle.std.proofs.Common.{ap, subst, ◌∙◌, inl, inr}
use Rattle.std.specs.Prelude.{All, is_some, nat_lt, if◌then◌else◌}
use Rattle.std.specs.List.{Contains, flat_map, list_any}
use Rattle.std.specs.Option.{option_map}
use Rattle.std.proofs.lemmas.Bool.{cases_Bool, lt-ltb, ltb-true, true≢false}
use Rattle.std.proofs.lemmas.Option.{same_Some}
use Rattle.qg_device.specs.History.{History}
use Rattle.qg_node.specs.declared.item.Item.{Item}
use Rattle.qg_node.specs.declared.node.Node.{Node}
use Rattle.qg_node.specs.Fits.{ItemFits}
use Rattle.qg_super.specs.declared.sizes.Sizes.{Sizes}
use Rattle.qg_super.specs.Places.{is_run, is_served, is_slot}
use Rattle.qg_image.specs.declared.file.File.{File}
use Rattle.qg_image.specs.FilesOf.{files_of}
use Rattle.qg_image.specs.Table.{has_key, value_at}
use Rattle.qg_image.specs.declared.element.Element.{Element}
use Rattle.qg_image.specs.Owed.{layout_extents}
use Rattle.qg_image.specs.Reach.{level_of}
use Rattle.qg_image.specs.State.{Placed, State, Subvolume, layout_of, node_at}
use Rattle.qg_image.proofs.Contained.{contains_cases, contains_here}
use Rattle.qg_root_items.specs.Written.{items_of_file}
use Rattle.qg_root_items.proofs.FileTree.{file_items-told}
use Rattle.qg_machine.specs.Layout.{IsWhole}
use Rattle.qg_machine.specs.Refusals.{root_level}
use Rattle.qg_space.specs.Holding.{has_slot}
use Rattle.qg_space.proofs.Members.{one_passes, passes_one}
use Rattle.qg_node_alloc.specs.Land.{IsDrafted}
use Rattle.qg_weighed.specs.Laws.{CountsLayout}
use Rattle.qg_weighed.specs.Weight.{record_known}
use Rattle.qg_file_edits.proofs.Ways.{ways-some}
use Rattle.qg_refs.specs.Book.{full_in}
use Rattle.qg_extents.specs.Table.{book_of}
use Rattle.qg_tree_read.specs.Tree.{Root}
use Rattle.qg_file_edits.specs.Types.{FsTree}
use Rattle.qg_file_edits.specs.Standing.{Stands, items_in, nodes_of, placed_at, trees_of, ways_in}
use Rattle.qg_file_edits.proofs.Lists.{all-contained}
use Rattle.qg_file_edits.proofs.Reached.{reached-some}
use Rattle.qg_file_edits.proofs.FsTreeTaken.{has-led}
use Rattle.qg_file_edits.specs.Laying.{AreFit, HaveFiles, IsCounted, IsMet, IsMetAs, nodes_in}
use Rattle.qg_file_edits.proofs.OwedReferences.{owed-counted}
use Rattle.qg_file_edits.proofs.SharedTreesFiles.{files-fit}
use Rattle.qg_file_edits.proofs.Fitting.{nodes-fit}
use Rattle.qg_file_edits.proofs.Nodes.{reached-by, value-reached}
use Rattle.qg_file_edits.proofs.Trees.{entry-there, items-at_hand, met-slot, nodes-laid, root-level, sized}
use Rattle.qg_file_edits.proofs.Trees.{tree-subvolume}
use Rattle.qg_file_edits.proofs.SoundState.{entry-laid, state-whole}
use Rattle.qg_file_edits.specs.Named.{named}
use Rattle.qg_commit.proofs.Owing.{owes_begins}
use Rattle.qg_file_edits.specs.Files.{HasFiles}
use Rattle.qg_fs_laws.specs.Keeping.{IsKept, KeepsState}

module _ (fs : FsTree) (history : History) (bytes : ℕ) (state : State) (mine : Subvolume)
    (files : List (ℕ × File)) (kept : IsKept fs history bytes) (keeps : KeepsState fs history state mine files) where
  pub stands : Stands fs history (flat_map items_of_file files) (named files)
  stands = keeps.holds.stands

  pub draft : IsDrafted fs.land fs.tree.next
  draft = kept.subvolume.editable.drafted

  pub some_bytes : 0 < fs.land.space.sizes.nodesize
  some_bytes = sized fs history bytes (flat_map items_of_file files) (named files) kept.subvolume stands

  pub hand : Contains (trees_of fs) fs.tree
  hand = contains_here fs.tree fs.others.items

  -- ---- files

  hand_items : items_in fs history fs.tree ≡ flat_map items_of_file files
  hand_items = items-at_hand fs history bytes (flat_map items_of_file files) (named files) kept.subvolume stands

  hand_has : HasFiles fs history fs.tree mine.files
  hand_has = subst (λ (table : List (ℕ × File)). HasFiles fs history fs.tree table) (sym keeps.are)
      (record { items = hand_items; writable = keeps.holds.writable; by = keeps.holds.by })

  -- each tree has those of its subvolume
  pub each-has : (tree : Root) (subvolume : Subvolume) → Contains (trees_of fs) tree
      → value_at tree.owner state.subvolumes ≡ Some subvolume → HasFiles fs history tree subvolume.files
  each-has tree subvolume among there = elim (contains_cases fs.tree fs.others.items tree among) [
    | inl same ↦
        let its = ap (λ (t : Root). value_at t.owner state.subvolumes) same ∙ there in
        let own = same_Some mine subvolume (sym keeps.there ∙ its) in
        subst (λ (t : Root). HasFiles fs history t subvolume.files) same
        (subst (λ (s : Subvolume). HasFiles fs history fs.tree s.files) own hand_has)
    | inr later ↦ keeps.have tree subvolume later there
  ]

  pub have : HaveFiles state fs history
  have tree subvolume among there =
      let has = each-has tree subvolume among there in
      ap (λ (items : List Item). files_of fs.tree.next items) has.items
      ∙ file_items-told fs.tree.next subvolume.files has.writable kept.near has.by

  items_fit : (tree : Root) → Contains (trees_of fs) tree → All ItemFits (items_in fs history tree)
  items_fit tree among =
      let its = tree-subvolume fs history bytes (flat_map items_of_file files) (named files) kept.subvolume stands state
      keeps.laid tree among in
      let has = each-has tree its.0 among its.1 in
      subst (λ (items : List Item). All ItemFits items) (sym has.items) (files-fit its.0.files has.writable)

  fit : AreFit fs history
  fit = nodes-fit fs history bytes (flat_map items_of_file files) (named files) kept.subvolume stands kept.near
      items_fit

  pub whole : IsWhole state
  whole = state-whole fs history bytes (flat_map items_of_file files) (named files) state kept.subvolume stands
      keeps.laid have fit

  pub counted : IsCounted state fs history
  counted = owed-counted fs history bytes (flat_map items_of_file files) state kept.subvolume stands keeps.laid have

  -- ---- the subvolume at hand

  root_is : mine.root ≡ fs.tree.address
  root_is =
      let its = tree-subvolume fs history bytes (flat_map items_of_file files) (named files) kept.subvolume stands state
      keeps.laid fs.tree hand in
      let same = same_Some mine its.0 (sym keeps.there ∙ its.1) in
      ap (λ (s : Subvolume). s.root) same ∙ its.2

  level_is : root_level state fs.tree.owner ≡ level_of (node_at state.layout mine.root)
  level_is = rw keeps.there refl

  pub level-told : root_level state fs.tree.owner ≡ fs.tree.height
  level-told =
      level_is ∙ ap (λ (at : ℕ). level_of (node_at state.layout at)) root_is
      ∙ root-level fs history bytes (flat_map items_of_file files) (named files) kept.subvolume stands state keeps.laid
      fs.tree hand

  -- ---- slots

  -- some tree leads to an address
  abbrev pub is_led : ℕ → Bool
  is_led q = list_any (λ tree. nat_lt 0 (ways_in fs history tree q)) (trees_of fs)

  led_met : (q : ℕ) → is_led q ≡ true → IsMet fs history q
  led_met q led =
      let found = one_passes (λ (tree : Root). nat_lt 0 (ways_in fs history tree q)) (trees_of fs) led in
      record {
        tree = found.0;
        among = found.1;
        reached = reached-some (nodes_of fs history) found.0.height found.0.address q
            (ltb-true 0 (ways_in fs history found.0 q) found.2);
      }

  pub met_led : (q : ℕ) → IsMet fs history q → is_led q ≡ true
  met_led q met =
      passes_one (λ (tree : Root). nat_lt 0 (ways_in fs history tree q)) (trees_of fs) met.tree met.among
      (lt-ltb 0 (ways_in fs history met.tree q)
      (ways-some (nodes_of fs history) met.tree.height met.tree.address q met.reached))

  pub slot-led : (q : ℕ) → is_slot fs.land.space.sizes q ≡ true → has_slot fs.land.space q ≡ is_led q
  slot-led q slot = has-led fs history (flat_map items_of_file files) (named files) stands draft kept.table q slot

  led_entry : (q : ℕ) → is_led q ≡ true → (placed : Placed) × IsMetAs fs history q placed
  led_entry q led = entry-there fs history bytes (flat_map items_of_file files) (named files) kept.subvolume stands q
      (led_met q led)

  placed_if : (led : Bool) (told : Option Node) (at : ℕ) (full : Bool) → (led ≡ true → is_some told ≡ true)
      → is_some {T = ℕ × Placed}
      (if led then option_map (λ node. (at, record { node = node; full = full })) told else None) ≡ led
  placed_if true (Some own) at full there = refl
  placed_if true None at full there = there refl
  placed_if false told at full there = refl

  pub placed-led : (q : ℕ) → is_some (placed_at fs history q) ≡ is_led q
  placed-led q = placed_if (is_led q) (nodes_of fs history q) q (full_in (book_of fs.refs.refs q))
      (λ led. ap (λ (o : Option Node). is_some o) (led_entry q led).1.told)

  key_there : (q : ℕ) → has_key q (nodes_in fs history) ≡ is_led q
  key_there q = elim (cases_Bool (is_led q)) [
    | inl led ↦
        let entry = led_entry q led in
        ap (λ (o : Option Placed). is_some o)
        (value-reached fs history some_bytes
        (met-slot fs history bytes (flat_map items_of_file files) (named files) kept.subvolume stands) q entry.0
        entry.1)
        ∙ sym led
    | inr none ↦ absent (value_at q (nodes_in fs history)) refl none ∙ sym none
  ]
    where
      absent : (o : Option Placed) → value_at q (nodes_in fs history) ≡ o → is_led q ≡ false → is_some o ≡ false
      absent None is none = refl
      absent (Some placed) is none =
          absurd (true≢false (sym (met_led q (reached-by fs history q placed is).met) ∙ none))

  pub taken-told : (q : ℕ) → is_slot fs.land.space.sizes q ≡ true
      → has_slot fs.land.space q ≡ has_key q state.layout
  taken-told q slot =
      slot-led q slot ∙ sym (key_there q)
      ∙ ap (λ (table : List (ℕ × Placed)). has_key q table)
      (sym (nodes-laid fs history bytes (flat_map items_of_file files) (named files) kept.subvolume stands state
      keeps.laid))

  -- ---- what is counted

  pub served : is_served state.sizes ≡ true
  served = ap is_served keeps.laid.sizes ∙ draft.sizes.served

  pub lies : (run : Element) → Contains (layout_extents (layout_of state)) run
      → is_run state.sizes run.address run.bytes ≡ true
  lies run has =
      ap (λ (sizes : Sizes). is_run sizes run.address run.bytes) keeps.laid.sizes ∙ (counted.known run has).lies

  pub slot-laid : (entry : ℕ × Placed) → Contains state.layout entry → is_slot state.sizes entry.0 ≡ true
  slot-laid entry has =
      ap (λ (sizes : Sizes). is_slot sizes entry.0) keeps.laid.sizes
      ∙ met-slot fs history bytes (flat_map items_of_file files) (named files) kept.subvolume stands entry.0
      (entry-laid fs history bytes (flat_map items_of_file files) (named files) kept.subvolume stands state keeps.laid
      entry has).met

  pub counts : CountsLayout (layout_of state) fs.refs.refs
  counts = record {
    kept = kept.table;
    agrees = counted.agrees;
    begins = owes_begins state whole served lies
        (all-contained (λ (entry : ℕ × Placed). is_slot state.sizes entry.0 ≡ true) state.layout slot-laid);
    ascending = whole.ascending;
    nodes = λ at placed is. ap (option_map (record_known at)) (counted.nodes at placed is);
    extents = λ run has. ap (option_map (record_known run.address)) (counted.known run has).known;
  }
