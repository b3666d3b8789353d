-- All nodes that subvolumes reach, as they are read: what is asked of what is kept, and what is found.
use Rattle.std.proofs.Common.{◌≡◌, ℕ, ◌≤◌, List, [], ◌∷◌, map, length, Option, Some, None, refl, sym, ap, subst}
use Rattle.std.proofs.Common.{◌∙◌, arith}
use Rattle.std.specs.List.{filter_map, flat_map}
use Rattle.std.specs.List.Sorted.{IsStrictlyIncreasing}
use Rattle.std.proofs.lemmas.List.{length-map}
use Rattle.std.proofs.lemmas.List.FromFn.{length-map-range_with_len}
use Rattle.qg_device.specs.History.{History}
use Rattle.qg_super.specs.declared.sizes.Sizes.{Sizes}
use Rattle.qg_super.specs.Places.{slot_at}
use Rattle.qg_image.specs.Table.{keys_of}
use Rattle.qg_image.specs.Record.{Record}
use Rattle.qg_image.specs.State.{Placed, State}
use Rattle.qg_root_items.specs.Written.{items_of_file}
use Rattle.qg_extents.specs.Table.{IsTable}
use Rattle.qg_open_image.specs.Named.{named}
use Rattle.qg_qgroup_counts.specs.Surveyed.{surveyed_of}
use Rattle.qg_qgroup_counts.specs.declared.surveyed.Surveyed.{Surveyed}
use Rattle.qg_open_image.specs.TreeEditsEditing.{IsEditable}
use Rattle.qg_open_image.specs.Standing.{every_slot, placed_at}
use Rattle.qg_open_image.proofs.Nodes.{nodes-are}
use Rattle.qg_open_image.proofs.Trees.{nodes-laid}
use Rattle.qg_open_image.proofs.FsLawsKept.{stands, whole}
use Rattle.qg_open_image.specs.declared.open_image.OpenImage.{OpenImage}
use Rattle.qg_open_image.specs.Keeping.{IsKept, IsKeptWith}
use Rattle.qg_image_commits.specs.Planning.{AreInOrder}
use Rattle.qg_image_commits.proofs.Cleaned.{tree-now}
use Rattle.qg_open_image.proofs.Looked.{is-subvolume}

-- nodes and space are such as a survey may read, where the references are for the same generation to come
pub editable-now : (kept : OpenImage) (history : History) (bytes : ℕ) → IsKept kept history bytes
    → (told next : ℕ) → told ≡ kept.fs.refs.next → next ≡ kept.fs.tree.next → told ≡ next
    → IsEditable kept.fs.land history bytes kept.fs.refs.next
editable-now kept history bytes fits told next of_refs of_tree same =
    subst (λ (n : ℕ). IsEditable kept.fs.land history bytes n) (sym of_tree ∙ sym same ∙ of_refs)
    (is-subvolume kept history bytes fits).editable

-- so they are where something is kept of a state
pub next-same-now : (kept : OpenImage) (history : History) (state : State) (names : List Record)
    → IsKeptWith kept state history names → kept.fs.refs.next ≡ kept.fs.tree.next
next-same-now kept history state names keeps = keeps.keeps.holds.stands.book.next

-- ---- what is found

addresses_surveyed : (layout : List (ℕ × Placed))
    → map (λ (node : Surveyed). node.linked.address)
    (map (λ (entry : ℕ × Placed). surveyed_of entry.0 entry.1) layout) ≡ keys_of layout
addresses_surveyed [] = refl
addresses_surveyed (entry ∷ layout) = ap (λ (ns : List ℕ). entry.0 ∷ ns) (addresses_surveyed layout)

fewer_made : {X Y : Type 0} (f : X → Option Y) (xs : List X) → length (filter_map f xs) ≤ length xs
fewer_made f [] = omega arith
fewer_made {X} {Y} f (x ∷ xs) = from (f x) refl (fewer_made f xs) where
  from : (o : Option Y) → f x ≡ o → length (filter_map f xs) ≤ length xs
      → length (filter_map f (x ∷ xs)) ≤ length (x ∷ xs)
  from None is rest =
      let same : length (filter_map f (x ∷ xs)) ≡ length (filter_map f xs) = rw is refl in omega (arith, same, rest)
  from (Some y) is rest =
      let same : length (filter_map f (x ∷ xs)) ≡ length (y ∷ filter_map f xs) = rw is refl in
      omega (arith, same, rest)

module _ (kept : OpenImage) (history : History) (bytes : ℕ) (state : State) (names : List Record)
    (fits : IsKept kept history bytes) (table : IsTable kept.fs.refs.refs)
    (keeps : IsKeptWith kept state history names) where
  layout_ascends : IsStrictlyIncreasing (keys_of state.layout)
  layout_ascends =
      (whole kept.fs history bytes state keeps.mine keeps.files (tree-now kept history bytes fits table)
      keeps.keeps).ascending

  slots_many : (sizes : Sizes) → length (every_slot sizes) ≡ sizes.slots
  slots_many sizes = length-map-range_with_len (slot_at sizes) 0 sizes.slots

  layout_few : length state.layout ≤ kept.superblock.slots
  layout_few =
      let own = tree-now kept history bytes fits table in
      let laid = nodes-laid kept.fs history bytes (flat_map items_of_file keeps.files) (named keeps.files)
      own.subvolume (stands kept.fs history bytes state keeps.mine keeps.files own keeps.keeps) state keeps.keeps.laid
      ∙ nodes-are kept.fs history in
      let same = ap (λ (list : List (ℕ × Placed)). length list) laid in
      let fewer = fewer_made (placed_at kept.fs history) (every_slot kept.fs.land.space.sizes) in
      let many = slots_many kept.fs.land.space.sizes in
      let sizes = ap (λ (s : Sizes). s.slots) fits.fitted.sizes in
      omega (arith, same, fewer, many, sizes)

  -- what was read of the state's nodes is in order
  pub order-now : (nodes : List Surveyed)
      → nodes ≡ map (λ entry. surveyed_of entry.0 entry.1) state.layout → AreInOrder kept nodes
  order-now nodes are = record {
    ascending = subst (λ (ns : List ℕ). IsStrictlyIncreasing ns)
        (sym (addresses_surveyed state.layout) ∙ ap (map (λ (node : Surveyed). node.linked.address)) (sym are))
        layout_ascends;
    few = let same = ap (λ (list : List Surveyed). length list) are in
        let many = length-map state.layout (λ (entry : ℕ × Placed). surveyed_of entry.0 entry.1) in
        let few = layout_few in
        omega (arith, same, many, few);
  }
