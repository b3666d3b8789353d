-- What a command leaves, once its edits are done.
use Rattle.std.proofs.Common.{◌≡◌, ℕ, zero, suc, ◌+◌, ◌*◌, ◌≤◌, List, ◌++◌, length, Result, Ok, Err}
use Rattle.std.proofs.Common.{arith, refl, sym, subst}
use Rattle.std.specs.Prelude.{OnOk}
use Rattle.std.specs.List.{All, flat_map}
use Rattle.std.specs.Option.{option_to_list}
use Rattle.std.proofs.Math.Nat.{mul-le-mul_right}
use Rattle.qg_device.specs.History.{Event, History, Recorded}
use Rattle.qg_num.specs.declared.fault.BlockFault.{BlockFault}
use Rattle.qg_num.specs.declared.piece.Piece.{Piece}
use Rattle.qg_node.specs.declared.item.Item.{Item}
use Rattle.qg_image.specs.declared.file.File.{File}
use Rattle.qg_image.specs.Need.{file_copies}
use Rattle.qg_tree_items.specs.Writable.{AreWritableFiles, IsFileBy}
use Rattle.qg_root_items.specs.Written.{items_of_file}
use Rattle.qg_blocks.specs.NodesFound.{BreaksNone}
use Rattle.qg_space.specs.Holding.{free_slots}
use Rattle.qg_node_alloc.specs.Land.{IsDrafted}
use Rattle.qg_extents.specs.Table.{IsTable}
use Rattle.qg_file_edits.specs.Named.{named}
use Rattle.qg_shared_trees.specs.Heavier.{edit_bytes, name_new_bytes}
use Rattle.qg_shared_trees.proofs.Sums.{BookGetsHeavier-most}
use Rattle.qg_shared_trees.specs.Types.{FsTree}
use Rattle.qg_shared_trees.specs.Standing.{IsSubvolume, Stands, made_slots, names_elsewhere, own_slots}
use Rattle.qg_shared_trees.proofs.Made.{made-free}
use Rattle.qg_shared_trees.proofs.Own.{leaf-own, made-own, taken-made}
use Rattle.qg_file_edits.specs.Editing.{AreMade, IsEditedBy}
use Rattle.qg_file_edits.specs.Files.{HoldsFiles, LeavesFiles}
use Rattle.qg_file_edits.specs.declared.exchange.Exchange.{Exchange}
use Rattle.qg_file_edits.specs.Exchanging.{MakesFiles}
use Rattle.qg_file_edits.proofs.Edited.{most_bytes}
use Rattle.qg_file_edits.proofs.CommandExchange.{IsToldFor}

-- what a command may copy is six nodes at least for each edit
copies_most : (height pieces : ℕ) → 6 * (pieces + 3) ≤ file_copies height pieces
copies_most height pieces = mul-le-mul_right (pieces + 3) (omega arith)

enough : (edits touched copies free : ℕ) → edits ≤ touched → 3 ≤ touched → 6 * touched ≤ copies → 10 * copies ≤ free
    → 9 * edits + 15 ≤ free
enough edits touched copies free most some many room = omega (arith, most, some, many, room)

-- and nine where the tree is more than one leaf
nine_most : (height pieces : ℕ) → 1 ≤ height → 9 * (pieces + 3) ≤ file_copies height pieces
nine_most height pieces high = mul-le-mul_right (pieces + 3) (omega (arith, high))

nine_covered : (edits touched copies : ℕ) → edits ≤ touched → 9 * touched ≤ copies → 9 * edits ≤ copies
nine_covered edits touched copies most many = omega (arith, most, many)

-- where it was one leaf, it reached one slot, and reaches those that came
leaf_covered : (edits touched copies taken there come : ℕ) → edits ≤ touched → 1 ≤ touched → 6 * touched ≤ copies
    → taken ≡ 1 → there ≤ taken + 5 * edits → come ≤ there → come ≤ copies
leaf_covered edits touched copies taken there come most some many one few all =
    omega (arith, most, some, many, one, few, all)

-- how many slots come that were not taken before
come_covered : (height edits pieces taken there come : ℕ) → edits ≤ pieces + 3 → (height ≡ 0 → taken ≡ 1)
    → there ≤ taken + 5 * edits → come ≤ there → come ≤ 9 * edits → come ≤ file_copies height pieces
come_covered zero edits pieces taken there come most low few all each =
    leaf_covered edits (pieces + 3) (file_copies 0 pieces) taken there come most (omega arith) (copies_most 0 pieces)
    (low refl) few all
come_covered (suc height) edits pieces taken there come most low few all each =
    let bound = nine_covered edits (pieces + 3) (file_copies (suc height) pieces) most
    (nine_most (suc height) pieces (omega arith)) in
    omega (arith, each, bound)

-- what the clauses of a command say, by what its exchange did
module _ (edits added pieces : ℕ) (old new : FsTree) (history : History) (files_new : List (ℕ × File))
    (reads reads_new : ℕ) (result : Result (Unit {0}) BlockFault) (most : edits ≤ pieces + 3)
    (names : added ≤ 2 * (pieces + 3))
    (made : AreMade edits added old new history (flat_map items_of_file files_new) (named files_new) reads reads_new
    result)
  where
    pub left-files : (items : List Item) (names : List (ℕ × Piece)) → Stands old history items names
        → IsDrafted old.land old.tree.next → IsDrafted new.land new.tree.next → IsTable old.refs.refs
        → OnOk result (IsTable new.refs.refs) → AreWritableFiles files_new
        → All (IsFileBy old.tree.next) files_new → OnOk result (LeavesFiles old new history files_new pieces)
    left-files items names_old stands drafted drafted_new table still are by = cases result made.done still where
      low : old.tree.height ≡ 0 → own_slots old history ≡ 1
      low = leaf-own old history items names_old stands drafted

      cases : (r : Result (Unit {0}) BlockFault)
          → OnOk r (IsEditedBy edits added old new history (flat_map items_of_file files_new) (named files_new))
          → OnOk r (IsTable new.refs.refs) → OnOk r (LeavesFiles old new history files_new pieces)
      cases (Ok done) edited table_new =
          let own = made-own old new history items (flat_map items_of_file files_new) names_old (named files_new) stands
          drafted table edited.stands drafted_new table_new edited.others in
          let come = come_covered old.tree.height edits pieces (own_slots old history) (own_slots new history)
          (made_slots old.land.space new.land.space) most low edited.few own edited.made in
          let taken = taken-made old.land.space new.land.space edited.moved.sizes in
          let left = made-free old.land.space new.land.space edited.moved.sizes edited.moved.held_slots in
          record {
            holds = record {
              stands = edited.stands;
              writable = are;
              by = subst (λ (next : ℕ). All (IsFileBy next) files_new) (sym edited.moved.next) by;
            };
            moved = edited.moved;
            few = omega (arith, taken, come);
            made = come;
            free = omega (arith, left, come);
            heavier = BookGetsHeavier-most old.refs new.refs
                (edits * edit_bytes old.land.space.sizes.nodesize 3 + added * name_new_bytes)
                ((pieces + 3) * edit_bytes old.land.space.sizes.nodesize 3 + 2 * (pieces + 3) * name_new_bytes)
                (most_bytes (edit_bytes old.land.space.sizes.nodesize 3) edits (pieces + 3) added
                (2 * (pieces + 3)) most
                names) edited.heavier;
          }
      cases (Err fault) edited table_new = tt

    pub left-sound : (events : List Event) → history ≡ Recorded events
        → 10 * file_copies old.tree.height pieces ≤ free_slots old.land.space → BreaksNone result
    left-sound events is room =
        made.sound events is
        (enough edits (pieces + 3) (file_copies old.tree.height pieces) (free_slots old.land.space) most (omega arith)
        (copies_most old.tree.height pieces) room)

    pub left-reads : reads_new ≤ reads + 45 * (pieces + 3)
    left-reads = let steps = made.reads in omega (arith, steps, most)

-- the same, by what is told of the exchange
module _ (pieces : ℕ) (old new : FsTree) (ino : ℕ) (change : Exchange) (history : History)
    (files files_new : List (ℕ × File)) (reads reads_new : ℕ) (result : Result (Unit {0}) BlockFault)
    (holds : HoldsFiles old history files) (told : IsToldFor pieces old history ino change files files_new)
    (called : (edits : ℕ) (files files_new : List (ℕ × File))
    → Stands old history (flat_map items_of_file files) (named files)
    → MakesFiles edits old.tree.owner ino change (names_elsewhere old history) files files_new
    → AreMade edits (length (change.named ++ option_to_list change.new)) old new history
    (flat_map items_of_file files_new) (named files_new) reads reads_new result) where
  all_made : AreMade told.edits (length (change.named ++ option_to_list change.new)) old new history
      (flat_map items_of_file files_new) (named files_new) reads reads_new result
  all_made = called told.edits files files_new holds.stands told.makes

  pub done-files : (bytes : ℕ) → IsSubvolume old history bytes → IsTable old.refs.refs
      → IsDrafted new.land new.tree.next
      → OnOk result (IsTable new.refs.refs) → OnOk result (LeavesFiles old new history files_new pieces)
  done-files bytes subvolume table drafted_new still =
      left-files told.edits (length (change.named ++ option_to_list change.new)) pieces old new history files_new reads
      reads_new result told.most told.few all_made
      (flat_map items_of_file files) (named files) holds.stands subvolume.editable.drafted drafted_new table still
      told.writable told.by

  pub done-sound : (events : List Event) → history ≡ Recorded events
      → 10 * file_copies old.tree.height pieces ≤ free_slots old.land.space → BreaksNone result
  done-sound = left-sound told.edits (length (change.named ++ option_to_list change.new)) pieces old new history
      files_new reads reads_new result told.most told.few all_made

  pub done-reads : reads_new ≤ reads + 45 * (pieces + 3)
  done-reads = left-reads told.edits (length (change.named ++ option_to_list change.new)) pieces old new history
      files_new reads reads_new result told.most told.few all_made
