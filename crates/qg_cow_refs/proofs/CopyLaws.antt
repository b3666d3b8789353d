-- What a copy of a node owes, and that the changes of each case turn what was owed into what is owed.
use Rattle.std.specs.Prelude.{◌≡◌, ℕ, ◌-◌, Bool, true, false, ◌&&◌, ◌||◌, not, List, [], ◌∷◌, ◌++◌, map, Option, Some}
use Rattle.std.specs.Prelude.{None, ◌==◌, nat_lt, is_some, if◌then◌else◌, refl}
use Rattle.std.specs.List.{flat_map}
use Rattle.std.specs.List.Sorted.{IsPermutation}
use Rattle.std.proofs.Common.{sym, ◌∙◌, ap, subst, arith, append-nil, eqb-true, ltb-false}
use Rattle.std.proofs.lemmas.Bool.Decides.{nat_tests}
use Rattle.std.proofs.lemmas.List.Sorted.{IsPermutation-refl, IsPermutation-sym, IsPermutation-trans}
use Rattle.std.proofs.lemmas.List.Sorted.{IsPermutation-cons, IsPermutation-append_comm, IsPermutation-middle}
use Rattle.qg_node.specs.declared.node.Header.{Header}
use Rattle.qg_node.specs.declared.node.Node.{Node}
use Rattle.qg_node.specs.declared.node.Node.TheVariants.{Leaf, Inner}
use Rattle.qg_node.specs.Nodes.{header_of}
use Rattle.qg_image.specs.declared.part.FilePart.{FilePart}
use Rattle.qg_image.specs.declared.part.FilePart.TheVariants.{Inode, PieceOf}
use Rattle.qg_image.specs.ItemMeaning.{file_part}
use Rattle.qg_image.specs.State.{Placed}
use Rattle.qg_image.specs.Owed.{owed_by_node, owed_by_part, owed_to_child}
use Rattle.qg_cow_refs.specs.declared.cases.Edits.{Edits}
use Rattle.qg_cow_refs.specs.declared.cases.Edits.TheVariants.{ShareOld, AddKeyed, TurnKeyed, TakeOver}
use Rattle.qg_cow_refs.specs.Children.{owner_of, with_header, keyed_children, shared_children, way_to, owed_if_there}
use Rattle.qg_cow_refs.specs.Copying.{case_of, copy_of, old_after, children_gain, children_lose, IsOwnWhereAlone}
use Rattle.qg_cow_refs.specs.Copying.{CopyTurnsOwed, CopyLeavesOld}

-- ---- keyed references tell the owner alone

flat_map-same : {X A : Type 0} (f g : X → List A) → ((x : X) → f x ≡ g x) → (xs : List X)
    → flat_map f xs ≡ flat_map g xs
flat_map-same f g same [] = refl
flat_map-same f g same (x ∷ xs) = rw (same x) (ap (λ rest. g x ++ rest) (flat_map-same f g same xs))

part-keyed : (header other : Header) → header.owner ≡ other.owner → (part : Option FilePart)
    → owed_by_part header false part ≡ owed_by_part other false part
part-keyed header other same None = refl
part-keyed header other same (Some (Inode ino inode)) = refl
part-keyed header other same (Some (PieceOf ino piece)) = rw same

child-keyed : (header other : Header) → header.owner ≡ other.owner → (child : ℕ)
    → owed_to_child header false child ≡ owed_to_child other false child
child-keyed header other same child = rw same

map-same : {X A : Type 0} (f g : X → A) → ((x : X) → f x ≡ g x) → (xs : List X) → map f xs ≡ map g xs
map-same f g same [] = refl
map-same f g same (x ∷ xs) = rw (same x) (ap (λ rest. g x ∷ rest) (map-same f g same xs))

-- a node that is not full owes the same under any header with the same owner
keyed-same : (header other : Header) → header.owner ≡ other.owner → (node : Node)
    → owed_by_node (record { node = with_header header node; full = false }) ≡ owed_by_node
    (record { node = with_header other node; full = false })
unfolding owed_by_node
keyed-same header other same (Leaf own items) =
    flat_map-same (λ item. owed_by_part header false (file_part item))
    (λ item. owed_by_part other false (file_part item)) (λ item. part-keyed header other same (file_part item))
    items
keyed-same header other same (Inner own pointers) =
    ap (λ owed. owed ++ []) (map-same (λ pointer. owed_to_child header false pointer.child)
    (λ pointer. owed_to_child other false pointer.child) (λ pointer. child-keyed header other same pointer.child)
    pointers)

-- the copy owes its children keyed references of the subvolume
pub owed-copy : (old : Placed) (address generation tree : ℕ)
    → owed_by_node (copy_of old address generation tree) ≡ keyed_children old.node tree
owed-copy old address generation tree =
    keyed-same (record { address = address; generation = generation; owner = tree; level = (header_of old.node).level })
    (record (header_of old.node) { owner = tree }) refl old.node

own-header : (node : Node) → with_header (record (header_of node) { owner = (header_of node).owner }) node ≡ node
own-header (Leaf header items) = refl
own-header (Inner header pointers) = refl

-- a node that is not full owes them of its owner
pub owed-keyed : (old : Placed) → old.full ≡ false → owed_by_node old ≡ keyed_children old.node (owner_of old)
owed-keyed old bare =
    ap (λ full. owed_by_node (record { node = old.node; full = full })) bare
    ∙ sym (ap (λ node. owed_by_node (record { node = node; full = false })) (own-header old.node))

-- a full node owes shared ones
pub owed-shared : (old : Placed) → old.full ≡ true → owed_by_node old ≡ shared_children old.node
owed-shared old full = ap (λ mark. owed_by_node (record { node = old.node; full = mark })) full

-- ---- the four cases

-- what a copy does to the children of a node that is edited by a subvolume
abbrev pub ChildrenTurn : Edits → Placed → ℕ → Type 0
ChildrenTurn edits old tree =
    IsPermutation (owed_by_node old ++ children_gain edits old tree)
    ((owed_if_there (old_after edits old) ++ keyed_children old.node tree) ++ children_lose edits old)

pub children-share : (old : Placed) (tree : ℕ) → old.full ≡ false → owner_of old ≡ tree → ChildrenTurn ShareOld old tree
children-share old tree bare own =
    let keyed : owed_by_node old ≡ keyed_children old.node tree = owed-keyed old bare
    ∙ ap (λ owner. keyed_children old.node owner) own in
    subst (λ owed. IsPermutation (owed ++ shared_children old.node)
    ((shared_children old.node ++ keyed_children old.node tree) ++ [])) (sym keyed)
    (subst (λ after. IsPermutation (keyed_children old.node tree ++ shared_children old.node) after)
    (sym (append-nil (shared_children old.node ++ keyed_children old.node tree)))
    (IsPermutation-append_comm (keyed_children old.node tree) (shared_children old.node)))

pub children-add : (old : Placed) (tree : ℕ) → ChildrenTurn AddKeyed old tree
children-add old tree =
    subst (λ after. IsPermutation (owed_by_node old ++ keyed_children old.node tree) after)
    (sym (append-nil (owed_by_node old ++ keyed_children old.node tree)))
    (IsPermutation-refl (owed_by_node old ++ keyed_children old.node tree))

pub children-turn : (old : Placed) (tree : ℕ) → old.full ≡ true → ChildrenTurn TurnKeyed old tree
children-turn old tree full =
    subst (λ owed. IsPermutation (owed ++ keyed_children old.node tree) (keyed_children old.node tree
    ++ shared_children old.node)) (sym (owed-shared old full))
    (IsPermutation-append_comm (shared_children old.node) (keyed_children old.node tree))

pub children-take : (old : Placed) (tree : ℕ) → old.full ≡ false → owner_of old ≡ tree → ChildrenTurn TakeOver old tree
children-take old tree bare own =
    let keyed : owed_by_node old ≡ keyed_children old.node tree = owed-keyed old bare
    ∙ ap (λ owner. keyed_children old.node owner) own in
    subst (λ owed. IsPermutation (owed ++ []) (keyed_children old.node tree ++ [])) (sym keyed)
    (IsPermutation-refl (keyed_children old.node tree ++ []))

-- ---- which case it is

pub case-turns : (own full more : Bool) (old : Placed) (tree : ℕ) → old.full ≡ full → (own ≡ true → owner_of old ≡ tree)
    → (more ≡ false → full ≡ false → owner_of old ≡ tree)
    → ChildrenTurn (if more then (if own && not full then ShareOld else AddKeyed) else
    (if full then TurnKeyed else TakeOver)) old tree
case-turns true false true old tree mark own alone = children-share old tree mark (own refl)
case-turns true true true old tree mark own alone = children-add old tree
case-turns false false true old tree mark own alone = children-add old tree
case-turns false true true old tree mark own alone = children-add old tree
case-turns own true false old tree mark owns alone = children-turn old tree mark
case-turns own false false old tree mark owns alone = children-take old tree mark (alone refl refl)

pub children-turned : (count : ℕ) (old : Placed) (tree : ℕ) → IsOwnWhereAlone count old tree
    → ChildrenTurn (case_of count old tree) old tree
children-turned count old tree alone =
    case-turns (owner_of old == tree) old.full (nat_lt 1 count) old tree refl (eqb-true (owner_of old) tree)
    (λ few bare. alone (ltb-false 1 count few) bare)

-- ---- with the ways to the old node and to the copy

ways : {X : Type 0} (old copy : X) (owed gain after lose : List X) → IsPermutation (owed ++ gain) (after ++ lose)
    → IsPermutation ((old ∷ owed) ++ copy ∷ gain) ((copy ∷ after) ++ old ∷ lose)
ways old copy owed gain after lose children =
    let before = IsPermutation-cons old (owed ++ copy ∷ gain) (copy ∷ (owed ++ gain))
    (IsPermutation-middle owed copy gain) in
    let changed = IsPermutation-cons old (copy ∷ (owed ++ gain)) (copy ∷ (after ++ lose))
    (IsPermutation-cons copy (owed ++ gain) (after ++ lose) children) in
    let turned = IsPermutation-middle (old ∷ []) copy (after ++ lose) in
    let behind = IsPermutation-cons copy (old ∷ (after ++ lose)) (after ++ old ∷ lose)
    (IsPermutation-sym (after ++ old ∷ lose) (old ∷ (after ++ lose)) (IsPermutation-middle after old lose)) in
    IsPermutation-trans (old ∷ (owed ++ copy ∷ gain)) (old ∷ copy ∷ (owed ++ gain)) (copy ∷ (after ++ old ∷ lose))
    before
    (IsPermutation-trans (old ∷ copy ∷ (owed ++ gain)) (old ∷ copy ∷ (after ++ lose)) (copy ∷ (after ++ old ∷ lose))
    changed
    (IsPermutation-trans (old ∷ copy ∷ (after ++ lose)) (copy ∷ old ∷ (after ++ lose)) (copy ∷ (after ++ old ∷ lose))
    turned behind))

pub copy-turns : CopyTurnsOwed
copy-turns count old address generation tree alone =
    let edits = case_of count old tree in
    let children = subst (λ copy. IsPermutation (owed_by_node old ++ children_gain edits old tree)
    ((owed_if_there (old_after edits old) ++ copy) ++ children_lose edits old))
    (sym (owed-copy old address generation tree)) (children-turned count old tree alone) in
    ways (way_to (header_of old.node).address tree) (way_to address tree) (owed_by_node old)
    (children_gain edits old tree)
    (owed_if_there (old_after edits old) ++ owed_by_node (copy_of old address generation tree))
    (children_lose edits old) children

-- ---- the old node

case-leaves : (own full more : Bool) (node : Node)
    → let old : Placed = record { node = node; full = full } in
    let after = old_after (if more then (if own && not full then ShareOld else AddKeyed) else
    (if full then TurnKeyed else TakeOver)) old in
    (is_some after ≡ more) × ((placed : Placed) → after ≡ Some placed → placed ≡ record old { full = full || own })
case-leaves true false true node = (refl, λ placed is. cc)
case-leaves true true true node = (refl, λ placed is. cc)
case-leaves false false true node = (refl, λ placed is. cc)
case-leaves false true true node = (refl, λ placed is. cc)
case-leaves own true false node = (refl, λ placed is. cc)
case-leaves own false false node = (refl, λ placed is. cc)

lt-less : (count : ℕ) → nat_lt 1 count ≡ nat_lt 0 (count - 1)
lt-less count = grind (arith, nat_tests)

pub copy-leaves : CopyLeavesOld
copy-leaves count old tree =
    let left = case-leaves (owner_of old == tree) old.full (nat_lt 1 count) old.node in
    record { stays = left.0 ∙ lt-less count; same = left.1 }
