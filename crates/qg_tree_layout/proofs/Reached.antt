-- Each node of a tree is reached from its root, once.
use Rattle.std.proofs.Common.{◌≡◌, ℕ, zero, suc, List, [], ◌∷◌, ◌++◌, map, refl, sym, ap, ◌∙◌, subst, arith}
use Rattle.std.proofs.Common.{append_assoc}
use Rattle.std.specs.Prelude.{Option, Some, None}
use Rattle.std.specs.Option.{option_and_then}
use Rattle.std.specs.List.{AllByRecursion, flat_map}
use Rattle.std.specs.List.Sorted.{IsPermutation}
use Rattle.std.proofs.lemmas.List.{append-nil}
use Rattle.std.proofs.lemmas.List.Sorted.{IsPermutation-refl, IsPermutation-cons, IsPermutation-trans}
use Rattle.std.proofs.lemmas.List.Sorted.{IsPermutation-append_left, IsPermutation-append_right}
use Rattle.std.proofs.lemmas.List.Sorted.{IsPermutation-append_comm}
use Rattle.qg_node.specs.declared.pointer.Pointer.{Pointer}
use Rattle.qg_node.specs.declared.node.Node.{Node}
use Rattle.qg_node.specs.declared.node.Node.TheVariants.{Leaf, Inner}
use Rattle.qg_node.specs.Nodes.{own_pointers}
use Rattle.qg_image.specs.Below.{leaf_items, inner_pointers, joined, nodes_below}
use Rattle.qg_tree_layout.specs.Build.{Reaches}
use Rattle.qg_image.specs.Among.{node_among}
use Rattle.qg_tree_layout.specs.Row.{pointer_to, address_of, IsRowNode}
use Rattle.qg_tree_layout.proofs.Frame.{AreFound, Keeps, Keeps-append, both, joined-append, joined_kept}

-- the nodes under several pointers of a level
abbrev pub all_nodes : List Node → ℕ → List Pointer → Option (List Node)
all_nodes nodes level pointers = joined (λ pointer. nodes_below (node_among nodes) level pointer.child) pointers

-- they are all of the nodes, each once
pub record AreReached (nodes : List Node) (level : ℕ) (pointers : List Pointer) : Type 0 where
  pub those : List Node
  pub under : all_nodes nodes level pointers ≡ Some those
  pub same : IsPermutation those nodes

-- ---- more nodes

leaf_kept : (found new : Option Node) (own : List Node) → ((node : Node) → found ≡ Some node → new ≡ Some node)
    → option_and_then (λ node. option_and_then (λ items. Some (node ∷ [])) (leaf_items node)) found ≡ Some own
    → option_and_then (λ node. option_and_then (λ items. Some (node ∷ [])) (leaf_items node)) new ≡ Some own
leaf_kept (Some node) new own keeps h = rw (keeps node refl) h
leaf_kept None new own keeps h = absurd cc

below_kept : (node : Node) (old new : Option (List Node)) (own : List Node)
    → ((below : List Node) → old ≡ Some below → new ≡ Some below)
    → option_and_then (λ below. Some (node ∷ below)) old ≡ Some own
    → option_and_then (λ below. Some (node ∷ below)) new ≡ Some own
below_kept node (Some below) new own keeps h = rw (keeps below refl) h
below_kept node None new own keeps h = absurd cc

inner_kept : (f g : Pointer → Option (List Node)) → ((pointer : Pointer) (nodes : List Node) → f pointer ≡ Some nodes
    → g pointer ≡ Some nodes)
    → (found new : Option Node) (own : List Node) → ((node : Node) → found ≡ Some node → new ≡ Some node)
    → option_and_then (λ node. option_and_then (λ below. Some (node ∷ below))
    (option_and_then (joined f) (inner_pointers node))) found ≡ Some own
    → option_and_then (λ node. option_and_then (λ below. Some (node ∷ below))
    (option_and_then (joined g) (inner_pointers node))) new ≡ Some own
inner_kept f g each (Some (Inner header pointers)) new own keeps h =
    rw (keeps (Inner header pointers) refl)
    (below_kept (Inner header pointers) (joined f pointers) (joined g pointers) own (joined_kept f g each pointers)
    h)
inner_kept f g each (Some (Leaf header items)) new own keeps h = absurd cc
inner_kept f g each None new own keeps h = absurd cc

pub nodes_kept : (old new : ℕ → Option Node) → Keeps old new → (level address : ℕ) (nodes : List Node)
    → nodes_below old level address ≡ Some nodes → nodes_below new level address ≡ Some nodes
nodes_kept old new keeps zero address nodes h = leaf_kept (old address) (new address) nodes (keeps.each address) h
nodes_kept old new keeps (suc level) address nodes h =
    inner_kept (λ pointer. nodes_below old level pointer.child) (λ pointer. nodes_below new level pointer.child)
    (λ pointer own. nodes_kept old new keeps level pointer.child own) (old address) (new address) nodes
    (keeps.each address) h

-- ---- leaves

leaves_alone : (nodesize owner generation : ℕ) (all row : List Node)
    → AllByRecursion (IsRowNode nodesize owner generation 0) row → AreFound all row
    → all_nodes all 0 (map pointer_to row) ≡ Some row
leaves_alone nodesize owner generation all [] are found = refl
leaves_alone nodesize owner generation all (Leaf header items ∷ row) are found =
    rw (found.0, leaves_alone nodesize owner generation all row are.1 found.1) refl
leaves_alone nodesize owner generation all (Inner header pointers ∷ row) are found =
    absurd (omega (arith, are.0.levelled.0, are.0.stands))

pub leaves_reached : (nodesize owner generation : ℕ) (row : List Node)
    → AllByRecursion (IsRowNode nodesize owner generation 0) row → AreFound row row
    → AreReached row 0 (map pointer_to row)
leaves_reached nodesize owner generation row are found =
    record {
      those = row;
      under = leaves_alone nodesize owner generation row row are found;
      same = IsPermutation-refl row;
    }

-- ---- one more level

-- what is under a row: its nodes, and what is under their pointers
record RowReaches (all row : List Node) (level : ℕ) (below : List Node) : Type 0 where
  those : List Node
  under : all_nodes all (suc level) (map pointer_to row) ≡ Some those
  same : IsPermutation those (row ++ below)

between : (own later row below : List Node) → IsPermutation later (row ++ below)
    → IsPermutation (own ++ later) (row ++ (own ++ below))
between own later row below same =
    let first : IsPermutation (own ++ later) (own ++ (row ++ below)) =
    IsPermutation-append_right own later (row ++ below) same in
    let left : own ++ (row ++ below) ≡ (own ++ row) ++ below = sym (append_assoc own row below) in
    let swapped : IsPermutation ((own ++ row) ++ below) ((row ++ own) ++ below) =
    IsPermutation-append_left below (own ++ row) (row ++ own) (IsPermutation-append_comm own row) in
    let right : (row ++ own) ++ below ≡ row ++ (own ++ below) = append_assoc row own below in
    subst (λ (to : List Node). IsPermutation (own ++ later) to) right
    (IsPermutation-trans (own ++ later) ((own ++ row) ++ below) ((row ++ own) ++ below)
    (subst (λ (to : List Node). IsPermutation (own ++ later) to) left first) swapped)

one_reaches : (all row : List Node) (level : ℕ) (node : Node) (own rest below : List Node)
    → nodes_below (node_among all) (suc level) (address_of node) ≡ Some (node ∷ own) → own ++ rest ≡ below
    → RowReaches all row level rest
    → RowReaches all (node ∷ row) level below
one_reaches all row level node own rest below here parted later = record {
  those = node ∷ (own ++ later.those);
  under = rw (here, later.under) refl;
  same = subst (λ (all : List Node). IsPermutation (node ∷ (own ++ later.those)) (node ∷ (row ++ all))) parted
      (IsPermutation-cons node (own ++ later.those) (row ++ (own ++ rest))
      (between own later.those row rest later.same));
}

inner_nodes : (all : List Node) (level : ℕ) (node : Node) (pointers : List Pointer) (own : List Node)
    → inner_pointers node ≡ Some pointers → node_among all (address_of node) ≡ Some node
    → all_nodes all level pointers ≡ Some own
    → nodes_below (node_among all) (suc level) (address_of node) ≡ Some (node ∷ own)
inner_nodes all level node pointers own holds found under = rw (found, holds, under) refl

row_reaches : (nodesize owner generation level : ℕ) (all row : List Node) (below : List Node)
    → AllByRecursion (IsRowNode nodesize owner generation (suc level)) row → AreFound all row
    → all_nodes all level (flat_map own_pointers row) ≡ Some below → RowReaches all row level below
row_reaches nodesize owner generation level all [] below are found h = let none : [] ≡ below = cc in
    record { those = []; under = refl; same = rw (← none) (IsPermutation-refl []) }
row_reaches nodesize owner generation level all (Leaf header items ∷ row) below are found h =
    absurd (omega (arith, are.0.levelled, are.0.stands))
row_reaches nodesize owner generation level all (Inner header pointers ∷ row) below are found h =
    let under : Pointer → Option (List Node) = λ pointer. nodes_below (node_among all) level pointer.child in
    let parts = both (joined under pointers) (joined under (flat_map own_pointers row)) below
    (sym (joined-append under pointers (flat_map own_pointers row)) ∙ h) in
    one_reaches all row level (Inner header pointers) parts.0 parts.1 below
    (inner_nodes all level (Inner header pointers) pointers parts.0 refl found.0 parts.2) parts.4
    (row_reaches nodesize owner generation level all row parts.1 are.1 found.1 parts.3)

pub inners_reached : (nodesize owner generation level : ℕ) (nodes row : List Node) (pointers : List Pointer)
    → AllByRecursion (IsRowNode nodesize owner generation (suc level)) row → AreFound (nodes ++ row) row
    → flat_map own_pointers row ≡ pointers → AreReached nodes level pointers
    → AreReached (nodes ++ row) (suc level) (map pointer_to row)
inners_reached nodesize owner generation level nodes row pointers are found whole reached =
    let kept : all_nodes (nodes ++ row) level pointers ≡ Some reached.those =
    joined_kept (λ pointer. nodes_below (node_among nodes) level pointer.child)
    (λ pointer. nodes_below (node_among (nodes ++ row)) level pointer.child)
    (λ pointer own. nodes_kept (node_among nodes) (node_among (nodes ++ row)) (Keeps-append nodes row) level
    pointer.child own) pointers reached.those reached.under in
    let now = row_reaches nodesize owner generation level (nodes ++ row) row reached.those are found
    (ap (all_nodes (nodes ++ row) level) whole ∙ kept) in
    let first : IsPermutation (row ++ reached.those) (row ++ nodes) =
    IsPermutation-append_right row reached.those nodes reached.same in
    record {
      those = now.those;
      under = now.under;
      same = IsPermutation-trans now.those (row ++ reached.those) (nodes ++ row) now.same
          (IsPermutation-trans (row ++ reached.those) (row ++ nodes) (nodes ++ row) first
          (IsPermutation-append_comm row nodes));
    }

-- ---- a root

pub only_reached : (nodes : List Node) (level : ℕ) (root : Pointer) → AreReached nodes level (root ∷ [])
    → Reaches nodes level root.child
only_reached nodes level root reached =
    let parts = both (nodes_below (node_among nodes) level root.child) (Some []) reached.those reached.under in
    let none : [] ≡ parts.1 = cc in
    let all : parts.0 ≡ reached.those = sym (append-nil parts.0) ∙ ap (λ (rest : List Node). parts.0 ++ rest) none
    ∙ parts.4 in
    record { those = parts.0; under = parts.2; same = rw all reached.same }
