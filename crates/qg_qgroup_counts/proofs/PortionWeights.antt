-- The bytes of portions, and their sets' numbers.
use Rattle.std.proofs.Common.{◌≡◌, ℕ, suc, ◌+◌, ◌*◌, ◌<◌, true, List, [], ◌∷◌, ◌++◌, length, map, take, get_or, Some}
use Rattle.std.proofs.Common.{refl, sym, ap}
use Rattle.std.proofs.Common.{subst, ◌∙◌, arith, Result, Ok, Err, IfOk}
use Rattle.std.specs.Prelude.{slice_get}
use Rattle.std.specs.List.{All}
use Rattle.std.specs.List.Sorted.{IsStrictlyIncreasing}
use Rattle.std.proofs.lemmas.List.{append_assoc, get_or-map, length-map, map-append, take_more}
use Rattle.std.proofs.lemmas.List.Elements.{All-append}
use Rattle.std.proofs.lemmas.List.Sums.{sum_by-cons}
use Rattle.std.proofs.lemmas.Option.{slice_get-get_or}
use Rattle.qg_image.specs.declared.element.Element.{Element}
use Rattle.qg_image.specs.Counts.{bytes_of}
use Rattle.qg_owner_rule.specs.declared.linked.Linked.{Linked}
use Rattle.qg_qgroup_counts.specs.declared.counting.Portion.{Portion}
use Rattle.qg_qgroup_counts.specs.Groups.{AreWithin}
use Rattle.qg_qgroup_counts.specs.Portions.{bytes_where}
use Rattle.qg_qgroup_counts.proofs.SetWeights.{given_is}
use Rattle.qg_qgroup_counts.specs.declared.surveyed.Surveyed.{Surveyed}
use Rattle.qg_qgroup_counts.specs.Surveyed.{links_in}
use Rattle.qg_qgroup_counts.specs.ExtentBytes.{AreOfNamers, node_portions}
use Rattle.qg_qgroup_counts.proofs.ExtentsInTurn.{there_at}

-- nodes as they are linked ascend as they do
pub links_ascend : (nodes : List Surveyed) → IsStrictlyIncreasing (map (λ node. node.linked.address) nodes)
    → IsStrictlyIncreasing (map (λ link. link.address) (links_in nodes))
links_ascend nodes up = subst IsStrictlyIncreasing (sym (addresses nodes)) up where
  addresses : (list : List Surveyed)
      → map (λ (link : Linked). link.address) (map (λ (node : Surveyed). node.linked) list)
      ≡ map (λ (node : Surveyed). node.linked.address) list
  addresses [] = refl
  addresses (node ∷ list) = ap (λ rest. node.linked.address ∷ rest) (addresses list)

-- indices of nodes are indices of links
pub among : (nodes : List Surveyed) (lists shown : List (List ℕ)) → shown ≡ lists → AreWithin (length nodes) lists
    → AreWithin (length (links_in nodes)) shown
among nodes lists shown same within =
    subst (AreWithin (length (links_in nodes))) (sym same)
    (subst (λ n. AreWithin n lists) (sym (length-map nodes (λ (node : Surveyed). node.linked))) within)

bytes_cons : (portion : Portion) (portions : List Portion)
    → bytes_where (λ set. true) (portion ∷ portions) ≡ portion.bytes + bytes_where (λ set. true) portions
unfolding bytes_where
bytes_cons portion portions = ap (λ n. n + bytes_where (λ set. true) portions) (given_is true portion.bytes refl)

bytes_nil : bytes_where (λ set. true) [] ≡ 0
unfolding bytes_where
bytes_nil = refl

bytes_append : (xs ys : List Portion)
    → bytes_where (λ set. true) (xs ++ ys) ≡ bytes_where (λ set. true) xs + bytes_where (λ set. true) ys
bytes_append [] ys = omega (arith, bytes_nil)
bytes_append (x ∷ xs) ys =
    let first : bytes_where (λ set. true) ((x ∷ xs) ++ ys) ≡ x.bytes + bytes_where (λ set. true) (xs ++ ys) =
    bytes_cons x (xs ++ ys) in
    omega (arith, first, bytes_cons x xs, bytes_append xs ys)

-- of extents, one by one
extents_bytes : (extents : List Element) (portions : List Portion) → length portions ≡ length extents
    → ((place : ℕ) (extent : Element) (portion : Portion) → slice_get extents place ≡ Some extent
    → slice_get portions place ≡ Some portion → portion.bytes ≡ extent.bytes)
    → bytes_where (λ set. true) portions ≡ bytes_of extents
extents_bytes [] [] same each = bytes_nil
extents_bytes [] (portion ∷ portions) same each = absurd (omega (arith, same))
extents_bytes (extent ∷ extents) [] same each = absurd (omega (arith, same))
extents_bytes (extent ∷ extents) (portion ∷ portions) same each =
    let rest = extents_bytes extents portions (omega (arith, same))
    (λ place e p at there. each (suc place) e p at there)
    in
    let here : portion.bytes ≡ extent.bytes = each 0 extent portion refl refl in
    let sum = sum_by-cons (λ (e : Element). e.bytes) extent extents in
    omega (arith, bytes_cons portion portions, rest, here, sum)

-- of nodes
nodes_bytes : (nodesize : ℕ) (sets : List ℕ)
    → bytes_where (λ set. true) (node_portions nodesize sets) ≡ nodesize * length sets
nodes_bytes nodesize [] = omega (arith, bytes_nil)
nodes_bytes nodesize (set ∷ sets) =
    let first : bytes_where (λ set. true) (node_portions nodesize (set ∷ sets))
    ≡ nodesize + bytes_where (λ set. true) (node_portions nodesize sets) =
    bytes_cons (record { bytes = nodesize; set = set }) (node_portions nodesize sets) in
    omega (arith, first, nodes_bytes nodesize sets)

module _ (links : List Linked) (roots : List (ℕ × ℕ)) (rows : List (List ℕ)) (namers : List (List ℕ))
    (extents : List Element) (portions : List Portion) (nodesize : ℕ) (sets : List ℕ)
    (are : AreOfNamers links roots rows namers extents portions) where
  pub all_bytes : bytes_where (λ set. true) (portions ++ node_portions nodesize sets)
      ≡ nodesize * length sets + bytes_of extents
  all_bytes =
      let first =
      extents_bytes extents portions are.same
      (λ place extent portion at there. (are.each place extent portion at there).bytes)
      in
      omega (arith, bytes_append portions (node_portions nodesize sets), first, nodes_bytes nodesize sets)

  pub all_inside : All (λ set. set < length rows) sets
      → All (λ (portion : Portion). portion.set < length rows) (portions ++ node_portions nodesize sets)
  all_inside inside =
      All-append (λ (portion : Portion). portion.set < length rows) portions (node_portions nodesize sets) first second
    where
      first : All (λ (portion : Portion). portion.set < length rows) portions
      first k d short =
          let extent = there_at extents k (omega (arith, short, are.same)) in
          (are.each k extent.0 (get_or portions k d) extent.1 (slice_get-get_or portions k d short)).inside

      told : ℕ → Portion
      told set = record { bytes = nodesize; set = set }

      second : All (λ (portion : Portion). portion.set < length rows) (node_portions nodesize sets)
      second k d short =
          let inner : k < length sets = omega (arith, short, length-map sets told) in
          subst (λ (portion : Portion). portion.set < length rows) (sym (get_or-map told sets k 0 d inner))
          (inside k 0 inner)

-- one node more
pub nodes_more : (nodesize : ℕ) (sets : List ℕ) (i : ℕ) → i < length sets
    → node_portions nodesize (take (i + 1) sets)
    ≡ node_portions nodesize (take i sets) ++ record { bytes = nodesize; set = get_or sets i 0 } ∷ []
nodes_more nodesize sets i short =
    ap (node_portions nodesize) (take_more sets i 0 short)
    ∙ map-append (told) (take i sets) (get_or sets i 0 ∷ []) where
      told : ℕ → Portion
      told set = record { bytes = nodesize; set = set }

pub pushed_more : (nodesize : ℕ) (sets : List ℕ) (i : ℕ) → i < length sets
    → (before now : List Portion) (portion : Portion)
    → now ≡ before ++ node_portions nodesize (take i sets) → portion.bytes ≡ nodesize → portion.set ≡ get_or sets i 0
    → now ++ portion ∷ [] ≡ before ++ node_portions nodesize (take (i + 1) sets)
pushed_more nodesize sets i short before now portion so_far bytes number =
    ap (λ (portions : List Portion). portions ++ portion ∷ []) so_far
    ∙ append_assoc before (node_portions nodesize (take i sets)) (portion ∷ [])
    ∙ ap (λ (p : Portion). before ++ (node_portions nodesize (take i sets) ++ p ∷ []))
    (ap (λ n. made n portion.set) bytes ∙ ap (made nodesize) number)
    ∙ ap (λ (more : List Portion). before ++ more) (sym (nodes_more nodesize sets i short))
  where
    made : ℕ → ℕ → Portion
    made n set = record { bytes = n; set = set }

-- what holds of what came holds in other words
pub came : {A E : Type 0} (P Q : A → Type 0) (result : Result A E) → ((x : A) → P x → Q x) → IfOk result P
    → IfOk result Q
came P Q (Ok x) turn holds = turn x holds
came P Q (Err fault) turn holds = tt
