-- What was gathered of nodes, by address.
use Rattle.std.proofs.Common.{◌≡◌, ℕ, suc, ◌+◌, ◌-◌, ◌<◌, ◌≤◌, true, List, [], ◌∷◌, map, length, get_or, eqb, refl, sym}
use Rattle.std.proofs.Common.{ap, subst, ◌∙◌, arith}
use Rattle.std.specs.List.{AllAdjacentBelow, Contains, IsDistinct}
use Rattle.std.specs.List.Sorted.{IsNonDecreasing, IsNonDecreasingBy, IsPermutation, IsStrictlyIncreasing}
use Rattle.std.specs.Ordering.{is_le, nat_cmp}
use Rattle.std.proofs.lemmas.Bool.Decides.{nat_tests}
use Rattle.std.proofs.lemmas.List.{get_or-map, length-map}
use Rattle.std.proofs.lemmas.List.Kept.{AllPairs-from_increasing}
use Rattle.std.proofs.lemmas.List.Sorted.{IsPermutation-map}
use Rattle.std.proofs.lemmas.Map.Keys.{IsDistinct-IsPermutation, IsStrictlyIncreasing-from_distinct}
use Rattle.qg_node.specs.declared.node.Node.{Node}
use Rattle.qg_image.proofs.Contained.{contains_here, contains_later}
use Rattle.qg_reach.specs.Sets.{HaveSame}
use Rattle.qg_reach.proofs.Layouts.{AgreeByAddress}
use Rattle.qg_reach.proofs.Members.{contains_map, one_mapped, same_moved, same_back}
use Rattle.qg_reach.proofs.Reached.{address_of}
use Rattle.qg_backref_rule.proofs.NumberSets.{Ascends, same_ascending}
use Rattle.qg_shared_walk.specs.declared.nodes.NodeRead.{NodeRead}
use Rattle.qg_qgroup_counts.specs.declared.surveyed.Surveyed.{Surveyed}
use Rattle.qg_qgroup_counts.specs.Surveyed.{links_in}
use Rattle.qg_shared_walk.specs.Marked.{surveyed_where}
use Rattle.qg_shared_walk.specs.NodeFacts.{NodeTold, told_by, told_of}

-- ---- numbers that ascend

pub ascends_of : (xs : List ℕ) → IsStrictlyIncreasing xs → Ascends xs
ascends_of [] up = tt
ascends_of (x ∷ xs) up = (first, ascends_of xs rest) where
  first : (y : ℕ) → Contains xs y → x < y
  first y has =
      let less = AllPairs-from_increasing (x ∷ xs) up 0 (suc has.0) y (omega arith) (omega (arith, has.1)) in
      subst (λ n. x < n) has.2 less

  rest : IsStrictlyIncreasing xs
  rest k short =
      let next : suc k + 1 ≡ suc (k + 1) = omega arith in
      subst (λ j. get_or xs k 0 < get_or (x ∷ xs) j 0) next (up (suc k) (omega arith))

-- the numbers of a list of which each is less than the next
pub numbers_rise : {X : Type 0} (number : X → ℕ) (xs : List X)
    → AllAdjacentBelow (λ x y. number x < number y) xs (length xs) → IsStrictlyIncreasing (map number xs)
numbers_rise number [] rise = λ k short. absurd (omega (arith, short))
numbers_rise number (x ∷ xs) rise = λ k short.
    let all = x ∷ xs in
    let inside : k + 1 < length all = omega (arith, short, length-map all number) in
    let here = get_or-map number all k x 0 (omega (arith, inside)) in
    let there = get_or-map number all (k + 1) x 0 inside in
    omega (arith, here, there, rise k x inside)

no_more : (a b : ℕ) → is_le (nat_cmp a b) ≡ true → a ≤ b
no_more a b h = grind (arith, nat_tests)

-- numbers do not rise where one is no more than the one before it
pub not_rising : {X : Type 0} (number : X → ℕ) (xs : List X) (i : ℕ) (x y : X) → 1 ≤ i → i < length xs
    → is_le (nat_cmp (number (get_or xs i x)) (number (get_or xs (i - 1) y))) ≡ true
    → IsStrictlyIncreasing (map number xs) → ⊥
not_rising number xs i x y behind short le up =
    let here = get_or-map number xs i x 0 short in
    let before = get_or-map number xs (i - 1) y 0 (omega arith) in
    let next : (i - 1) + 1 ≡ i = omega arith in
    let less = subst (λ k. get_or (map number xs) (i - 1) 0 < get_or (map number xs) k 0) next
    (up (i - 1) (omega (arith, length-map xs number))) in
    omega (arith, here, before, less, no_more (number (get_or xs i x)) (number (get_or xs (i - 1) y)) le)

-- ---- nodes

abbrev pub number_told : NodeTold → ℕ
number_told told = told.linked.address

abbrev pub number_read : NodeRead → ℕ
number_read read = read.linked.address

-- numbers that do not fall
rising_numbers : {X : Type 0} (number : X → ℕ) (xs : List X) → IsNonDecreasingBy number xs
    → IsNonDecreasing (map number xs)
rising_numbers number [] up = λ i j d le short. absurd (omega arith)
rising_numbers number (x ∷ xs) up = λ i j d le short.
    let long = length-map (x ∷ xs) number in
    let inside : j < length (x ∷ xs) = omega (arith, long) in
    let here = get_or-map number (x ∷ xs) i x d (omega arith) in
    let there = get_or-map number (x ∷ xs) j x d inside in
    let rise = up i j x le inside in
    omega (arith, here, there, rise)

-- those that lie where these nodes lie, each of which is told by one that lies there
one_by_one : (told : List NodeTold) (nodes : List Node) → map number_told told ≡ map address_of nodes
    → ((t : NodeTold) (node : Node) → Contains told t → Contains nodes node → number_told t ≡ address_of node
    → t ≡ told_of node)
    → told ≡ map told_of nodes
one_by_one [] [] same each = refl
one_by_one [] (node ∷ nodes) same each = absurd cc
one_by_one (t ∷ told) [] same each = absurd cc
one_by_one (t ∷ told) (node ∷ nodes) same each =
    let here : number_told t ≡ address_of node = cc in
    let behind : map number_told told ≡ map address_of nodes = cc in
    let first = each t node (contains_here t told) (contains_here node nodes) here in
    let rest = one_by_one told nodes behind (λ u n has has'. each u n (contains_later t told u has)
    (contains_later node nodes n has')) in
    cc

-- both ascend, and the same nodes are told
pub told_sorted : (told : List NodeTold) (nodes sorted : List Node) → AgreeByAddress nodes
    → HaveSame told (map told_of nodes) → HaveSame sorted nodes
    → Ascends (map number_told told) → Ascends (map address_of sorted) → told ≡ map told_of sorted
told_sorted told nodes sorted alike same lies up up' =
    one_by_one told sorted (same_ascending (map number_told told) (map address_of sorted) up up'
    (record { into = into; back = back })) each
  where
    into : (a : ℕ) → Contains (map number_told told) a → Contains (map address_of sorted) a
    into a has =
        let t = one_mapped number_told told a has in
        let node = one_mapped told_of nodes t.0 (same.into t.0 t.1) in
        let is : address_of node.0 ≡ a = ap number_told node.2 ∙ t.2 in
        subst (Contains (map address_of sorted)) is (contains_map address_of sorted node.0 (lies.back node.0 node.1))

    back : (a : ℕ) → Contains (map address_of sorted) a → Contains (map number_told told) a
    back a has =
        let node = one_mapped address_of sorted a has in
        let t = same.back (told_of node.0) (contains_map told_of nodes node.0 (lies.into node.0 node.1)) in
        subst (Contains (map number_told told)) node.2 (contains_map number_told told (told_of node.0) t)

    each : (t : NodeTold) (node : Node) → Contains told t → Contains sorted node → number_told t ≡ address_of node
        → t ≡ told_of node
    each t node has has' is =
        let own = one_mapped told_of nodes t (same.into t has) in
        let one = alike.agree own.0 node own.1 (lies.into node has') (ap number_told own.2 ∙ is) in
        sym own.2 ∙ ap told_of one

-- ---- what was read

pub numbers_told : (reads : List NodeRead) → map number_told (map told_by reads) ≡ map number_read reads
numbers_told [] = refl
numbers_told (read ∷ reads) = ap (λ ns. read.linked.address ∷ ns) (numbers_told reads)

numbers_of : (nodes : List Node) → map number_told (map told_of nodes) ≡ map address_of nodes
numbers_of [] = refl
numbers_of (node ∷ nodes) = ap (λ ns. address_of node ∷ ns) (numbers_of nodes)

-- they lie where the nodes do of which they are told
pub lie_as_told : (reads : List NodeRead) (nodes : List Node) → map told_by reads ≡ map told_of nodes
    → map number_read reads ≡ map address_of nodes
lie_as_told reads nodes told = sym (numbers_told reads) ∙ ap (map number_told) told ∙ numbers_of nodes

module _ (reads sorted : List NodeRead) (nodes : List Node) (told : map told_by reads ≡ map told_of nodes)
    (moved : IsPermutation reads sorted) where
  pub sorted_same : HaveSame (map told_by sorted) (map told_of nodes)
  sorted_same =
      same_back (map told_of nodes) (map told_by sorted)
      (subst (λ list. HaveSame list (map told_by sorted)) told
      (same_moved (map told_by reads) (map told_by sorted) (IsPermutation-map told_by reads sorted moved)))

  numbers_moved : IsPermutation (map address_of nodes) (map number_read sorted)
  numbers_moved =
      subst (λ list. IsPermutation list (map number_read sorted)) (lie_as_told reads nodes told)
      (IsPermutation-map number_read reads sorted moved)

  -- those that were put in order rise, where no two lie at one address
  pub sorted_rise : IsDistinct eqb (map address_of nodes) → IsNonDecreasingBy (λ read. read.linked.address) sorted
      → IsStrictlyIncreasing (map (λ read. read.linked.address) sorted)
  sorted_rise distinct up =
      IsStrictlyIncreasing-from_distinct (map number_read sorted) (rising_numbers number_read sorted up)
      (IsDistinct-IsPermutation eqb (λ a b. grind (arith, nat_tests)) (map address_of nodes) (map number_read sorted)
      numbers_moved distinct)

-- links lie where what is surveyed lies
pub lie_linked : (those : List Surveyed) → map (λ link. link.address) (links_in those)
    ≡ map (λ node. node.linked.address) those
lie_linked [] = refl
lie_linked (node ∷ those) = ap (λ rest. node.linked.address ∷ rest) (lie_linked those)

-- what is surveyed lies where the nodes lie that were read
pub lie_surveyed : (full : List ℕ) (reads : List NodeRead)
    → map (λ node. node.linked.address) (map (surveyed_where full) (map told_by reads)) ≡ map number_read reads
lie_surveyed full [] = refl
lie_surveyed full (read ∷ reads) = ap (λ rest. read.linked.address ∷ rest) (lie_surveyed full reads)

pub surveyed_rise : (full : List ℕ) (reads : List NodeRead) (those : List Surveyed)
    → those ≡ map (surveyed_where full) (map told_by reads)
    → IsStrictlyIncreasing (map (λ read. read.linked.address) reads)
    → IsStrictlyIncreasing (map (λ node. node.linked.address) those)
surveyed_rise full reads those are up =
    subst IsStrictlyIncreasing
    (sym (ap (map (λ (node : Surveyed). node.linked.address)) are ∙ lie_surveyed full reads)) up

pub surveyed_same : (full : List ℕ) (reads sorted : List NodeRead) (those : List Surveyed)
    → those ≡ map (surveyed_where full) (map told_by sorted) → IsPermutation reads sorted
    → HaveSame (map (λ node. node.linked.address) those) (map (λ read. read.linked.address) reads)
surveyed_same full reads sorted those are moved =
    subst (λ numbers. HaveSame numbers (map number_read reads))
    (sym (ap (map (λ (node : Surveyed). node.linked.address)) are ∙ lie_surveyed full sorted))
    (same_back (map number_read reads) (map number_read sorted)
    (same_moved (map number_read reads) (map number_read sorted) (IsPermutation-map number_read reads sorted moved)))
