-- The layout while a subvolume's tree is dropped: its nodes, who owes what in it, where a node has a reference left.
use Rattle.std.proofs.Common.{◌≡◌, ℕ, ◌<◌, Bool, true, false, List, [], ◌∷◌, length, map, Option, Some, None, refl, sym}
use Rattle.std.proofs.Common.{ap, subst, ◌∙◌, ◌⊎◌, inl, inr}
use Rattle.std.specs.Prelude.{◌||◌, ◌==◌, not, if◌then◌else◌}
use Rattle.std.specs.List.{AllByRecursion, Contains, filter}
use Rattle.std.specs.List.Sorted.{IsStrictlyIncreasing}
use Rattle.std.specs.Option.{option_map}
use Rattle.std.proofs.lemmas.Bool.{cases_Bool, cond-false, cond-true, eqb-true, or_cases, or_right}
use Rattle.std.proofs.lemmas.Option.{same_Some}
use Rattle.qg_device.specs.History.{History}
use Rattle.qg_node.specs.declared.node.Node.{Node}
use Rattle.qg_node.specs.Nodes.{header_of}
use Rattle.qg_image.specs.Table.{keys_of, value_at, without_key}
use Rattle.qg_image.specs.declared.element.Element.{Element}
use Rattle.qg_image.specs.Reach.{extent_of, is_among, is_reached, pieces_of}
use Rattle.qg_image.specs.State.{Layout, Placed, State, Subvolume, layout_of, node_at}
use Rattle.qg_machine.specs.Layout.{IsReached, IsTreeOf, is_full_after}
use Rattle.qg_machine.specs.Step.{without_subvolume}
use Rattle.qg_files.proofs.Ascending.{Ascends-increasing, ascends-filter, increasing-Ascends}
use Rattle.qg_node_alloc.specs.declared.ground.Ground.{Ground}
use Rattle.qg_owner_rule.proofs.Reaching.{entry_of_value, value_of_entry}
use Rattle.qg_space.proofs.Members.{one_passes}
use Rattle.qg_backref_rule.proofs.Filters.{contains_kept, kept_contains}
use Rattle.qg_reach.proofs.Members.{contains_map, one_mapped}
use Rattle.qg_refs.specs.declared.kept.Kept.{Kept}
use Rattle.qg_refs.specs.declared.kept.What.{What}
use Rattle.qg_refs.specs.Book.{Book, IsBook, references_in, what_in}
use Rattle.qg_extents.specs.Table.{book_of}
use Rattle.qg_tree_backrefs.specs.declared.tree_refs.TreeRefs.{TreeRefs}
use Rattle.qg_tree_backrefs.specs.Following.{references_to}
use Rattle.qg_shared_trees.proofs.Changed.{value-each, value-kept}
use Rattle.qg_shared_trees.proofs.Meeting.{IsMet, each-there, is-reached-met, met-back, met-child, met-reached-itself}
use Rattle.qg_shared_trees.proofs.Meeting.{met-there, placed-there, root-met}
use Rattle.qg_shared_trees.proofs.Referring.{OwesChild, OwesRoot, OwesRun, child-counted, children_of, extents-named}
use Rattle.qg_shared_trees.proofs.Referring.{named_by, owed-referred, referred-owed, root-counted}
use Rattle.qg_shared_trees.proofs.Snapshotted.{root_entry}
use Rattle.qg_subvolumes.specs.Dropping.{HoldsPartly, IsUnder, layout_partly, nodes_partly, placed_partly}

-- ---- lists

pub all_kept : {A : Type 0} (P : A → Type 0) (keeps : A → Bool) (xs : List A) → AllByRecursion P xs
    → AllByRecursion P (filter keeps xs)
all_kept {A} P keeps [] all = all
all_kept {A} P keeps (x ∷ xs) all = elim (cases_Bool (keeps x)) [
  | inl passes ↦ subst (λ (ys : List A). AllByRecursion P ys)
      (sym (cond-true (keeps x) (x ∷ filter keeps xs) (filter keeps xs) passes)) (all.0, all_kept P keeps xs all.1)
  | inr fails ↦ subst (λ (ys : List A). AllByRecursion P ys)
      (sym (cond-false (keeps x) (x ∷ filter keeps xs) (filter keeps xs) fails)) (all_kept P keeps xs all.1)
]

known_kept : (kept : Option Kept) (what : What) → ((some : Kept) → kept ≡ Some some → 0 < length some.references)
    → what_in kept ≡ Some what → 0 < length (references_in kept)
known_kept None what some known = let wrong : ◌≡◌ {A = Option What} None (Some what) = known in absurd cc
known_kept (Some kept) what some known = some kept refl

-- the level that is known, and the bytes
abbrev pub level_in : Option What → Option ℕ
level_in None = None
level_in (Some what) = what.level

abbrev pub bytes_in : Option What → ℕ
bytes_in None = 0
bytes_in (Some what) = what.bytes

-- what is known has a reference
pub known-referred : (book : Book) → IsBook book → (at : ℕ) (what : What) → what_in (book at) ≡ Some what
    → 0 < references_to book at
known-referred book is at what known = known_kept (book at) what (is.some at) known

some_named : (xs : List Element) (at : ℕ) → is_among at xs ≡ true
    → (run : Element) × Contains xs run × (run.address ≡ at)
some_named xs at is =
    let found = one_passes (λ (e : Element). e.address == at) xs is in
    (found.0, found.1, eqb-true found.0.address at found.2)

node_of : (table : List (ℕ × Placed)) (q : ℕ) (placed : Placed) → value_at q table ≡ Some placed
    → node_at table q ≡ Some placed.node
node_of table q placed there = ap (λ (o : Option Placed). option_map (λ (p : Placed). p.node) o) there

-- ---- the nodes of the layout meanwhile

module _ (state : State) (sub : ℕ) (waiting : ℕ → Bool) where
  abbrev after : State
  after = without_subvolume state sub

  -- who stays
  abbrev others : List (ℕ × Subvolume)
  others = without_key sub state.subvolumes

  abbrev pub keeps : ℕ → Bool
  keeps q = waiting q || is_reached (layout_of after) q

  abbrev pub now : ℕ × Placed → Placed
  now entry = (placed_partly after waiting entry).1

  same_number : (entry : ℕ × Placed) → placed_partly after waiting entry ≡ (entry.0, now entry)
  same_number entry = from (waiting entry.0) refl where
    from : (b : Bool) → waiting entry.0 ≡ b → placed_partly after waiting entry ≡ (entry.0, now entry)
    from true is =
        let own = cond-true (waiting entry.0) entry
        (entry.0, record entry.1 { full = is_full_after after entry.1 entry.0 }) is in
        λ i. ((ap (λ (e : ℕ × Placed). e.0) own) i, now entry)
    from false is =
        let own = cond-false (waiting entry.0) entry
        (entry.0, record entry.1 { full = is_full_after after entry.1 entry.0 }) is in
        λ i. ((ap (λ (e : ℕ × Placed). e.0) own) i, now entry)

  pub now-waiting : (entry : ℕ × Placed) → waiting entry.0 ≡ true → now entry ≡ entry.1
  now-waiting entry is =
      ap (λ (e : ℕ × Placed). e.1) (cond-true (waiting entry.0) entry
      (entry.0, record entry.1 { full = is_full_after after entry.1 entry.0 }) is)

  pub now-dropped : (entry : ℕ × Placed) → waiting entry.0 ≡ false
      → now entry ≡ record entry.1 { full = is_full_after after entry.1 entry.0 }
  now-dropped entry is =
      ap (λ (e : ℕ × Placed). e.1) (cond-false (waiting entry.0) entry
      (entry.0, record entry.1 { full = is_full_after after entry.1 entry.0 }) is)

  pub now-node : (entry : ℕ × Placed) → (now entry).node ≡ entry.1.node
  now-node entry = elim (cases_Bool (waiting entry.0)) [
    | inl is ↦ ap (λ (p : Placed). p.node) (now-waiting entry is)
    | inr is ↦ ap (λ (p : Placed). p.node) (now-dropped entry is)
  ]

  partly_is : nodes_partly state sub waiting
      ≡ map (λ (entry : ℕ × Placed). (entry.0, now entry)) (filter (λ (entry : ℕ × Placed). keeps entry.0) state.layout)
  partly_is = λ i. map (λ (entry : ℕ × Placed). same_number entry i)
      (filter (λ (entry : ℕ × Placed). keeps entry.0) state.layout)

  pub value-partly : (q : ℕ) → value_at q (nodes_partly state sub waiting)
      ≡ option_map (λ (placed : Placed). now (q, placed)) (if keeps q then value_at q state.layout else None)
  value-partly q =
      ap (value_at q) partly_is
      ∙ value-each now q (filter (λ (entry : ℕ × Placed). keeps entry.0) state.layout)
      ∙ ap (λ (o : Option Placed). option_map (λ (placed : Placed). now (q, placed)) o)
      (value-kept keeps q state.layout)

  -- a node that stays meanwhile is there
  pub kept-value : (q : ℕ) (placed : Placed) → value_at q state.layout ≡ Some placed → keeps q ≡ true
      → value_at q (nodes_partly state sub waiting) ≡ Some (now (q, placed))
  kept-value q placed there stays =
      value-partly q
      ∙ ap (λ (o : Option Placed). option_map (λ (p : Placed). now (q, p)) o)
      (cond-true (keeps q) (value_at q state.layout) None stays ∙ there)

  -- and what is there is one that stays
  pub record IsKept (q : ℕ) (node : Node) : Type 0 where
    pub placed : Placed
    pub there : value_at q state.layout ≡ Some placed
    pub stays : keeps q ≡ true
    pub same : node ≡ placed.node

  pub entry-kept : IsStrictlyIncreasing (keys_of state.layout) → (entry : ℕ × Placed)
      → Contains (nodes_partly state sub waiting) entry → IsKept entry.0 entry.1.node
  entry-kept up entry has =
      let one = one_mapped (placed_partly after waiting)
      (filter (λ (e : ℕ × Placed). keeps e.0) state.layout) entry has in
      let was = kept_contains (λ (e : ℕ × Placed). keeps e.0) state.layout one.0 one.1 in
      let image = sym (same_number one.0) ∙ one.2 in
      let number = ap (λ (e : ℕ × Placed). e.0) image in
      record {
        placed = one.0.1;
        there = subst (λ (q : ℕ). value_at q state.layout ≡ Some one.0.1) number
            (value_of_entry state.layout one.0 up was.0);
        stays = subst (λ (q : ℕ). keeps q ≡ true) number was.1;
        same = sym (ap (λ (e : ℕ × Placed). e.1.node) image) ∙ now-node one.0;
      }

  -- and its mark
  pub entry-now : IsStrictlyIncreasing (keys_of state.layout) → (entry : ℕ × Placed)
      → Contains (nodes_partly state sub waiting) entry
      → (placed : Placed) × (value_at entry.0 state.layout ≡ Some placed) × (entry.1 ≡ now (entry.0, placed))
  entry-now up entry has =
      let one = one_mapped (placed_partly after waiting)
      (filter (λ (e : ℕ × Placed). keeps e.0) state.layout) entry has in
      let was = kept_contains (λ (e : ℕ × Placed). keeps e.0) state.layout one.0 one.1 in
      let image = sym (same_number one.0) ∙ one.2 in
      let number = ap (λ (e : ℕ × Placed). e.0) image in (
        one.0.1,
        subst (λ (q : ℕ). value_at q state.layout ≡ Some one.0.1) number (value_of_entry state.layout one.0 up was.0),
        sym (ap (λ (e : ℕ × Placed). e.1) image) ∙ ap (λ (q : ℕ). now (q, one.0.1)) number,
      )

  pub kept-entry : (q : ℕ) (placed : Placed) → value_at q state.layout ≡ Some placed → keeps q ≡ true
      → Contains (nodes_partly state sub waiting) (q, now (q, placed))
  kept-entry q placed there stays =
      subst (λ (e : ℕ × Placed). Contains (nodes_partly state sub waiting) e) (same_number (q, placed))
      (contains_map (placed_partly after waiting) (filter (λ (e : ℕ × Placed). keeps e.0) state.layout) (q, placed)
      (contains_kept (λ (e : ℕ × Placed). keeps e.0) state.layout (q, placed)
      (entry_of_value q placed state.layout there) stays))

  pub some-kept : (q : ℕ) (o : Option Placed) → value_at q state.layout ≡ o → (value : Placed)
      → value_at q (nodes_partly state sub waiting) ≡ Some value
      → (placed : Placed) × (value_at q state.layout ≡ Some placed) × (keeps q ≡ true) × (now (q, placed) ≡ value)
  some-kept q o is value there = elim (cases_Bool (keeps q)) [
    | inl stays ↦ from o is stays
    | inr goes ↦
        let none : value_at q (nodes_partly state sub waiting) ≡ None =
        value-partly q ∙ ap (λ (p : Option Placed). option_map (λ (placed : Placed). now (q, placed)) p)
        (cond-false (keeps q) (value_at q state.layout) None goes) in
        let wrong : ◌≡◌ {A = Option Placed} None (Some value) = sym none ∙ there in absurd cc
  ]
    where
      from : (o : Option Placed) → value_at q state.layout ≡ o → keeps q ≡ true
          → (placed : Placed) × (value_at q state.layout ≡ Some placed) × (keeps q ≡ true) × (now (q, placed) ≡ value)
      from None is stays =
          let none : value_at q (nodes_partly state sub waiting) ≡ None =
          value-partly q ∙ ap (λ (p : Option Placed). option_map (λ (placed : Placed). now (q, placed)) p)
          (cond-true (keeps q) (value_at q state.layout) None stays ∙ is) in
          let wrong : ◌≡◌ {A = Option Placed} None (Some value) = sym none ∙ there in absurd cc
      from (Some placed) is stays =
          (placed, is, stays, same_Some (now (q, placed)) value (sym (kept-value q placed is stays) ∙ there))

-- ---- where a state is held partly

module _ (land : Ground) (history : History) (book : TreeRefs) (state : State) (sub : ℕ)
    (waiting : ℕ → Bool) (holds : HoldsPartly land history book state sub waiting)
    (is : IsBook (book_of book.refs)) where
  abbrev rest : List (ℕ × Subvolume)
  rest = without_key sub state.subvolumes

  abbrev meanwhile : Layout
  meanwhile = layout_partly state sub waiting

  abbrev stays_at : ℕ → Bool
  stays_at = keeps state sub waiting

  pub trees : AllByRecursion (λ entry. IsTreeOf state entry.1) rest
  trees = all_kept (λ (entry : ℕ × Subvolume). IsTreeOf state entry.1)
      (λ (entry : ℕ × Subvolume). not (entry.0 == sub)) state.subvolumes holds.whole.trees

  numbers : IsStrictlyIncreasing (keys_of rest)
  numbers =
      increasing-Ascends 0 rest (ascends-filter 0 (λ (entry : ℕ × Subvolume). not (entry.0 == sub)) state.subvolumes
      (Ascends-increasing state.subvolumes holds.numbers))

  -- a node that stays lies under its address
  pub its-address : (q : ℕ) (placed : Placed) → value_at q state.layout ≡ Some placed
      → (header_of placed.node).address ≡ q
  its-address q placed there =
      (each-there (IsReached state) q placed state.layout holds.whole.reached there).placed

  -- a node that stays is no extent that another names
  pub node-apart : (q : ℕ) (placed : Placed) → value_at q state.layout ≡ Some placed → stays_at q ≡ true
      → OwesRun meanwhile q → ⊥
  node-apart q placed there stays run =
      let named = extents-named meanwhile run.entry run.run run.has run.names in
      let known = holds.extents run.run named in
      let here = ap (λ (a : ℕ). what_in (book_of book.refs a)) (sym run.here) ∙ known.known in
      let some = known-referred (book_of book.refs) is q
      (record { bytes = run.run.bytes; level = None; generation = known.generation }) here in
      let part = holds.nodes q (now state sub waiting (q, placed))
      (kept-value state sub waiting q placed there stays) in
      let node = ap level_in (sym here ∙ part.known some) in
      let wrong : ◌≡◌ {A = Option ℕ} None (Some (header_of (now state sub waiting (q, placed)).node).level) = node in
      cc

  -- what another subvolume reaches stays
  pub met-stays : (q : ℕ) → IsMet state rest q → stays_at q ≡ true
  met-stays q met =
      or_right (waiting q) (is_reached (layout_of (without_subvolume state sub)) q)
      (met-reached-itself state holds.whole rest trees q met)

  pub met-value : (q : ℕ) → IsMet state rest q
      → (placed : Placed) × (value_at q state.layout ≡ Some placed)
  met-value q met =
      let node = met-there state holds.whole rest trees q met in
      let placed = placed-there state.layout q (value_at q state.layout) refl node.0 node.1 in
      (placed.0, placed.1)

  -- where another subvolume reaches a node that stays, pointers lead there
  pub reached-node : (q : ℕ) (placed : Placed) → value_at q state.layout ≡ Some placed
      → is_reached (layout_of (without_subvolume state sub)) q ≡ true → IsMet state rest q
  reached-node q placed there reached =
      let by = is-reached-met state holds.whole rest trees q reached in
      elim (or_cases (by.from == q) (is_among q (map extent_of (pieces_of by.node))) by.own) [
        | inl same ↦ subst (λ (a : ℕ). IsMet state rest a) (eqb-true by.from q same) by.met
        | inr named ↦
            let run = some_named (map extent_of (pieces_of by.node)) q named in
            let at = placed-there state.layout by.from (value_at by.from state.layout) refl by.node by.there in
            let stays = or_right (waiting q) (is_reached (layout_of (without_subvolume state sub)) q) reached in
            let node = now-node state sub waiting (by.from, at.0) ∙ at.2 in
            absurd (node-apart q placed there stays (record {
              entry = (by.from, now state sub waiting (by.from, at.0));
              has = kept-entry state sub waiting by.from at.0 at.1 (met-stays by.from by.met);
              run = run.0;
              names = subst (λ (n : Node). Contains (named_by n) run.0) (sym node) run.1;
              here = run.2;
            }))
      ]

  -- a root of another is reached, and what an open node or a reached one leads to stays
  pub root-stays : (q : ℕ) → OwesRoot meanwhile q → IsMet state rest q
  root-stays q root =
      let one = one_mapped root_entry rest root.entry root.has in
      root-met state holds.whole rest trees q (record {
        number = one.0.0;
        subvolume = one.0.1;
        there = value_of_entry rest one.0 numbers one.1;
        here = ap (λ (e : ℕ × ℕ). e.1) one.2 ∙ root.here;
      })

  module _ (child : ℕ) (owes : OwesChild meanwhile child) where
    pub from_kept : IsKept state sub waiting owes.entry.0 owes.entry.1.node
    from_kept = entry-kept state sub waiting holds.whole.ascending owes.entry owes.has

    abbrev from_node : Node
    from_node = owes.entry.1.node

    leads_on : Contains (children_of from_kept.placed.node) child
    leads_on = subst (λ (n : Node). Contains (children_of n) child) from_kept.same owes.leads

    node_there : node_at state.layout owes.entry.0 ≡ Some from_kept.placed.node
    node_there = node_of state.layout owes.entry.0 from_kept.placed from_kept.there

    -- the node that leads there is open, or another reaches what it leads to
    pub child-by : ((waiting owes.entry.0 ≡ true) × (node_at state.layout owes.entry.0 ≡ Some from_kept.placed.node)
        × Contains (children_of from_kept.placed.node) child)
        ⊎ IsMet state rest child
    child-by = elim (or_cases (waiting owes.entry.0)
        (is_reached (layout_of (without_subvolume state sub)) owes.entry.0) from_kept.stays) [
          | inl waits ↦ inl (waits, node_there, leads_on)
          | inr reached ↦
              let met = reached-node owes.entry.0 from_kept.placed from_kept.there reached in
              inr (met-child state holds.whole rest trees owes.entry.0 from_kept.placed.node child met node_there
              leads_on)
        ]

  -- ---- where a reference is left

  module _ (at : ℕ) (placed : Placed) (there : value_at at state.layout ≡ Some placed) (stays : stays_at at ≡ true)
      (under : IsUnder state waiting at) where
    pub referred-reached : 0 < references_to (book_of book.refs) at
        → is_reached (layout_of (without_subvolume state sub)) at ≡ true
    referred-reached some = elim (referred-owed meanwhile (book_of book.refs) holds.agrees at is some) [
      | inl root ↦ met-reached-itself state holds.whole rest trees at (root-stays at root)
      | inr (inl child) ↦ elim (child-by at child) [
        | inl (waits, node, leads) ↦ absurd (under child.entry.0 (from_kept at child).placed.node node waits leads)
        | inr met ↦ met-reached-itself state holds.whole rest trees at met
      ]
      | inr (inr run) ↦ absurd (node-apart at placed there stays run)
    ]

    pub reached-referred : is_reached (layout_of (without_subvolume state sub)) at ≡ true
        → 0 < references_to (book_of book.refs) at
    reached-referred reached =
        let met = reached-node at placed there reached in
        elim (met-back state holds.whole rest trees at met) [
          | inl root ↦
              let counted = root-counted meanwhile at (record {
                entry = (root.number, root.subvolume.root);
                has = contains_map root_entry rest (root.number, root.subvolume)
                    (entry_of_value root.number root.subvolume rest root.there);
                here = root.here;
              }) in
              owed-referred meanwhile (book_of book.refs) holds.agrees at counted.0 counted.1
          | inr led ↦
              let from = placed-there state.layout led.from (value_at led.from state.layout) refl led.node led.there in
              let node = now-node state sub waiting (led.from, from.0) ∙ from.2 in
              let counted = child-counted meanwhile at (record {
                entry = (led.from, now state sub waiting (led.from, from.0));
                has = kept-entry state sub waiting led.from from.0 from.1 (met-stays led.from led.met);
                leads = subst (λ (n : Node). Contains (children_of n) at) (sym node) led.leads;
              }) in
              owed-referred meanwhile (book_of book.refs) holds.agrees at counted.0 counted.1
        ]
