-- The ROOT_ITEMs of a commit: one for each subvolume's tree, in the order of the numbers.
use Rattle.std.proofs.Common.{◌≡◌, ℕ, ◌+◌, ◌<◌, ◌≤◌, List, [], ◌∷◌, ◌++◌, take, length, get_or, Some}
use Rattle.std.proofs.Common.{refl, sym, ap, subst, ◌∙◌, arith}
use Rattle.std.specs.Prelude.{All}
use Rattle.std.specs.List.{Contains, flat_map}
use Rattle.std.specs.List.Sorted.{IsNonDecreasingBy, IsPermutation}
use Rattle.std.proofs.lemmas.List.{get_or-map, length-map, map-append, take_all, take_more}
use Rattle.std.proofs.lemmas.List.Elements.{All-append, All-cons, All-contains, All-nil, Contains-get_or}
use Rattle.std.proofs.lemmas.Option.{none-some, same_Some}
use Rattle.qg_device.specs.History.{History}
use Rattle.qg_items.specs.declared.root.RootItem.{RootItem}
use Rattle.qg_image.specs.Table.{keys_of, value_at}
use Rattle.qg_image.specs.Record.{Record}
use Rattle.qg_image.specs.State.{Placed, State}
use Rattle.qg_root_items.specs.Written.{items_of_file}
use Rattle.qg_open_image.specs.Named.{named}
use Rattle.qg_extents.specs.Table.{IsTable}
use Rattle.qg_tree_read.specs.Tree.{Root}
use Rattle.qg_owner_rule.proofs.Ascending.{one_of_number}
use Rattle.qg_owner_rule.proofs.Reaching.{entry_of_value, value_of_entry}
use Rattle.qg_open_image.specs.Standing.{trees_of}
use Rattle.qg_open_image.specs.Laying.{IsMet}
use Rattle.qg_open_image.proofs.Nodes.{value-reached}
use Rattle.qg_open_image.proofs.Trees.{entry-there, met-slot, nodes-laid, root-reached}
use Rattle.qg_open_image.proofs.FsLawsKept.{counted, some_bytes, stands}
use Rattle.qg_open_image.specs.FsLawsCommitting.{IsRootNow}
use Rattle.qg_open_image.specs.declared.open_image.OpenImage.{OpenImage}
use Rattle.qg_open_image.specs.declared.open_image.KeptSubvolume.{KeptSubvolume}
use Rattle.qg_image_commits.specs.Committing.{AreRootsOf}
use Rattle.qg_open_image.specs.Keeping.{IsFitted, IsKept, IsKeptWith}
use Rattle.qg_image_commits.specs.Planning.{AreRootsBy, IsRootIn, IsRootOfOne, KnowsRoot, numbers_of}
use Rattle.qg_image_commits.proofs.ByNumber.{numbers-ascend, tree-into}
use Rattle.qg_image_commits.proofs.Cleaned.{tree-now}

-- ---- one after the other

-- ROOT_ITEMs of the first so many numbers
pub record AreRootsFirst (kept : OpenImage) (trees : List Root) (snapshots : List (ℕ × KeptSubvolume)) (count : ℕ)
    (roots : List (ℕ × RootItem)) : Type 0 where
  pub numbers : keys_of roots ≡ take count (keys_of snapshots)
  pub each : All (IsRootOfOne kept trees snapshots) roots

pub no-roots : (kept : OpenImage) (trees : List Root) (snapshots : List (ℕ × KeptSubvolume))
    → AreRootsFirst kept trees snapshots 0 []
no-roots kept trees snapshots =
    record { numbers = refl; each = All-nil (IsRootOfOne kept trees snapshots) }

keys_more : (snapshots : List (ℕ × KeptSubvolume)) (i : ℕ) (entry : ℕ × KeptSubvolume) → i < length snapshots
    → entry ≡ get_or snapshots i entry
    → take (i + 1) (keys_of snapshots) ≡ take i (keys_of snapshots) ++ entry.0 ∷ []
keys_more snapshots i entry inside is =
    let long = length-map snapshots (λ (e : ℕ × KeptSubvolume). e.0) in
    let here = get_or-map (λ (e : ℕ × KeptSubvolume). e.0) snapshots i entry entry.0 inside in
    take_more (keys_of snapshots) i entry.0 (omega (arith, long, inside))
    ∙ ap (λ (n : ℕ). take i (keys_of snapshots) ++ n ∷ []) (here ∙ ap (λ (e : ℕ × KeptSubvolume). e.0) (sym is))

-- the number of the tree in the same place
pub number-there : (trees : List Root) (snapshots : List (ℕ × KeptSubvolume)) (i : ℕ) (entry : ℕ × KeptSubvolume)
    (tree : Root) → numbers_of trees ≡ keys_of snapshots → i < length snapshots → entry ≡ get_or snapshots i entry
    → tree ≡ get_or trees i tree → tree.owner ≡ entry.0
number-there trees snapshots i entry tree same inside is own =
    let many = ap (λ (ns : List ℕ). length ns) same in
    let mine = length-map trees (λ (t : Root). t.owner) in
    let theirs = length-map snapshots (λ (e : ℕ × KeptSubvolume). e.0) in
    let within : i < length trees = omega (arith, many, mine, theirs, inside) in
    let here = get_or-map (λ (t : Root). t.owner) trees i tree 0 within in
    let there = get_or-map (λ (e : ℕ × KeptSubvolume). e.0) snapshots i entry 0 inside in
    ap (λ (t : Root). t.owner) own ∙ sym here ∙ ap (λ (ns : List ℕ). get_or ns i 0) same ∙ there
    ∙ ap (λ (e : ℕ × KeptSubvolume). e.0) (sym is)

pub lockstep-within : (trees : List Root) (snapshots : List (ℕ × KeptSubvolume)) (i : ℕ)
    → numbers_of trees ≡ keys_of snapshots → i < length snapshots → i < length trees
lockstep-within trees snapshots i same inside =
    let many = ap (λ (ns : List ℕ). length ns) same in
    let mine = length-map trees (λ (t : Root). t.owner) in
    let theirs = length-map snapshots (λ (e : ℕ × KeptSubvolume). e.0) in
    omega (arith, many, mine, theirs, inside)

pub more-roots : (kept : OpenImage) (trees : List Root) (snapshots : List (ℕ × KeptSubvolume)) (i : ℕ)
    (roots new : List (ℕ × RootItem)) (entry : ℕ × KeptSubvolume) (tree : Root) (root : RootItem)
    → numbers_of trees ≡ keys_of snapshots → i < length snapshots → entry ≡ get_or snapshots i entry
    → tree ≡ get_or trees i tree → AreRootsFirst kept trees snapshots i roots
    → IsRootIn kept.fs.refs.refs tree entry.1.last_snapshot root → new ≡ roots ++ (entry.0, root) ∷ []
    → AreRootsFirst kept trees snapshots (i + 1) new
more-roots kept trees snapshots i roots new entry tree root same inside is own before of_tree put =
    subst (λ (list : List (ℕ × RootItem)). AreRootsFirst kept trees snapshots (i + 1) list) (sym put) (record {
      numbers = map-append (λ (e : ℕ × RootItem). e.0) roots ((entry.0, root) ∷ [])
          ∙ ap (λ (ns : List ℕ). ns ++ entry.0 ∷ []) before.numbers ∙ sym (keys_more snapshots i entry inside is);
      each = All-append (IsRootOfOne kept trees snapshots) roots ((entry.0, root) ∷ []) before.each
          (All-cons (IsRootOfOne kept trees snapshots) (entry.0, root) [] (record {
            tree = tree;
            among = subst (λ (t : Root). Contains trees t) (sym own)
                (Contains-get_or trees i tree (lockstep-within trees snapshots i same inside));
            snapshot = entry;
            there = subst (λ (e : ℕ × KeptSubvolume). Contains snapshots e) (sym is)
                (Contains-get_or snapshots i entry inside);
            number = number-there trees snapshots i entry tree same inside is own;
            same = refl;
            root = of_tree;
          }) (All-nil (IsRootOfOne kept trees snapshots)));
    })

pub all-roots : (kept : OpenImage) (trees : List Root) (snapshots : List (ℕ × KeptSubvolume)) (i : ℕ)
    (roots : List (ℕ × RootItem)) → length snapshots ≤ i → AreRootsFirst kept trees snapshots i roots
    → AreRootsBy kept trees snapshots roots
all-roots kept trees snapshots i roots past first =
    let long = length-map snapshots (λ (e : ℕ × KeptSubvolume). e.0) in
    record {
      numbers = first.numbers ∙ take_all i (keys_of snapshots) (omega (arith, long, past));
      each = first.each;
    }

-- ---- they are those of the subvolumes

pub roots-of : (kept : OpenImage) (trees : List Root) (roots : List (ℕ × RootItem)) → IsFitted kept
    → IsPermutation (trees_of kept.fs) trees → IsNonDecreasingBy (λ tree. tree.owner) trees
    → AreRootsBy kept trees kept.snapshots roots → AreRootsOf kept roots
roots-of kept trees roots fits moved up are = record { numbers = are.numbers; each = each } where
  of_one : (tree other : Root) (snapshot last : ℕ) (root : RootItem) → other ≡ tree → last ≡ snapshot
      → IsRootIn kept.fs.refs.refs other last root → IsRootNow kept.fs tree snapshot root
  of_one tree other snapshot last root same before is =
      let there = subst (λ (t : Root). IsRootIn kept.fs.refs.refs t snapshot root) same
      (subst (λ (n : ℕ). IsRootIn kept.fs.refs.refs other n root) before is) in
      record { what = there.what; known = there.known; root_is = there.root_is }

  each : (tree : Root) (snapshot : KeptSubvolume) (root : RootItem) → Contains (trees_of kept.fs) tree
      → value_at tree.owner kept.snapshots ≡ Some snapshot → value_at tree.owner roots ≡ Some root
      → IsRootNow kept.fs tree snapshot.last_snapshot root
  each tree snapshot root among there named_so =
      let one = All-contains (IsRootOfOne kept trees kept.snapshots) roots (tree.owner, root) are.each
      (entry_of_value tree.owner root roots named_so) in
      let same = one_of_number (λ (t : Root). t.owner) trees (numbers-ascend kept fits trees moved up) one.tree tree
      one.among (tree-into kept fits trees moved up tree among) one.number in
      let value = value_of_entry kept.snapshots one.snapshot fits.subvolumes.ascending one.there in
      let last : one.snapshot.1 ≡ snapshot =
      same_Some one.snapshot.1 snapshot
      (sym value ∙ ap (λ (n : ℕ). value_at n kept.snapshots) one.same ∙ there) in
      of_one tree one.tree snapshot.last_snapshot one.snapshot.1.last_snapshot root same
      (ap (λ (k : KeptSubvolume). k.last_snapshot) last) one.root

-- ---- a state

module _ (kept : OpenImage) (history : History) (bytes : ℕ) (state : State) (names : List Record)
    (fits : IsKept kept history bytes) (table : IsTable kept.fs.refs.refs)
    (keeps : IsKeptWith kept state history names) where
  -- the book knows the root of each tree
  pub root-known : (tree : Root) → Contains (trees_of kept.fs) tree → KnowsRoot kept.fs.refs.refs tree
  root-known tree among none =
      let own = tree-now kept history bytes fits table in
      let files = keeps.files in
      let stood = stands kept.fs history bytes state keeps.mine files own keeps.keeps in
      let met : IsMet kept.fs history tree.address = record {
        tree = tree;
        among = among;
        reached = root-reached kept.fs history bytes (flat_map items_of_file files) (named files) own.subvolume stood
            tree;
      } in
      let entry = entry-there kept.fs history bytes (flat_map items_of_file files) (named files) own.subvolume stood
      tree.address met in
      let value = ap (λ (table : List (ℕ × Placed)). value_at tree.address table)
      (nodes-laid kept.fs history bytes (flat_map items_of_file files) (named files) own.subvolume stood state
      keeps.keeps.laid)
      ∙ value-reached kept.fs history (some_bytes kept.fs history bytes state keeps.mine files own keeps.keeps)
      (met-slot kept.fs history bytes (flat_map items_of_file files) (named files) own.subvolume stood) tree.address
      entry.0 entry.1 in
      let known = (counted kept.fs history bytes state keeps.mine files own keeps.keeps).nodes tree.address entry.0
      value in
      none-some _ (sym none ∙ known)
