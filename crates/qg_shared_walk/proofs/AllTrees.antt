-- The tree of a subvolume, and the trees of all.
use Rattle.std.proofs.Common.{◌≡◌, ℕ, zero, suc, ◌+◌, ◌<◌, ◌≤◌, true, false, List, [], ◌∷◌, ◌++◌, map, length, take}
use Rattle.std.proofs.Common.{drop, get_or, append_assoc, arith, refl, sym, ap, subst, ◌∙◌, Option, Some, None, inl}
use Rattle.std.proofs.Common.{inr}
use Rattle.std.specs.Prelude.{All, Bool, IsTrue}
use Rattle.std.specs.List.{Contains}
use Rattle.std.proofs.lemmas.List.{take-append-drop, take_more}
use Rattle.std.proofs.lemmas.List.Elements.{Contains-append_cases, Contains-append_left, Contains-append_right}
use Rattle.std.proofs.lemmas.Option.{IfSome_then}
use Rattle.qg_device.specs.History.{Event, Recorded, content}
use Rattle.qg_num.specs.Fields.{IsBytes}
use Rattle.qg_num.specs.declared.rule.Rule.TheVariants as rule
use Rattle.qg_node.specs.declared.item.Item.{Item}
use Rattle.qg_node.specs.declared.node.Node.{Node}
use Rattle.qg_node.specs.Nodes.{is_ascending}
use Rattle.qg_items.specs.declared.root.RootItem.{RootItem}
use Rattle.qg_super.specs.declared.superblock.Super.{Super}
use Rattle.qg_image.specs.declared.part.FilePart.{FilePart}
use Rattle.qg_image.specs.ItemMeaning.{file_part}
use Rattle.qg_image.specs.FilesOf.{are_files, file_parts}
use Rattle.qg_tree_items.specs.Keys.{file_key}
use Rattle.qg_tree_items.specs.Rows.{Tells}
use Rattle.qg_image.proofs.Contained.{contains_cases, contains_here, contains_later, none_contained}
use Rattle.qg_image.specs.declared.failure.Failure.{Failure}
use Rattle.qg_image.specs.declared.failure.Failure.TheVariants.{Broken}
use Rattle.qg_image.specs.declared.tree.TreeKind.TheVariants.{Files}
use Rattle.qg_image.specs.declared.expected.Expected.{Expected}
use Rattle.qg_image.specs.Failure.{first_failure, unless}
use Rattle.qg_image.specs.ImageState.{items_of_root, nodes_of_root}
use Rattle.qg_image.specs.Verdict.{subvolume_failure}
use Rattle.qg_image.specs.Walk.{deepest, root_told, tree_failure}
use Rattle.qg_walk.specs.declared.fault.OpenFault.{OpenFault}
use Rattle.qg_walk.specs.Fault.{TellsFailure, failure_of}
use Rattle.qg_walk.specs.IsWalk.{IsWalk}
use Rattle.qg_walk.specs.Added.{below_node}
use Rattle.qg_walk.proofs.Failures.{none_of_two}
use Rattle.qg_walk.proofs.WholeTree.{IsWalk-added}
use Rattle.qg_shared_walk.specs.declared.digest.Digest.{Digest}
use Rattle.qg_shared_walk.specs.Wells.{all_failure, AreThese, found_of}
use Rattle.qg_shared_walk.specs.Reading.{Denies}
use Rattle.qg_shared_walk.specs.Memo.{Remembers, Walks}
use Rattle.qg_shared_walk.specs.ReadOfTrees.{AreFound}
use Rattle.qg_shared_walk.specs.Found.{HasTree, HasTrees}
use Rattle.qg_shared_walk.proofs.Wells.{parts_ascend}

-- ---- the failures of one subvolume

first_of_two : (a b : Option Failure) (failure : Failure) → a ≡ Some failure → first_failure (a ∷ b ∷ []) ≡ Some failure
first_of_two a b failure is = rw is refl

second_of_two : (a b : Option Failure) (failure : Failure) → a ≡ None → b ≡ Some failure
    → first_failure (a ∷ b ∷ []) ≡ Some failure
second_of_two a b failure none is = rw (none, is) refl

broken : (test : Bool) (address : ℕ) → test ≡ false → unless test rule.File address ≡ Some (Broken rule.File address)
broken test address is = rw is refl

kept : (test : Bool) (address : ℕ) → test ≡ true → unless test rule.File address ≡ None
kept test address is = rw is refl

pub tree_tells : (super : Super) (image : List ℕ) (root : RootItem) (fault : OpenFault)
    → TellsFailure fault (tree_failure Files super image (root_told root) root.bytenr)
    → TellsFailure fault (subvolume_failure super image root)
tree_tells super image root fault tells =
    IfSome_then (failure_of fault) tells
    (λ failure is.
    first_of_two (tree_failure Files super image (root_told root) root.bytenr)
    (unless (are_files (file_parts (items_of_root Files super image root))) rule.File root.bytenr) failure is)

all_said : (items : List Item) (parts : List FilePart) → map file_part items ≡ map (λ part. Some part) parts
    → file_parts items ≡ parts
all_said [] [] said = refl
all_said [] (part ∷ parts) said = absurd cc
all_said (item ∷ items) [] said = absurd cc
all_said (item ∷ items) (part ∷ parts) said =
    let first : file_part item ≡ Some part = cc in
    let rest : map file_part items ≡ map (λ part. Some part) parts = cc in
    rw first (ap (λ (all : List FilePart). part ∷ all) (all_said items parts rest))

-- ---- a tree that was walked

module _ {N : Type 0} (super : Super) (events : List Event) (keeps : N → List Node → Type 0) (old : List Node)
    (digests : List (ℕ × Digest)) (reader : N) (root : RootItem) (digest : Digest)
    (walks : Walks super events keeps old digests reader (root_told root) root.bytenr digest) where
  sound : tree_failure Files super (content events) (root_told root) root.bytenr ≡ None
  unfolding tree_failure
  sound = walks.well.sound (root_told root) deepest walks.well.low walks.fitting

  walk : IsWalk Files file_part AreThese super (content events) (root_told root) root.bytenr walks.whole.parts
      walks.whole.nodes
  walk =
      IsWalk-added Files file_part AreThese super (Recorded events) events None None (root_told root) root.bytenr
      (found_of [] []) (found_of walks.whole.parts walks.whole.nodes)
      refl refl refl sound (walks.well.below (root_told root) walks.fitting)

  pub told_row : Tells digest.below.row (file_parts (items_of_root Files super (content events) root))
  told_row =
      subst (λ (parts : List FilePart). Tells digest.below.row parts)
      (sym (all_said (items_of_root Files super (content events) root) walks.whole.parts walk.said)) walks.well.row

  pub told_ascend : IsTrue (is_ascending (map file_key (file_parts (items_of_root Files super (content events) root))))
  told_ascend =
      rw (all_said (items_of_root Files super (content events) root) walks.whole.parts walk.said)
      (parts_ascend super events None None (below_node super root.bytenr) walks.whole
      (walks.well.below (root_told root) walks.fitting))

  pub passes : are_files (file_parts (items_of_root Files super (content events) root)) ≡ true
      → subvolume_failure super (content events) root ≡ None
  passes files =
      let parts = file_parts (items_of_root Files super (content events) root) in
      none_of_two (tree_failure Files super (content events) (root_told root) root.bytenr)
      (unless (are_files parts) rule.File root.bytenr) sound (kept (are_files parts) root.bytenr files)

  pub breaks : are_files (file_parts (items_of_root Files super (content events) root)) ≡ false
      → subvolume_failure super (content events) root ≡ Some (Broken rule.File root.bytenr)
  breaks files =
      let parts = file_parts (items_of_root Files super (content events) root) in
      second_of_two (tree_failure Files super (content events) (root_told root) root.bytenr)
      (unless (are_files parts) rule.File root.bytenr) (Broken rule.File root.bytenr) sound
      (broken (are_files parts) root.bytenr files)

  pub has_tree : HasTree super events keeps old digests reader root
  has_tree =
      let same : walks.whole.nodes ≡ nodes_of_root Files super (content events) root = walk.kept in
      record {
        now = walks.now;
        remembers = walks.remembers;
        stay = walks.stay;
        all = λ n has. walks.well.remembered n (subst (λ (nodes : List Node). Contains nodes n) (sym same) has);
        more = λ n has. elim (walks.more n has) [
          | inl before ↦ inl before
          | inr there ↦ inr (subst (λ (nodes : List Node). Contains nodes n) same there)
        ];
        bytes = walk.bytes;
      }

-- ---- the trees of all

pub no_trees : {N : Type 0} (super : Super) (events : List Event) (keeps : N → List Node
    → Type 0) (digests : List (ℕ × Digest)) (reader : N)
    → Remembers super events keeps [] digests reader → HasTrees super events keeps [] digests reader
no_trees super events keeps digests reader remembers = record {
  now = [];
  remembers = remembers;
  all = λ entry n has there. absurd (none_contained entry has);
  only = λ n has. absurd (none_contained n has);
  bytes = λ entry has. absurd (none_contained entry has);
}

pub one_more_tree : {N : Type 0} (super : Super) (events : List Event) (keeps : N → List Node
    → Type 0) (roots : List (ℕ × RootItem)) (entry : ℕ × RootItem) (digests digests' : List (ℕ × Digest))
    (reader reader' : N)
    (trees : HasTrees super events keeps roots digests reader)
    → HasTree super events keeps trees.now digests' reader' entry.1
    → HasTrees super events keeps (roots ++ entry ∷ []) digests' reader'
one_more_tree super events keeps roots entry digests digests' reader reader' trees tree = record {
  now = tree.now;
  remembers = tree.remembers;
  all = λ other n has there. elim (Contains-append_cases roots (entry ∷ []) other has) [
    | inl early ↦ tree.stay n (trees.all other n early there)
    | inr late ↦ elim (contains_cases entry [] other late) [
      | inl is ↦ tree.all n (subst (λ (e : ℕ × RootItem). Contains (nodes_of_root Files super (content events) e.1) n)
          (sym is) there)
      | inr none ↦ absurd (none_contained other none)
    ]
  ];
  only = λ n has. elim (tree.more n has) [
    | inl before ↦ let one = trees.only n before in (one.0, Contains-append_left roots (entry ∷ []) one.0 one.1, one.2)
    | inr there ↦ (entry, Contains-append_right roots (entry ∷ []) entry (contains_here entry []), there)
  ];
  bytes = λ other has. elim (Contains-append_cases roots (entry ∷ []) other has) [
    | inl early ↦ trees.bytes other early
    | inr late ↦ elim (contains_cases entry [] other late) [
      | inl is ↦ subst (λ (e : ℕ × RootItem). All (λ item. IsBytes item.body)
          (items_of_root Files super (content events) e.1)) is tree.bytes
      | inr none ↦ absurd (none_contained other none)
    ]
  ];
}

pub all_found : {N : Type 0} (super : Super) (events : List Event) (keeps : N → List Node
    → Type 0) (roots : List (ℕ × RootItem)) (digests : List (ℕ × Digest)) (reader : N)
    → HasTrees super events keeps roots digests reader → AreFound super (content events) roots keeps reader
all_found super events keeps roots digests reader trees = record {
  nodes = trees.now;
  kept = trees.remembers.are;
  found = trees.remembers.found;
  distinct = trees.remembers.distinct;
  all = trees.all;
  only = trees.only;
  bytes = trees.bytes;
}

-- ---- what holds of some, and of one more

pub of_more : {A : Type 0} (P : A → Type 0) (xs : List A) (x : A) → ((y : A) → Contains xs y → P y) → P x → (y : A)
    → Contains (xs ++ x ∷ []) y → P y
of_more P xs x each one y has = elim (Contains-append_cases xs (x ∷ []) y has) [
  | inl early ↦ each y early
  | inr late ↦ elim (contains_cases x [] y late) [
    | inl is ↦ subst P is one
    | inr none ↦ absurd (none_contained y none)
  ]
]

pub one_taken : {A : Type 0} (xs : List A) (n : ℕ) (x : A) → n < length xs → x ≡ get_or xs n x
    → take (n + 1) xs ≡ take n xs ++ x ∷ []
one_taken xs n x short is = take_more xs n x short ∙ ap (λ y. take n xs ++ y ∷ []) (sym is)

pub all_taken : {A : Type 0} (xs : List A) (n : ℕ) → length xs ≤ n → take n xs ≡ xs
all_taken [] zero long = refl
all_taken [] (suc n) long = refl
all_taken (x ∷ xs) zero long = absurd (omega (arith, long))
all_taken (x ∷ xs) (suc n) long = ap (λ ys. x ∷ ys) (all_taken xs n (omega (arith, long)))

-- ---- the first failure of all

pub none_failed : {A : Type 0} (fails : A → Option Failure) (xs : List A) → ((x : A) → Contains xs x → fails x ≡ None)
    → first_failure (map fails xs) ≡ None
none_failed fails [] each = refl
none_failed fails (x ∷ xs) each =
    rw (each x (contains_here x xs)) (none_failed fails xs (λ y has. each y (contains_later x xs y has)))

pub one_failed : {A : Type 0} (fails : A → Option Failure) (front : List A) (x : A) (behind : List A)
    (failure : Failure) → ((y : A) → Contains front y → fails y ≡ None)
    → fails x ≡ Some failure → first_failure (map fails (front ++ x ∷ behind)) ≡ Some failure
one_failed fails [] x behind failure each is = rw is refl
one_failed fails (y ∷ front) x behind failure each is =
    rw (each y (contains_here y front))
    (one_failed fails front x behind failure (λ z has. each z (contains_later y front z has)) is)

pub one_tells : {A : Type 0} (fails : A → Option Failure) (xs : List A) (n : ℕ) (x : A) (fault : OpenFault)
    → n < length xs → x ≡ get_or xs n x
    → ((y : A) → Contains (take n xs) y → fails y ≡ None) → TellsFailure fault (fails x)
    → TellsFailure fault (first_failure (map fails xs))
one_tells {A} fails xs n x fault short is each tells =
    let behind = drop (n + 1) xs in
    let split : take n xs ++ x ∷ behind ≡ xs =
    sym (append_assoc (take n xs) (x ∷ []) behind)
    ∙ ap (λ (front : List A). front ++ behind) (sym (one_taken xs n x short is)) ∙ take-append-drop (n + 1) xs in
    IfSome_then (failure_of fault) tells
    (λ failure told. subst (λ (ys : List A). first_failure (map fails ys) ≡ Some failure) split
    (one_failed fails (take n xs) x behind failure each told))

-- ---- a tree that is known to break a rule

pub tree_denies : (super : Super) (events : List Event) (expected : Expected) (root : ℕ) (fault : OpenFault)
    → Denies fault (all_failure super events deepest expected root)
    → Denies fault (tree_failure Files super (content events) expected root)
unfolding tree_failure
tree_denies super events expected root fault denies = denies

pub known_tells : (fault : OpenFault) (first : Option Failure) → Denies fault first → first ≡ None
    → TellsFailure fault first
known_tells fault first denies none = IfSome_then (failure_of fault) denies (λ failure not_none. absurd (not_none none))
