-- What the items of the root and quota trees name, by the numbers of subvolumes and groups and by relations.
use Rattle.std.proofs.Common.{◌≡◌, ℕ, List, [], ◌∷◌, ◌++◌, map, Option, None, Some, refl, sym, subst, ◌⊎◌, inl, inr}
use Rattle.std.proofs.Common.{true}
use Rattle.std.specs.List.{Contains, flat_map}
use Rattle.std.proofs.lemmas.Bool.{or_left, or_right}
use Rattle.std.proofs.lemmas.List.Elements.{Contains-append_cases, Contains-append_left, Contains-append_right}
use Rattle.std.proofs.lemmas.Map.Views.{Contains-from_any}
use Rattle.qg_items.specs.declared.tree.TheConstants.{EXTENT_TREE, QUOTA_TREE}
use Rattle.qg_image.specs.Table.{keys_of}
use Rattle.qg_image.specs.declared.quota.Quota.{Quota}
use Rattle.qg_image.specs.Record.{Record, RootOf, InfoOf, LimitOf, RelationOf, Status, same_record}
use Rattle.qg_image.specs.State.{State}
use Rattle.qg_image.proofs.Contained.{contains_cases, contains_here, contains_later, none_contained}
use Rattle.qg_weighed.specs.Laws.{is_among}
use Rattle.qg_weighed.proofs.Distinct.{record_itself, same_record_is}
use Rattle.qg_file_edits.proofs.Lists.{from-flat, from-mapped, has-flat, has-mapped}
use Rattle.qg_fs_laws.specs.Keeping.{other_names}

-- ---- records that are listed

pub among-has : (records : List Record) (one : Record) → is_among records one ≡ true → Contains records one
among-has records one among = Contains-from_any same_record_is one records among

pub has-among : (records : List Record) (one : Record) → Contains records one → is_among records one ≡ true
has-among [] one has = absurd (none_contained one has)
has-among (first ∷ records) one has = elim (contains_cases first records one has) [
  | inl same ↦
      or_left (same_record one first) (is_among records one)
      (subst (λ (r : Record). same_record one r ≡ true) (sym same) (record_itself one))
  | inr later ↦ or_right (same_record one first) (is_among records one) (has-among records one later)
]

two_cases : {A : Type 0} (a b x : A) → Contains (a ∷ b ∷ []) x → (a ≡ x) ⊎ (b ≡ x)
two_cases {A} a b x has = elim (contains_cases a (b ∷ []) x has) [
  | inl first ↦ inl first
  | inr later ↦ elim (contains_cases b [] x later) [
    | inl second ↦ inr second
    | inr none ↦ absurd (none_contained x none)
  ]
]

-- ---- by numbers

abbrev pub group_records : ℕ → List Record
group_records group = InfoOf group ∷ LimitOf group ∷ []

abbrev pub pair_records : ℕ × ℕ → List Record
pair_records pair = RelationOf pair.0 pair.1 ∷ RelationOf pair.1 pair.0 ∷ []

-- the root of the quota tree, where there is one
abbrev pub quota_tree_names : Option Quota → List Record
quota_tree_names None = []
quota_tree_names (Some quota) = RootOf QUOTA_TREE ∷ []

abbrev pub tree_names : List ℕ → Option Quota → List Record
tree_names numbers quota = (RootOf EXTENT_TREE ∷ map RootOf numbers) ++ quota_tree_names quota

abbrev pub quota_names : Option Quota → List Record
quota_names None = []
quota_names (Some quota) =
    (Status ∷ flat_map group_records (keys_of quota.groups)) ++ flat_map pair_records quota.pairs

abbrev pub names_by : List ℕ → Option Quota → List Record
names_by numbers quota = tree_names numbers quota ++ quota_names quota

pub names-are : (state : State) (quota : Option Quota) → state.quota ≡ quota
    → other_names state ≡ names_by (keys_of state.subvolumes) quota
names-are state None is = rw is refl
names-are state (Some quota) is = rw is refl

module _ (numbers : List ℕ) (quota : Option Quota) where
  -- ---- what is named

  of_trees : (one : Record) → Contains (tree_names numbers quota) one → Contains (names_by numbers quota) one
  of_trees one has = Contains-append_left (tree_names numbers quota) (quota_names quota) one has

  pub quota-named : (one : Record) → Contains (quota_names quota) one → Contains (names_by numbers quota) one
  quota-named one has = Contains-append_right (tree_names numbers quota) (quota_names quota) one has

  pub extents-named : Contains (names_by numbers quota) (RootOf EXTENT_TREE)
  extents-named = of_trees (RootOf EXTENT_TREE)
      (Contains-append_left (RootOf EXTENT_TREE ∷ map RootOf numbers) (quota_tree_names quota) (RootOf EXTENT_TREE)
      (contains_here (RootOf EXTENT_TREE) (map RootOf numbers)))

  pub subvolume-named : (number : ℕ) → Contains numbers number → Contains (names_by numbers quota) (RootOf number)
  subvolume-named number has = of_trees (RootOf number)
      (Contains-append_left (RootOf EXTENT_TREE ∷ map RootOf numbers) (quota_tree_names quota) (RootOf number)
      (contains_later (RootOf EXTENT_TREE) (map RootOf numbers) (RootOf number) (has-mapped RootOf numbers number has)))

  pub quota-tree-named : (one : Record) → Contains (quota_tree_names quota) one → Contains (names_by numbers quota) one
  quota-tree-named one has = of_trees one
      (Contains-append_right (RootOf EXTENT_TREE ∷ map RootOf numbers) (quota_tree_names quota) one has)

  -- ---- and nothing else

  -- these records name each tree, and what quota has
  pub record NamesEach (records : List Record) : Type 0 where
    pub extents : is_among records (RootOf EXTENT_TREE) ≡ true
    pub subvolume : (number : ℕ) → Contains numbers number → is_among records (RootOf number) ≡ true
    pub quota_tree : (one : Record) → Contains (quota_tree_names quota) one → is_among records one ≡ true
    pub own : (one : Record) → Contains (quota_names quota) one → is_among records one ≡ true

  module _ (records : List Record) (each : NamesEach records) where
    a_tree : (one : Record) → Contains (tree_names numbers quota) one → is_among records one ≡ true
    a_tree one has = elim (Contains-append_cases (RootOf EXTENT_TREE ∷ map RootOf numbers) (quota_tree_names quota) one
        has) [
          | inl front ↦ elim (contains_cases (RootOf EXTENT_TREE) (map RootOf numbers) one front) [
            | inl extents ↦ subst (λ (r : Record). is_among records r ≡ true) extents each.extents
            | inr later ↦
                let found = from-mapped RootOf numbers one later in
                subst (λ (r : Record). is_among records r ≡ true) found.2 (each.subvolume found.0 found.1)
          ]
          | inr quotas ↦ each.quota_tree one quotas
        ]

    pub named-among : (one : Record) → Contains (names_by numbers quota) one → is_among records one ≡ true
    named-among one has = elim (Contains-append_cases (tree_names numbers quota) (quota_names quota) one has) [
      | inl tree ↦ a_tree one tree
      | inr own ↦ each.own one own
    ]

-- ---- while quota is on

module _ (quota : Quota) where
  abbrev groups : List ℕ
  groups = keys_of quota.groups

  abbrev pairs : List (ℕ × ℕ)
  pairs = quota.pairs

  pub status-named : Contains (quota_names (Some quota)) Status
  status-named =
      Contains-append_left (Status ∷ flat_map group_records groups) (flat_map pair_records pairs) Status
      (contains_here Status (flat_map group_records groups))

  pub group-named : (group : ℕ) (one : Record) → Contains (keys_of quota.groups) group
      → Contains (group_records group) one → Contains (quota_names (Some quota)) one
  group-named group one has own =
      Contains-append_left (Status ∷ flat_map group_records groups) (flat_map pair_records pairs) one
      (contains_later Status (flat_map group_records groups) one (has-flat group_records groups group one has own))

  pub pair-named : (pair : ℕ × ℕ) (one : Record) → Contains quota.pairs pair → Contains (pair_records pair) one
      → Contains (quota_names (Some quota)) one
  pair-named pair one has own =
      Contains-append_right (Status ∷ flat_map group_records groups) (flat_map pair_records pairs) one
      (has-flat pair_records pairs pair one has own)

  -- these records name the state of quota, each group and each relation
  pub record NamesQuota (records : List Record) : Type 0 where
    pub status : is_among records Status ≡ true
    pub info : (group : ℕ) → Contains (keys_of quota.groups) group → is_among records (InfoOf group) ≡ true
    pub limit : (group : ℕ) → Contains (keys_of quota.groups) group → is_among records (LimitOf group) ≡ true
    pub member : (pair : ℕ × ℕ) → Contains quota.pairs pair → is_among records (RelationOf pair.0 pair.1) ≡ true
    pub parent : (pair : ℕ × ℕ) → Contains quota.pairs pair → is_among records (RelationOf pair.1 pair.0) ≡ true

  module _ (records : List Record) (each : NamesQuota records) where
    a_group : (one : Record) → Contains (flat_map group_records groups) one → is_among records one ≡ true
    a_group one has =
        let found = from-flat group_records groups one has in
        elim (two_cases (InfoOf found.0) (LimitOf found.0) one found.2) [
          | inl info ↦ subst (λ (r : Record). is_among records r ≡ true) info (each.info found.0 found.1)
          | inr limit ↦ subst (λ (r : Record). is_among records r ≡ true) limit (each.limit found.0 found.1)
        ]

    a_pair : (one : Record) → Contains (flat_map pair_records pairs) one → is_among records one ≡ true
    a_pair one has =
        let found = from-flat pair_records pairs one has in
        elim (two_cases (RelationOf found.0.0 found.0.1) (RelationOf found.0.1 found.0.0) one found.2) [
          | inl member ↦ subst (λ (r : Record). is_among records r ≡ true) member (each.member found.0 found.1)
          | inr parent ↦ subst (λ (r : Record). is_among records r ≡ true) parent (each.parent found.0 found.1)
        ]

    of_group : (one : Record) → Contains (Status ∷ flat_map group_records groups) one → is_among records one ≡ true
    of_group one has = elim (contains_cases Status (flat_map group_records groups) one has) [
      | inl status ↦ subst (λ (r : Record). is_among records r ≡ true) status each.status
      | inr later ↦ a_group one later
    ]

    pub quota-among : (one : Record) → Contains (quota_names (Some quota)) one → is_among records one ≡ true
    quota-among one has = elim (Contains-append_cases (Status ∷ flat_map group_records groups)
        (flat_map pair_records pairs) one has) [
          | inl group ↦ of_group one group
          | inr pair ↦ a_pair one pair
        ]
