-- Quota items whose keys ascend are first the state of quota, then counters, then limits, then relations.
use Rattle.std.proofs.Common.{◌≡◌, ℕ, ◌<◌, true, List, [], ◌∷◌, ◌++◌, map, refl, ap, sym, ◌∙◌, lit<}
use Rattle.std.specs.Prelude.{Option, Some, None}
use Rattle.std.specs.List.{cons_option, filter_map, list_any}
use Rattle.std.specs.declared.cmp.Ordering.{Ordering}
use Rattle.std.specs.declared.cmp.Ordering.TheVariants.{Less, Equal}
use Rattle.std.proofs.lemmas.Bool.{true≢false}
use Rattle.std.proofs.lemmas.Cmp.{tied_itself}
use Rattle.std.proofs.lemmas.Option.{none-some}
use Rattle.qg_num.specs.declared.key.Key.{Key}
use Rattle.qg_num.specs.Key.{key_cmp}
use Rattle.qg_num.proofs.KeyOrder.{key_cmp_total}
use Rattle.qg_items.specs.declared.quota.QgroupStatus.{QgroupStatus}
use Rattle.qg_items.specs.declared.quota.QgroupInfo.{QgroupInfo}
use Rattle.qg_items.specs.declared.quota.QgroupLimit.{QgroupLimit}
use Rattle.qg_image.specs.declared.part.QuotaPart.{QuotaPart}
use Rattle.qg_image.specs.declared.part.QuotaPart.TheVariants.{Status, Info, Limits, Relation}
use Rattle.qg_tree_items.specs.Keys.{key_with, quota_key}
use Rattle.qg_image.specs.ImageState.{info_told, limit_told}
use Rattle.qg_image.specs.Verdict.{is_status_part}
use Rattle.qg_quota.specs.QuotaKinds.{relation_told}
use Rattle.qg_quota.specs.Written.{relation_part}
use Rattle.qg_quota.proofs.Rising.{before_relations, less_is}
use Rattle.qg_quota.proofs.ToldBack.{AllBehind, IsSorted, is_less, sorted_first, sorted_later}

-- the state of quota, where an item tells it
abbrev pub status_told : QuotaPart → Option QgroupStatus
status_told (Status status) = Some status
status_told (Info group info) = None
status_told (Limits group limit) = None
status_told (Relation group other) = None

-- parts of each kind, one kind behind the other
abbrev pub laid : List QgroupStatus → List (ℕ × QgroupInfo) → List (ℕ × QgroupLimit) → List (ℕ × ℕ) → List QuotaPart
laid statuses infos limits relations =
    map Status statuses ++ map (λ entry. Info entry.0 entry.1) infos ++ map (λ entry. Limits entry.0 entry.1) limits
    ++ map relation_part relations

-- ---- keys

not_both : (x y : Key) → key_cmp x y ≡ Less → key_cmp y x ≡ Less → ⊥
not_both x y there back =
    let clash : ◌≡◌ {A = Ordering} Less Equal = sym (key_cmp_total.trans x y x there back)
    ∙ tied_itself key_cmp_total x in
    cc

kind_before : (kind kind' n n' : ℕ) → kind < kind' → key_cmp (key_with 0 kind n) (key_with 0 kind' n') ≡ Less
kind_before kind kind' n n' lower = rw (less_is kind kind' lower) refl

kind_not : (kind kind' n n' : ℕ) → kind < kind' → key_cmp (key_with 0 kind' n') (key_with 0 kind n) ≡ Less → ⊥
kind_not kind kind' n n' lower less =
    not_both (key_with 0 kind n) (key_with 0 kind' n') (kind_before kind kind' n n' lower) less

relation_not : (kind n a b : ℕ) → kind < 246 → key_cmp (key_with a 246 b) (key_with 0 kind n) ≡ Less → ⊥
relation_not kind n a b lower less =
    not_both (key_with 0 kind n) (key_with a 246 b) (is_less (key_cmp (key_with 0 kind n) (key_with a 246 b))
    (before_relations kind n a b lower)) less

-- ---- none behind

none_of : {X : Type 0} (f : QuotaPart → Option X) (key : Key)
    → ((part : QuotaPart) (x : X) → f part ≡ Some x → key_cmp key (quota_key part) ≡ Less → ⊥)
    → (parts : List QuotaPart) → AllBehind key parts → filter_map f parts ≡ []
none_of {X} f key bad [] all = refl
none_of {X} f key bad (part ∷ parts) all = cases (f part) refl (none_of f key bad parts all.1) where
  cases : (o : Option X) → f part ≡ o → filter_map f parts ≡ [] → cons_option o (filter_map f parts) ≡ []
  cases None is rest = rest
  cases (Some x) is rest = absurd (bad part x is all.0)

status_bad : (key : Key) → (key_cmp key (key_with 0 240 0) ≡ Less → ⊥) → (part : QuotaPart) (x : QgroupStatus)
    → status_told part ≡ Some x
    → key_cmp key (quota_key part) ≡ Less → ⊥
status_bad key bad (Status status) x is less = bad less
status_bad key bad (Info group info) x is less = none-some x is
status_bad key bad (Limits group limit) x is less = none-some x is
status_bad key bad (Relation group other) x is less = none-some x is

info_bad : (key : Key) → ((n : ℕ) → key_cmp key (key_with 0 242 n) ≡ Less → ⊥)
    → (part : QuotaPart) (x : ℕ × QgroupInfo) → info_told part ≡ Some x
    → key_cmp key (quota_key part) ≡ Less → ⊥
info_bad key bad (Status status) x is less = none-some x is
info_bad key bad (Info group info) x is less = bad group less
info_bad key bad (Limits group limit) x is less = none-some x is
info_bad key bad (Relation group other) x is less = none-some x is

limit_bad : (key : Key) → ((n : ℕ) → key_cmp key (key_with 0 244 n) ≡ Less → ⊥)
    → (part : QuotaPart) (x : ℕ × QgroupLimit) → limit_told part ≡ Some x
    → key_cmp key (quota_key part) ≡ Less → ⊥
limit_bad key bad (Status status) x is less = none-some x is
limit_bad key bad (Info group info) x is less = none-some x is
limit_bad key bad (Limits group limit) x is less = bad group less
limit_bad key bad (Relation group other) x is less = none-some x is

-- ---- all

no_status : (key : Key) → (key_cmp key (key_with 0 240 0) ≡ Less → ⊥) → (parts : List QuotaPart) → AllBehind key parts
    → filter_map status_told parts ≡ []
no_status key bad parts all = none_of status_told key (status_bad key bad) parts all

no_info : (key : Key) → ((n : ℕ) → key_cmp key (key_with 0 242 n) ≡ Less → ⊥) → (parts : List QuotaPart)
    → AllBehind key parts → filter_map info_told parts ≡ []
no_info key bad parts all = none_of info_told key (info_bad key bad) parts all

no_limit : (key : Key) → ((n : ℕ) → key_cmp key (key_with 0 244 n) ≡ Less → ⊥) → (parts : List QuotaPart)
    → AllBehind key parts → filter_map limit_told parts ≡ []
no_limit key bad parts all = none_of limit_told key (limit_bad key bad) parts all

abbrev statuses_in : List QuotaPart → List QgroupStatus
statuses_in parts = filter_map status_told parts

abbrev infos_in : List QuotaPart → List (ℕ × QgroupInfo)
infos_in parts = filter_map info_told parts

abbrev limits_in : List QuotaPart → List (ℕ × QgroupLimit)
limits_in parts = filter_map limit_told parts

abbrev relations_in : List QuotaPart → List (ℕ × ℕ)
relations_in parts = filter_map relation_told parts

pub whole : (parts : List QuotaPart) → IsSorted parts
    → parts ≡ laid (statuses_in parts) (infos_in parts) (limits_in parts) (relations_in parts)
whole [] up = refl
whole (Status status ∷ parts) up =
    ap (λ (list : List QuotaPart). Status status ∷ list) (whole parts (sorted_later (Status status) parts up))
whole (Info group info ∷ parts) up =
    let behind = sorted_first (Info group info) parts up in
    let no = no_status (key_with 0 242 group) (kind_not 240 242 0 group (lit< tt)) parts behind in
    ap (λ (list : List QuotaPart). Info group info ∷ list) (whole parts (sorted_later (Info group info) parts up))
    ∙ ap (λ (s : List QgroupStatus). Info group info ∷ laid s (infos_in parts) (limits_in parts) (relations_in parts))
    no
    ∙ ap (λ (s : List QgroupStatus). laid s ((group, info) ∷ infos_in parts) (limits_in parts) (relations_in parts))
    (sym no)
whole (Limits group limit ∷ parts) up =
    let behind = sorted_first (Limits group limit) parts up in
    let no = no_status (key_with 0 244 group) (kind_not 240 244 0 group (lit< tt)) parts behind in
    let none = no_info (key_with 0 244 group) (λ n. kind_not 242 244 n group (lit< tt)) parts behind in
    ap (λ (list : List QuotaPart). Limits group limit ∷ list) (whole parts (sorted_later (Limits group limit) parts up))
    ∙ ap (λ (s : List QgroupStatus). Limits group limit ∷ laid s (infos_in parts) (limits_in parts)
    (relations_in parts)) no
    ∙ ap (λ (i : List (ℕ × QgroupInfo)). Limits group limit ∷ laid [] i (limits_in parts) (relations_in parts)) none
    ∙ ap (λ (i : List (ℕ × QgroupInfo)). laid [] i ((group, limit) ∷ limits_in parts) (relations_in parts)) (sym none)
    ∙ ap (λ (s : List QgroupStatus). laid s (infos_in parts) ((group, limit) ∷ limits_in parts) (relations_in parts))
    (sym no)
whole (Relation group other ∷ parts) up =
    let behind = sorted_first (Relation group other) parts up in
    let no = no_status (key_with group 246 other) (relation_not 240 0 group other (lit< tt)) parts behind in
    let none = no_info (key_with group 246 other) (λ n. relation_not 242 n group other (lit< tt)) parts behind in
    let free = no_limit (key_with group 246 other) (λ n. relation_not 244 n group other (lit< tt)) parts behind in
    ap (λ (list : List QuotaPart). Relation group other ∷ list)
    (whole parts (sorted_later (Relation group other) parts up))
    ∙ ap (λ (s : List QgroupStatus). Relation group other ∷ laid s (infos_in parts) (limits_in parts)
    (relations_in parts)) no
    ∙ ap (λ (i : List (ℕ × QgroupInfo)). Relation group other ∷ laid [] i (limits_in parts) (relations_in parts)) none
    ∙ ap (λ (l : List (ℕ × QgroupLimit)). Relation group other ∷ laid [] [] l (relations_in parts)) free
    ∙ ap (λ (l : List (ℕ × QgroupLimit)). laid [] [] l ((group, other) ∷ relations_in parts)) (sym free)
    ∙ ap (λ (i : List (ℕ × QgroupInfo)). laid [] i (limits_in parts) ((group, other) ∷ relations_in parts)) (sym none)
    ∙ ap (λ (s : List QgroupStatus). laid s (infos_in parts) (limits_in parts) ((group, other) ∷ relations_in parts))
    (sym no)

-- the state of quota is told once, where it is told
pub one-status : (parts : List QuotaPart) → IsSorted parts → list_any is_status_part parts ≡ true
    → (status : QgroupStatus) × (filter_map status_told parts ≡ status ∷ [])
one-status [] up some = absurd (true≢false (sym some))
one-status (Status status ∷ parts) up some =
    let behind = sorted_first (Status status) parts up in
    let first = key_with 0 240 0 in (
      status,
      ap (λ (list : List QgroupStatus). status ∷ list)
          (no_status first (λ less. not_both first first less less) parts behind),
    )
one-status (Info group info ∷ parts) up some = one-status parts (sorted_later (Info group info) parts up) some
one-status (Limits group limit ∷ parts) up some = one-status parts (sorted_later (Limits group limit) parts up) some
one-status (Relation group other ∷ parts) up some = one-status parts (sorted_later (Relation group other) parts up) some
