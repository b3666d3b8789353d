-- How far a commit came that writes both places, p and behind it q, of n bytes each: what the image of a crash holds
-- there. Before, the places held the bytes a and b; it writes t at p and u at q.
use Rattle.std.proofs.Common.{◌≡◌, ◌∙◌, ◌⊎◌, inl, inr, ℕ, ◌+◌, ◌≤◌, ◌<◌, max, List, [], ◌∷◌, length, refl, sym, ap}
use Rattle.std.proofs.Common.{subst, arith}
use Rattle.qg_device.specs.History.{Event, Wrote, Tore, Synced, content, range}
use Rattle.qg_device.specs.Crash.{Torn, Leaves}
use Rattle.qg_device.specs.LastWrite.{Rewriting, last_rewriting}
use Rattle.qg_crashes.specs.Committing.{IsFrontOfEvents}
use Rattle.qg_crashes.proofs.LastWrites.{IsRewriting-newest}
use Rattle.qg_crashes.proofs.Places.{Holds, Settled, Settled-content, Settled-synced, second_stays, first_stays}
use Rattle.qg_crashes.proofs.Places.{Holds-first, Holds-second}

-- neither place is being written
pub record IsEarly (p q n k : ℕ) (a b : List ℕ) (h : List Event) (image : List ℕ) : Type 0 where
  pub moment : length h ≤ k + 1
  pub holds : Holds p q n a b image

-- the first is being written
pub record IsMiddle (p q n since k : ℕ) (a b t : List ℕ) (h : List Event) (image : List ℕ) : Type 0 where
  pub moment : length h ≡ k + 2
  pub at_second : range q n image ≡ b
  pub rewriting : last_rewriting p n since h ≡ record { old = a; new = t }

-- the first has been made sure of
pub record IsLate (p q n since k : ℕ) (b t u : List ℕ) (h : List Event) (image : List ℕ) : Type 0 where
  pub moment : k + 3 ≤ length h
  pub at_first : range p n image ≡ t
  pub at_second : (range q n image ≡ b)
      ⊎ ((range q n image ≡ u) ⊎ (last_rewriting q n since h ≡ record { old = b; new = u }))

-- one of the three
abbrev pub Stage : (p q n since k : ℕ) (a b t u : List ℕ) → List Event → List ℕ → Type 0
Stage p q n since k a b t u h image = IsEarly p q n k a b h image
    ⊎ (IsMiddle p q n since k a b t h image ⊎ IsLate p q n since k b t u h image)

-- a write of the bytes, done or failed
abbrev pub IsWriteOf : ℕ → List ℕ → Event → Type 0
IsWriteOf place bytes event = (event ≡ Wrote place bytes)
    ⊎ ((left : List ℕ) × (length left ≤ length bytes) × (event ≡ Tore place bytes left))

-- what it may leave of an image that a crash before it may leave
pub write_leaves : (place : ℕ) (bytes : List ℕ) (event : Event) (older : List Event) (image : List ℕ)
    → IsWriteOf place bytes event → Leaves (event ∷ older) image
    → (old : List ℕ) × Leaves older old × Torn place (length bytes) old image
write_leaves place bytes event older image (inl is) left =
    let said = subst (λ (e : Event). Leaves (e ∷ older) image) is left in (said.0, said.1, said.2)
write_leaves place bytes event older image (inr fails) left =
    let said = subst (λ (e : Event). Leaves (e ∷ older) image) fails.2 left in
    let same : max (length bytes) (length fails.0) ≡ length bytes = omega (arith, fails.1) in
    (said.0, said.1, subst (λ (m : ℕ). Torn place m said.0 image) same said.2)

-- the old and the new bytes of its place
pub write_rewrites : (place n since : ℕ) (bytes held : List ℕ) (event : Event) (older : List Event)
    → IsWriteOf place bytes event → length bytes ≡ n → 0 < n
    → since ≤ length older → range place n (content older) ≡ held
    → last_rewriting place n since (event ∷ older) ≡ record { old = held; new = bytes }
write_rewrites place n since bytes held event older is long some later holds =
    let made = IsRewriting-newest place since bytes older (omega arith) later in
    let before : range place (length bytes) (content older) ≡ held = ap (λ (m : ℕ). range place m (content older)) long
    ∙ holds in
    let with_old : List ℕ → Rewriting = λ old. record { old = old; new = bytes } in
    let said : last_rewriting place (length bytes) since (event ∷ older)
    ≡ record { old = range place (length bytes) (content older); new = bytes } =
    elim is [
      | inl done ↦ ap (λ (e : Event). last_rewriting place (length bytes) since (e ∷ older)) done ∙ made.done
      | inr fails ↦ ap (λ (e : Event). last_rewriting place (length bytes) since (e ∷ older)) fails.2
          ∙ made.failed fails.0
    ] in
    sym (ap (λ (m : ℕ). last_rewriting place m since (event ∷ older)) long) ∙ said ∙ ap with_old before

pub early_stage : (p q n since k : ℕ) (a b t u : List ℕ) (h : List Event) (image : List ℕ) → length h ≤ k + 1
    → Settled p q n a b h → Leaves h image
    → Stage p q n since k a b t u h image
early_stage p q n since k a b t u h image moment settled left =
    inl (record { moment = moment; holds = settled.each image left })

-- a write of the first place, behind events after which both places are as they were
middle_stage : (p q n since k : ℕ) (a b t u : List ℕ) (event : Event) (older : List Event) (image : List ℕ)
    → IsWriteOf p t event → length t ≡ n → 0 < n
    → since ≤ length older → length older ≡ k + 1 → Settled p q n a b older → Leaves (event ∷ older) image
    → Stage p q n since k a b t u (event ∷ older) image
middle_stage p q n since k a b t u event older image is long some later moment settled left =
    let said = write_leaves p t event older image is left in
    inr (inl (record {
      moment = omega arith;
      at_second = second_stays p q n (length t) a b said.0 image long said.2 (settled.each said.0 said.1);
      rewriting = write_rewrites p n since t a event older is long some later
          (Settled-content p q n a b older settled).at_first;
    }))

-- a write of the second place, behind events after which the first is as it is to be
late_stage : (p q n since k : ℕ) (a b t u : List ℕ) (event : Event) (older : List Event) (image : List ℕ)
    → IsWriteOf q u event → length u ≡ n → 0 < n
    → since ≤ length older → k + 3 ≤ length older → Settled p q n t b older → Leaves (event ∷ older) image
    → Stage p q n since k a b t u (event ∷ older) image
late_stage p q n since k a b t u event older image is long some later moment settled left =
    let said = write_leaves q u event older image is left in
    inr (inr (record {
      moment = omega arith;
      at_first = first_stays p q n (length u) t b said.0 image long said.2 (settled.each said.0 said.1);
      at_second = inr (inr (write_rewrites q n since u b event older is long some later
          (Settled-content p q n t b older settled).at_second));
    }))

-- both places are as they are to be, or the first is
first_stage : (p q n since k : ℕ) (a b t u : List ℕ) (h : List Event) (image : List ℕ) → k + 3 ≤ length h
    → Settled p q n t b h → Leaves h image
    → Stage p q n since k a b t u h image
first_stage p q n since k a b t u h image moment settled left =
    let holds = settled.each image left in
    inr (inr (record { moment = moment; at_first = holds.at_first; at_second = inl holds.at_second }))

both_stage : (p q n since k : ℕ) (a b t u : List ℕ) (h : List Event) (image : List ℕ) → k + 3 ≤ length h
    → Settled p q n t u h → Leaves h image
    → Stage p q n since k a b t u h image
both_stage p q n since k a b t u h image moment settled left =
    let holds = settled.each image left in
    inr (inr (record { moment = moment; at_first = holds.at_first; at_second = inr (inl holds.at_second) }))

-- ---- the two places, one after the other, behind events after which both are as they were

-- a stage of some events is one of the same events
same_stage : (p q n since k : ℕ) (a b t u : List ℕ) (events h : List Event) (image : List ℕ) → h ≡ events
    → (Leaves events image → Stage p q n since k a b t u events image) → Leaves h image
    → Stage p q n since k a b t u h image
same_stage p q n since k a b t u events h image is stage left =
    subst (λ (es : List Event). Leaves es image → Stage p q n since k a b t u es image) (sym is) stage left

pub superblock_stage : (p q n since k : ℕ) (a b t u : List ℕ) (events h : List Event) (image : List ℕ) → length t ≡ n
    → length u ≡ n → 0 < n
    → since ≤ length events → length events ≡ k → Settled p q n a b events
    → IsFrontOfEvents (Synced ∷ Wrote p t ∷ Synced ∷ Wrote q u ∷ Synced ∷ []) events h → Leaves h image
    → Stage p q n since k a b t u h image
superblock_stage p q n since k a b t u events h image long_t long_u some later moment settled front =
    let s1 = Synced ∷ events in
    let s2 = Wrote p t ∷ s1 in
    let s3 = Synced ∷ s2 in
    let s4 = Wrote q u ∷ s3 in
    let s5 = Synced ∷ s4 in
    let held = Settled-content p q n a b events settled in
    let held_first = Holds-first p q n t a b (content events) long_t held in
    let held_both = Holds-second p q n u t b (content s3) long_u held_first in
    let settled1 = Settled-synced p q n a b events held in
    let settled3 = Settled-synced p q n t b s2 held_first in
    let settled5 = Settled-synced p q n t u s4 held_both in
    let at_start : Leaves events image → Stage p q n since k a b t u events image =
    early_stage p q n since k a b t u events image (omega arith) settled in
    let at1 : Leaves s1 image → Stage p q n since k a b t u s1 image =
    early_stage p q n since k a b t u s1 image (omega arith) settled1 in
    let at2 : Leaves s2 image → Stage p q n since k a b t u s2 image =
    middle_stage p q n since k a b t u (Wrote p t) s1 image (inl refl) long_t some (omega arith)
    (omega arith) settled1 in
    let at3 : Leaves s3 image → Stage p q n since k a b t u s3 image =
    first_stage p q n since k a b t u s3 image (omega arith) settled3 in
    let at4 : Leaves s4 image → Stage p q n since k a b t u s4 image =
    late_stage p q n since k a b t u (Wrote q u) s3 image (inl refl) long_u some (omega arith) (omega arith) settled3 in
    let at5 : Leaves s5 image → Stage p q n since k a b t u s5 image =
    both_stage p q n since k a b t u s5 image (omega arith) settled5 in
    elim front [
      | inl is ↦ same_stage p q n since k a b t u events h image is at_start
      | inr front1 ↦ elim front1 [
        | inl is ↦ same_stage p q n since k a b t u events h image is at_start
        | inr front2 ↦ elim front2 [
          | inl is ↦ same_stage p q n since k a b t u s1 h image is at1
          | inr front3 ↦ elim front3 [
            | inl fails ↦ same_stage p q n since k a b t u (Tore p t fails.0 ∷ s1) h image fails.2
                (middle_stage p q n since k a b t u (Tore p t fails.0) s1 image (inr (fails.0, fails.1, refl)) long_t
                some (omega arith) (omega arith) settled1)
            | inr front4 ↦ elim front4 [
              | inl is ↦ same_stage p q n since k a b t u s2 h image is at2
              | inr front5 ↦ elim front5 [
                | inl is ↦ same_stage p q n since k a b t u s2 h image is at2
                | inr front6 ↦ elim front6 [
                  | inl is ↦ same_stage p q n since k a b t u s3 h image is at3
                  | inr front7 ↦ elim front7 [
                    | inl fails ↦ same_stage p q n since k a b t u (Tore q u fails.0 ∷ s3) h image fails.2
                        (late_stage p q n since k a b t u (Tore q u fails.0) s3 image (inr (fails.0, fails.1, refl))
                        long_u some (omega arith) (omega arith) settled3)
                    | inr front8 ↦ elim front8 [
                      | inl is ↦ same_stage p q n since k a b t u s4 h image is at4
                      | inr front9 ↦ elim front9 [
                        | inl is ↦ same_stage p q n since k a b t u s4 h image is at4
                        | inr is ↦ same_stage p q n since k a b t u s5 h image is at5
                      ]
                    ]
                  ]
                ]
              ]
            ]
          ]
        ]
      ]
    ]
