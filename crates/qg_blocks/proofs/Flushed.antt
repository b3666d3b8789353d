-- Fresh nodes that are written one after the other, in any order.
use Rattle.std.proofs.Common.{◌≡◌, ◌≢◌, ◌⊎◌, ℕ, zero, suc, ◌+◌, ◌<◌, inl, inr, get_or, true, false, Bool, cond, List}
use Rattle.std.proofs.Common.{[], ◌∷◌, length, arith, refl, sym, ap, ◌∙◌}
use Rattle.std.proofs.lemmas.Bool.{cases_lt}
use Rattle.std.proofs.lemmas.Bool.Decides.{eqb_tells}
use Rattle.std.specs.Prelude.{Option, Some, None, IsSome, slice_index}
use Rattle.std.specs.Ordering.{nat_cmp}
use Rattle.std.specs.BTreeMap.{is_at}
use Rattle.std.specs.Map.{keys_of, lookup}
use Rattle.qg_device.specs.History.{History}
use Rattle.qg_node.specs.declared.node.Node.{Node}
use Rattle.qg_blocks.specs.NodesInMemory.{Draft}
use Rattle.qg_blocks.specs.NodesFound.{IsNodeAt, fresh_at}
use Rattle.qg_blocks.specs.Writing.{ArePlaced, AreWritten, HasFlushed, HasWritten}
use Rattle.qg_blocks.proofs.Telling.{is_at-same, same_by}
use Rattle.qg_blocks.proofs.Written.{Keeps-fewer, Keeps-then}

pub HasFlushed-none : (draft : Draft) (history : History) (Q : ℕ → Type 0) → ((address : ℕ) → Q address → ⊥)
    → HasFlushed draft history history Q
HasFlushed-none draft history Q none = record {
  here = λ address node is fresh. absurd (none address is);
  others = λ later told. (later, told, λ at is. refl);
}

-- one node more
pub HasFlushed-more : (draft : Draft) (before mid after : History) (P Q : ℕ → Type 0) (address : ℕ)
    (node : Node) → fresh_at draft address ≡ Some node
    → ((at : ℕ) → Q at → P at ⊎ (at ≡ address)) → HasFlushed draft before mid P
    → HasWritten draft.sizes mid after address node → HasFlushed draft before after Q
HasFlushed-more draft before mid after P Q address node fresh cases flushed written = record {
  here = λ at kept is kept_is later told. elim (eqb_tells at address) [
    | inl (yes', there) ↦ let same : kept ≡ node = let e = sym (rw there at kept_is) ∙ fresh in cc in
        rw (there, same) (written.here later told)
    | inr (no', other) ↦
        let was = written.others later told in
        let before' : P at = elim (cases at is) [ inl is' ↦ is' | inr there ↦ absurd (other there) ] in
        was.2 at other ∙ flushed.here at kept before' kept_is was.0 was.1
  ];
  others = Keeps-then draft.sizes before mid after (λ at. fresh_at draft at ≡ None) flushed.others
      (Keeps-fewer draft.sizes mid after (λ at. at ≢ address) (λ at. fresh_at draft at ≡ None)
      (λ at none there. let none' = rw there at none in let e = sym none' ∙ fresh in cc) written.others);
}

-- all of them
pub AreWritten-flushed : (draft : Draft) (before after : History) (Q : ℕ → Type 0)
    → HasFlushed draft before after Q
    → ((address : ℕ) (node : Node) → fresh_at draft address ≡ Some node → Q address)
    → ((address : ℕ) (node : Node) → fresh_at draft address ≡ Some node → IsNodeAt draft.sizes.nodesize address node)
    → AreWritten draft after
AreWritten-flushed draft before after Q flushed all kept = record {
  stands = λ address node fresh. flushed.here address node (all address node fresh) fresh;
  kept = kept;
}

pub ArePlaced-kept : (draft : Draft) (bytes : ℕ) → ArePlaced draft bytes → (address : ℕ) (node : Node)
    → fresh_at draft address ≡ Some node
    → IsNodeAt draft.sizes.nodesize address node
ArePlaced-kept draft bytes placed address node fresh = (placed.each address node fresh).kept

-- ---- the addresses of fresh nodes, as `dirty` lists them

-- the address is one of the first so many of a list
abbrev pub IsAmong : List ℕ → ℕ → ℕ → Type 0
IsAmong addresses count at = (k : ℕ) × (k < count) × (slice_index addresses k ≡ at)

pub among-none : (addresses : List ℕ) (at : ℕ) → IsAmong addresses 0 at → ⊥
among-none addresses at is = let low = is.1 in absurd (omega arith)

pub among-next : (addresses : List ℕ) (count at : ℕ) → IsAmong addresses (count + 1) at → IsAmong addresses count at
    ⊎ (at ≡ slice_index addresses count)
among-next addresses count at is = let low = is.1 in elim (cases_lt is.0 count) [
  | inl less ↦ inl (is.0, less, is.2)
  | inr more ↦ let last : is.0 ≡ count = omega arith in inr (sym is.2 ∙ ap (slice_index addresses) last)
]

-- the address of each is listed
pub key-listed : (es : List (ℕ × Node)) (address : ℕ) (node : Node) → lookup (is_at (nat_cmp address)) es ≡ Some node
    → IsAmong (keys_of es) (length (keys_of es)) address
key-listed [] address node is = cc
key-listed (e ∷ es) address node is =
    (elim (is_at (nat_cmp address) e.0) as (λ b. is_at (nat_cmp address) e.0 ≡ b
    → IsAmong (keys_of (e ∷ es)) (length (keys_of (e ∷ es))) address) [
      | true ↦ λ at. (0, omega arith, sym (same_by address e.0 (nat_cmp address e.0) refl at))
      | false ↦ λ at. let rest = key-listed es address node (rw at at is) in
          (suc rest.0, (let low = rest.1 in omega arith), rest.2)
    ]) refl

-- and each that is listed is that of one
key_fresh : (es : List (ℕ × Node)) (k : ℕ) → k < length (keys_of es)
    → IsSome (lookup (is_at (nat_cmp (slice_index (keys_of es) k))) es)
key_fresh [] k below = absurd (omega arith)
key_fresh (e ∷ es) zero below = let here = is_at-same e.0 in rw here refl
key_fresh (e ∷ es) (suc k) below = either (is_at (nat_cmp (slice_index (keys_of es) k)) e.0)
    (lookup (is_at (nat_cmp (slice_index (keys_of es) k))) es) e.1 (key_fresh es k (omega arith))
  where
    either : (b : Bool) (o : Option Node) (node : Node) → IsSome o → IsSome (cond b (Some node) o)
    either true o node some = refl
    either false o node some = some

pub some-is : (o : Option Node) → IsSome o → (node : Node) × (o ≡ Some node)
some-is None some = cc
some-is (Some node) some = (node, refl)

pub listed-fresh : (draft : Draft) (addresses : List ℕ) (k : ℕ) → addresses ≡ keys_of draft.fresh → k < length addresses
    → IsSome (fresh_at draft (slice_index addresses k))
listed-fresh draft addresses k are below =
    let low : k < length (keys_of draft.fresh) = omega (arith, below, ap length are) in
    rw are (key_fresh draft.fresh k low)

-- the item of a loop over a list
pub item-is : (xs : List ℕ) (k item : ℕ) → k < length xs → item ≡ get_or xs k item → item ≡ slice_index xs k
item-is xs k item below is = is ∙ same_item xs k item below
  where
    same_item : (xs : List ℕ) (k d : ℕ) → k < length xs → get_or xs k d ≡ slice_index xs k
    same_item [] k d below = absurd (omega arith)
    same_item (x ∷ xs) zero d below = refl
    same_item (x ∷ xs) (suc k) d below = same_item xs k d (omega arith)
