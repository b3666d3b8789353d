-- Tellings that turn one count of ways into another.
use Rattle.std.proofs.Common.{◌≡◌, ℕ, ◌+◌, ◌-◌, ◌<◌, ◌≤◌, List, [], ◌∷◌, ◌++◌, append_assoc, arith, refl, sym, ap}
use Rattle.std.proofs.Common.{subst, ◌∙◌, inl, inr, Option}
use Rattle.std.specs.Prelude.{◌⊎◌, IsTrue}
use Rattle.std.specs.List.{All, sum_by}
use Rattle.std.proofs.lemmas.List.Elements.{All-append, All-nil}
use Rattle.std.proofs.lemmas.List.Sums.{sum_by-append, sum_by-cons}
use Rattle.qg_node.specs.declared.node.Node.{Node}
use Rattle.qg_node.specs.Nodes.{header_of}
use Rattle.qg_space.specs.Holding.{is_free_slot}
use Rattle.qg_node_alloc.specs.declared.ground.Ground.{Ground}
use Rattle.qg_node_alloc.specs.Tellings.{Telling}
use Rattle.qg_node_alloc.specs.Tellings.Telling.{Copied, Made, Left}
use Rattle.qg_tree_edits.specs.Counting.{IsAsWas, IsBare, IsTimely, IsTold, IsUnheld, Turns, copied_in, gains, left_in}
use Rattle.qg_tree_edits.specs.Counting.{losses, made_in}
use Rattle.qg_tree_edits.proofs.Downward.{IsClosed, downward-append, downward-framed, downward-same, lost-known}
use Rattle.qg_tree_edits.proofs.Downward.{timely-few}
use Rattle.qg_tree_edits.proofs.Reached.{either-some}
use Rattle.qg_tree_edits.proofs.Ways.{one-here}

-- ---- one telling

timely_same : (telling : Telling) (count other : ℕ → ℕ) → ((q : ℕ) → other q ≡ count q) → IsTimely telling count
    → IsTimely telling other
timely_same (Copied node copy) count other same timely =
    let some = timely.0 in
    let none = timely.1 in
    let a = same (header_of node).address in
    let b = same copy in
    (omega (arith, some, a), omega (arith, none, b))
timely_same (Made address) count other same timely = let a = same address in omega (arith, timely, a)
timely_same (Left node) count other same timely = let a = same (header_of node).address in omega (arith, timely, a)

-- what else is counted is not where a node comes
timely_framed : (telling : Telling) (count more : ℕ → ℕ) → ((q : ℕ) → 0 < gains telling q → more q ≡ 0)
    → IsTimely telling count → IsTimely telling (λ q. count q + more q)
timely_framed (Copied node copy) count more apart timely =
    let some = timely.0 in
    let none = timely.1 in
    let here = one-here copy copy refl in
    let b = apart copy (omega (arith, here)) in
    (omega (arith, some), omega (arith, none, b))
timely_framed (Made address) count more apart timely =
    let here = one-here address address refl in
    let b = apart address (omega (arith, here)) in
    omega (arith, timely, b)
timely_framed (Left node) count more apart timely = omega (arith, timely)

-- ---- tellings

-- four in a row
pub four-in-row : (log first second third fourth : List Telling) → (((log ++ first) ++ second) ++ third)
    ++ fourth ≡ log ++ (first ++ (second ++ (third ++ fourth)))
four-in-row log first second third fourth =
    append_assoc ((log ++ first) ++ second) third fourth
    ∙ append_assoc (log ++ first) second (third ++ fourth)
    ∙ append_assoc log first (second ++ (third ++ fourth))

pub turns-same : (tellings : List Telling) (before other after : ℕ → ℕ) → ((q : ℕ) → other q ≡ before q)
    → Turns before tellings after → Turns other tellings after
turns-same [] before other after same turns = λ q. turns q ∙ sym (same q)
turns-same (telling ∷ tellings) before other after same turns = (
  timely_same telling before other same turns.0,
  turns-same tellings (λ q. (before q + gains telling q) - losses telling q)
      (λ q. (other q + gains telling q) - losses telling q) after
      (λ q. ap (λ (n : ℕ). (n + gains telling q) - losses telling q) (same q)) turns.1,
)

pub turns-into : (tellings : List Telling) (before after other : ℕ → ℕ) → ((q : ℕ) → other q ≡ after q)
    → Turns before tellings after → Turns before tellings other
turns-into [] before after other same turns = λ q. same q ∙ turns q
turns-into (telling ∷ tellings) before after other same turns =
    (turns.0, turns-into tellings (λ q. (before q + gains telling q) - losses telling q) after other same turns.1)

pub turns-append : (first later : List Telling) (before between after : ℕ → ℕ) → Turns before first between
    → Turns between later after → Turns before (first ++ later) after
turns-append [] later before between after turns then = turns-same later between before after (λ q. sym (turns q)) then
turns-append (telling ∷ first) later before between after turns then = (
  turns.0,
  turns-append first later (λ q. (before q + gains telling q) - losses telling q) between after turns.1
      then,
)

-- the same with more counted, where none of it is at an address where a node comes
pub turns-framed : (tellings : List Telling) (before after more : ℕ → ℕ)
    → ((q : ℕ) → 0 < sum_by (λ telling. gains telling q) tellings → more q ≡ 0)
    → Turns before tellings after → Turns (λ q. before q + more q) tellings (λ q. after q + more q)
turns-framed [] before after more apart turns = λ q. ap (λ (n : ℕ). n + more q) (turns q)
turns-framed (telling ∷ tellings) before after more apart turns =
    let sum = λ (q : ℕ). sum_by-cons (λ (t : Telling). gains t q) telling tellings in
    let then = turns-framed tellings (λ q. (before q + gains telling q) - losses telling q) after more
    (λ q some. apart q (let s = sum q in omega (arith, s, some))) turns.1 in (
      timely_framed telling before more (λ q some. apart q (let s = sum q in omega (arith, s, some))) turns.0,
      turns-same tellings (λ q. ((before q + gains telling q) - losses telling q) + more q)
          (λ q. ((before q + more q) + gains telling q) - losses telling q) (λ q. after q + more q)
          (λ q. let few = timely-few telling before q turns.0 in omega (arith, few)) then,
    )

-- ---- what a book was told

module _ (old : Ground) (nodes clean : ℕ → Option Node) (Reached : ℕ → Type 0) where
  pub told-none : (before after : ℕ → ℕ) → ((q : ℕ) → after q ≡ before q)
      → IsTold old nodes clean Reached before after 0 0 0 []
  told-none before after same = record {
    turns = same;
    down = tt;
    new = λ q some. absurd (omega (arith, some));
    as_was = All-nil (IsAsWas nodes);
    bare = All-nil IsBare;
    unheld = All-nil (IsUnheld old.space.held_slots);
    few_come = omega arith;
    few_left = omega arith;
    few_made = omega arith;
  }

  pub told-same : (before other after then : ℕ → ℕ) (come left made : ℕ) (tellings : List Telling)
      → ((q : ℕ) → other q ≡ before q) → ((q : ℕ) → then q ≡ after q)
      → IsTold old nodes clean Reached before after come left made tellings
      → IsTold old nodes clean Reached other then come left made tellings
  told-same before other after then come left made tellings same same_then told = record {
    turns = turns-into tellings other after then same_then (turns-same tellings before other after same told.turns);
    down = downward-same clean tellings before other same told.down;
    new = told.new;
    as_was = told.as_was;
    bare = told.bare;
    unheld = told.unheld;
    few_come = told.few_come;
    few_left = told.few_left;
    few_made = told.few_made;
  }

  pub told-more : (before after : ℕ → ℕ) (come left made come' left' made' : ℕ) (tellings : List Telling)
      → come ≤ come' → left ≤ left' → made ≤ made'
      → IsTold old nodes clean Reached before after come left made tellings
      → IsTold old nodes clean Reached before after come' left' made' tellings
  told-more before after come left made come' left' made' tellings a b c told = record {
    turns = told.turns;
    down = told.down;
    new = told.new;
    as_was = told.as_was;
    bare = told.bare;
    unheld = told.unheld;
    few_come = let few = told.few_come in omega (arith, few, a);
    few_left = let few = told.few_left in omega (arith, few, b);
    few_made = let few = told.few_made in omega (arith, few, c);
  }

  -- no more nodes came than these
  pub told-come : (before after : ℕ → ℕ) (come left made come' : ℕ) (tellings : List Telling)
      → sum_by copied_in tellings + sum_by made_in tellings ≤ come'
      → IsTold old nodes clean Reached before after come left made tellings
      → IsTold old nodes clean Reached before after come' left made tellings
  told-come before after come left made come' tellings few told = record {
    turns = told.turns;
    down = told.down;
    new = told.new;
    as_was = told.as_was;
    bare = told.bare;
    unheld = told.unheld;
    few_come = few;
    few_left = told.few_left;
    few_made = told.few_made;
  }

  -- the same with more counted, which leads on to nothing else, where none of it is at an address where a node comes or
  -- that a way is lost to
  pub told-framed : (before after more : ℕ → ℕ) (come left made : ℕ) (tellings : List Telling)
      → IsClosed clean more
      → ((q : ℕ) → 0 < sum_by (λ telling. losses telling q) tellings → more q ≡ 0)
      → ((q : ℕ) → 0 < sum_by (λ telling. gains telling q) tellings → more q ≡ 0)
      → IsTold old nodes clean Reached before after come left made tellings
      → IsTold old nodes clean Reached (λ q. before q + more q) (λ q. after q + more q) come left made tellings
  told-framed before after more come left made tellings closed lost apart told = record {
    turns = turns-framed tellings before after more apart told.turns;
    down = downward-framed clean tellings before after more closed lost told.turns told.down;
    new = told.new;
    as_was = told.as_was;
    bare = told.bare;
    unheld = told.unheld;
    few_come = told.few_come;
    few_left = told.few_left;
    few_made = told.few_made;
  }

  -- so where none of it is where ways led before, at a slot that was free or at an address that was reached
  pub told-apart : (before after more : ℕ → ℕ) (come left made : ℕ) (tellings : List Telling)
      → IsClosed clean more → ((q : ℕ) → 0 < before q → more q ≡ 0)
      → ((q : ℕ) → IsTrue (is_free_slot old.space q) ⊎ Reached q → more q ≡ 0)
      → IsTold old nodes clean Reached before after come left made tellings
      → IsTold old nodes clean Reached (λ q. before q + more q) (λ q. after q + more q) come left made tellings
  told-apart before after more come left made tellings closed none apart told =
      let came = λ (q : ℕ) (some : 0 < sum_by (λ (t : Telling). gains t q) tellings). apart q (told.new q some) in
      told-framed before after more come left made tellings closed
      (lost-known tellings before after (λ q. more q ≡ 0) told.turns none came) came told

  -- told of a part of it, or later
  pub told-within : (part : Ground) (Part : ℕ → Type 0) (before after : ℕ → ℕ) (come left made : ℕ)
      (tellings : List Telling) → part.space.held_slots ≡ old.space.held_slots
      → ((q : ℕ) → IsTrue (is_free_slot part.space q) ⊎ Part q → IsTrue (is_free_slot old.space q) ⊎ Reached q)
      → IsTold part nodes clean Part before after come left made tellings
      → IsTold old nodes clean Reached before after come left made tellings
  told-within part Part before after come left made tellings held within told = record {
    turns = told.turns;
    down = told.down;
    new = λ q some. within q (told.new q some);
    as_was = told.as_was;
    bare = told.bare;
    unheld = subst (λ (slots : List ℕ). All (IsUnheld slots) tellings) held told.unheld;
    few_come = told.few_come;
    few_left = told.few_left;
    few_made = told.few_made;
  }

  -- one after the other
  pub told-append : (before between after : ℕ → ℕ) (come left made come' left' made' : ℕ)
      (first later : List Telling)
      → IsTold old nodes clean Reached before between come left made first
      → IsTold old nodes clean Reached between after come' left' made' later
      → IsTold old nodes clean Reached before after (come + come') (left + left') (made + made') (first ++ later)
  told-append before between after come left made come' left' made' first later told then = record {
    turns = turns-append first later before between after told.turns then.turns;
    down = downward-append clean first later before between told.turns told.down then.down;
    new = λ q some.
        let sum = sum_by-append (λ (t : Telling). gains t q) first later in
        elim (either-some (sum_by (λ (t : Telling). gains t q) first) (sum_by (λ (t : Telling). gains t q) later)
        (omega (arith, sum, some))) [
          | inl early ↦ told.new q early
          | inr late ↦ then.new q late
        ];
    as_was = All-append (IsAsWas nodes) first later told.as_was then.as_was;
    bare = All-append IsBare first later told.bare then.bare;
    unheld = All-append (IsUnheld old.space.held_slots) first later told.unheld then.unheld;
    few_come =
        let a = told.few_come in
        let b = then.few_come in
        let copied = sum_by-append copied_in first later in
        let anew = sum_by-append made_in first later in
        omega (arith, a, b, copied, anew);
    few_left = let a = told.few_left in let b = then.few_left in let sum = sum_by-append left_in first later in omega
        (arith, a, b, sum);
    few_made = let a = told.few_made in let b = then.few_made in let sum = sum_by-append made_in first later in omega
        (arith, a, b, sum);
  }
