-- What stands while the parts of a tree are dropped one after the other.
use Rattle.std.proofs.Common.{◌≡◌, ℕ, zero, suc, ◌<◌, ◌+◌, ◌*◌, ◌≤◌, Bool, List, [], ◌∷◌, length, map}
use Rattle.std.proofs.Common.{arith, refl, sym, ap, subst, ◌∙◌}
use Rattle.std.specs.Prelude.{Err, IsErrAnd, Ok, OnOk, Result}
use Rattle.std.specs.List.{filter}
use Rattle.std.proofs.lemmas.List.Sums.{sum_by-cons}
use Rattle.qg_device.specs.History.{Event, History, Recorded}
use Rattle.qg_num.specs.declared.fault.BlockFault.{BlockFault}
use Rattle.qg_super.specs.Places.{second_place}
use Rattle.qg_image.specs.Table.{has_key}
use Rattle.qg_image.specs.Reach.{distinct, reach_under}
use Rattle.qg_image.specs.State.{State, node_at}
use Rattle.qg_blocks.specs.NodesInMemory.{Held}
use Rattle.qg_blocks.specs.NodesFound.{IsBacked}
use Rattle.qg_node_alloc.specs.declared.ground.Ground.{Ground}
use Rattle.qg_node_alloc.specs.Land.{IsDrafted}
use Rattle.qg_node_alloc.proofs.Lands.{Rests-draft}
use Rattle.qg_weighed.specs.Weight.{weight_of}
use Rattle.qg_tree_backrefs.specs.declared.tree_refs.TreeRefs.{TreeRefs}
use Rattle.qg_tree_edits.specs.Editing.{IsEditable}
use Rattle.qg_tree_backrefs.specs.Heavier.{BookGetsHeavier}
use Rattle.qg_subvolumes.proofs.Resting.{RestsButRuns-same}
use Rattle.qg_subvolumes.specs.declared.child.Child.{Child}
use Rattle.qg_subvolumes.specs.Dropping.{AreParts, HoldsPartly, RestsButRuns, parts_reached, without_part}
use Rattle.qg_subvolumes.specs.Dropping.{without_parts}

-- ---- what a call leaves so

pub rests-still : (land : Ground) (history : History) (bytes generation : ℕ)
    → IsEditable land history bytes generation → RestsButRuns land land history generation
rests-still land history bytes generation editable =
    RestsButRuns-same land history generation editable.backed editable.drafted

pub rests-on : (old mid new : Ground) (before after : History) (generation : ℕ)
    → RestsButRuns old mid before generation → RestsButRuns mid new after generation
    → RestsButRuns old new after generation
rests-on old mid new before after generation first last = record {
  backed = last.backed;
  drafted = last.drafted;
  node_sizes = last.node_sizes ∙ first.node_sizes;
  bound = last.bound ∙ first.bound;
  sizes = last.sizes ∙ first.sizes;
  held_slots = last.held_slots ∙ first.held_slots;
  held_runs = last.held_runs ∙ first.held_runs;
  slots = let before = first.slots in let now = last.slots in omega (arith, before, now);
}

-- reading leaves it so
pub rests-read : (land : Ground) (blocks : Held) (after : History) (generation : ℕ)
    → blocks.draft ≡ land.blocks.draft → blocks.bound ≡ land.blocks.bound → IsBacked blocks after
    → IsDrafted land generation → RestsButRuns land (record land { blocks = blocks }) after generation
rests-read land blocks after generation draft bound backed drafted =
    let rests = Rests-draft land (record land { blocks = blocks }) after generation draft bound refl backed drafted in
    record {
      backed = rests.backed;
      drafted = rests.drafted;
      node_sizes = rests.node_sizes;
      bound = rests.bound;
      sizes = rests.sizes;
      held_slots = rests.held_slots;
      held_runs = rests.held_runs;
      slots = omega arith;
    }

pub edit-still : (land new : Ground) (before after : History) (bytes left generation : ℕ)
    → IsEditable land before bytes generation → left ≡ bytes → RestsButRuns land new after generation
    → IsEditable new after left generation
edit-still land new before after bytes left generation editable size rests = record {
  backed = rests.backed;
  drafted = rests.drafted;
  room = subst (λ (n : ℕ). second_place ≤ n) (sym size) editable.room;
}

-- ---- an answer that is handed on

-- it promises nothing of one that ended well
pub never-ok : {T : Type 0} (result : Result T BlockFault) (fault : BlockFault)
    → IsErrAnd result (λ given. given ≡ fault) → (P : Type 0) → OnOk result P
never-ok (Ok x) fault is P = absurd is
never-ok (Err given) fault is P = tt

-- ---- weights

pub weighs-same : (old new : TreeRefs) (most : ℕ) → new ≡ old → BookGetsHeavier old new most
weighs-same old new most same = record {
  held = ap (λ (book : TreeRefs). book.held) same;
  heavier = record {
    weighs = λ held.
        let equal = ap (λ (book : TreeRefs). weight_of held book.refs) same in omega (arith, equal);
  };
}

pub weighs-on : (old mid new : TreeRefs) (first last : ℕ) → BookGetsHeavier old mid first
    → BookGetsHeavier mid new last → BookGetsHeavier old new (first + last)
weighs-on old mid new first last one two = record {
  held = two.held ∙ one.held;
  heavier = record {
    weighs = λ held.
        let a = one.heavier.weighs held in
        let b = two.heavier.weighs held in
        omega (arith, a, b);
  };
}

pub weighs-most : (old new : TreeRefs) (most more : ℕ) → most ≤ more → BookGetsHeavier old new most
    → BookGetsHeavier old new more
weighs-most old new most more less one = record {
  held = one.held;
  heavier = record { weighs = λ held. let a = one.heavier.weighs held in omega (arith, a, less) };
}

pub times_on : (a b capacity : ℕ) → (a + b) * capacity ≡ a * capacity + b * capacity
times_on a b capacity = omega arith

pub times-some : (n capacity : ℕ) → 0 < n → capacity ≤ n * capacity
times-some zero capacity some = absurd (omega (arith, some))
times-some (suc n) capacity some =
    let one : suc n ≡ 1 + n = omega arith in
    let same = ap (λ (k : ℕ). k * capacity) one in
    let sum = times_on 1 n capacity in
    omega (arith, same, sum)

-- ---- how many nodes parts have

abbrev own_reached : State → ℕ → Child → ℕ
own_reached state level part = length (filter (λ element. has_key element.address state.layout)
    (distinct (reach_under (node_at state.layout) state.sizes.nodesize level part.way.address)))

pub reached-first : (state : State) (level : ℕ) (part : Child) (parts : List Child)
    → parts_reached state level (part ∷ parts)
    ≡ parts_reached state level (part ∷ []) + parts_reached state level parts
reached-first state level part parts =
    let all = sum_by-cons (own_reached state level) part parts in
    let one = sum_by-cons (own_reached state level) part [] in
    omega (arith, all, one)

-- ---- some of the parts were dropped

-- the nodes that are open still, of which the rest are parts; so many nodes were visited
pub record Went (state : State) (sub level capacity : ℕ) (waiting : ℕ → Bool) (parts rest : List Child) (land : Ground)
    (history told : History) (old book : TreeRefs) (before reads : ℕ) : Type 0 where
  pub left : ℕ → Bool
  pub holds : HoldsPartly land history book state sub left
  pub are : AreParts state left level rest
  pub same : without_parts state level (map (λ part. part.way.address) rest) left
      ≡ without_parts state level (map (λ part. part.way.address) parts) waiting
  pub passed : ℕ
  pub counted : passed + parts_reached state level rest ≡ parts_reached state level parts
  pub few : (events : List Event) → told ≡ Recorded events → reads ≤ before + passed
  pub heavier : BookGetsHeavier old book (passed * capacity)

module _ (state : State) (sub level capacity : ℕ) (waiting : ℕ → Bool) (parts : List Child) where
  pub went-none : (land : Ground) (history told : History) (book : TreeRefs) (reads : ℕ)
      → HoldsPartly land history book state sub waiting → AreParts state waiting level parts
      → Went state sub level capacity waiting parts parts land history told book book reads reads
  went-none land history told book reads holds are = record {
    left = waiting;
    holds = holds;
    are = are;
    same = refl;
    passed = 0;
    counted = omega arith;
    few = λ events is. omega arith;
    heavier = weighs-same book book (0 * capacity) refl;
  }

  pub went-on : (part : Child) (rest : List Child) (land new : Ground) (history after told : History)
      (old book next : TreeRefs) (before reads later : ℕ)
      → (went : Went state sub level capacity waiting parts (part ∷ rest) land history told old book before reads)
      → HoldsPartly new after next state sub (without_part state level part.way.address went.left)
      → ((events : List Event) → told ≡ Recorded events → later ≤ reads + parts_reached state level (part ∷ []))
      → BookGetsHeavier book next (parts_reached state level (part ∷ []) * capacity)
      → Went state sub level capacity waiting parts rest new after told old next before later
  went-on part rest land new history after told old book next before reads later went holds more heavier =
      let one = parts_reached state level (part ∷ []) in
      let counted = reached-first state level part rest in
      record {
        left = without_part state level part.way.address went.left;
        holds = holds;
        are = went.are.1;
        same = went.same;
        passed = went.passed + one;
        counted = let all = went.counted in omega (arith, all, counted);
        few = λ events is.
            let a = went.few events is in
            let b = more events is in
            omega (arith, a, b);
        heavier = weighs-most old next (went.passed * capacity + one * capacity) ((went.passed + one) * capacity)
            (let sum = times_on went.passed one capacity in omega (arith, sum))
            (weighs-on old book next (went.passed * capacity) (one * capacity) went.heavier heavier);
      }

  pub went-all : (land : Ground) (history told : History) (old book : TreeRefs) (before reads : ℕ)
      → Went state sub level capacity waiting parts [] land history told old book before reads
      → HoldsPartly land history book state sub
      (without_parts state level (map (λ part. part.way.address) parts) waiting)
  went-all land history told old book before reads went =
      subst (HoldsPartly land history book state sub) went.same went.holds

  pub few-all : (land : Ground) (history told : History) (old book : TreeRefs) (before reads : ℕ)
      → Went state sub level capacity waiting parts [] land history told old book before reads
      → (events : List Event) → told ≡ Recorded events → reads ≤ before + parts_reached state level parts
  few-all land history told old book before reads went events is =
      let a = went.few events is in
      let b = went.counted in
      omega (arith, a, b)

  pub weighs-all : (land : Ground) (history told : History) (old book : TreeRefs) (before reads : ℕ)
      → Went state sub level capacity waiting parts [] land history told old book before reads
      → BookGetsHeavier old book (parts_reached state level parts * capacity)
  weighs-all land history told old book before reads went =
      let same : went.passed ≡ parts_reached state level parts = omega (arith, went.counted) in
      subst (λ (n : ℕ). BookGetsHeavier old book (n * capacity)) same went.heavier

  -- a part that was not dropped whole
  pub few-part : (part : Child) (rest : List Child) (land : Ground) (history told : History)
      (old book : TreeRefs) (before reads later : ℕ)
      → Went state sub level capacity waiting parts (part ∷ rest) land history told old book before reads
      → (events : List Event) → told ≡ Recorded events → later ≤ reads + parts_reached state level (part ∷ [])
      → later ≤ before + parts_reached state level parts
  few-part part rest land history told old book before reads later went events is more =
      let a = went.few events is in
      let b = went.counted in
      let c = reached-first state level part rest in
      omega (arith, a, b, c, more)
