-- The nodes below those that ways lead to, one way after the other.
use Rattle.std.proofs.Common.{◌≡◌, ℕ, ◌+◌, ◌≤◌, List, [], ◌∷◌, length, Some, None, arith, sym, subst}
use Rattle.std.specs.Prelude.{IsSome}
use Rattle.std.specs.List.{All}
use Rattle.std.proofs.lemmas.List.Elements.{All-cons, All-nil}
use Rattle.qg_image.specs.State.{State}
use Rattle.qg_tree_read.specs.Tree.{Root}
use Rattle.qg_tree_read.specs.declared.way.Way.{Way}
use Rattle.qg_image.specs.Walk.{root_expected}
use Rattle.qg_subvolumes.specs.Counting.{LeadsToBranch}
use Rattle.qg_qgroup_counts.specs.declared.surveyed.Surveyed.{Surveyed}
use Rattle.qg_survey.specs.Surveying.{Adds, AreRead, EndBelow, EndTrees, EndsBelow, GoesOn, HasBelow, LeadsOn, link_at}
use Rattle.qg_survey.proofs.Reading.{adds-higher, adds-none, adds-on, still-read}

-- below the nodes that ways lead to all was read
abbrev pub HaveBelow : State → ℕ → List Way → List (ℕ × Surveyed) → Type 0
HaveBelow state level ways links = All (λ (way : Way). HasBelow state level way.address links) ways

-- ways but for a rest were gone, and each node that came was read once
pub record IsSurveyed (state : State) (level : ℕ) (ways rest : List Way) (old new : List (ℕ × Surveyed))
    (before after : ℕ)
    : Type 0 where
  pub read : AreRead state new
  pub adds : Adds level old new
  pub covers : (later : List (ℕ × Surveyed)) → ((q : ℕ) → IsSome (link_at new q) → IsSome (link_at later q))
      → HaveBelow state level rest later → HaveBelow state level ways later
  pub once : after + length old ≤ before + length new

pub surveyed-none : (state : State) (level : ℕ) (ways : List Way) (links : List (ℕ × Surveyed)) (reads : ℕ)
    → AreRead state links → IsSurveyed state level ways ways links links reads reads
surveyed-none state level ways links reads read = record {
  read = read;
  adds = adds-none level links;
  covers = λ later more all. all;
  once = omega arith;
}

pub surveyed-on : (state : State) (level : ℕ) (ways others : List Way) (way : Way) (old mid new : List (ℕ × Surveyed))
    (before then after : ℕ) → IsSurveyed state level ways (way ∷ others) old mid before then
    → GoesOn state level mid new then after → EndsBelow state level way.address mid new then after
    → IsSurveyed state level ways others old new before after
surveyed-on state level ways others way old mid new before then after first goes ends = record {
  read = goes.read;
  adds = adds-on level old mid new first.adds goes.adds;
  covers = λ later more all. first.covers later (λ q some. more q (still-read level mid new goes.adds q some))
      (All-cons (λ (w : Way). HasBelow state level w.address later) way others
      (λ q reaches. more q (ends.below q reaches)) all);
  once = omega (arith, first.once, ends.once);
}

-- where one way more was begun
pub surveyed-stops : (state : State) (level : ℕ) (ways rest : List Way) (old mid new : List (ℕ × Surveyed))
    (before then after : ℕ) → IsSurveyed state level ways rest old mid before then
    → GoesOn state level mid new then after → GoesOn state level old new before after
surveyed-stops state level ways rest old mid new before then after first goes = record {
  read = goes.read;
  adds = adds-on level old mid new first.adds goes.adds;
  once = omega (arith, first.once, goes.once);
}

-- where all were gone
pub surveyed-all : (state : State) (level : ℕ) (ways : List Way) (old new : List (ℕ × Surveyed)) (before after : ℕ)
    → IsSurveyed state level ways [] old new before after
    → GoesOn state level old new before after × EndBelow state level ways old new before after
surveyed-all state level ways old new before after done = (
  record { read = done.read; adds = done.adds; once = omega (arith, done.once) },
  record {
    below = done.covers new (λ q some. some) (All-nil (λ (w : Way). HasBelow state level w.address new));
    once = done.once;
  },
)

-- ---- the trees of subvolumes, one after the other

-- the way to a tree's root leads to a branch
pub tree-leads : (state : State) (tree : Root) → LeadsOn state tree → (height : ℕ) (way : Way) → height ≡ tree.height
    → way.address ≡ tree.address → way.expected ≡ root_expected (Some tree.height) None → LeadsToBranch state height way
tree-leads state tree leads height way high address expected =
    subst (λ (n : ℕ). LeadsToBranch state n way) (sym high) (leads.leads way address expected)

-- all nodes of some trees were read
abbrev pub HaveTrees : State → List Root → List (ℕ × Surveyed) → Type 0
HaveTrees state trees links = All (λ (tree : Root). HasBelow state tree.height tree.address links) trees

-- trees but for a rest were gone, and each node that came was read once
pub record AreGone (state : State) (trees rest : List Root) (old new : List (ℕ × Surveyed))
    (before after : ℕ) : Type 0 where
  pub read : AreRead state new
  pub adds : Adds 7 old new
  pub covers : (later : List (ℕ × Surveyed)) → ((q : ℕ) → IsSome (link_at new q) → IsSome (link_at later q))
      → HaveTrees state rest later → HaveTrees state trees later
  pub once : after + length old ≤ before + length new

pub gone-none : (state : State) (trees : List Root) (links : List (ℕ × Surveyed)) (reads : ℕ) → AreRead state links
    → AreGone state trees trees links links reads reads
gone-none state trees links reads read = record {
  read = read;
  adds = adds-none 7 links;
  covers = λ later more all. all;
  once = omega arith;
}

pub gone-on : (state : State) (trees others : List Root) (tree : Root) (old mid new : List (ℕ × Surveyed))
    (before then after : ℕ) → tree.height ≤ 7 → AreGone state trees (tree ∷ others) old mid before then
    → GoesOn state tree.height mid new then after → EndsBelow state tree.height tree.address mid new then after
    → AreGone state trees others old new before after
gone-on state trees others tree old mid new before then after low first goes ends = record {
  read = goes.read;
  adds = adds-on 7 old mid new first.adds (adds-higher tree.height 7 mid new low goes.adds);
  covers = λ later more all. first.covers later (λ q some. more q (still-read tree.height mid new goes.adds q some))
      (All-cons (λ (t : Root). HasBelow state t.height t.address later) tree others
      (λ q reaches. more q (ends.below q reaches)) all);
  once = omega (arith, first.once, ends.once);
}

-- where one tree more was begun
pub gone-stops : (state : State) (trees rest : List Root) (tree : Root) (old mid new : List (ℕ × Surveyed))
    (before then after : ℕ) → tree.height ≤ 7 → AreGone state trees rest old mid before then
    → GoesOn state tree.height mid new then after → GoesOn state 7 old new before after
gone-stops state trees rest tree old mid new before then after low first goes = record {
  read = goes.read;
  adds = adds-on 7 old mid new first.adds (adds-higher tree.height 7 mid new low goes.adds);
  once = omega (arith, first.once, goes.once, low);
}

-- where all were gone
pub gone-all : (state : State) (trees : List Root) (old new : List (ℕ × Surveyed)) (before after : ℕ)
    → AreGone state trees [] old new before after
    → GoesOn state 7 old new before after × EndTrees state trees old new before after
gone-all state trees old new before after done = (
  record { read = done.read; adds = done.adds; once = omega (arith, done.once) },
  record {
    below = done.covers new (λ q some. some) (All-nil (λ (t : Root). HasBelow state t.height t.address new));
    once = done.once;
  },
)
