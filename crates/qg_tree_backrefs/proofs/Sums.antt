-- Books that get heavier one after the other.
use Rattle.std.proofs.Common.{ℕ, ◌+◌, ◌≤◌, List, arith, refl, ap, ◌∙◌}
use Rattle.qg_refs.specs.declared.kept.Kept.{Kept}
use Rattle.qg_weighed.specs.Weight.{weight_of}
use Rattle.qg_tree_backrefs.specs.declared.tree_refs.TreeRefs.{TreeRefs}
use Rattle.qg_tree_backrefs.specs.Heavier.{BookGetsHeavier, GetsHeavier}

pub GetsHeavier-most : (old new : List (ℕ × Kept)) (few most : ℕ) → few ≤ most → GetsHeavier old new few
    → GetsHeavier old new most
GetsHeavier-most old new few most less heavier = record {
  weighs = λ held. let by = heavier.weighs held in omega (arith, by, less);
}

pub BookGetsHeavier-most : (old new : TreeRefs) (few most : ℕ) → few ≤ most → BookGetsHeavier old new few
    → BookGetsHeavier old new most
BookGetsHeavier-most old new few most less heavier = record {
  held = heavier.held;
  heavier = GetsHeavier-most old.refs new.refs few most less heavier.heavier;
}

pub BookGetsHeavier-same : (book : TreeRefs) → BookGetsHeavier book book 0
BookGetsHeavier-same book = record { held = refl; heavier = record { weighs = λ held. omega arith } }

pub BookGetsHeavier-then : (old mid new : TreeRefs) (first second : ℕ) → BookGetsHeavier old mid first
    → BookGetsHeavier mid new second → BookGetsHeavier old new (first + second)
BookGetsHeavier-then old mid new first second before after = record {
  held = after.held ∙ before.held;
  heavier = record {
    weighs = λ held.
        let front = before.heavier.weighs held in
        let back = after.heavier.weighs held in
        omega (arith, front, back);
  };
}

-- with what the last commit recorded of it
pub held-heavier : (old new : TreeRefs) (most : ℕ) → BookGetsHeavier old new most
    → weight_of new.held new.refs ≤ weight_of old.held old.refs + most
held-heavier old new most heavier =
    let same = ap (λ (held : List (ℕ × Kept)). weight_of held new.refs) heavier.held in
    let by = heavier.heavier.weighs old.held in
    omega (arith, same, by)
