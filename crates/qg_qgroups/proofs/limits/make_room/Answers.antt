use Rattle.std.proofs.Common.{◌≡◌, ℕ, ◌+◌, ◌<◌, true, List, length, take, get_or, Some, None, ap, sym, subst, ◌∙◌}
use Rattle.std.proofs.Common.{arith, rules}
use Rattle.std.specs.Prelude.{IsTrue, is_some}
use Rattle.std.specs.List.{All}
use Rattle.std.specs.BTreeMap.{Updates, get}
use Rattle.std.specs.Ordering.{nat_cmp}
use Rattle.std.proofs.lemmas.List.{take_all}
use Rattle.std.proofs.lemmas.List.Elements.{All-more, All-weaker}
use Rattle.qg_image.specs.Table.{has_key}
use Rattle.qg_qgroups.proofs.MapsByNumber.{got_at, listed_now, listed_still}
use Rattle.qg_qgroups.proofs.HeldBytes.{room_made}
use Rattle.qg_qgroups.proofs.limits.make_room.Goals as goal
use Rattle.qg_qgroups.proofs.limits.make_room.Goals.{then-not-contains_key+in_ok-insert, else-not-contains_key}

-- the next group of the path has an entry too
now_there : (path : List ℕ) (i named : ℕ) (entries : List (ℕ × ℕ)) → i < length path → named ≡ get_or path i named
    → All (λ group. IsTrue (has_key group entries)) (take i path) → has_key named entries ≡ true
    → All (λ group. IsTrue (has_key group entries)) (take (i + 1) path)
now_there path i named entries inside is there has =
    All-more (λ (group : ℕ). IsTrue (has_key group entries)) path i named inside there
    (subst (λ (group : ℕ). has_key group entries ≡ true) is has)

pub loop-group-preserved : goal.loop-group-preserved
loop-group-preserved c = elim c.if-not-contains_key.branch [
  | then-not-contains_key+in_ok-insert w ↦
      let old = c.loop-group.held in
      let new = w.insert.new.self in
      let named = c.group-item.result in
      let sets : Updates nat_cmp old new named (Some 0) =
      subst (λ (k : ℕ). Updates nat_cmp old new k (Some 0)) w.number-then-not-contains_key.ensures
      w.in_ok-insert.ensures.updates in
      let none : get nat_cmp old named ≡ None = search rules in
      let kept = All-weaker (λ (group : ℕ). IsTrue (has_key group old.entries))
      (λ (group : ℕ). IsTrue (has_key group new.entries))
      (λ group. listed_still old new named 0 sets group) (take c.loop-group.group-index c.args.path.now)
      c.loop-group.invariant.there in
      rw w.held-is record {
        there = now_there c.args.path.now c.loop-group.group-index named new.entries c.loop-group-test.true
            c.group-item.is kept (listed_now old new named 0 sets);
        same = λ group. room_made old new named sets none group ∙ c.loop-group.invariant.same group;
      }
  | else-not-contains_key w ↦
      let old = c.loop-group.held in
      let named = c.group-item.result in
      let has : has_key named old.entries ≡ true = ap is_some (got_at old named)
      ∙ ap (λ (k : ℕ). is_some (get nat_cmp old k)) (sym c.number.ensures) ∙ sym c.contains_key.ensures
      ∙ w.if-not-contains_key.false in
      rw w.held-is record {
        there = now_there c.args.path.now c.loop-group.group-index named old.entries c.loop-group-test.true
            c.group-item.is c.loop-group.invariant.there has;
        same = c.loop-group.invariant.same;
      }
]

pub returns-clause-there : goal.returns-clause-there
returns-clause-there c =
    let all = take_all c.loop-group.group-index c.args.path.now (omega arith) in
    subst (λ (path : List ℕ). All (λ group. IsTrue (has_key group c.loop-group.held.entries)) path) all
    c.loop-group.invariant.there
