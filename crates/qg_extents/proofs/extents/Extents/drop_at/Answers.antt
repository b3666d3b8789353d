use Rattle.std.proofs.Common.{◌≡◌, ◌<◌, ℕ, List, length, Some, None, true, false, ap, sym, subst, ◌∙◌, arith}
use Rattle.std.specs.Prelude.{◌==◌}
use Rattle.std.specs.Option.{option_copied_mut}
use Rattle.std.proofs.lemmas.Bool.Decides.{nat_tests}
use Rattle.qg_refs.specs.declared.kept.Kept.{Kept}
use Rattle.qg_extents.specs.Table.{MayKeep, book_of}
use Rattle.qg_extents.proofs.Tables.{drops-last, found_there, kept_at, lent_put, may_less, nothing_kept, nothing_there}
use Rattle.qg_extents.proofs.Tables.{put-put, table-put}
use Rattle.qg_extents.proofs.extents.Extents.drop_at.Goals as goal

zero_from : (n : ℕ) → (n == 0) ≡ true → n ≡ 0
zero_from n h = grind (arith, nat_tests)

some_from : (n : ℕ) → (n == 0) ≡ false → 0 < n
some_from n h = grind (arith, nat_tests)

pub unreachable-requires : goal.unreachable-requires
unreachable-requires c =
    let there = found_there c.self.inside.table c.value.result c.args.at None c.value.ensures
    (sym (ap option_copied_mut c.in_default.is) ∙ c.get_mut.ensures.value) in
    nothing_there (book_of c.args.self.now c.args.at) c.args.reference.now
    (ap (λ (table : List (ℕ × Kept)). book_of table c.args.at) (sym c.self.view_is) ∙ there) c.requires

pub invariant_of-self : goal.invariant_of-self
invariant_of-self c =
    let m = c.self.inside.table in
    let next = c.drop_from.new.kept in
    let n = c.get_mut.follows.lender next in
    let put = lent_put m n c.value.result c.args.at c.in-Some.kept.now next c.value.ensures c.in-Some.ensures.value
    (c.get_mut.follows.holds next) in
    table-put m.entries c.forget.new.table.entries c.args.at None c.self.invariant c.forget.ensures.ascend
    (put-put (book_of m.entries) (book_of n.entries) (book_of c.forget.new.table.entries) c.args.at
    (Some next) None put c.forget.ensures.gone) nothing_kept

pub returns-then-drop_from : goal.returns-then-drop_from
returns-then-drop_from c =
    let m = c.self.inside.table in
    let kept = c.in-Some.kept.now in
    let next = c.drop_from.new.kept in
    let n = c.get_mut.follows.lender next in
    let put = lent_put m n c.value.result c.args.at kept next c.value.ensures c.in-Some.ensures.value
    (c.get_mut.follows.holds next) in
    let there = found_there m c.value.result c.args.at (Some kept) c.value.ensures c.in-Some.ensures.value in
    rw (sym c.self.view_is)
    (drops-last (book_of m.entries) (book_of c.forget.new.table.entries) c.args.at c.args.reference.now kept
    next.references there
    (put-put (book_of m.entries) (book_of n.entries) (book_of c.forget.new.table.entries) c.args.at
    (Some next) None put c.forget.ensures.gone)
    c.drop_from.ensures.less (zero_from (length next.references) (sym c.drop_from.ensures.last ∙ c.if-drop_from.true)))

pub invariant_of-self-else-drop_from : goal.invariant_of-self-else-drop_from
invariant_of-self-else-drop_from c =
    let m = c.self.inside.table in
    let kept = c.in-Some.kept.now in
    let next = c.drop_from.new.kept in
    let n = c.get_mut.follows.lender next in
    let writes = c.get_mut.follows.holds next in
    let there = found_there m c.value.result c.args.at (Some kept) c.value.ensures c.in-Some.ensures.value in
    table-put m.entries n.entries c.args.at (Some next) c.self.invariant writes.4
    (lent_put m n c.value.result c.args.at kept next c.value.ensures c.in-Some.ensures.value writes)
    (may_less kept next c.args.reference.now (subst MayKeep there (kept_at m.entries c.args.at c.self.invariant))
    c.drop_from.ensures.less c.drop_from.ensures.sound
    (some_from (length next.references) (sym c.drop_from.ensures.last ∙ c.if-drop_from.false)))
