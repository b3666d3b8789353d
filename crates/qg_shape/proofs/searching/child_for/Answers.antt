use Rattle.std.proofs.Common.{ℕ, sym, subst, rules, map}
use Rattle.std.specs.Prelude.{not}
use Rattle.std.proofs.lemmas.List.Sorted.{IsPartitionPoint-from_clause}
use Rattle.std.specs.Ordering.{is_lt}
use Rattle.qg_num.specs.Key.{key_cmp}
use Rattle.qg_node.specs.declared.pointer.Pointer.{Pointer}
use Rattle.qg_shape.specs.Places.{LeadsTo}
use Rattle.qg_shape.proofs.Searched.{leads_there, parted_upto}
use Rattle.qg_shape.proofs.searching.child_for.Goals as goal

pub returns : goal.returns
returns c =
    let pointers = c.args.pointers.now in
    let key = c.args.key in
    let past = c.partition_point-past.result in
    let point = IsPartitionPoint-from_clause (λ (pointer : Pointer). not (is_lt (key_cmp key pointer.key))) pointers
    past c.partition_point-past.ensures.partitioned
    (parted_upto (λ (pointer : Pointer). pointer.key) key pointers c.requires.ascending) (λ a r f h. search rules) in
    subst (λ (place : ℕ). LeadsTo (map (λ (pointer : Pointer). pointer.key) pointers) key place)
    (sym c.saturating_sub.ensures)
    (leads_there (λ (pointer : Pointer). pointer.key) key pointers past c.requires.some
    c.partition_point-past.ensures.bound point)
