use Rattle.std.proofs.Common.{◌≡◌, ◌∙◌, true, sym, subst, get_or, arith, rules}
use Rattle.std.proofs.lemmas.List.{get_or_default}
use Rattle.std.proofs.lemmas.List.Sorted.{IsPartitionPoint-from_clause}
use Rattle.std.specs.Ordering.{is_lt}
use Rattle.qg_num.specs.Key.{key_cmp}
use Rattle.qg_node.specs.declared.item.Item.{Item}
use Rattle.qg_shape.proofs.Ascending.{greater}
use Rattle.qg_shape.proofs.Searched.{goes_there, parted_below}
use Rattle.qg_shape.proofs.searching.find_item.Goals as goal
use Rattle.qg_shape.proofs.searching.find_item.Goals.{else-place-items-via-then-place-items+else-eq}
use Rattle.qg_shape.proofs.searching.find_item.Goals.{else-place-items-via-else-place-items}

pub returns-else-place-items-clause-absent : goal.returns-else-place-items-clause-absent
returns-else-place-items-clause-absent c =
    let items = c.args.items.now in
    let key = c.args.key in
    let place = c.partition_point-place.result in
    let point = IsPartitionPoint-from_clause (λ (item : Item). is_lt (key_cmp item.key key)) items place
    c.partition_point-place.ensures.partitioned
    (parted_below (λ (item : Item). item.key) key items c.requires) (λ a r f h. search rules) in
    goes_there (λ (item : Item). item.key) key items place c.requires c.partition_point-place.ensures.bound point
    (λ d inside. elim c.else-place-items.branch [
      | else-place-items-via-then-place-items+else-eq w ↦
          let x = w.index-items-place.result in
          let there = get_or items place x in
          subst (λ (item : Item). is_lt (key_cmp key item.key) ≡ true) (get_or_default items place x d inside)
          (greater there.key key (point.1 place x (omega arith) inside) (sym w.eq.ensures ∙ w.if-eq.false))
      | else-place-items-via-else-place-items w ↦ absurd (omega (arith, inside, w.if-place-items.false))
    ])
