use Rattle.std.proofs.Common.{List, [], ℕ, ◌<◌, length, map, sym, ap, subst, ◌∙◌}
use Rattle.std.specs.Prelude.{All}
use Rattle.qg_qgroup_counts.specs.Sets.{IsUnionOf}
use Rattle.qg_image_commits.specs.Owning.{AreOwners, number_at}
use Rattle.qg_image_commits.proofs.Owned.{members-within, owners-are}
use Rattle.qg_image_commits.proofs.ownership.owners_of.Goals as goal

pub numbers_at-requires : goal.numbers_at-requires
numbers_at-requires c =
    subst (λ (places : List ℕ). All (λ place. place < length c.args.roots.now) places) (sym c.as_slice-2.ensures)
    (members-within _ (length c.args.roots.now) c.in_ok-members.members c.in_ok-members.ensures)

pub returns : goal.returns
returns c =
    let sets = c.in_ok-sets.sets in
    let members = c.in_ok-members.members in
    let union = subst (λ (list : List ℕ). IsUnionOf c.in_ok-reached.reached.sets.rows.items [] list
    c.union.new.self.sets.rows.items c.in_ok-all.all) c.as_slice.ensures c.in_ok-all.ensures.union in
    subst (λ (found : List ℕ). AreOwners c.args.roots.now c.args.nodes.now c.args.address found)
    (sym (c.in_ok-numbers_at.ensures ∙ ap (map (number_at c.args.roots.now)) c.as_slice-2.ensures))
    (owners-are c.args.roots.now c.args.nodes.now c.args.address c.in_ok-reached.reached c.in_ok-reached.ensures sets
    c.in_ok-sets.ensures c.union.new.self.sets.rows.items c.in_ok-all.all union members c.in_ok-members.ensures)
