use Rattle.std.proofs.Common.{◌≡◌, ℕ, List, ◌∷◌, [], ◌++◌, get_or, map, sym, ap, ◌∙◌, arith}
use Rattle.std.proofs.lemmas.List.{map_more, take_all}
use Rattle.qg_num.specs.declared.counters.Counters.{Counters}
use Rattle.qg_image.specs.Table.{keys_of}
use Rattle.qg_image.specs.declared.quota.Group.{Group}
use Rattle.qg_open_image.specs.FsLawsKeeping.{group_after}
use Rattle.qg_image_commits.specs.Planning.{counters_by}
use Rattle.qg_image_commits.proofs.GroupCounts.{count-at}
use Rattle.qg_image_commits.proofs.counting.groups_now.Goals as goal

pub bounds-counts-i : goal.bounds-counts-i
bounds-counts-i c = omega (arith, c.requires.all, c.loop-i-test.true)

pub loop-i-preserved : goal.loop-i-preserved
loop-i-preserved c =
    let groups = c.args.groups.now in
    let counts = c.args.counts.now in
    let i = c.loop-i.i in
    let counted = counters_by (keys_of groups) counts in
    let entry = c.index-groups-i.result in
    let nothing : Counters = record { rfer = 0; excl = 0 } in
    let count = count-at groups counts i entry nothing c.requires.ascending c.requires.all c.loop-i-test.true
    c.index-groups-i.is in
    let one : (entry.0, c.group_now.result) ≡ group_after c.args.next counted entry =
    c.group_now.ensures entry.0
    ∙ ap (λ (counters : Counters). group_after c.args.next (λ any. counters) entry) count in
    c.in_ok-push.ensures.ok
    ∙ ap (λ (last : ℕ × Group). c.loop-i.now ++ last ∷ [])
    (one ∙ ap (group_after c.args.next counted) c.index-groups-i.is)
    ∙ ap (λ (front : List (ℕ × Group)). front ++ group_after c.args.next counted (get_or groups i entry) ∷ [])
    c.loop-i.invariant
    ∙ sym (map_more (group_after c.args.next counted) groups i entry c.loop-i-test.true)

pub returns : goal.returns
returns c =
    c.loop-i.invariant
    ∙ ap (map (group_after c.args.next (counters_by (keys_of c.args.groups.now) c.args.counts.now)))
    (take_all c.loop-i.i c.args.groups.now (omega (arith, c.loop-i-test.false)))
