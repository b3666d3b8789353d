use Rattle.std.proofs.Common.{◌≡◌, Some, None, refl, sym, ap, subst, ◌∙◌, inr}
use Rattle.qg_super.specs.declared.superblock.Super.{Super}
use Rattle.qg_blocks.specs.Types.{Broken}
use Rattle.qg_walk.specs.Standing.{form_failure}
use Rattle.qg_tree_read.specs.Tree.{super_of}
use Rattle.qg_tree_read.proofs.Visits.{broken-only, fails-formed, loaded-found, loaded-kept, loaded-told}
use Rattle.qg_tree_read.proofs.Stopping.{stops-unread, stray-formed}
use Rattle.qg_tree_read.proofs.tree.Tree.visit.Goals as goal

pub form_failure-requires : goal.form_failure-requires
form_failure-requires g c =
    let kept = loaded-kept c.args.blocks.now.draft (g.D.Disk.size c.args.disk.now) c.args.way.now.address
    c.load.new.self c.peek.result.now c.requires.readable.placed c.in_ok-load.ensures.stays.draft c.peek.ensures
    c.in_ok-load.ensures.lent.kept in
    record { ascending = kept.sound.ascending }

pub unreachable-requires : goal.unreachable-requires
unreachable-requires g c =
    broken-only g.P.TreePart.tree c.superblock-superblock.result c.args.way.now.expected c.args.way.now.address
    c.peek.result.now
    c.in-Some-Differs.field-0-0 c.in-Some-Differs.field-0-1 c.in-Some-Differs.field-0-2 c.in-Some-Differs.field-0-3
    (sym c.form_failure.ensures ∙ c.in-Some-Differs.is ∙ ap Some c.in-Some-Differs.field-0-is)

pub returns-in-None-clause-visited : goal.returns-in-None-clause-visited
returns-in-None-clause-visited g c =
    let draft = c.args.blocks.now.draft in
    let asked : c.superblock-superblock.result ≡ super_of c.args.self.now draft = c.superblock-superblock.ensures.asked
    ∙ ap (super_of c.args.self.now) c.in_ok-load.ensures.stays.draft in
    let formed = sym c.form_failure.ensures ∙ c.in-None.is in
    record {
      node = c.peek.result.now;
      is = c.peek.ensures;
      formed = subst (λ (s : Super). form_failure g.P.TreePart.tree s c.args.way.now.expected c.args.way.now.address
          c.peek.result.now ≡ None) asked formed;
      kept = loaded-kept draft (g.D.Disk.size c.args.disk.now) c.args.way.now.address c.load.new.self c.peek.result.now
          c.requires.readable.placed c.in_ok-load.ensures.stays.draft c.peek.ensures c.in_ok-load.ensures.lent.kept;
      tells = λ events is. loaded-told draft (g.D.Disk.history c.args.disk.now) events c.args.way.now.address
          c.load.new.self c.peek.result.now is
          (c.in_ok-load.ensures.answers events is) c.in_ok-load.ensures.lent.told c.peek.ensures;
      alone = λ other is. let there = sym (c.in_ok-load.ensures.lent.told other is) ∙ c.peek.ensures in cc there;
    }

pub returns-in-Some-Broken-clause-broken : goal.returns-in-Some-Broken-clause-broken
returns-in-Some-Broken-clause-broken g c events is =
    let draft = c.args.blocks.now.draft in
    let address = c.args.way.now.address in
    let asked : c.superblock-superblock.result ≡ super_of c.args.self.now draft = c.superblock-superblock.ensures.asked
    ∙ ap (super_of c.args.self.now) c.in_ok-load.ensures.stays.draft in
    let fails = sym c.form_failure.ensures ∙ c.in-Some-Broken.is ∙ ap Some c.in-Some-Broken.field-0-is in
    let found = loaded-found draft (g.D.Disk.history c.args.disk.now) events address c.load.new.self c.peek.result.now
    is (c.in_ok-load.ensures.answers events is) c.in_ok-load.ensures.lent.told c.peek.ensures in (
      refl,
      fails-formed g.P.TreePart.tree (super_of c.args.self.now draft) c.args.way.now.expected address _
          c.peek.result.now c.in-Some-Broken.rule c.in-Some-Broken.field-0-1 found
          (subst (λ (s : Super). form_failure g.P.TreePart.tree s c.args.way.now.expected address c.peek.result.now
          ≡ Some (Broken c.in-Some-Broken.rule c.in-Some-Broken.field-0-1)) asked fails),
    )

-- ---- over any disk

pub returns-in_err-load-clause-stops : goal.returns-in_err-load-clause-stops
returns-in_err-load-clause-stops g c =
    stops-unread (Unit {0}) c.from_residual.result g.P.TreePart.tree c.args.self.now c.args.blocks.now.draft
    (g.D.Disk.size c.args.disk.now) c.args.way.now.expected c.args.way.now.address c.in_err-load.field-0.0
    c.from_residual.ensures.1 c.in_err-load.ensures.broken

pub returns-in-Some-Broken-clause-stops : goal.returns-in-Some-Broken-clause-stops
returns-in-Some-Broken-clause-stops g c =
    let draft = c.args.blocks.now.draft in
    let address = c.args.way.now.address in
    let expected = c.args.way.now.expected in
    let asked : c.superblock-superblock.result ≡ super_of c.args.self.now draft = c.superblock-superblock.ensures.asked
    ∙ ap (super_of c.args.self.now) c.in_ok-load.ensures.stays.draft in
    let fails = sym c.form_failure.ensures ∙ c.in-Some-Broken.is ∙ ap Some c.in-Some-Broken.field-0-is in
    let kept = loaded-kept draft (g.D.Disk.size c.args.disk.now) address c.load.new.self c.peek.result.now
    c.requires.readable.placed c.in_ok-load.ensures.stays.draft c.peek.ensures c.in_ok-load.ensures.lent.kept in (
      refl,
      inr (stray-formed g.P.TreePart.tree (super_of c.args.self.now draft) expected address c.peek.result.now
          c.in-Some-Broken.rule c.in-Some-Broken.field-0-1 kept
          (subst (λ (s : Super). form_failure g.P.TreePart.tree s expected address c.peek.result.now
          ≡ Some (Broken c.in-Some-Broken.rule c.in-Some-Broken.field-0-1)) asked fails)),
    )
