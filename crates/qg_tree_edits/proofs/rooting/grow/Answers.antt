use Rattle.std.proofs.Common.{◌≡◌, ◌+◌, ℕ, [], ◌∷◌, add-one, refl, sym, ap, subst, ◌∙◌, inl, inr, Err, arith}
use Rattle.std.proofs.lemmas.Result.{err_from_is_err_and}
use Rattle.qg_node.specs.declared.node.Node.{Node}
use Rattle.qg_node.specs.Nodes.{header_of}
use Rattle.qg_blocks.proofs.Telling.{fresh-held}
use Rattle.qg_node_alloc.specs.Land.{IsDrafted, Rests}
use Rattle.qg_shape.specs.Pointing.{pointer_to}
use Rattle.std.specs.Ordering.{is_lt}
use Rattle.qg_num.specs.Key.{key_cmp}
use Rattle.std.specs.Prelude.{true}
use Rattle.qg_tree_read.specs.Tree.{Root}
use Rattle.qg_tree_edits.specs.Rooting.{HasRoot}
use Rattle.qg_node_alloc.specs.Tellings.Telling.{Made}
use Rattle.qg_tree_edits.specs.Counting.{IsRootTold}
use Rattle.qg_tree_edits.proofs.Grown.{above-ascends, grown-above, told-above, two}
use Rattle.qg_tree_edits.proofs.Rejoined.{unbroken-other}
use Rattle.qg_tree_edits.proofs.Served.{size-drafted}
use Rattle.qg_node_alloc.proofs.Owners.{IsOwnedBy-draft, IsOwnedBy-made}
use Rattle.qg_tree_edits.proofs.Naming.{names-none_other, names-other}
use Rattle.qg_device.proofs.Causes.{cause-handed, cause-none, cause-other}
use Rattle.qg_tree_edits.specs.Rooting.{StaysTree}
use Rattle.qg_tree_edits.proofs.Unfit.{cant-grow}
use Rattle.qg_tree_edits.specs.Failing.{CantGrow}
use Rattle.qg_num.specs.declared.rule.Rule.{Rule}
use Rattle.qg_blocks.specs.Stopping.{IsMisfit}
use Rattle.qg_blocks.proofs.Stopping.{misfit-refs, stops-err}
use Rattle.qg_tree_edits.proofs.Stopped.{stops-names-err}
use Rattle.qg_tree_edits.proofs.rooting.grow.Goals as goal

pub make_node-requires-clause-ready : goal.make_node-requires-clause-ready
make_node-requires-clause-ready g c =
    let ready = c.requires.ready in
    record {
      backed = ready.editable.backed;
      drafted = subst (λ (n : ℕ). IsDrafted c.args.land.now n)
          (sym (ap (λ (n : Node). (header_of n).generation) c.in_ok-node.ensures.above ∙ c.next.ensures))
          ready.editable.drafted;
      slots = ready.slots;
    }

pub make_node-requires-clause-sound : goal.make_node-requires-clause-sound
make_node-requires-clause-sound g c =
    c.in_ok-node.ensures.sound c.args.land.now.space.sizes.nodesize
    (size-drafted c.args.land.now c.args.tree.now.next c.requires.ready.editable.drafted)

-- ---- the new root

pub returns-clause-root : goal.returns-clause-root
returns-clause-root g c =
    let root = c.args.tree.now in
    let owner = root.owner in
    let land = c.args.land.now in
    let count = c.in_ok-root.ensures.takes.count in
    let own : (header_of c.in_ok-node.node).owner ≡ owner =
    ap (λ (n : Node). (header_of n).owner) c.in_ok-node.ensures.above ∙ c.owner.ensures in
    record {
      stays = subst (λ (r : Root). StaysTree 1 root r) (sym c.rise_to.ensures)
          (record { owner = refl; next = refl; height = omega arith });
      count = omega (arith, count);
      owners = IsOwnedBy-made owner land land c.make_node.new.land c.in_ok-root.root c.in_ok-node.node
          (IsOwnedBy-draft owner land land refl) c.in_ok-root.ensures.made (inl own);
      err = tt;
    }

pub returns-clause-rooted : goal.returns-clause-rooted
returns-clause-rooted g c items stands =
    let tree = g.P.TreePart.tree in
    let root = c.args.tree.now in
    let land = c.args.land.now in
    let new = c.make_node.new.land in
    let history = g.D.Disk.history c.args.disk.now in
    let later = g.D.Disk.history c.make_node.new.disk in
    let drafted = c.requires.ready.editable.drafted in
    let one = c.requires.first in
    let other = c.requires.second in
    let first = fresh-held land.blocks c.args.now one.node c.peek.result.now one.here c.peek.ensures in
    let second = fresh-held land.blocks c.args.more other.node c.peek-2.result.now other.here c.peek-2.ensures in
    let level = ap (λ (n : ℕ). n + 1) c.height-2.ensures ∙ add-one root.height in
    let dated = ap (λ (n : Node). (header_of n).generation) c.in_ok-node.ensures.above ∙ c.next.ensures in
    let rests = subst (λ (n : ℕ). Rests land new later n) dated c.make_node.ensures.rests.rests in
    record {
      rooted = subst (λ (r : Root). HasRoot tree root r land new history (two c.args.now c.args.more) items)
          (sym c.rise_to.ensures)
          (grown-above tree root land history c.args.now c.args.more items one.node other.node stands drafted one.here
          other.here new later c.in_ok-root.root _ c.in_ok-node.node c.peek.result.now c.peek-2.result.now
          c.in_ok-node.ensures.above first second c.in_ok-root.ensures.made c.requires.ready.makes level c.owner.ensures
          c.next.ensures rests);
      leaves = λ none. absurd cc;
      told = λ before log follows. (
        Made c.in_ok-root.root ∷ [],
        c.in_ok-root.ensures.told before log follows,
        subst (λ (r : Root). IsRootTold root r land new history (two c.args.now c.args.more)
            (Made c.in_ok-root.root ∷ [])) (sym c.rise_to.ensures)
            (told-above tree root land history c.args.now c.args.more items one.node other.node stands drafted one.here
            other.here new later c.in_ok-root.root _ c.in_ok-node.node c.peek.result.now c.peek-2.result.now
            c.in_ok-node.ensures.above first second c.in_ok-root.ensures.made c.requires.ready.makes level
            c.owner.ensures c.next.ensures rests),
      );
    }

-- ---- where it fails

pub returns-then-height-ge-HIGHEST-clause-fails : goal.returns-then-height-ge-HIGHEST-clause-fails
returns-then-height-ge-HIGHEST-clause-fails g c =
    let high = c.height.ensures in
    let enough = c.if-height-ge-HIGHEST.true in
    record {
      sound = λ events told_is items stands low. absurd (omega (arith, high, enough, low));
      broken = λ events told_is. record {
        more = c.args.more;
        first = c.requires.first;
        second = c.requires.second;
        refs = refl;
        high = inl (omega (arith, high, enough));
      };
      cause = cause-other (g.D.Disk.faults c.args.disk.now) (g.D.Disk.faults c.args.disk.now) (Err _) (omega arith)
          (λ is. cc);
    }

pub returns-in_err-node-clause-fails : goal.returns-in_err-node-clause-fails
returns-in_err-node-clause-fails g c =
    let p = err_from_is_err_and c.from_residual.result c.from_residual.ensures.1 in
    let tree = g.P.TreePart.tree in
    let root = c.args.tree.now in
    let land = c.args.land.now in
    let drafted = c.requires.ready.editable.drafted in
    let one = c.requires.first in
    let other = c.requires.second in
    let first = fresh-held land.blocks c.args.now one.node c.peek.result.now one.here c.peek.ensures in
    let second = fresh-held land.blocks c.args.more other.node c.peek-2.result.now other.here c.peek-2.ensures in
    rw (p.1, p.2) (record {
      sound = λ events told_is items stands low.
          let less = above-ascends tree root land (g.D.Disk.history c.args.disk.now) c.args.now c.args.more items
          one.node other.node stands drafted one.here other.here in
          let there : is_lt (key_cmp (pointer_to c.peek.result.now).key (pointer_to c.peek-2.result.now).key) ≡ true =
          ap (λ (n : Node). is_lt (key_cmp (pointer_to n).key (pointer_to c.peek-2.result.now).key)) first
          ∙ ap (λ (n : Node). is_lt (key_cmp (pointer_to one.node).key (pointer_to n).key)) second ∙ less in
          unbroken-other Node (Unit {0}) c.in_err-node.field-0.0 (c.in_err-node.ensures.none there);
      broken = λ events told_is. names-other Node (Unit {0}) c.in_err-node.field-0.0 _ (CantGrow root land)
          (λ rule address bad. cant-grow root land c.args.now c.args.more c.peek.result.now c.peek-2.result.now rule
          address drafted one other first second bad.0 bad.1 bad.2)
          c.in_err-node.ensures.broken;
      cause = cause-none Node (Unit {0}) (g.D.Disk.faults c.args.disk.now) (g.D.Disk.faults c.args.disk.now)
          c.in_err-node.field-0.0 (omega arith) c.in_err-node.ensures.no_disk;
    })

pub returns-in_err-root-clause-fails : goal.returns-in_err-root-clause-fails
returns-in_err-root-clause-fails g c =
    let p = err_from_is_err_and c.from_residual-in_err-root.result c.from_residual-in_err-root.ensures.1 in
    let fault = c.in_err-root.field-0.0 in
    let old = g.D.Disk.faults c.args.disk.now in
    let none = c.in_err-root.ensures.fails.sound in
    rw (p.1, p.2) (record {
      sound = λ events told_is items stands low. unbroken-other ℕ (Unit {0}) fault (none events told_is);
      broken = λ events told_is. names-none_other ℕ (Unit {0}) fault (CantGrow c.args.tree.now c.make_node.new.land)
          (none events told_is);
      cause = cause-handed ℕ (Unit {0}) old old (g.D.Disk.faults c.make_node.new.disk) fault (omega arith)
          c.in_err-root.ensures.fails.cause;
    })

-- ---- over any disk

pub returns-then-height-ge-HIGHEST-clause-stops : goal.returns-then-height-ge-HIGHEST-clause-stops
returns-then-height-ge-HIGHEST-clause-stops g c = inr (inr (inr misfit-refs))

pub returns-in_err-node-clause-stops : goal.returns-in_err-node-clause-stops
returns-in_err-node-clause-stops g c =
    stops-names-err Node c.from_residual.result c.in_err-node.field-0.0 _ c.args.land.now.blocks.draft.sizes
    (g.D.Disk.size c.args.disk.now) c.from_residual.ensures.1
    (λ rule address bad. subst (λ (r : Rule). IsMisfit r) (sym bad.0) misfit-refs) c.in_err-node.ensures.broken

pub returns-in_err-root-clause-stops : goal.returns-in_err-root-clause-stops
returns-in_err-root-clause-stops g c =
    let residual = c.from_residual-in_err-root in
    let sizes = c.args.land.now.blocks.draft.sizes in
    let bytes = g.D.Disk.size c.args.disk.now in
    let fault = c.in_err-root.field-0.0 in
    stops-err ℕ residual.result fault sizes sizes bytes bytes residual.ensures.1 refl refl c.in_err-root.ensures.stops
