use Rattle.std.proofs.Common.{◌≡◌, ℕ, List, [], ◌∷◌, ◌++◌, ap, refl, subst, sym, ◌∙◌}
use Rattle.std.specs.Prelude.{None, Some}
use Rattle.qg_device.specs.History.{History}
use Rattle.qg_node_alloc.specs.NodesInMemory.{Draft}
use Rattle.qg_node_alloc.specs.NodesFound.{fresh_at, held_at}
use Rattle.qg_node_alloc.proofs.Telling.{held-kept}
use Rattle.qg_node_alloc.specs.declared.ground.Ground.{Ground}
use Rattle.qg_node_alloc.proofs.Lands.{Rests-after, Rests-draft}
use Rattle.qg_node_alloc.specs.Tellings.Telling.{Copied}
use Rattle.qg_tree_backrefs.specs.declared.tree_refs.TreeRefs.{TreeRefs}
use Rattle.qg_tree_backrefs.specs.Following.{Follows}
use Rattle.qg_refs.specs.declared.kept.Kept.{Kept}
use Rattle.qg_weighed.specs.Table.{IsTable, book_of}
use Rattle.qg_tree_backrefs.specs.Settled.{IsSettled}
use Rattle.qg_tree_backrefs.proofs.Placing.{IsLetGo}
use Rattle.qg_tree_backrefs.proofs.Settles.{IsPutAt-fresh, Settled-copied, held-fresh, level-copied, some-fresh}
use Rattle.qg_tree_backrefs.proofs.Stepping.{Follows-copied, or-none}
use Rattle.qg_tree_backrefs.proofs.book.TreeRefsBook.copied.Goals as goal

pub returns-in_err-try_load-clause-rests : goal.returns-in_err-try_load-clause-rests
returns-in_err-try_load-clause-rests g c generation drafted =
    let mid : Ground = record { blocks = c.try_load.new.blocks; space = c.args.land.now.space } in
    let met = c.try_load.ensures in
    Rests-draft c.args.land.now mid (g.D.Disk.history c.try_load.new.disk) generation met.draft met.bound refl
    met.backed drafted

pub returns-then-not-branch-clause-rests : goal.returns-then-not-branch-clause-rests
returns-then-not-branch-clause-rests g c generation drafted =
    let mid : Ground = record { blocks = c.try_load.new.blocks; space = c.args.land.now.space } in
    let met = c.try_load.ensures in
    Rests-draft c.args.land.now mid (g.D.Disk.history c.try_load.new.disk) generation met.draft met.bound refl
    met.backed drafted

pub returns-in_err-copy-clause-rests : goal.returns-in_err-copy-clause-rests
returns-in_err-copy-clause-rests g c generation drafted =
    let mid : Ground = record { blocks = c.try_load.new.blocks; space = c.args.land.now.space } in
    let met = c.try_load.ensures in
    Rests-draft c.args.land.now mid (g.D.Disk.history c.try_load.new.disk) generation met.draft met.bound refl
    met.backed drafted

pub returns-clause-told : goal.returns-clause-told
returns-clause-told g c node there before log follows =
    let held = c.try_load.new.blocks in
    let loaded = (c.in_ok-try_load.ensures.told node there).1 in
    let mine = some-fresh (fresh_at c.args.land.now.blocks.draft c.args.copy) c.requires.copied.fresh in
    let here = held-fresh held c.args.land.now.blocks.draft c.args.copy mine.0 c.try_load.ensures.draft mine.1 in
    let level = level-copied c.args.copy node mine.0 (c.requires.copied.same node mine.0 there mine.1) in
    let same = c.note_level.ensures.same node mine.0 loaded here level in
    subst (λ (book : TreeRefs). Follows before (log ++ Copied node c.args.copy ∷ []) book) (sym same)
    (Follows-copied before c.args.self.now c.copy.new.self log node c.peek.result.now c.args.copy
    (held_at held c.args.at) c.peek.ensures loaded follows c.in_ok-copy.ensures)

pub returns-clause-rests : goal.returns-clause-rests
returns-clause-rests g c generation drafted =
    let mid : Ground = record { blocks = c.try_load.new.blocks; space = c.args.land.now.space } in
    let met = c.try_load.ensures in
    let history = g.D.Disk.history c.try_load.new.disk in
    let first = Rests-draft c.args.land.now mid history generation met.draft met.bound refl met.backed drafted in
    Rests-after c.args.land.now mid c.let_go.new.land history history generation first
    (c.let_go.ensures.rests history generation met.backed first.drafted)

pub returns-clause-gives : goal.returns-clause-gives
returns-clause-gives g c =
    let clean : fresh_at c.try_load.new.blocks.draft c.args.at ≡ None =
    ap (λ (d : Draft). fresh_at d c.args.at) c.try_load.ensures.draft ∙ c.requires.copied.clean in
    let gives = c.let_go.ensures.gives clean in
    record { draft = gives.draft ∙ c.try_load.ensures.draft; slots = gives.slots }

pub returns-then-not-branch-clause-settled : goal.returns-then-not-branch-clause-settled
returns-then-not-branch-clause-settled g c before puts settled fits =
    let noted = sym (ap (λ (book : TreeRefs). book.misfit) c.note.ensures) ∙ fits in
    let wrong : Some c.args.at ≡ None = (or-none c.args.self.now.misfit (Some c.args.at) noted).1 in
    absurd cc

pub returns-clause-settled : goal.returns-clause-settled
returns-clause-settled g c before puts settled fits =
    let self = c.args.self.now in
    let land = c.args.land.now in
    let at = c.args.at in
    let copy = c.args.copy in
    let held = c.try_load.new.blocks in
    let mid : Ground = record { blocks = held; space = land.space } in
    let history = g.D.Disk.history c.try_load.new.disk in
    let table = subst (λ (refs : List (ℕ × Kept)). IsTable refs) c.refs.ensures c.len-ascending.ensures.table in
    let same = c.note_level.ensures.fits fits in
    let fits_copy = sym (ap (λ (book : TreeRefs). book.misfit) same.0) ∙ fits in
    let node = c.peek.result.now in
    let mine = some-fresh (fresh_at land.blocks.draft copy) puts.here in
    let here = held-fresh held land.blocks.draft copy mine.0 c.try_load.ensures.draft mine.1 in
    let level = same.1 node mine.0 c.peek.ensures here in
    let clean : fresh_at held.draft at ≡ None =
    ap (λ (d : Draft). fresh_at d at) c.try_load.ensures.draft ∙ c.requires.copied.clean in
    let placed = (held-kept held history at node c.try_load.ensures.backed clean c.peek.ensures).placed in
    let put = IsPutAt-fresh before land mid copy mine.0 puts c.try_load.ensures.draft refl mine.1 in
    let gone = subst (λ (refs : List (ℕ × Kept)). IsLetGo (book_of refs) mid c.let_go.new.land at)
    (c.refs-2.ensures ∙ ap (λ (book : TreeRefs). book.refs) same.0)
    (record { stays = c.let_go.ensures.stays; goes = c.let_go.ensures.goes; gone = c.let_go.ensures.gone }) in
    let was = λ (none : self.misfit ≡ None). subst (λ (h : History). IsSettled self before h)
    (sym c.try_load.ensures.history) (settled none) in
    subst (λ (book : TreeRefs). IsSettled book c.let_go.new.land history) (sym same.0)
    (Settled-copied self c.copy.new.self before mid c.let_go.new.land history at node copy mine.0 table was
    c.in_ok-copy.ensures put level placed clean gone c.let_go.ensures.sizes fits_copy)
