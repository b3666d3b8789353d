use Rattle.tree_setting.proofs.Settings.{read_land, readable_land}
use Rattle.tree_setting.proofs.setting.Setting.range.Goals as goal

pub range-requires : goal.range-requires
range-requires g c =
    let s = c.self.inside in
    let readable = readable_land s.land (g.D.Disk.history s.disk) (g.D.Disk.size s.disk) s.tree.next
    c.self.invariant.0 in
    record { readable = readable }

pub invariant_of-self : goal.invariant_of-self
invariant_of-self g c =
    let s = c.self.inside in
    let is = c.self.invariant in
    let editable = read_land s.land (g.D.Disk.history s.disk) (g.D.Disk.size s.disk) s.tree.next is.0
    c.range.new.blocks (g.D.Disk.history c.range.new.disk) (g.D.Disk.size c.range.new.disk) c.range.ensures.read
    c.range.ensures.readable in
    (editable, is.1, (let read = c.range.ensures.read in rw read.draft is.2), is.3, is.4)
