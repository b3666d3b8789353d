use Rattle.tree_setting.proofs.Settings.{read_land, readable_land}
use Rattle.tree_setting.proofs.setting.Setting.get.Goals as goal

pub get-requires : goal.get-requires
get-requires g c =
    let s = c.self.inside in
    let readable = readable_land s.land (g.D.Disk.history s.disk) (g.D.Disk.size s.disk) s.tree.next
    c.self.invariant.0 in
    record { readable = readable }

pub invariant_of-self : goal.invariant_of-self
invariant_of-self g c =
    let s = c.self.inside in
    let is = c.self.invariant in
    let editable = read_land s.land (g.D.Disk.history s.disk) (g.D.Disk.size s.disk) s.tree.next is.0
    c.get.new.blocks (g.D.Disk.history c.get.new.disk) (g.D.Disk.size c.get.new.disk) c.get.ensures.read
    c.get.ensures.readable in
    (editable, is.1, (let read = c.get.ensures.read in rw read.draft is.2), is.3, is.4)
