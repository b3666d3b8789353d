-- What the items of a tree say, one by one (on-disk format, "item types").
use Rattle.std.specs.Prelude.{◌≡◌, List, map, Option, Some, IsTrue}
use Rattle.qg_image.specs.Types.{Item}
use Rattle.qg_image.specs.Nodes.{is_ascending}

-- each of some items, whose keys ascend, says one of the parts, in their order
pub record AreSaid {P : Type 0} (meaning : Item → Option P) (parts : List P) : Type 0 where
  pub items : List Item
  pub said : map meaning items ≡ map (λ part. Some part) parts
  pub ascending : IsTrue (is_ascending (map (λ item. item.key) items))
