-- Types of the crates below that this crate passes on.
pub use Rattle.qg_items.specs.declared.extent.Reference.TheVariants.{KeyedData, SharedData}
pub use Rattle.qg_items.specs.declared.kind.TheConstants.{EXTENT_DATA, INODE_ITEM, QGROUP_INFO, QGROUP_LIMIT}
pub use Rattle.qg_items.specs.declared.kind.TheConstants.{QGROUP_RELATION, QGROUP_STATUS, ROOT_ITEM}
pub use Rattle.qg_items.specs.declared.root.RootItem.{RootItem}
pub use Rattle.qg_node.specs.declared.item.Item.{Item}
