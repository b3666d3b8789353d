pub use Rattle.qg_tree_edits.specs.Counting
pub use Rattle.qg_tree_edits.specs.Editing
pub use Rattle.qg_tree_edits.specs.Rooting
pub use Rattle.qg_tree_backrefs.specs.Exchange
pub mod Standing
pub mod Laws
