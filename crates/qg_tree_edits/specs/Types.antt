-- Types of the crates below that this crate passes on.
pub use Rattle.qg_node_alloc.specs.declared.ground.Ground.{Ground}
