-- Types of the crates below that this crate passes on.
pub use Rattle.qg_refs.specs.declared.counted.Counted.{Counted}
pub use Rattle.qg_refs.specs.declared.kept.Kept.{Kept}
pub use Rattle.qg_refs.specs.declared.kept.What.{What}
