pub use Rattle.qg_image_commits.specs.Answering
pub use Rattle.qg_image_commits.specs.Calls
pub use Rattle.qg_image_commits.specs.CommitOpening
pub use Rattle.qg_image_commits.specs.Fresh
pub use Rattle.qg_image_commits.specs.Making
pub use Rattle.qg_image_commits.specs.Mkfs
pub use Rattle.qg_image_commits.specs.Opened as CommitOpened
pub use Rattle.qg_image_commits.specs.Report
pub use Rattle.qg_image_commits.specs.Stored
pub mod Structural
pub mod Crashes
pub mod Work
pub mod Stopping
pub mod Types
