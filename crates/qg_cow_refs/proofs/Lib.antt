pub mod CopyLaws
pub mod LeavingLaws
