pub mod ScriptText
pub mod ReplyText
pub mod FailureText
pub mod Examples
