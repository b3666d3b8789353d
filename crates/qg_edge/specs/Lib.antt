pub mod Appended
pub mod Calls
pub mod MemSink
pub mod MemSource
pub mod StdSink
pub mod StdSource
