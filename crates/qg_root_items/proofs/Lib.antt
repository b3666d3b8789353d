pub mod Bodies
mod RootTree
mod FileBounds
mod FileParts
mod FileKeys
pub mod FileTree
pub mod Rising
