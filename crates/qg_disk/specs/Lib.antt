pub mod Buffer
pub mod Call
pub mod Crashed
pub mod Disk
pub mod ExamplesOfTears
pub mod FileDisk
pub mod MemDisk
pub mod Redone
