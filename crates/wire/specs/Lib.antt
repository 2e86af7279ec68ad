pub mod Bytes
pub mod Layout
pub mod Rebuilt
pub mod Reading
pub mod Writing
pub mod Filling
