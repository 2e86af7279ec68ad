pub mod Kinds
pub mod Contents
pub mod Ranges
pub mod Frames
pub mod Rows
pub mod Texts
