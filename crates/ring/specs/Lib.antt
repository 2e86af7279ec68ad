pub mod Circles
pub mod Rings
pub mod Meaning
