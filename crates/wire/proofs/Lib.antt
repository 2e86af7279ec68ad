pub mod WordBytes
pub mod Scans
pub mod FrameWords
pub mod Filled
pub mod Readings
pub mod Written
