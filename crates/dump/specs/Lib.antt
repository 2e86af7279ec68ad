pub mod Trim
pub mod Hex
pub mod Digits
pub mod Lines
pub mod Reads
pub mod Examples
pub mod Written
