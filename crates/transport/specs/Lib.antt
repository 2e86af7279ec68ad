pub mod Faults
pub mod Nets
pub mod Circles
pub mod Stored
pub mod Series
pub mod Tables
pub mod Members
