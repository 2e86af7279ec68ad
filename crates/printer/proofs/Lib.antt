pub mod PostLaws
pub mod Holds
pub mod Receipts
pub mod Steps
