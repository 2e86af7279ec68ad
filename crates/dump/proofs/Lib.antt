pub mod Pairs
pub mod ReadBack
