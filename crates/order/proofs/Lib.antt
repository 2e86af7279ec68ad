pub mod Fitting
pub mod Playing
pub mod Worked
