pub mod Parts
pub mod RowLaws
pub mod Commas
