pub mod Circles
pub mod NetLaws
pub mod StoredLaws
pub mod Takes
pub mod SeriesLaws
pub mod TableLaws
pub mod Kept
