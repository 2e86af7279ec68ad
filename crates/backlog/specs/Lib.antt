pub mod Blanks
pub mod Firsts
pub mod Sweeps
pub mod Holdings
pub mod Tickets
pub mod Wanted
