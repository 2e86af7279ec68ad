pub mod AnyOf
pub mod Blank
pub mod Changes
pub mod Searches
pub mod TicketLaws
