pub mod Printers
pub mod Dues
pub mod Passing
pub mod Records
pub mod Desks
pub mod Departures
pub mod Given
pub mod Grown
