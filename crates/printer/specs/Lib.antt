pub mod Answers
pub mod Contents
pub mod Views
pub mod Posts
pub mod Making
pub mod Transmitting
pub mod Taking
pub mod Laws
