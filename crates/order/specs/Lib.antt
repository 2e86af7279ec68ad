pub mod Refusals
pub mod Scenes
pub mod Opening
pub mod Steps
pub mod Leaving
pub mod Calls
pub mod Questions
pub mod Examples
