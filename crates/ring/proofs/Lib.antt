pub mod Steps
pub mod Posts
