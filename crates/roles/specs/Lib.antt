pub mod Functions
pub mod Configurations
pub mod Nearest
