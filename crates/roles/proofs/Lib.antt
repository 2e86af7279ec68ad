pub mod Functions
pub mod NearestLaws
pub mod Ranges
pub mod RoleBounds
