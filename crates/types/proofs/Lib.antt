pub mod Bounds
pub mod Powers
pub mod Signs
