pub mod Linked
pub mod Unique
