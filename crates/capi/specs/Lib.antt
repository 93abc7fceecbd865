pub mod Words
pub mod Shown
