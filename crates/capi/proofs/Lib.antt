pub mod Fit
pub mod Packed
pub mod Told
