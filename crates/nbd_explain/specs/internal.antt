pub mod Comparing
pub mod Fates
pub mod Leaving
pub mod Lines
pub mod Outcomes
