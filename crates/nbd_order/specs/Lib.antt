pub mod Chains
pub mod Common
pub mod Finding
pub mod Leaving
pub mod Splits
pub mod Sure
pub mod Unexplained
pub mod internal
