pub mod Beginnings
pub mod Captures
pub mod Conclusions
pub mod Folding
pub mod Images
pub mod Uniqueness
pub mod Verdicts
pub mod internal
