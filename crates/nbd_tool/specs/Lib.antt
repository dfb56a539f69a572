pub mod Beginnings
pub mod Common
pub mod Ends
pub mod Runs
pub mod Verdicts
pub mod internal
