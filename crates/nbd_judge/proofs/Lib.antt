pub mod Common
pub mod contents
pub mod orders
pub mod verdicts
