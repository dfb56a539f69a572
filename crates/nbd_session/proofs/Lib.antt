pub mod Common
pub mod expecting
pub mod judge
pub mod parsing
pub mod pushed
pub mod reports
pub mod steps
