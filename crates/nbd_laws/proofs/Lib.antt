pub mod Common
pub mod LawLemmas
pub mod judge
pub mod reading
pub mod requests
pub mod runs
pub mod service
pub mod worked
