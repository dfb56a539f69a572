pub mod Common
pub mod ExtentLemmas
pub mod HeldLemmas
pub mod KindLemmas
pub mod LeastLemmas
pub mod PageLemmas
