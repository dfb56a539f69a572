pub mod Common
pub mod FaultLemmas
pub mod InputLemmas
