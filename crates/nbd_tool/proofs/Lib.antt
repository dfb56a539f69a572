pub mod Common
pub mod BeginningLemmas
pub mod JudgedLemmas
pub mod OverLemmas
pub mod SayLemmas
pub mod SizeLemmas
pub mod UniqueLemmas
