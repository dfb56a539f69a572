pub mod FirstLemmas
pub mod DueLemmas
pub mod LateLemmas
pub mod ServiceLemmas
pub mod ShownLemmas
pub mod TableLemmas
