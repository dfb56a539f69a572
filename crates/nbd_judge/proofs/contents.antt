pub mod CompareLemmas
pub mod EffectLemmas
pub mod ForwardLemmas
pub mod StartLemmas
pub mod RangeLemmas
pub mod PartLemmas
pub mod SortLemmas
