pub mod BeginningLemmas
pub mod ChunkFaultLemmas
pub mod ExtentLemmas
pub mod PieceLemmas
pub mod RefusalLemmas
