pub mod ReaderLemmas
pub mod MarkLemmas
pub mod TwinLemmas
pub mod NotedLemmas
