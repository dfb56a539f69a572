pub mod AnswerLemmas
pub mod DecidingLemmas
pub mod DecidingReadLemmas
pub mod DecidingRunLemmas
pub mod SessionLemmas
pub mod WorkedPlaceLemmas
