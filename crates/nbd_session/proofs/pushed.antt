pub mod FollowLemmas
pub mod HoldingLemmas
pub mod LogLemmas
pub mod NoteLemmas
pub mod OpenByteLemmas
pub mod PushLemmas
