pub mod AnswerLemmas
pub mod ChunkLemmas
pub mod CountLemmas
pub mod ProfileLemmas
pub mod RefusalLemmas
pub mod SingleLemmas
pub mod SoundLemmas
pub mod UniqueLemmas
