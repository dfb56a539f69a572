pub mod Chunks
pub mod Messages
pub mod Openings
pub mod Options
pub mod Reads
pub mod Refused
pub mod Requests
