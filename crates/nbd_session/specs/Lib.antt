pub mod Following
pub mod Incoming
pub mod Pushed
pub mod Refusals
pub mod Sessions
pub mod Views
pub mod internal
