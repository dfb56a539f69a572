pub mod Capture
pub mod Contents
pub mod Lines
pub mod Order
pub mod Reading
pub mod Writing
pub mod internal
