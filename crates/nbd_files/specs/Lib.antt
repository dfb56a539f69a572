pub mod CommandLine
pub mod Opening
pub mod RunFaults
pub mod Starts
pub mod Texts
pub mod internal
