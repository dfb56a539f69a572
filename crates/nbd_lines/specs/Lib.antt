pub mod Faults
pub mod Line
pub mod MakeCommand
pub mod Script
pub mod Table
pub mod internal
