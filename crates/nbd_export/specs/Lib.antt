pub mod Extents
pub mod Held
pub mod Kinds
pub mod Pages
pub mod RangeKinds
pub mod Ranges
pub mod Starts
pub mod internal
