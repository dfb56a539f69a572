pub mod Contents
pub mod Fits
pub mod Heads
pub mod Layouts
