mod Table
mod Ends
mod Words
mod Classed
pub mod Fronts
pub mod Longest
pub mod Scans
mod Numerals
