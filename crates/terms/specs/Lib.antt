pub mod Shape
pub mod Kinds
