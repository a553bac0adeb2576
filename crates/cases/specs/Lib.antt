pub mod Escapes
pub mod Marks
pub mod Repeats
