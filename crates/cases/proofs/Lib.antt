pub mod Escaping
pub mod Marking
pub mod Repeating
