pub mod Numbers
pub mod Leaves
