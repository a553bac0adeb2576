pub mod Showing
pub mod Telling
