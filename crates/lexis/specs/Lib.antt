pub mod Classes
pub mod Faults
pub mod Numbers
pub mod Runs
pub mod Spelt
pub mod Told
pub mod Tokens
pub mod Worth
