pub mod Numbers
pub mod Entries
pub mod Judged
pub mod Model
pub mod Calls
pub mod Solved
pub mod History
