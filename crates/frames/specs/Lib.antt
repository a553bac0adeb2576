pub mod Frames
pub mod Asked
pub mod Memory
pub mod Goals
pub mod Owed
pub mod Steps
