pub mod Terms
pub mod Rules
pub mod Worked
