mod Closing
mod Counts
mod Growth
pub mod Numbered
mod Order
mod Places
mod Pushing
pub mod Readings
mod Refusals
mod Spelling
mod States
mod Steps
mod Variables
pub mod Wholes
mod Within
