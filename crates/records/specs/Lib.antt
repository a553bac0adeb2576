pub mod Facts
pub mod Faults
pub mod Fit
pub mod Format
pub mod Meaning
pub mod Numbers
pub mod Parting
pub mod Sourcing
