pub mod Bytes
pub mod Fitting
pub mod Gathering
pub mod Parting
pub mod Scanning
