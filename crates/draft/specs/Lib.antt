pub mod Drafts
pub mod Grammar
pub mod Numbering
pub mod Sketch
pub mod Spelled
pub mod Under
