pub mod Format
pub mod Spelling
pub mod Laws
