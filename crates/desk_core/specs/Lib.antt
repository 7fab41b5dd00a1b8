pub mod Kept
pub mod Publishing
pub mod Told
pub mod Held
