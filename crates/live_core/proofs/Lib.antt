pub mod Beginning
pub mod Fixed
pub mod Forms
pub mod Joining
pub mod Kept
pub mod Leaving
pub mod Listing
pub mod Numbering
pub mod Opening
pub mod Places
pub mod Settling
pub mod Written
mod Adding
pub mod Calling
pub mod Following
pub mod Keeping
pub mod Writing
