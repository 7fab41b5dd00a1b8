pub mod Cancels
pub mod Insides
pub mod Cancelling
pub mod Doing
pub mod HeldLines
pub mod Moving
pub mod Turning
pub mod Becoming
pub mod Placing
mod Owing
mod Places
mod Rows
mod Timing
mod Starting
