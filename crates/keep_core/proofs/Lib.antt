pub mod Telling
pub mod Keeping
pub mod KeepEnding
pub mod Few
pub mod Law
pub mod Marking
pub mod Showing
mod Calls
pub mod Going
pub mod Saving
