pub mod Kept
pub mod Standings
pub mod GoesOn
