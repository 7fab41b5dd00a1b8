pub mod Status
pub mod Telling
pub mod Lacks
pub mod Places
