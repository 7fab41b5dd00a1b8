pub mod Names
pub mod Reader
pub mod Series
pub mod Scopes
pub mod Starts
