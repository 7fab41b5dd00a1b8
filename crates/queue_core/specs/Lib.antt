pub mod Open
pub mod Queue
pub mod Starts
