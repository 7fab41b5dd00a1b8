pub mod Fronts
pub mod Checks
pub mod Hints
pub mod Words
pub mod StuckChecks
