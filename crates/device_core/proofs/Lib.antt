pub mod Papers
pub mod Agreeing
pub mod Becoming
pub mod Counting
pub mod Slots
pub mod Retiring
pub mod Among
