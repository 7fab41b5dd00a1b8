pub mod Names
pub mod Reserved
pub mod Asking
pub mod SessionReading
pub mod Lines
pub mod Ears
