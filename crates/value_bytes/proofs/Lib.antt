pub mod Apart
pub mod Decoding
pub mod Encoding
pub mod Rising
pub mod Unique
pub mod Bytes
pub mod Widening
