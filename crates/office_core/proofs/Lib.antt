pub mod Found
pub mod Law
pub mod Keying
pub mod Sending
pub mod Parked
pub mod Naming
pub mod SlipFound
pub mod SlipSending
