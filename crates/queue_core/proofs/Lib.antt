pub mod Queueing
pub mod QueueSending
pub mod Fronts
pub mod Rows
