pub mod Forms
pub mod Commands
pub mod Laws
pub mod Making
pub mod Past
pub mod Belief
pub mod Watching
