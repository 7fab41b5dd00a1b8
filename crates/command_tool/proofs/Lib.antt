pub mod HeldScripts
pub mod Servable
pub mod Audits
pub mod Lineless
pub mod Scripts
pub mod Telling
