pub mod Ends
pub mod HeldRun
pub mod Starts
pub mod AuditRun
pub mod ScriptRun
pub mod Laws
pub mod Said
