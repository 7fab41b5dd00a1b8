pub mod Reading
pub mod Grammar
pub mod Statements
pub mod StatementReading
pub mod DeclaredTypes
pub mod Scopes
