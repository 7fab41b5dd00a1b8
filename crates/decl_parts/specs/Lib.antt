pub mod Declarations
pub mod DeclarationReading
pub mod Views
