mod Adding
mod Answering
mod Calling
mod Clear
mod Forms
mod Levels
mod Moving
mod None
mod Parting
mod Rowing
mod Standing
mod Telling
mod Texts
mod Unique
pub mod Whole
