mod Telling
mod Adding
