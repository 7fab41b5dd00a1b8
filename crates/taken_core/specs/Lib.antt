pub mod TakeFile
