pub mod BoundWords
