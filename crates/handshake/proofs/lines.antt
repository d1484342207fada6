pub mod LineLoop
