pub mod BindingLoops
