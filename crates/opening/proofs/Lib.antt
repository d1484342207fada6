pub mod Making
pub mod SoundOpening
pub mod ShapedOpening
