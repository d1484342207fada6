pub mod ThirdLine
pub mod ThreeLines
