pub mod Scene
pub mod Move
pub mod Laws
pub mod Run
