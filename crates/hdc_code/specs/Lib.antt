pub mod Machine
pub mod Sound
