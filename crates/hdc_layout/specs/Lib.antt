pub mod Roles
pub mod Marks
pub mod Blocks
pub mod Frames
pub mod Rules
pub mod LaidOut
pub mod Progress
