pub mod Hub
pub mod Promises
pub mod Frames
pub mod Answers
