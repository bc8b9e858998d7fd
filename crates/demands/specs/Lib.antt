pub mod Calls
pub mod Invariants
pub mod Steps
pub mod FeedLists
pub mod Frames
pub mod Demands
