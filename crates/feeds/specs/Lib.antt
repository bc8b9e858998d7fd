pub mod System
pub mod Marks
pub mod Sent
pub mod Service
pub mod Serving
pub mod Demand3
