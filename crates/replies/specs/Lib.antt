pub mod Messages
pub mod Replies
pub mod ReplyLaws
pub mod ReplyVectors
