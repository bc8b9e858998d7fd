pub mod Passwords
pub mod PasswordVectors
