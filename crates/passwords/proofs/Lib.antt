pub mod PasswordLaws
mod ByteLaws
