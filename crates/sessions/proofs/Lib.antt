pub mod SearchWords
