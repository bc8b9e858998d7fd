pub mod Directory
pub mod Lookup
pub mod Rule
pub mod RuleLaws
pub mod LookupLaws
pub mod DirectoryLaws
pub mod DirectoryVectors
