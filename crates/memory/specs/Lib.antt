pub mod Wrote
pub mod WroteLaws
pub mod Octets
pub mod OctetsVectors
pub mod OctetsLaws
