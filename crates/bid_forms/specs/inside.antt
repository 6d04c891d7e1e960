pub mod Fingerprints
pub mod FormText
