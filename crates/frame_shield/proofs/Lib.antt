pub mod CoveredFacts
pub mod FoundFacts
pub mod Lengths
pub mod OpenFacts
pub mod ProtectFacts
pub mod ProtectedOnce
pub mod Stretches
