pub mod OctetFacts
pub mod XorFacts
pub mod BasisFacts
pub mod RoundFacts
mod ScheduleFacts
