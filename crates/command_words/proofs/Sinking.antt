-- A call that ends with a text did nothing to the site but to write: for the crates above.
use Rattle.std.proofs.Common.{ℕ, Bool, IsTrue, List, inl, inr}
use Rattle.sdls_outside.specs.Moments.{Trace}
use Rattle.sdls_outside.specs.Output.{OnlySinks}
use Rattle.record_io.specs.Outcome.{Ends}

pub ends_only_sinks : (told : Bool) (old new : Trace) (rose : Type 0) (text : List ℕ) (due status : ℕ)
    → Ends told old new rose text due status → IsTrue told → OnlySinks old new
ends_only_sinks told old new rose text due status (inl ends) is_told = (ends.1 is_told).only_sinks
ends_only_sinks told old new rose text due status (inr failed) is_told = (failed.2 is_told).only_sinks
