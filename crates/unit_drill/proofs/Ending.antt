-- What was written is due: for `drill` and `drill_link`.
use Rattle.std.proofs.Common.{◌≡◌, ℕ, Bool, List, Result, Ok, Err, IfOk, IfErr, codes, inl, inr, refl}
use Rattle.sdls_outside.specs.Moments.{Trace}
use Rattle.record_io.specs.Outcome.{Ends, line}
use Rattle.unit_drill.specs.declared.counts.Counts.{Counts}
use Rattle.unit_drill.specs.Line.{drill_text, link_text}
use Rattle.unit_drill.specs.Drilled.{EndsDrill, IsDrilled}
use Rattle.unit_drill.specs.OverLink.{EndsLinkDrill, IsLinkDrilled}

module _ {T E : Type 0} (items : T → List ℕ) (number : ℕ) (told : Bool) (old new : Trace) (rose : Type 0)
    (status : ℕ) where
  pub ends_drill : (made : Result T E)
      → IfOk made (λ text. (counts : Counts) × IsDrilled number counts × (items text ≡ drill_text number counts))
      → IfOk made (λ text. Ends told old new rose (items text) 0 status)
      → IfErr made (λ fault. Ends told old new rose (line (codes "no memory")) 6 status)
      → EndsDrill number told old new rose status
  ends_drill (Ok text) is written wanting = (items text, 0, inl (is.0, is.1, is.2, refl), written)
  ends_drill (Err fault) is written wanting = (line (codes "no memory"), 6, inr (refl, refl), wanting)

  pub ends_link_drill : (made : Result T E)
      → IfOk made (λ text. (counts : Counts) × IsLinkDrilled number counts × (items text ≡ link_text number counts))
      → IfOk made (λ text. Ends told old new rose (items text) 0 status)
      → IfErr made (λ fault. Ends told old new rose (line (codes "no memory")) 6 status)
      → EndsLinkDrill number told old new rose status
  ends_link_drill (Ok text) is written wanting = (items text, 0, inl (is.0, is.1, is.2, refl), written)
  ends_link_drill (Err fault) is written wanting = (line (codes "no memory"), 6, inr (refl, refl), wanting)
