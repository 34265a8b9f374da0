-- An audit that finds all well ends with that line: for `audit_passes_a_life`.
use Rattle.std.proofs.Common.{◌≡◌, ◌⊎◌, ℕ, ◌≤◌, Bool, IsTrue, List, length, take, inl, inr, subst, ap, ◌∙◌}
use Rattle.std.proofs.lemmas.List.{take_all}
use Rattle.sdls_outside.specs.Moments.{Trace}
use Rattle.sdls_outside.specs.Output.{Sinks}
use Rattle.record_io.specs.declared.answers.Answer.{Answer}
use Rattle.record_io.specs.declared.status.TheConstants.{DONE, NO_MEMORY}
use Rattle.record_io.specs.Input.{MOST_OCTETS}
use Rattle.record_io.specs.Outcome.{Ends}
use Rattle.pair_audit.specs.Audit.{acceptances_in, uses_in}
use Rattle.pair_audit.specs.Recording.{AuditSays, RunsCount, recording}
use Rattle.pair_audit.specs.declared.walk.AuditEnd.{AuditEnd}
use Rattle.pair_audit.specs.declared.walk.AuditEnd.TheVariants.{Clean}
use Rattle.cli_audit.specs.Ends.{AuditDue, EndsAudit}
use Rattle.cli_audit.specs.Text.{audit_status, audit_text, clean_text}

-- an audit of these runs says that all is well, with these counts
abbrev pub IsClean : List (List ℕ) → AuditEnd → Type 0
IsClean sunk end = (answers : List Answer) × RunsCount sunk answers
    × (end ≡ Clean (length sunk) (uses_in answers) (acceptances_in answers))

abbrev Passes : List (List ℕ) → Bool → Trace → Trace → ℕ → Type 0
Passes sunk told old new status = ((answers : List Answer) × RunsCount sunk answers × (status ≡ DONE)
    × (IsTrue told → Sinks (clean_text (length sunk) (uses_in answers) (acceptances_in answers)) old new))
    ⊎ (status ≡ NO_MEMORY)

ends_due : (told : Bool) (old new : Trace) (text : List ℕ) (due status : ℕ) → Ends told old new ⊥ text due status
    → (status ≡ due) × (IsTrue told → Sinks text old new)
ends_due told old new text due status (inl ends) = ends
ends_due told old new text due status (inr failed) = absurd failed.1

pub passes_audit : (sunk : List (List ℕ)) (told : Bool) (old new : Trace) (status : ℕ)
    → length (recording sunk) ≤ MOST_OCTETS
    → ((end : AuditEnd) → AuditSays (recording sunk) end → IsClean sunk end)
    → EndsAudit (λ input. input ≡ take MOST_OCTETS (recording sunk)) ⊥ told old new ⊥ status
    → Passes sunk told old new status
passes_audit sunk told old new status few clean (text, due, is_due, ends) =
    by_due is_due (ends_due told old new text due status ends)
  where
    by_due : AuditDue (λ input. input ≡ take MOST_OCTETS (recording sunk)) ⊥ text due
        → (status ≡ due) × (IsTrue told → Sinks text old new)
        → Passes sunk told old new status
    by_due (inl (end, (input, is_input, says), text_is, due_is)) (status_is, sinks) =
        let whole : input ≡ recording sunk = is_input ∙ take_all MOST_OCTETS (recording sunk) few in
        let is = clean end (subst (λ (l : List ℕ). AuditSays l end) whole says) in
        inl (
          is.0,
          is.1,
          status_is ∙ due_is ∙ ap audit_status is.2,
          λ is_told. subst (λ (l : List ℕ). Sinks l old new) (text_is ∙ ap audit_text is.2) (sinks is_told),
        )
    by_due (inr (inl failed)) ended = absurd failed.0
    by_due (inr (inr (text_is, due_is))) (status_is, sinks) = inr (status_is ∙ due_is)
