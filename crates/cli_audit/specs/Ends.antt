-- How `audit` ends (profile).
use Rattle.std.specs.Prelude.{◌≡◌, ◌⊎◌, ℕ, Bool, List, codes}
use Rattle.sdls_outside.specs.Moments.{Trace}
use Rattle.record_io.specs.declared.status.TheConstants.{SOURCE_FAULT, NO_MEMORY}
use Rattle.record_io.specs.Outcome.{Ends, line}
use Rattle.pair_audit.specs.declared.walk.AuditEnd.{AuditEnd}
use Rattle.pair_audit.specs.Recording.{AuditFound}
use Rattle.cli_audit.specs.Text.{audit_status, audit_text}

-- The line and the status that are due: what an audit says of the input; if the source failed, that. Out of memory
-- needs no cause.
abbrev pub AuditDue : (List ℕ → Type 0) → Type 0 → List ℕ → ℕ → Type 0
AuditDue IsInput source_rose text status =
    ((end : AuditEnd) × AuditFound IsInput end × (text ≡ audit_text end) × (status ≡ audit_status end))
    ⊎ ((source_rose × (text ≡ line (codes "source fault")) × (status ≡ SOURCE_FAULT))
    ⊎ ((text ≡ line (codes "no memory")) × (status ≡ NO_MEMORY)))

-- How `audit` ends: with the line that is due written once, and nothing else done to the site.
abbrev pub EndsAudit : (List ℕ → Type 0) → Type 0 → Bool → Trace → Trace → Type 0 → ℕ → Type 0
EndsAudit IsInput source_rose told old new site_rose status = (text : List ℕ) × (due : ℕ)
    × AuditDue IsInput source_rose text due × Ends told old new site_rose text due status
