-- The lines that `audit` writes, and their statuses (profile).
use Rattle.std.specs.Prelude.{ℕ, Bool, true, false, List, ◌++◌, codes, decimal}
use Rattle.record_io.specs.declared.status.TheConstants.{DONE, REFUSED, MALFORMED}
use Rattle.pair_audit.specs.declared.audit.Repeat.{Repeat}
use Rattle.pair_audit.specs.declared.walk.AuditEnd.{AuditEnd}
use Rattle.pair_audit.specs.declared.walk.AuditEnd.TheVariants.{Clean, Repeated, BreaksAt}

-- how many runs, numbers used and numbers accepted
unfoldable pub clean_text : ℕ → ℕ → ℕ → List ℕ
clean_text runs uses acceptances = codes "audit ok runs " ++ (decimal runs ++ (codes " pairs " ++ (decimal uses
    ++ (codes " accepts " ++ (decimal acceptances ++ codes "\n")))))

-- what both answers do with the number
abbrev pub kind_word : Bool → List ℕ
kind_word true = codes "pair"
kind_word false = codes "accept"

-- key and number, and the places of both answers
unfoldable pub repeat_text : Repeat → List ℕ
repeat_text repeat = codes "audit repeat " ++ (kind_word repeat.pair ++ (codes " " ++ (decimal repeat.key
    ++ (codes " " ++ (decimal repeat.number ++ (codes " at " ++ (decimal repeat.first
    ++ (codes " " ++ (decimal repeat.second ++ codes "\n")))))))))

unfoldable pub offset_text : ℕ → List ℕ
offset_text offset = codes "input at " ++ (decimal offset ++ codes "\n")

abbrev pub audit_text : AuditEnd → List ℕ
audit_text (Clean runs uses acceptances) = clean_text runs uses acceptances
audit_text (Repeated repeat) = repeat_text repeat
audit_text (BreaksAt offset) = offset_text offset

abbrev pub audit_status : AuditEnd → ℕ
audit_status (Clean runs uses acceptances) = DONE
audit_status (Repeated repeat) = REFUSED
audit_status (BreaksAt offset) = MALFORMED
