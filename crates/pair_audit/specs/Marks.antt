-- What an answer does with its number (profile).
use Rattle.std.specs.Prelude.{◌≡◌, ◌≢◌, ◌⊎◌, ℕ}
use Rattle.record_io.specs.declared.answers.Answer.{Answer}
use Rattle.record_io.specs.declared.code.TheConstants.{PROTECTED, ACCEPTED, DONE}
use Rattle.pair_audit.specs.declared.audit.Mark.{Mark}
use Rattle.pair_audit.specs.declared.audit.Mark.TheVariants as marks

-- code and key of an answer that uses a number: a frame protected, or a command done that drew one
abbrev pub SaysUse : ℕ → ℕ → Type 0
SaysUse code key = (code ≡ PROTECTED) ⊎ ((code ≡ DONE) × (key ≢ 0))

abbrev pub SaysAcceptance : ℕ → Type 0
SaysAcceptance code = code ≡ ACCEPTED

abbrev pub IsUse : Answer → Type 0
IsUse answer = SaysUse answer.code answer.key

abbrev pub IsAcceptance : Answer → Type 0
IsAcceptance answer = SaysAcceptance answer.code

abbrev pub Marks : ℕ → ℕ → Mark → Type 0
Marks code key marks.Uses = SaysUse code key
Marks code key marks.Accepts = SaysAcceptance code
Marks code key marks.Neither = (SaysUse code key → ⊥) × (SaysAcceptance code → ⊥)
