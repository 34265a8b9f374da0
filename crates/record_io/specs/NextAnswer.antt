-- What stands next in a source of answers (profile).
use Rattle.std.specs.Prelude.{◌≡◌, ◌≢◌, ⊤, ℕ, ◌<◌, ◌≤◌, List, [], ◌++◌, length, Option}
use Rattle.record_io.specs.Answers.{Header, Cut, EndsWith, answer_octets, header_octets, header_of}
use Rattle.record_io.specs.declared.answers.NextAnswer.{NextAnswer}
use Rattle.record_io.specs.declared.answers.NextAnswer.TheVariants as nexts
use Rattle.record_io.specs.declared.answers.TheConstants.{MOST_BODY}

-- what stands behind a header
unfoldable pub StandsBehind : Header → List ℕ → List ℕ → NextAnswer → Type 0
StandsBehind header old new (nexts.Answer answer) = (header ≡ header_of answer) × (old ≡ answer.body ++ new)
StandsBehind header old new nexts.End = ⊥
StandsBehind header old new nexts.Cut = length old < header.octets
StandsBehind header old new nexts.Long = ⊥
StandsBehind header old new nexts.SourceFault = ⊤

-- What stood at the front: a whole answer, which was taken; nothing; what is left of answers behind their whole ones,
-- where it is not nothing; or a header that says too many octets.
unfoldable pub Stands : List ℕ → List ℕ → NextAnswer → Type 0
Stands old new (nexts.Answer answer) = (old ≡ answer_octets answer ++ new) × (length answer.body ≤ MOST_BODY)
Stands old new nexts.End = old ≡ []
Stands old new nexts.Cut = (old ≢ []) × ((last : Option Cut) × EndsWith old last)
Stands old new nexts.Long = (header : Header) × (rest : List ℕ) × (old ≡ header_octets header ++ rest)
    × (MOST_BODY < header.octets)
Stands old new nexts.SourceFault = ⊤

-- where the source failed this holds
abbrev pub IfFault : Type 0 → NextAnswer → Type 0
IfFault P (nexts.Answer answer) = ⊤
IfFault P nexts.End = ⊤
IfFault P nexts.Cut = ⊤
IfFault P nexts.Long = ⊤
IfFault P nexts.SourceFault = P
