use Rattle.std.proofs.Common.{◌≡◌, ℕ, ◌+◌, ◌<◌, ◌≤◌, Bool, true, false, IsTrue, List, [], ◌++◌, length, take, refl, ap}
use Rattle.std.proofs.Common.{sym, ◌∙◌, subst, arith, inl, inr, append-nil, Result, Ok, Err, MatchResult, Bor}
use Rattle.std.proofs.lemmas.Bool.{cases_lt, false≢true}
use Rattle.std.proofs.lemmas.List.{length-take-le, length-append}
use Rattle.cli_check.specs.declared.check.Refusal.{Refusal}
use Rattle.cli_check.specs.declared.check.Refusal.TheVariants.{Short, Long, Version, Spare, Spi, Mac}
use Rattle.record_io.specs.declared.status.TheConstants.{DONE, REFUSED}
use Rattle.cli_check.specs.Check.{PassesChecks, IsFirstFault, data_field}
use Rattle.sdls_outside.specs.Intake.{Collects}
use Rattle.std.specs.Result.{IfOk, IfErr}
use Rattle.sdls_outside.specs.Moments.{Trace}
use Rattle.cli_check.specs.Answer.{CheckDue, DeliversText, accepted_text, refused_text}

-- the room for the input: one octet more than the longest frame
abbrev room : ℕ
room = 2049

-- where the input ended before the room was full, what was collected is the whole input
whole_short : (left_old left_new buffer : List ℕ) (count : ℕ) → length buffer ≡ room
    → Collects left_old left_new buffer count
    → count < room → take count buffer ≡ left_old
whole_short left_old left_new buffer count sized collects short =
    let ended : left_new ≡ [] = collects.ended (omega arith) in
    sym (collects.moved ∙ ap (λ (rest : List ℕ). take count buffer ++ rest) ended ∙ append-nil (take count buffer))

-- a frame that fills the room is too long, and so is the whole input, of which it is the front
long_first : (key frame whole : List ℕ) (fault : Refusal) → length frame ≡ room → room ≤ length whole
    → IsFirstFault key frame fault → IsFirstFault key whole fault
long_first key frame whole Short sized longer first =
    absurd (let short : length frame < 28 = first.fails in omega arith)
long_first key frame whole Long sized longer first = record {
  fails = omega arith;
  first = elim [
    | Short ↦ λ below short. omega arith
    | Long ↦ λ below. absurd (omega arith)
    | Version ↦ λ below. absurd (omega arith)
    | Spare ↦ λ below. absurd (omega arith)
    | Spi ↦ λ below. absurd (omega arith)
    | Mac ↦ λ below. absurd (omega arith)
  ];
}
long_first key frame whole Version sized longer first = absurd (first.first Long (omega arith) (omega arith))
long_first key frame whole Spare sized longer first = absurd (first.first Long (omega arith) (omega arith))
long_first key frame whole Spi sized longer first = absurd (first.first Long (omega arith) (omega arith))
long_first key frame whole Mac sized longer first = absurd (first.first Long (omega arith) (omega arith))

-- the first fault of what was collected is the first fault of the whole input
fault_of_whole : (key left_old left_new buffer : List ℕ) (count : ℕ) (fault : Refusal) → length buffer ≡ room
    → Collects left_old left_new buffer count → IsFirstFault key (take count buffer) fault
    → IsFirstFault key left_old fault
fault_of_whole key left_old left_new buffer count fault sized collects first = elim (cases_lt count room) [
  | inl short ↦ subst (λ (frame : List ℕ). IsFirstFault key frame fault)
      (whole_short left_old left_new buffer count sized collects short) first
  | inr full ↦
      let taken : length (take count buffer) ≡ count = length-take-le count buffer collects.within in
      let grown : length left_old ≡ length (take count buffer) + length left_new =
      ap length collects.moved ∙ length-append (take count buffer) left_new in
      let within = collects.within in
      long_first key (take count buffer) left_old fault (omega arith) (omega arith) first
]

-- a frame that passes is the whole input
whole_passed : (key left_old left_new buffer : List ℕ) (count : ℕ) → length buffer ≡ room
    → Collects left_old left_new buffer count → PassesChecks key (take count buffer) → take count buffer ≡ left_old
whole_passed key left_old left_new buffer count sized collects passes = elim (cases_lt count room) [
  | inl short ↦ whole_short left_old left_new buffer count sized collects short
  | inr full ↦
      let taken : length (take count buffer) ≡ count = length-take-le count buffer collects.within in
      absurd (passes Long (omega arith))
]

-- what is due for an accepted frame
pub accepted_due : (key left_old left_new buffer : List ℕ) (count : ℕ) (told : Bool) (rose : Type 0)
    → length buffer ≡ room
    → (IsTrue told → Collects left_old left_new buffer count) → PassesChecks key (take count buffer)
    → CheckDue key (λ input. IsTrue told → input ≡ left_old) rose (accepted_text (data_field (take count buffer))) DONE
accepted_due key left_old left_new buffer count told rose sized collects passes =
    inl (
      take count buffer,
      λ is_told. whole_passed key left_old left_new buffer count sized (collects is_told) passes,
      inl (passes, refl, refl),
    )

-- what is due for a refused frame
pub refused_due : (key left_old left_new buffer : List ℕ) (count : ℕ) (told : Bool) (rose : Type 0) (fault : Refusal)
    → length buffer ≡ room → (IsTrue told → Collects left_old left_new buffer count)
    → IsFirstFault key (take count buffer) fault
    → CheckDue key (λ input. IsTrue told → input ≡ left_old) rose (refused_text fault) REFUSED
refused_due key left_old left_new buffer count true rose fault sized collects first =
    inl (
      left_old,
      λ is_told. refl,
      inr (fault, fault_of_whole key left_old left_new buffer count fault sized (collects refl) first, refl, refl),
    )
refused_due key left_old left_new buffer count false rose fault sized collects first =
    inl (take count buffer, λ is_told. absurd (false≢true is_told), inr (fault, first, refl, refl))

-- what is due for a verdict, and is answered
pub judged : {E : Type 0} (key left_old left_new buffer : List ℕ) (count : ℕ) (source_told site_told : Bool)
    (rose : Type 0)
    → (verdict : Result (Bor (List ℕ)) Refusal) (result : Result ℕ E) (old new : Trace) → length buffer ≡ room
    → (IsTrue source_told → Collects left_old left_new buffer count)
    → IfOk verdict (λ field. PassesChecks key (take count buffer) × (field.now ≡ data_field (take count buffer)))
    → IfErr verdict (IsFirstFault key (take count buffer))
    → MatchResult verdict (λ field. DeliversText site_told (accepted_text field.now) DONE result old new)
    (λ refusal. DeliversText site_told (refused_text refusal) REFUSED result old new)
    → (text : List ℕ) × (due : ℕ)
    × CheckDue key (λ input. IsTrue source_told → input ≡ left_old) rose text due
    × DeliversText site_told text due result old new
judged key left_old left_new buffer count source_told site_told rose (Ok field) result old new sized collects passed
    failed answered = (
      accepted_text (data_field (take count buffer)),
      DONE,
      accepted_due key left_old left_new buffer count source_told rose sized collects passed.0,
      subst (λ (data_octets : List ℕ). DeliversText site_told (accepted_text data_octets) DONE result old new) passed.1
          answered,
    )
judged key left_old left_new buffer count source_told site_told rose (Err fault) result old new sized collects passed
    failed answered = (
      refused_text fault,
      REFUSED,
      refused_due key left_old left_new buffer count source_told rose fault sized collects failed,
      answered,
    )
