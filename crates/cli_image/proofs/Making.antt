-- What ends `init` for the text that was collected ends it for the input, for `collect_and_make`; and for `run_init`.
use Rattle.std.proofs.Common.{◌≡◌, ℕ, ◌+◌, ◌<◌, ◌≤◌, Bool, true, false, IsTrue, List, ◌++◌, length, take, refl, ap, sym}
use Rattle.std.proofs.Common.{◌∙◌, subst, arith, append-nil, Ok}
use Rattle.std.proofs.Common.{inl, inr, ◌⊎◌}
use Rattle.std.proofs.lemmas.Bool.{cases_lt, false≢true}
use Rattle.std.proofs.lemmas.Bool.Decides.{nat_tests}
use Rattle.std.proofs.lemmas.List.{length-take-le, length-append}
use Rattle.sdls_outside.specs.Moments.{Trace}
use Rattle.sdls_outside.specs.Intake.{Collects}
use Rattle.unit_plan.specs.declared.plan_error.PlanCause.TheVariants as causes
use Rattle.unit_plan.specs.declared.plan_error.PlanFault.{PlanFault}
use Rattle.unit_plan.specs.PlanLines.{PlanLines}
use Rattle.unit_plan.specs.PlanError.{fault}
use Rattle.unit_plan.specs.Plan.{plan_of}
use Rattle.cli_image.specs.declared.init.InitEnd.{InitEnd}
use Rattle.cli_image.specs.declared.init.InitEnd.TheVariants.{Made, ImageExists, Refused, SourceFault, SiteFault}
use Rattle.cli_image.specs.declared.init.InitEnd.TheVariants.{NoMemory}
use Rattle.cli_image.specs.Init.{InitEnds, IsPlanFault}

whole : (most : ℕ) (left_old left_new buffer : List ℕ) (count : ℕ) → length buffer ≡ most + 1
    → Collects left_old left_new buffer count → count ≤ most → take count buffer ≡ left_old
whole most left_old left_new buffer count sized collects few =
    let ended = collects.ended (omega arith) in
    sym (collects.moved ∙ ap (λ (rest : List ℕ). take count buffer ++ rest) ended ∙ append-nil (take count buffer))

-- a text that is too long is refused for that
long_text : (text : List ℕ) → 65536 < length text → plan_of text ≡ fault 1 causes.Long
long_text text long = grind (arith, nat_tests)

-- what was collected is the whole input, or it and the whole input are too long
collected : (left_old left_new buffer : List ℕ) (count : ℕ) → length buffer ≡ 65537
    → Collects left_old left_new buffer count
    → (take count buffer ≡ left_old) ⊎ ((65536 < length (take count buffer)) × (65536 < length left_old))
collected left_old left_new buffer count sized collects = elim (cases_lt count 65537) [
  | inl short ↦ inl (whole 65536 left_old left_new buffer count (omega arith) collects (omega arith))
  | inr full ↦
      let taken : length (take count buffer) ≡ count = length-take-le count buffer collects.within in
      let grown : length left_old ≡ length (take count buffer) + length left_new
      = ap length collects.moved ∙ length-append (take count buffer) left_new in
      inr (omega arith, omega arith)
]

-- both are the same plan, or none for the same fault
same_plan : (left_old left_new buffer : List ℕ) (count : ℕ) → length buffer ≡ 65537
    → Collects left_old left_new buffer count
    → plan_of (take count buffer) ≡ plan_of left_old
same_plan left_old left_new buffer count sized collects =
    elim (collected left_old left_new buffer count sized collects) [
      | inl same ↦ ap plan_of same
      | inr long ↦ long_text (take count buffer) long.0 ∙ sym (long_text left_old long.1)
    ]

-- what says a plan is short, so it is the whole input
pub said_whole : (left_old left_new buffer : List ℕ) (count : ℕ) (plan : PlanLines) → length buffer ≡ 65537
    → Collects left_old left_new buffer count → plan_of (take count buffer) ≡ Ok plan → take count buffer ≡ left_old
said_whole left_old left_new buffer count plan sized collects says =
    elim (collected left_old left_new buffer count sized collects) [
      | inl same ↦ same
      | inr long ↦ absurd (ok_err plan (sym says ∙ long_text (take count buffer) long.0))
    ]
  where
    ok_err : (plan : PlanLines) → Ok plan ≡ fault 1 causes.Long → ⊥
    ok_err plan is = cc

fault_whole : (left_old left_new buffer : List ℕ) (count : ℕ) (first : PlanFault) → length buffer ≡ 65537
    → Collects left_old left_new buffer count → IsPlanFault (take count buffer) first → IsPlanFault left_old first
fault_whole left_old left_new buffer count first sized collects is =
    let same = same_plan left_old left_new buffer count sized collects in
    elim is [
      | inl read ↦ inl (sym same ∙ read)
      | inr made ↦ inr (made.0, sym same ∙ made.1, made.2)
    ]

-- what ends `init` for the text that was collected ends it for the input
pub ends_of_input : (left_old left_new buffer : List ℕ) (count : ℕ) (source_told site_told : Bool)
    → (unread source_rose site_rose : Type 0)
    → (old new : Trace) (end : InitEnd) → length buffer ≡ 65537
    → (IsTrue source_told → Collects left_old left_new buffer count)
    → InitEnds (λ input. input ≡ take count buffer) ⊥ ⊥ site_told site_rose old new end
    → InitEnds (λ input. IsTrue source_told → input ≡ left_old) unread source_rose site_told site_rose old new end
ends_of_input left_old left_new buffer count source_told site_told unread source_rose site_rose old new Made sized
    collects ends =
    let read : plan_of (take count buffer) ≡ Ok ends.1 =
    subst (λ (text : List ℕ). plan_of text ≡ Ok ends.1) ends.3 ends.4.read in (
      ends.0,
      ends.1,
      ends.2,
      λ told. ends.3 ∙ said_whole left_old left_new buffer count ends.1 sized (collects told)
          read,
      ends.4,
      ends.5,
    )
ends_of_input left_old left_new buffer count source_told site_told unread source_rose site_rose old new ImageExists
    sized collects ends =
    absurd ends.0
ends_of_input left_old left_new buffer count true site_told unread source_rose site_rose old new (Refused first) sized
    collects ends = (
      left_old,
      λ told. refl,
      fault_whole left_old left_new buffer count first sized (collects refl)
          (subst (λ (text : List ℕ). IsPlanFault text first) ends.1 ends.2),
      ends.3,
    )
ends_of_input left_old left_new buffer count false site_told unread source_rose site_rose old new (Refused first) sized
    collects ends =
    (ends.0, λ told. absurd (false≢true told), ends.2, ends.3)
ends_of_input left_old left_new buffer count source_told site_told unread source_rose site_rose old new SourceFault
    sized collects ends =
    absurd ends.0
ends_of_input left_old left_new buffer count source_told site_told unread source_rose site_rose old new SiteFault sized
    collects ends = elim ends.1 [
      | inl never ↦ absurd never.0
      | inr made ↦
          let read : plan_of (take count buffer) ≡ Ok made.1 =
          subst (λ (text : List ℕ). plan_of text ≡ Ok made.1) made.3 made.4.read in (
            ends.0,
            inr (
              made.0,
              made.1,
              made.2,
              λ told. made.3 ∙ said_whole left_old left_new buffer count made.1 sized (collects told) read,
              made.4,
              made.5,
            ),
          )
    ]
ends_of_input left_old left_new buffer count source_told site_told unread source_rose site_rose old new NoMemory sized
    collects ends = ends

-- a fault of the site is one still after the text was put
pub ends_later : (IsInput : List ℕ → Type 0) (unread source_rose : Type 0) (told : Bool) (early late : Type 0)
    → (old new : Trace) (end : InitEnd) → (early → late)
    → InitEnds IsInput unread source_rose told early old new end
    → InitEnds IsInput unread source_rose told late old new end
ends_later IsInput unread source_rose told early late old new Made rises ends = ends
ends_later IsInput unread source_rose told early late old new ImageExists rises ends = ends
ends_later IsInput unread source_rose told early late old new (Refused first) rises ends = ends
ends_later IsInput unread source_rose told early late old new SourceFault rises ends = ends
ends_later IsInput unread source_rose told early late old new SiteFault rises ends = (rises ends.0, ends.1)
ends_later IsInput unread source_rose told early late old new NoMemory rises ends = ends
