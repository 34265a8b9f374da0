-- What a crash leaves of `init`, for its clauses `moments`.
use Rattle.std.proofs.Common.{◌≡◌, ◌⊎◌, inl, inr, ℕ, ◌<◌, ◌≤◌, Bool, true, false, IsTrue, List, [], length, take, Some}
use Rattle.std.proofs.Common.{refl, sym, ap, subst, arith}
use Rattle.std.proofs.lemmas.Bool.{false≢true}
use Rattle.sdls_outside.specs.Disk.{Leaves}
use Rattle.sdls_outside.specs.Intake.{Collects}
use Rattle.sdls_outside.specs.Moments.{Trace, clock, EachMoment}
use Rattle.sdls_outside.specs.Output.{OnlySinks}
use Rattle.sdls_outside.proofs.Moments.{each_same, each_then, each_weaker, moment_now}
use Rattle.disk_journal.specs.declared.layout.TheConstants.{HEADER_LENGTH}
use Rattle.disk_journal.specs.Moments.{AllBut}
use Rattle.disk_journal.specs.Initial.{IsLaid, created_image}
use Rattle.disk_journal.specs.Fault.{image_fault}
use Rattle.disk_journal.proofs.Refused.{short_verdict}
use Rattle.unit_plan.specs.PlanLines.{PlanLines}
use Rattle.unit_state.specs.declared.state.State.{State}
use Rattle.unit_plan.specs.Bare.{bare_of}
use Rattle.unit_image.specs.Content.{content_of}
use Rattle.disk_journal.specs.declared.layout.HeaderForm.TheVariants.{New}
use Rattle.sdls_base.specs.declared.version.Version.TheVariants.{Two}
use Rattle.unit_image.specs.Beginning.{SaysPlan, image_of_plan}
use Rattle.cli_image.specs.Init.{IsNoneOrInitial, LeavesNoOther}
use Rattle.cli_image.proofs.Making.{said_whole}
use Rattle.cli_image.proofs.Sinking.{sinks_leave}

-- what is left at a moment is refused, or is the image of this input
abbrev pub AtMoment : List ℕ → List ℕ → List ℕ → Type 0
AtMoment input image sunk = IsNoneOrInitial input image

-- no image stands, and nothing was written
pub before_writing : (input : List ℕ) (trace : Trace) → trace.now.image ≡ [] → EachMoment trace trace (AtMoment input)
before_writing input trace empty = each_same trace (AtMoment input) (λ image leaves.
    let longest : length image ≤ length trace.now.image = leaves.no_longer in
    let nothing : length trace.now.image ≡ 0 = ap (λ (octets : List ℕ). length octets) empty in
    let short : length image < HEADER_LENGTH = omega arith in
    inl (inl (short_verdict image short)))

pub before_reading : (IsInput : List ℕ → Type 0) (input : List ℕ) (trace : Trace) → IsInput input → trace.now.image ≡ []
    → LeavesNoOther IsInput trace trace
before_reading IsInput input trace is empty = (input, is, before_writing input trace empty)

-- an initial image, but for the gate of its header, is refused or whole: what the law `cut_beginning` says
abbrev pub CutsOff : Type 0
CutsOff = (plan : List ℕ) (slots : ℕ) (content image : List ℕ) → AllBut 0 1 (created_image New plan slots content) image
    → (image_fault image ≡ Some 0) ⊎ (image ≡ created_image New plan slots content)

whole : CutsOff → (text : List ℕ) (plan : PlanLines) (first : State) → SaysPlan text plan first → (image : List ℕ)
    → AllBut 0 1 (image_of_plan text plan first) image → IsNoneOrInitial text image
whole cut text plan first says image change = elim (cut (bare_of text) plan.slots (content_of Two first) image change) [
  | inl refused ↦ inl (inl refused)
  | inr is ↦ inr (plan, first, says, is)
]

-- the image of the plan is written
pub while_writing : CutsOff → (text : List ℕ) (plan : PlanLines) (first : State) (old mid new : Trace)
    → SaysPlan text plan first
    → IsLaid New (bare_of text) plan.slots (content_of Two first) old mid new → EachMoment old new (AtMoment text)
while_writing cut text plan first old mid new says laid =
    let early : EachMoment old mid (AtMoment text) =
    each_weaker old mid (λ image sunk. (image_fault image ≡ Some 0) × (sunk ≡ old.now.sunk)) (AtMoment text)
    (λ image sunk holds. inl (inl holds.0)) laid.early.moments in
    elim laid.late [
      | inl same ↦ subst (λ (trace : Trace). EachMoment old trace (AtMoment text)) (sym same) early
      | inr late ↦ each_then old mid new (AtMoment text) early
          (each_weaker mid new (λ image sunk. AllBut 0 1 (image_of_plan text plan first) image × (sunk ≡ mid.now.sunk))
          (AtMoment text) (λ image sunk holds. whole cut text plan first says image holds.0) late.2.moments)
    ]

-- a text that says a plan is the input
input_of : (left_old left_new buffer : List ℕ) (count : ℕ) → length buffer ≡ 65537
    → Collects left_old left_new buffer count
    → (image : List ℕ) → IsNoneOrInitial (take count buffer) image → IsNoneOrInitial left_old image
input_of left_old left_new buffer count sized collects image (inl none) = inl none
input_of left_old left_new buffer count sized collects image (inr made) =
    let same : take count buffer ≡ left_old =
    said_whole left_old left_new buffer count made.0 sized collects made.2.read in
    subst (λ (input : List ℕ). IsNoneOrInitial input image) same (inr made)

-- what holds for the text that was collected holds for the input
pub of_input : (left_old left_new buffer : List ℕ) (count : ℕ) (told : Bool) (old new : Trace) → length buffer ≡ 65537
    → (IsTrue told → Collects left_old left_new buffer count) → EachMoment old new (AtMoment (take count buffer))
    → LeavesNoOther (λ input. IsTrue told → input ≡ left_old) old new
of_input left_old left_new buffer count true old new sized collects each = (
  left_old,
  λ told. refl,
  each_weaker old new (AtMoment (take count buffer)) (AtMoment left_old)
      (λ image sunk holds. input_of left_old left_new buffer count sized (collects refl) image holds) each,
)
of_input left_old left_new buffer count false old new sized collects each =
    (take count buffer, λ told. absurd (false≢true told), each)

-- a text is put behind it
pub and_puts : (IsInput : List ℕ → Type 0) (old mid new : Trace) → LeavesNoOther IsInput old mid → OnlySinks mid new
    → LeavesNoOther IsInput old new
and_puts IsInput old mid new leaves sinks = (
  leaves.0,
  leaves.1,
  each_then old mid new (AtMoment leaves.0) leaves.2
      (each_weaker mid new (λ image sunk. Leaves mid.now image) (AtMoment leaves.0)
      (λ image sunk left. leaves.2.each image mid.now.sunk (moment_now mid (clock old) image left))
      (sinks_leave mid new sinks)),
)
