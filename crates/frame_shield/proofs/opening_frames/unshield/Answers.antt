use Rattle.std.proofs.Common.{◌≡◌, ℕ, ◌-◌, ◌≤◌, List, length, ap, sym, ◌∙◌, arith, refl}
use Rattle.std.specs.Prelude.{slice_range}
use Rattle.std.proofs.lemmas.Slice.{take-put_mid_below, drop-put_mid, between-put_mid}
use borrow.Rule.Slice.PartMut.{put_mid}
use Rattle.frame_shield.specs.declared.binding.Binding.{Binding}
use Rattle.frame_shield.specs.declared.opening_frames.Found.{Found}
use Rattle.frame_shield.specs.Secured.{sealed}
use Rattle.frame_shield.proofs.FoundFacts.{opens_sealed, found_opens}
use Rattle.frame_shield.proofs.opening_frames.unshield.Goals as goal

pub returns-in_default-clause-bad_mac : goal.returns-in_default-clause-bad_mac
returns-in_default-clause-bad_mac c = (λ bad n field o. c.in_default.ensures.none refl n field o, λ none. refl)

pub returns-then-not-open-clause-bad_mac : goal.returns-then-not-open-clause-bad_mac
returns-then-not-open-clause-bad_mac c = (
  λ bad n field o.
      let b : Binding = c.args.binding.now in
      let found : Found = c.in-Some.found in
      let right = opens_sealed b c.args.frame.now found n field c.in-Some.ensures.found o in
      c.if-not-open.ensures.refused field
      (ap (λ (l : List ℕ). sealed b.schedule found.vector l field) c.as_slice.ensures.text ∙ right),
  λ none. refl,
)

pub returns-clause-field : goal.returns-clause-field
returns-clause-field c =
    let b : Binding = c.args.binding.now in
    let old : List ℕ = c.args.frame.now in
    let found : Found = c.in-Some.found in
    let is = c.in-Some.ensures.found in
    let text : List ℕ = c.open.new.text in
    let new : List ℕ = put_mid found.start (found.end - found.start) old text in
    let size : length text ≡ found.end - found.start = omega arith in
    let order : found.start ≤ found.end = omega (arith, is.end) in
    let within : found.start ≤ length old = omega (arith, is.within) in
    let clear : slice_range new found.start found.end ≡ text =
    between-put_mid found.start (found.end - found.start) old text found.end within size in
    let right = ap (λ (l : List ℕ). sealed b.schedule found.vector found.covered l) clear
    ∙ ap (λ (l : List ℕ). sealed b.schedule found.vector l text) (sym c.as_slice.ensures.text)
    ∙ c.if-not-open.ensures.opened in
    record {
      opens = found_opens b old found c.number_of-number.result (slice_range new found.start found.end) is
          c.number_of-number.ensures right;
      start = is.start;
      order = order;
      before = take-put_mid_below found.start (found.end - found.start) old text found.start (omega arith) within;
      after = drop-put_mid found.start (found.end - found.start) old text found.end (omega arith) within size;
    }

pub returns-clause-bad_mac : goal.returns-clause-bad_mac
returns-clause-bad_mac c = (
  λ other. absurd (cc),
  λ none.
      let field = returns-clause-field c in
      absurd (none c.number_of-number.result _ field.opens),
)
