-- Each image shows a state or is refused: for `refused_exactly`.
use Rattle.std.proofs.Common.{◌≡◌, ◌⊎◌, inl, inr, ℕ, ◌+◌, suc, zero, List, [], ◌∷◌, Option, None, Some, Result, Ok, Err}
use Rattle.std.proofs.Common.{refl, sym, ◌∙◌, subst}
use Rattle.std.proofs.lemmas.Bool.{cases_eq}
use Rattle.sdls_base.specs.declared.entry.Change.{Change}
use Rattle.unit_plan.specs.declared.plan_error.PlanFault.{PlanFault}
use Rattle.unit_plan.specs.PlanLines.{PlanLines}
use Rattle.unit_plan.specs.Plan.{plan_of}
use Rattle.unit_state.specs.declared.state.State.{State}
use Rattle.unit_state.specs.Allows.{Allows}
use Rattle.unit_state.specs.Applied.{applied}
use Rattle.unit_state.specs.Restart.{restarted}
use Rattle.book_record.specs.Record.{IsRecord}
use Rattle.unit_image.specs.Shows.{IsBadRecord, LeadTo}
use Rattle.disk_journal.specs.declared.layout.TheConstants.{PLAN_AT, SLOT_COUNT_AT, CONTENT_AT}
use Rattle.disk_journal.specs.Fault.{image_fault}
use Rattle.disk_journal.specs.Image.{current_at, held, record_at}
use Rattle.unit_image.specs.Shows.{Begins, IsContentUnder, SaysBarePlan, SaysNone, Shows, ShowsNone}
use Rattle.law_image.proofs.Deciding.{Decided, decided_and, decided_as}
use Rattle.law_image.proofs.Recording.{IsTaken, OfItsKind, taken}
use Rattle.law_image.proofs.DecidingContent.{decided_content}

same_plan : (read : Result PlanLines PlanFault) (one other : PlanLines) → read ≡ Ok one → read ≡ Ok other → one ≡ other
same_plan read one other is also = cc

no_plan : (plan : PlanLines) (fault : PlanFault) → Ok plan ≡ Err fault → ⊥
no_plan plan fault is = cc

decided_empty : {X : Type 0} (xs : List X) → Decided (xs ≡ [])
decided_empty [] = inl refl
decided_empty (x ∷ xs) = inr (λ is. cc)

-- the bodies lead to a state, or one of them is the first that is no record of a change that is allowed
led : OfItsKind → (state : State) (bodies : List (List ℕ)) → ((last : State) × LeadTo state bodies last)
    ⊎ ((place : ℕ) × IsBadRecord state bodies place)
led law state [] = inl (state, refl)
led law state (body ∷ bodies) = go (λ after. led law after bodies) (taken law state body)
  where
    rest : (change : Change) → IsRecord change body → Allows state change
        → (((last : State) × LeadTo (applied state change) bodies last)
        ⊎ ((place : ℕ) × IsBadRecord (applied state change) bodies place))
        → ((last : State) × LeadTo state (body ∷ bodies) last) ⊎ ((place : ℕ) × IsBadRecord state (body ∷ bodies) place)
    rest change is_record allows (inl more) = inl (more.0, (change, is_record, allows, more.1))
    rest change is_record allows (inr bad) = inr (
      suc bad.0,
      record {
        before = bad.1.before;
        led = (change, is_record, allows, bad.1.led);
        unfit = record { body = bad.1.unfit.body; there = bad.1.unfit.there; bad = bad.1.unfit.bad };
      },
    )

    go : ((after : State) → ((last : State) × LeadTo after bodies last)
        ⊎ ((place : ℕ) × IsBadRecord after bodies place))
        → (IsTaken state body ⊎ ((change : Change) → IsRecord change body → ¬ Allows state change))
        → ((last : State) × LeadTo state (body ∷ bodies) last) ⊎ ((place : ℕ) × IsBadRecord state (body ∷ bodies) place)
    go more (inl is) = rest is.0 is.1 is.2 (more (applied state is.0))
    go more (inr off) =
        inr (zero, record { before = state; led = refl; unfit = record { body = body; there = refl; bad = off } })

-- whether a text is a plan without keys and associations
bare_plan : (text : List ℕ) → Decided ((plan : PlanLines) × SaysBarePlan text plan)
bare_plan text = of (plan_of text) refl
  where
    of_lines : (plan : PlanLines) → plan_of text ≡ Ok plan → Decided ((plan : PlanLines) × SaysBarePlan text plan)
    of_lines plan read = decided_as (decided_and (decided_empty plan.keys) (decided_empty plan.associations))
        (λ both. (plan, record { read = read; no_keys = both.0; no_associations = both.1 }))
        (λ (other, said).
        subst (λ (lines : PlanLines). (lines.keys ≡ []) × (lines.associations ≡ []))
        (same_plan (plan_of text) other plan said.read read)
        (said.no_keys, said.no_associations))

    of : (read : Result PlanLines PlanFault) → plan_of text ≡ read
        → Decided ((plan : PlanLines) × SaysBarePlan text plan)
    of (Ok plan) is = of_lines plan is
    of (Err fault) is = inr (λ (plan, said). no_plan plan fault (sym said.read ∙ is))

-- what stands in an image, whose journal has no fault, says a state or none
module _ (law : OfItsKind) (image : List ℕ) (sound : image_fault image ≡ None) where
  abbrev Either : Type 0
  Either = ((state : State) × Shows image state) ⊎ ((offset : ℕ) × SaysNone image (held image) offset)

  of_records : (first : State) → Begins (held image) first
      → (((last : State) × LeadTo first (held image).records last)
      ⊎ ((place : ℕ) × IsBadRecord first (held image).records place)) → Either
  of_records first begins (inl more) = inl (
    restarted more.0,
    record {
      what = held image;
      holds = record { opens = sound; is = refl };
      says = record { first = first; begins = begins; last = more.0; led = more.1; left = refl };
    },
  )
  of_records first begins (inr bad) = inr (record_at image bad.0, inr (inr (inr (first, begins, (bad.0, bad.1, refl)))))

  of_content : (plan : PlanLines) → SaysBarePlan (held image).plan plan → plan.slots ≡ (held image).slots
      → Decided ((state : State) × IsContentUnder plan (held image).version (held image).content state) → Either
  of_content plan said same (inl content) = of_records content.0
      (record { plan = plan; said = said; same_slots = same; content = content.1 })
      (led law content.0 (held image).records)
  of_content plan said same (inr off) =
      inr (current_at image + CONTENT_AT, inr (inr (inl (plan, said, same, (λ state is. off (state, is)), refl))))

  of_plan : Decided ((plan : PlanLines) × SaysBarePlan (held image).plan plan) → Either
  of_plan (inr off) = inr (PLAN_AT, inl ((λ plan said. off (plan, said)), refl))
  of_plan (inl (plan, said)) = elim (cases_eq plan.slots (held image).slots) [
    | inl same ↦ of_content plan said same (decided_content plan (held image).version (held image).content)
    | inr other ↦ inr (SLOT_COUNT_AT, inr (inl (plan, said, other, refl)))
  ]

  says : Either
  says = of_plan (bare_plan (held image).plan)

-- an image shows a state, or is refused with an offset
pub shows_or_none : OfItsKind → (image : List ℕ) → ((state : State) × Shows image state)
    ⊎ ((offset : ℕ) × ShowsNone image offset)
shows_or_none law image = go (image_fault image) refl
  where
    go : (fault : Option ℕ) → image_fault image ≡ fault → ((state : State) × Shows image state)
        ⊎ ((offset : ℕ) × ShowsNone image offset)
    go (Some offset) is = inr (offset, inl is)
    go None is = elim (says law image is) [
      | inl shown ↦ inl shown
      | inr none ↦ inr (none.0, inr (is, none.1))
    ]
