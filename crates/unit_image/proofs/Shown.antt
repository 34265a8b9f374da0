-- An image shows one state, or is refused with one offset: for `shows_one` and `refused_with_one`.
use Rattle.std.proofs.Common.{◌≡◌, ℕ, List, Result, Ok, Err, sym, ◌∙◌, ap, subst, inl, inr}
use Rattle.std.proofs.lemmas.Option.{none-some, same_Some}
use Rattle.unit_plan.specs.PlanLines.{PlanLines}
use Rattle.unit_plan.specs.declared.plan_error.PlanFault.{PlanFault}
use Rattle.unit_state.specs.declared.state.State.{State}
use Rattle.unit_state.specs.Restart.{restarted}
use Rattle.unit_image.specs.Shows.{LeadTo, IsBadRecord}
use Rattle.sdls_base.specs.declared.version.Version.{Version}
use Rattle.unit_image.specs.ContentReading.{IsContent}
use Rattle.disk_journal.specs.Image.{Held, held, record_at}
use Rattle.unit_image.specs.Shows.{SaysBarePlan, IsContentUnder, Begins, SaysState, Shows, SaysNone, ShowsNone}
use Rattle.unit_image.proofs.Leading.{IsOnce, led_once, no_way, same_place}

abbrev ok_or : {X : Type 0} → X → Result X PlanFault → X
ok_or other (Ok x) = x
ok_or other (Err fault) = other

-- a text says one plan
plan_once : (text : List ℕ) (plan other : PlanLines) → SaysBarePlan text plan → SaysBarePlan text other → plan ≡ other
plan_once text plan other says too = ap (ok_or plan) (sym says.read ∙ too.read)

-- a content is that of one state, as a law of contents says
abbrev pub IsOneState : Type 0
IsOneState = (version : Version) (one other : State) (content : List ℕ) → IsContent version one content
    → IsContent version other content
    → one.channels ≡ other.channels → one.device ≡ other.device → one ≡ other

content_once : IsOneState → (plan : PlanLines) (version : Version) (content : List ℕ) (a b : State)
    → IsContentUnder plan version content a
    → IsContentUnder plan version content b → a ≡ b
content_once one plan version content a b is too =
    one version a b content is.spelled too.spelled (is.channels ∙ sym too.channels) (is.device ∙ sym too.device)

under : (plan other : PlanLines) (version : Version) (content : List ℕ) (state : State) → plan ≡ other
    → IsContentUnder plan version content state → IsContentUnder other version content state
under plan other version content state same is =
    subst (λ (p : PlanLines). IsContentUnder p version content state) same is

first_once : IsOneState → (what : Held) (a b : State) → Begins what a → Begins what b → a ≡ b
first_once one what a b begins too =
    content_once one too.plan what.version what.content a b
    (under begins.plan too.plan what.version what.content a
    (plan_once what.plan begins.plan too.plan begins.said too.said) begins.content)
    too.content

says_once : IsOnce → IsOneState → (what : Held) (a b : State) → SaysState what a → SaysState what b → a ≡ b
says_once once one what a b says too =
    let first : says.first ≡ too.first = first_once one what says.first too.first says.begins too.begins in
    says.left
    ∙ ap restarted (led_once once too.first what.records says.last too.last
    (subst (λ (s : State). LeadTo s what.records says.last) first says.led) too.led)
    ∙ sym too.left

pub shows_once : IsOnce → IsOneState → (image : List ℕ) (a b : State) → Shows image a → Shows image b → a ≡ b
shows_once once one image a b shows too =
    says_once once one (held image) a b (subst (λ (what : Held). SaysState what a) (sym shows.holds.is) shows.says)
    (subst (λ (what : Held). SaysState what b) (sym too.holds.is) too.says)

slots_agree : (what : Held) (plan other : PlanLines) → SaysBarePlan what.plan plan → SaysBarePlan what.plan other
    → other.slots ≡ what.slots → plan.slots ≡ what.slots
slots_agree what plan other said too same =
    ap (λ (p : PlanLines). p.slots) (plan_once what.plan plan other said too) ∙ same

says_some : IsOnce → IsOneState → (image : List ℕ) (what : Held) (state : State) (offset : ℕ) → SaysState what state
    → ¬ SaysNone image what offset
says_some once one image what state offset says (inl (no_plan, is)) = no_plan says.begins.plan says.begins.said
says_some once one image what state offset says (inr (inl (plan, said, other, is))) =
    other (slots_agree what plan says.begins.plan said says.begins.said says.begins.same_slots)
says_some once one image what state offset says (inr (inr (inl (plan, said, same, no_content, is)))) =
    no_content says.first
    (under says.begins.plan plan what.version what.content says.first
    (plan_once what.plan says.begins.plan plan says.begins.said said)
    says.begins.content)
says_some once one image what state offset says (inr (inr (inr (first, begins, (place, bad, is))))) =
    no_way once says.first what.records says.last place says.led
    (subst (λ (s : State). IsBadRecord s what.records place) (first_once one what first says.first begins says.begins)
    bad)

-- an image that shows a state is refused with no offset
pub shows_some : IsOnce → IsOneState → (image : List ℕ) (state : State) (offset : ℕ) → Shows image state
    → ¬ ShowsNone image offset
shows_some once one image state offset shows (inl fault) = none-some offset (sym shows.holds.opens ∙ fault)
shows_some once one image state offset shows (inr (opens, none)) =
    says_some once one image (held image) state offset
    (subst (λ (what : Held). SaysState what state) (sym shows.holds.is) shows.says) none

-- what is held is refused with one offset
says_none_once : IsOnce → IsOneState → (image : List ℕ) (what : Held) (a b : ℕ) → SaysNone image what a
    → SaysNone image what b → a ≡ b
says_none_once once one image what a b (inl (none, is)) (inl (none', is')) = is ∙ sym is'
says_none_once once one image what a b (inl (none, is)) (inr (inl (plan, said, differ, at))) = absurd (none plan said)
says_none_once once one image what a b (inl (none, is)) (inr (inr (inl (plan, said, same, no_content, at)))) =
    absurd (none plan said)
says_none_once once one image what a b (inl (none, is)) (inr (inr (inr (first, begins, bad)))) =
    absurd (none begins.plan begins.said)
says_none_once once one image what a b (inr (inl (plan, said, differ, at))) (inl (none, is)) = absurd (none plan said)
says_none_once once one image what a b (inr (inl (plan, said, differ, is))) (inr (inl (plan', said', differ', is'))) =
    is ∙ sym is'
says_none_once once one image what a b (inr (inl (plan, said, differ, is)))
    (inr (inr (inl (plan', said', same, no_content, at)))) =
    absurd (differ (slots_agree what plan plan' said said' same))
says_none_once once one image what a b (inr (inl (plan, said, differ, is))) (inr (inr (inr (first, begins, bad)))) =
    absurd (differ (slots_agree what plan begins.plan said begins.said begins.same_slots))
says_none_once once one image what a b (inr (inr (inl (plan, said, same, no_content, at)))) (inl (none, is)) =
    absurd (none plan said)
says_none_once once one image what a b (inr (inr (inl (plan, said, same, no_content, at))))
    (inr (inl (plan', said', differ, is))) =
    absurd (differ (slots_agree what plan' plan said' said same))
says_none_once once one image what a b (inr (inr (inl (plan, said, same, none, is))))
    (inr (inr (inl (plan', said', same', none', is')))) =
    is ∙ sym is'
says_none_once once one image what a b (inr (inr (inl (plan, said, same, none, is))))
    (inr (inr (inr (first, begins, bad)))) =
    absurd (none first (under begins.plan plan what.version what.content first
    (plan_once what.plan begins.plan plan begins.said said) begins.content))
says_none_once once one image what a b (inr (inr (inr (first, begins, bad)))) (inl (none, is)) =
    absurd (none begins.plan begins.said)
says_none_once once one image what a b (inr (inr (inr (first, begins, bad)))) (inr (inl (plan, said, differ, is))) =
    absurd (differ (slots_agree what plan begins.plan said begins.said begins.same_slots))
says_none_once once one image what a b (inr (inr (inr (first, begins, bad))))
    (inr (inr (inl (plan, said, same, none, is)))) =
    absurd (none first (under begins.plan plan what.version what.content first
    (plan_once what.plan begins.plan plan begins.said said) begins.content))
says_none_once once one image what a b (inr (inr (inr (first, begins, (place, bad, is)))))
    (inr (inr (inr (first', begins', (place', bad', is'))))) =
    let start : first' ≡ first = first_once one what first' first begins' begins in
    is
    ∙ ap (record_at image)
    (same_place once first what.records place place' bad
    (subst (λ (s : State). IsBadRecord s what.records place') start bad'))
    ∙ sym is'

-- an image is refused with one offset
pub refused_once : IsOnce → IsOneState → (image : List ℕ) (a b : ℕ) → ShowsNone image a → ShowsNone image b → a ≡ b
refused_once once one image a b (inl fault) (inl other) = same_Some a b (sym fault ∙ other)
refused_once once one image a b (inl fault) (inr (opens, none)) = absurd (none-some a (sym opens ∙ fault))
refused_once once one image a b (inr (opens, none)) (inl other) = absurd (none-some b (sym opens ∙ other))
refused_once once one image a b (inr (opens, none)) (inr (opens', none')) =
    says_none_once once one image (held image) a b none none'
