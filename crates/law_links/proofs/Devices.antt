-- The device field of a unit is one over its life, for the clause of `one_device_in_a_life`.
use Rattle.std.proofs.Common.{◌≡◌, ℕ, List, [], ◌∷◌, take, Result, Ok, inl, inr, refl, sym, ap, ◌∙◌, subst}
use Rattle.std.proofs.lemmas.List.Elements.{All-cons, All-nil}
use Rattle.sdls_base.specs.declared.entry.Change.{Change}
use Rattle.sdls_base.specs.declared.entry.Change.TheVariants.{Marks, Load, KeyStates, Create, Rekey, SaTo, SetNumber}
use Rattle.sdls_base.specs.declared.entry.Change.TheVariants.{SetWindow, Accepted, Nothing}
use Rattle.sdls_base.specs.declared.entry.Entry.{Entry}
use Rattle.unit_image.specs.Image.{Held, held, HasOneClosed}
use Rattle.unit_plan.specs.declared.plan_error.PlanFault.{PlanFault}
use Rattle.unit_plan.specs.Plan.{plan_of}
use Rattle.unit_plan.specs.PlanLines.{PlanLines}
use Rattle.unit_state.specs.declared.state.State.{State}
use Rattle.unit_state.specs.Applied.{applied}
use Rattle.unit_state.specs.History.{after_all, after_first}
use Rattle.unit_state.specs.Restart.{restarted}
use Rattle.unit_image.specs.Shows.{LeadTo, SaysState, Shows}
use Rattle.run_promise.specs.Life.{LifeRun, IsRun, FollowFrom, IsLife}
use Rattle.law_runs.specs.Known.{IsShown}
use Rattle.law_runs.proofs.Beginnings.{form_plan}
use Rattle.law_runs.proofs.Lives.{ShowsOnce, settled_after, shown_at_start}
use Rattle.law_links.specs.Triples.{HaveDevice, SaysDevice}

-- ---- changes

applied_device : (state : State) (change : Change) → (applied state change).device ≡ state.device
applied_device state (Marks key mark floor) = refl
applied_device state (Load items) = refl
applied_device state (KeyStates ids to) = refl
applied_device state (Create new) = refl
applied_device state (Rekey spi key number) = refl
applied_device state (SaTo spi to) = refl
applied_device state (SetNumber spi number) = refl
applied_device state (SetWindow spi window) = refl
applied_device state (Accepted spi key number floor) = refl
applied_device state Nothing = refl

after_device : (state : State) (entries : List Entry) → (after_all state entries).device ≡ state.device
after_device state [] = refl
after_device state (entry ∷ entries) =
    after_device (applied state entry.change) entries ∙ applied_device state entry.change

led_device : (state : State) (bodies : List (List ℕ)) (last : State) → LeadTo state bodies last
    → last.device ≡ state.device
led_device state [] last led = ap (λ (s : State). s.device) led
led_device state (body ∷ bodies) last (change, is, allows, led) =
    led_device (applied state change) bodies last led ∙ applied_device state change

-- ---- what an image shows

same_plan : (text : List ℕ) (one other : PlanLines) → plan_of text ≡ Ok one → plan_of text ≡ Ok other → one ≡ other
same_plan text one other a b = let e : ◌≡◌ {A = Result PlanLines PlanFault} (Ok one) (Ok other) = sym a ∙ b in cc

said_device : (what : Held) (state : State) (plan : PlanLines) → SaysState what state → plan_of what.plan ≡ Ok plan
    → state.device ≡ plan.device
said_device what state plan says read =
    ap (λ (s : State). s.device) says.left ∙ led_device says.first what.records says.last says.led
    ∙ says.begins.content.device
    ∙ ap (λ (p : PlanLines). p.device) (same_plan what.plan says.begins.plan plan says.begins.said.read read)

shown_device : (image : List ℕ) (state : State) (plan : PlanLines) → Shows image state
    → plan_of (held image).plan ≡ Ok plan
    → state.device ≡ plan.device
shown_device image state plan shows read =
    said_device shows.what state plan shows.says
    (subst (λ (what : Held). plan_of what.plan ≡ Ok plan) shows.holds.is read)

-- each state that an image shows, or one of its opened forms, has this device field
abbrev AllHave : List ℕ → List ℕ → Type 0
AllHave device image = (state : State) → IsShown image state → state.device ≡ device

module _ (once : ShowsOnce) (device : List ℕ) where
  from_start : (run : LifeRun) → IsRun run → AllHave device run.start → (p : ℕ)
      → (restarted (after_first run.course.begin.start run.course.entries p)).device ≡ device
  from_start run is have p =
      after_device run.course.begin.start (take p run.course.entries) ∙ have run.course.begin.start (inl is.shows)

  left_have : (run : LifeRun) → IsRun run → HasOneClosed run.start → AllHave device run.start → AllHave device run.image
  left_have run is settled have state shown = elim is.moment.image_shows [
    | inl opening ↦ have state (shown_at_start run is settled once opening.1 state shown)
    | inr served ↦ elim shown [
      | inl shows ↦
          ap (λ (s : State). s.device) (sym (once run.image _ state served.shows.shows shows))
          ∙ from_start run is have served.p
      | inr torn ↦
          let (q, above, within, form) = served.shows.forms torn.0 torn.1 in
          ap (λ (s : State). s.device) (sym (once torn.0 _ state form torn.2)) ∙ from_start run is have q
    ]
  ]

  run_device : (run : LifeRun) → IsRun run → AllHave device run.start → run.course.begin.plan.device ≡ device
  run_device run is have =
      sym (shown_device run.start run.course.begin.start run.course.begin.plan is.shows is.says)
      ∙ have run.course.begin.start (inl is.shows)

  follow_device : (image : List ℕ) (runs : List LifeRun) → HasOneClosed image → AllHave device image
      → FollowFrom image runs → HaveDevice device runs
  follow_device image [] settled have follow = All-nil (λ (run : LifeRun). run.course.begin.plan.device ≡ device)
  follow_device image (run ∷ runs) settled have (start, is, follow) =
      let here : AllHave device run.start = subst (AllHave device) (sym start) have in
      let one : HasOneClosed run.start = subst HasOneClosed (sym start) settled in
      All-cons (λ (run : LifeRun). run.course.begin.plan.device ≡ device) run runs (run_device run is here)
      (follow_device run.image runs (settled_after run is one) (left_have run is one here) follow)

pub one_device : ShowsOnce → (image : List ℕ) (runs : List LifeRun) (device : List ℕ) → IsLife image runs
    → SaysDevice image device → HaveDevice device runs
one_device once image runs device life (plan, read, is) =
    follow_device once device image runs life.begins.settled
    (λ state shown. elim shown [
      | inl shows ↦ shown_device image state plan shows read ∙ is
      | inr torn ↦
          shown_device torn.0 state plan torn.2
          (subst (λ (text : List ℕ). plan_of text ≡ Ok plan)
          (sym (form_plan image torn.0 life.begins.shows.1.holds.opens torn.1)) read)
          ∙ is
    ]) life.follow
