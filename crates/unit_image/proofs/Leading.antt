-- Records lead to one state: for `shows_one` and `refused_with_one`. One record more: for `says_grown`, and `led` of
-- `take_records`.
use Rattle.std.proofs.Common.{◌≡◌, ℕ, zero, suc, ◌+◌, ◌<◌, List, [], ◌∷◌, ◌++◌, take, Option, Some, None, refl, sym}
use Rattle.std.proofs.Common.{◌∙◌, ap, subst, inl, inr, arith}
use Rattle.std.specs.List.{slice_get}
use Rattle.std.proofs.lemmas.Bool.{cases_lt}
use Rattle.std.proofs.lemmas.List.{take-take}
use Rattle.std.proofs.lemmas.Option.{none-some, slice_get_within, get_or_from_slice_get}
use Rattle.std.proofs.Math.Seq.{take-suc}
use Rattle.sdls_base.specs.declared.entry.Change.{Change}
use Rattle.book_record.specs.Record.{IsRecord}
use Rattle.unit_state.specs.declared.state.State.{State}
use Rattle.unit_state.specs.Applied.{applied}
use Rattle.unit_state.specs.Allows.{Allows}
use Rattle.unit_image.specs.Shows.{LeadTo, IsBadRecord}
use Rattle.unit_image.specs.OpeningImage.{TakesRecord}

-- a body is the record of one change, as a law of the records says
abbrev pub IsOnce : Type 0
IsOnce = (a b : Change) (body : List ℕ) → IsRecord a body → IsRecord b body → a ≡ b

-- records lead to one state
pub led_once : IsOnce → (state : State) (bodies : List (List ℕ)) (a b : State) → LeadTo state bodies a
    → LeadTo state bodies b → a ≡ b
led_once once state [] a b led_a led_b = led_a ∙ sym led_b
led_once once state (body ∷ bodies) a b (change, is_record, allows, rest) (
  other,
  other_record,
  other_allows,
  other_rest,
) =
    led_once once (applied state change) bodies a b rest
    (subst (λ (c : Change). LeadTo (applied state c) bodies b) (once other change body other_record is_record)
    other_rest)

-- one record more
pub led_more : (state : State) (bodies : List (List ℕ)) (last : State) (body : List ℕ) (change : Change)
    → LeadTo state bodies last
    → IsRecord change body → Allows last change → LeadTo state (bodies ++ body ∷ []) (applied last change)
led_more state [] last body change led is_record allows =
    (change, is_record, subst (λ (s : State). Allows s change) led allows, ap (λ (s : State). applied s change) led)
led_more state (first ∷ bodies) last body change (head, head_record, head_allowed, rest) is_record allows =
    (head, head_record, head_allowed, led_more (applied state head) bodies last body change rest is_record allows)

-- a record on the way, in the state before it
record OnTheWay (state : State) (bodies : List (List ℕ)) (place : ℕ) (body : List ℕ) : Type 0 where
  pub before : State
  pub led : LeadTo state (take place bodies) before
  pub change : Change
  pub is_record : IsRecord change body
  pub allows : Allows before change

abbrev body_or : Option (List ℕ) → List ℕ
body_or None = []
body_or (Some body) = body

led_at : (state : State) (bodies : List (List ℕ)) (last : State) (place : ℕ) (body : List ℕ) → LeadTo state bodies last
    → slice_get bodies place ≡ Some body → OnTheWay state bodies place body
led_at state [] last place body led there = absurd (none-some body there)
led_at state (first ∷ bodies) last zero body (change, is_record, allows, rest) there = record {
  before = state;
  led = refl;
  change = change;
  is_record = subst (IsRecord change) (ap body_or there) is_record;
  allows = allows;
}
led_at state (first ∷ bodies) last (suc place) body (change, is_record, allows, rest) there =
    let here : OnTheWay (applied state change) bodies place body =
    led_at (applied state change) bodies last place body rest there in
    record {
      before = here.before;
      led = (change, is_record, allows, here.led);
      change = here.change;
      is_record = here.is_record;
      allows = here.allows;
    }

-- a record that is none is on no way
pub no_way : IsOnce → (state : State) (bodies : List (List ℕ)) (last : State) (place : ℕ) → LeadTo state bodies last
    → ¬ IsBadRecord state bodies place
no_way once state bodies last place led bad =
    let here : OnTheWay state bodies place bad.unfit.body =
    led_at state bodies last place bad.unfit.body led bad.unfit.there in
    let same : here.before ≡ bad.before =
    led_once once state (take place bodies) here.before bad.before here.led bad.led in
    bad.unfit.bad here.change here.is_record (subst (λ (s : State). Allows s here.change) same here.allows)

get_front : (bodies : List (List ℕ)) (i j : ℕ) → i < j → slice_get (take j bodies) i ≡ slice_get bodies i
get_front bodies i zero low = absurd (let no : ⊥ = omega arith in no)
get_front [] i (suc j) low = refl
get_front (body ∷ bodies) zero (suc j) low = refl
get_front (body ∷ bodies) (suc i) (suc j) low = get_front bodies i j (omega arith)

-- of two records that are none the first one is met
bad_once : IsOnce → (state : State) (bodies : List (List ℕ)) (i j : ℕ) → IsBadRecord state bodies i
    → IsBadRecord state bodies j → ¬ (i < j)
bad_once once state bodies i j one other low =
    no_way once state (take j bodies) other.before i other.led
    (record {
      before = one.before;
      led = subst (λ (front : List (List ℕ)). LeadTo state front one.before) (sym (take-take i j bodies (omega arith)))
          one.led;
      unfit = record { body = one.unfit.body; there = get_front bodies i j low ∙ one.unfit.there; bad = one.unfit.bad };
    })

pub same_place : IsOnce → (state : State) (bodies : List (List ℕ)) (i j : ℕ) → IsBadRecord state bodies i
    → IsBadRecord state bodies j → i ≡ j
same_place once state bodies i j one other =
    let not_below : ¬ (i < j) = bad_once once state bodies i j one other in
    let not_above : ¬ (j < i) = bad_once once state bodies j i other one in
    elim (cases_lt i j) [
      | inl low ↦ absurd (not_below low)
      | inr high ↦ elim (cases_lt j i) [
        | inl low ↦ absurd (not_above low)
        | inr still ↦ omega arith
      ]
    ]

take_next : (bodies : List (List ℕ)) (index : ℕ) (body : List ℕ) → slice_get bodies index ≡ Some body
    → take (index + 1) bodies ≡ take index bodies ++ body ∷ []
take_next bodies index body there =
    ap (λ (n : ℕ). take n bodies) (let more : index + 1 ≡ suc index = omega arith in more)
    ∙ take-suc bodies index [] (slice_get_within bodies index body there)
    ∙ ap (λ (octets : List ℕ). take index bodies ++ octets ∷ []) (get_or_from_slice_get bodies index body [] there)

-- the record at a place, when those before it are done
pub led_next : (first : State) (bodies : List (List ℕ)) (index : ℕ) (old new : State)
    → LeadTo first (take index bodies) old
    → TakesRecord bodies index old new → LeadTo first (take (index + 1) bodies) new
led_next first bodies index old new led takes =
    subst (λ (front : List (List ℕ)). LeadTo first front new) (sym (take_next bodies index takes.body takes.there))
    (subst (λ (state : State). LeadTo first (take index bodies ++ takes.body ∷ []) state) (sym takes.is)
    (led_more first (take index bodies) old takes.body takes.change led takes.is_record takes.allowed))
