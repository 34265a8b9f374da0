-- What a log reports after one more answer, for the clause of `Log::note`.
use Rattle.std.proofs.Common.{◌≡◌, ℕ, ◌+◌, ◌-◌, ◌≤◌, ◌||◌, if◌then◌else◌, Bool, true, false, List, [], ◌∷◌, ◌++◌}
use Rattle.std.proofs.Common.{length, map, drop, Option, Some, refl, sym, ap, ◌∙◌, arith, length-append}
use Rattle.std.specs.List.{list_any, filter}
use Rattle.std.specs.Option.{option_map_or}
use Rattle.std.proofs.lemmas.List.{append-nil, drop-append-le, drop-drop, drop-map, length-drop, length-map, map-append}
use Rattle.std.proofs.lemmas.List.Elements.{filter-append}
use Rattle.std.proofs.lemmas.List.Folds.{list_any-append}
use Rattle.circular_buffer.specs.Buffer.{Buffer, buffer, keep_last, last_item}
use Rattle.circular_buffer.proofs.Places.{slice_get-append_right}
use Rattle.fsr_log.specs.declared.kinds.Event.{Event}
use Rattle.fsr_log.specs.declared.kinds.TheConstants.{MOST_EVENTS}
use Rattle.fsr_log.specs.Kinds.{is_event, is_alarm}
use Rattle.fsr_log.specs.Noted.{Noted, is_erase, is_reset, is_open, is_seen, event_of}
use Rattle.fsr_log.specs.Report.{Report, behind_last, last_where, events_of, alarm_of, last_open_of, last_seen_of}
use Rattle.fsr_log.specs.Report.{report_of}
use Rattle.fsr_log.specs.Steps.{ring_behind, alarm_behind}

-- ---- what stands behind the last that passes a test

-- the test, of a list and one more
any_push : (p : Noted → Bool) (xs : List Noted) (x : Noted) (b : Bool) → p x ≡ b
    → list_any p (xs ++ x ∷ []) ≡ (list_any p xs || b)
any_push p xs x b is =
    list_any-append p xs (x ∷ []) ∙ ap (λ (c : Bool). list_any p xs || (c || false)) is
    ∙ ap (λ (c : Bool). list_any p xs || c) (or_false b)
  where
    or_false : (c : Bool) → (c || false) ≡ c
    or_false true = refl
    or_false false = refl

-- nothing stands behind one more that passes it
nothing_behind : (p : Noted → Bool) (xs : List Noted) (x : Noted) → p x ≡ true → behind_last p (xs ++ x ∷ []) ≡ []
nothing_behind p [] x passes = ap (λ (b : Bool). if b then [] else x ∷ []) passes
nothing_behind p (y ∷ ys) x passes =
    ap (λ (b : Bool). if b then behind_last p (ys ++ x ∷ []) else (if p y then ys ++ x ∷ [] else y ∷ (ys ++ x ∷ [])))
    (any_push p ys x true passes ∙ or_true (list_any p ys))
    ∙ nothing_behind p ys x passes
  where
    or_true : (c : Bool) → (c || true) ≡ true
    or_true true = refl
    or_true false = refl

-- one more that does not pass it stands behind as well
one_behind : (p : Noted → Bool) (xs : List Noted) (x : Noted) → p x ≡ false
    → behind_last p (xs ++ x ∷ []) ≡ behind_last p xs ++ x ∷ []
one_behind p [] x misses = ap (λ (b : Bool). if b then [] else x ∷ []) misses
one_behind p (y ∷ ys) x misses =
    ap (λ (b : Bool). if b then behind_last p (ys ++ x ∷ []) else (if p y then ys ++ x ∷ [] else y ∷ (ys ++ x ∷ [])))
    (any_push p ys x false misses ∙ or_false (list_any p ys))
    ∙ go (list_any p ys) (p y) (one_behind p ys x misses)
  where
    or_false : (c : Bool) → (c || false) ≡ c
    or_false true = refl
    or_false false = refl

    go : (b c : Bool) → behind_last p (ys ++ x ∷ []) ≡ behind_last p ys ++ x ∷ []
        → (if b then behind_last p (ys ++ x ∷ []) else (if c then ys ++ x ∷ [] else y ∷ (ys ++ x ∷ [])))
        ≡ (if b then behind_last p ys else (if c then ys else y ∷ ys)) ++ x ∷ []
    go true c e = e
    go false true e = refl
    go false false e = refl

-- ---- the last so many

-- of a list and one more the last n are those of its last n and one more
keep_push : (n : ℕ) (xs : List Noted) (x : Noted) → 1 ≤ n
    → keep_last n (keep_last n xs ++ x ∷ []) ≡ keep_last n (xs ++ x ∷ [])
keep_push n xs x some =
    let kept : ℕ = length (drop (length xs - n) xs ++ x ∷ []) in
    let size : length (drop (length xs - n) xs ++ x ∷ []) ≡ (length xs - (length xs - n)) + 1 =
    length-append (drop (length xs - n) xs) (x ∷ []) ∙ ap (λ (k : ℕ). k + 1) (length-drop (length xs - n) xs) in
    let whole : length (xs ++ x ∷ []) ≡ length xs + 1 = length-append xs (x ∷ []) in
    let low : length xs - n ≤ length xs = omega arith in
    let count : (length xs - n) + (length (drop (length xs - n) xs ++ x ∷ []) - n) ≡ length (xs ++ x ∷ []) - n =
    omega arith in
    ap (λ (l : List Noted). drop (kept - n) l) (sym (drop-append-le (length xs - n) xs (x ∷ []) low))
    ∙ drop-drop (kept - n) (length xs - n) (xs ++ x ∷ [])
    ∙ ap (λ (k : ℕ). drop k (xs ++ x ∷ [])) count

ring_push : (n : ℕ) (xs : List Noted) (x : Noted) → 1 ≤ n
    → keep_last n (map event_of (keep_last n xs) ++ event_of x ∷ []) ≡ map event_of (keep_last n (xs ++ x ∷ []))
ring_push n xs x some =
    let more : List Noted = keep_last n xs ++ x ∷ [] in
    ap (keep_last n) (sym (map-append event_of (keep_last n xs) (x ∷ [])))
    ∙ ap (λ (k : ℕ). drop (k - n) (map event_of more)) (length-map more event_of)
    ∙ drop-map event_of (length more - n) more
    ∙ ap (map event_of) (keep_push n xs x some)

-- ---- the last of all

last_push : (xs : List Noted) (x : Noted) → last_item (xs ++ x ∷ []) ≡ Some x
last_push xs x =
    let e : length (xs ++ x ∷ []) - 1 ≡ length xs + 0 = omega (arith, length-append xs (x ∷ [])) in
    slice_get-append_right xs (x ∷ []) (length (xs ++ x ∷ []) - 1) 0 e

-- what the last that passes a test says, after one more
pub last_more : (p : Noted → Bool) (f : Noted → ℕ) (notes : List Noted) (x : Noted) (old : ℕ)
    → old ≡ option_map_or f (last_where p notes) 0
    → (if p x then f x else old) ≡ option_map_or f (last_where p (notes ++ x ∷ [])) 0
last_more p f notes x old is = go (p x) (filter-append p notes (x ∷ []))
  where
    go : (b : Bool) → filter p (notes ++ x ∷ []) ≡ filter p notes ++ (if b then x ∷ [] else [])
        → (if b then f x else old) ≡ option_map_or f (last_where p (notes ++ x ∷ [])) 0
    go true more =
        ap (λ (o : Option Noted). option_map_or f o 0) (sym (ap last_item more ∙ last_push (filter p notes) x))
    go false more =
        is ∙ ap (λ (o : Option Noted). option_map_or f o 0) (sym (ap last_item (more ∙ append-nil (filter p notes))))

-- ---- the events and the alarm

abbrev refusals : List Noted → List Noted
refusals notes = filter (λ noted. is_event noted.answer.code) notes

pub events_more : (notes : List Noted) (x : Noted) (ring : Buffer Event) → ring.items ≡ events_of notes
    → ring.capacity ≡ MOST_EVENTS → (ring_behind ring x.index x.answer).items ≡ events_of (notes ++ x ∷ [])
events_more notes x ring items capacity = go (is_erase x) refl
  where
    kept : List Noted
    kept = refusals (behind_last is_erase notes)

    pushed : (b : Bool) → refusals (behind_last is_erase (notes ++ x ∷ [])) ≡ kept ++ (if b then x ∷ [] else [])
        → (if b then buffer (keep_last ring.capacity (ring.items ++ event_of x ∷ [])) ring.capacity else ring).items
        ≡ events_of (notes ++ x ∷ [])
    pushed true more =
        ap (λ (n : ℕ). keep_last n (ring.items ++ event_of x ∷ [])) capacity
        ∙ ap (λ (l : List Event). keep_last MOST_EVENTS (l ++ event_of x ∷ [])) items
        ∙ ring_push MOST_EVENTS kept x (omega arith)
        ∙ ap (λ (l : List Noted). map event_of (keep_last MOST_EVENTS l)) (sym more)
    pushed false more =
        items ∙ ap (λ (l : List Noted). map event_of (keep_last MOST_EVENTS l)) (sym (append-nil kept) ∙ sym more)

    go : (b : Bool) → is_erase x ≡ b
        → (if b then buffer [] ring.capacity
        else (if is_event x.answer.code
        then buffer (keep_last ring.capacity (ring.items ++ event_of x ∷ [])) ring.capacity
        else ring)).items ≡ events_of (notes ++ x ∷ [])
    go true passes =
        ap (λ (l : List Noted). map event_of (keep_last MOST_EVENTS (refusals l)))
        (sym (nothing_behind is_erase notes x passes))
    go false misses =
        pushed (is_event x.answer.code)
        (ap refusals (one_behind is_erase notes x misses)
        ∙ filter-append (λ noted. is_event noted.answer.code) (behind_last is_erase notes) (x ∷ []))

pub capacity_more : (ring : Buffer Event) (x : Noted) → ring.capacity ≡ MOST_EVENTS
    → (ring_behind ring x.index x.answer).capacity ≡ MOST_EVENTS
capacity_more ring x capacity = go (is_erase x) (is_event x.answer.code)
  where
    go : (b c : Bool)
        → (if b then buffer [] ring.capacity
        else (if c then buffer (keep_last ring.capacity (ring.items ++ event_of x ∷ [])) ring.capacity
        else ring)).capacity ≡ MOST_EVENTS
    go true c = capacity
    go false true = capacity
    go false false = capacity

pub alarm_more : (notes : List Noted) (x : Noted) (old : Bool) → old ≡ alarm_of notes
    → alarm_behind old x.answer ≡ alarm_of (notes ++ x ∷ [])
alarm_more notes x old is = go (is_reset x) refl
  where
    raises : Noted → Bool
    raises noted = is_alarm noted.answer.code

    go : (b : Bool) → is_reset x ≡ b
        → (if b then false else (old || is_alarm x.answer.code)) ≡ alarm_of (notes ++ x ∷ [])
    go true passes = ap (list_any raises) (sym (nothing_behind is_reset notes x passes))
    go false misses =
        ap (λ (b : Bool). b || is_alarm x.answer.code) is
        ∙ sym (any_push raises (behind_last is_reset notes) x (is_alarm x.answer.code) refl)
        ∙ ap (list_any raises) (sym (one_behind is_reset notes x misses))

-- ---- the report

abbrev report : List Event → Bool → ℕ → ℕ → ℕ → Report
report events alarm last_open key number = record {
  events = events;
  alarm = alarm;
  last_open = last_open;
  key = key;
  number = number;
}

first_of : (b : Bool) (x y : ℕ × ℕ) → (if b then x else y).0 ≡ (if b then x.0 else y.0)
first_of true x y = refl
first_of false x y = refl

second_of : (b : Bool) (x y : ℕ × ℕ) → (if b then x else y).1 ≡ (if b then x.1 else y.1)
second_of true x y = refl
second_of false x y = refl

pub noted : (notes : List Noted) (x : Noted) (old : Report) (ring new_ring : Buffer Event) (alarm new_alarm : Bool)
    (last_open new_last_open : ℕ) (before seen : ℕ × ℕ)
    → report ring.items alarm last_open before.0 before.1 ≡ old → ring.capacity ≡ MOST_EVENTS
    → new_ring ≡ ring_behind ring x.index x.answer → new_alarm ≡ alarm_behind alarm x.answer
    → new_last_open ≡ (if is_open x.kind then x.answer.code else last_open)
    → seen ≡ (if is_seen x.answer.code then (x.answer.key, x.answer.number) else before) → old ≡ report_of notes
    → report new_ring.items new_alarm new_last_open seen.0 seen.1 ≡ report_of (notes ++ x ∷ [])
noted notes x old ring new_ring alarm new_alarm last_open new_last_open before seen is capacity rings alarmed opened
    sees all =
    let at_all : report ring.items alarm last_open before.0 before.1 ≡ report_of notes = is ∙ all in
    let events : new_ring.items ≡ events_of (notes ++ x ∷ []) =
    ap (λ (r : Buffer Event). r.items) rings
    ∙ events_more notes x ring (ap (λ (r : Report). r.events) at_all) capacity in
    let alarms : new_alarm ≡ alarm_of (notes ++ x ∷ []) =
    alarmed ∙ alarm_more notes x alarm (ap (λ (r : Report). r.alarm) at_all) in
    let opens : new_last_open ≡ last_open_of (notes ++ x ∷ []) =
    opened ∙ last_more (λ noted. is_open noted.kind) (λ noted. noted.answer.code) notes x last_open
    (ap (λ (r : Report). r.last_open) at_all) in
    let key : seen.0 ≡ option_map_or (λ noted. noted.answer.key) (last_seen_of (notes ++ x ∷ [])) 0 =
    ap (λ (s : ℕ × ℕ). s.0) sees ∙ first_of (is_seen x.answer.code) (x.answer.key, x.answer.number) before
    ∙ last_more (λ noted. is_seen noted.answer.code) (λ noted. noted.answer.key) notes x before.0
    (ap (λ (r : Report). r.key) at_all) in
    let number : seen.1 ≡ option_map_or (λ noted. noted.answer.number) (last_seen_of (notes ++ x ∷ [])) 0 =
    ap (λ (s : ℕ × ℕ). s.1) sees ∙ second_of (is_seen x.answer.code) (x.answer.key, x.answer.number) before
    ∙ last_more (λ noted. is_seen noted.answer.code) (λ noted. noted.answer.number) notes x before.1
    (ap (λ (r : Report). r.number) at_all) in
    ap (λ (l : List Event). report l new_alarm new_last_open seen.0 seen.1) events
    ∙ ap (λ (b : Bool). report (events_of (notes ++ x ∷ [])) b new_last_open seen.0 seen.1) alarms
    ∙ ap (λ (n : ℕ). report (events_of (notes ++ x ∷ [])) (alarm_of (notes ++ x ∷ [])) n seen.0 seen.1) opens
    ∙ ap (λ (n : ℕ). report (events_of (notes ++ x ∷ [])) (alarm_of (notes ++ x ∷ [])) (last_open_of (notes ++ x ∷ []))
    n seen.1) key
    ∙ ap (λ (n : ℕ). report (events_of (notes ++ x ∷ [])) (alarm_of (notes ++ x ∷ [])) (last_open_of (notes ++ x ∷ []))
    (option_map_or (λ noted. noted.answer.key) (last_seen_of (notes ++ x ∷ [])) 0) n) number

-- ---- how many events there are

pub fit : (notes : List Noted) → length (events_of notes) ≤ MOST_EVENTS
fit notes =
    let all : List Noted = refusals (behind_last is_erase notes) in
    omega (arith, length-map (drop (length all - MOST_EVENTS) all) event_of, length-drop (length all - MOST_EVENTS) all)
