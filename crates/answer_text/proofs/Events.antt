-- One event more of a dump, for `are_events`, `put_events` and `put_further_events`.
use Rattle.std.proofs.Common.{◌≡◌, ℕ, suc, ◌+◌, ◌-◌, ◌*◌, ◌<◌, ◌≤◌, ◌++◌, List, length, drop, sym, ap, ◌∙◌, arith}
use Rattle.std.proofs.Common.{append_assoc}
use Rattle.std.specs.Prelude.{◌&&◌, codes}
use Rattle.std.proofs.lemmas.List.{length-drop}
use Rattle.sdls_base.specs.Places.{octet_at}
use Rattle.fsr_log.specs.declared.kinds.Event.{Event}
use Rattle.fsr_log.specs.Kinds.{is_event}
use Rattle.answer_text.specs.Part.{event_at, event_object, event_words, events_words, further_events}
use Rattle.answer_text.specs.Monitor.{are_events}

pub one_left : (count counter : ℕ) → counter < count → count - counter ≡ suc (count - (counter + 1))
one_left count counter few = omega arith

pub left_is : (count counter : ℕ) (rest : List ℕ) → counter < count → are_events (count - counter) rest
    ≡ (is_event (octet_at 8 rest) && are_events (count - (counter + 1)) (drop 18 rest))
left_is count counter rest few = ap (λ n. are_events n rest) (one_left count counter few)

pub words_left : (count counter : ℕ) (rest : List ℕ) → counter < count → events_words (count - counter) rest
    ≡ event_words (event_at rest) ++ events_words (count - (counter + 1)) (drop 18 rest)
words_left count counter rest few = ap (λ n. events_words n rest) (one_left count counter few)

pub objects_left : (count counter : ℕ) (rest : List ℕ) → counter < count → further_events (count - counter) rest
    ≡ (codes "," ++ event_object (event_at rest)) ++ further_events (count - (counter + 1)) (drop 18 rest)
objects_left count counter rest few = ap (λ n. further_events n rest) (one_left count counter few)

pub event_left : (count counter : ℕ) (rest : List ℕ) → counter < count → length rest ≡ 18 * (count - counter)
    → 18 ≤ length rest
event_left count counter rest few long = omega (arith, one_left count counter few)

pub behind_long : (count counter : ℕ) (rest : List ℕ) → counter < count → length rest ≡ 18 * (count - counter)
    → length (drop 18 rest) ≡ 18 * (count - (counter + 1))
behind_long count counter rest few long =
    let one = one_left count counter few in let less = length-drop 18 rest in omega (arith, one, less, long)

-- one event was put
pub words_more : (count counter : ℕ) (rest next old new all : List ℕ) (event : Event) → counter < count
    → event ≡ event_at rest
    → next ≡ drop 18 rest → new ≡ old ++ event_words event → old ++ events_words (count - counter) rest ≡ all
    → new ++ events_words (count - (counter + 1)) next ≡ all
words_more count counter rest next old new all event few event_is next_is put so_far =
    let front = event_words (event_at rest) in
    let left = events_words (count - (counter + 1)) (drop 18 rest) in
    ap (λ text. text ++ events_words (count - (counter + 1)) next) (put ∙ ap (λ e. old ++ event_words e) event_is)
    ∙ ap (λ octets. (old ++ front) ++ events_words (count - (counter + 1)) octets) next_is
    ∙ append_assoc old front left ∙ ap (λ text. old ++ text) (sym (words_left count counter rest few)) ∙ so_far

-- the same of objects
pub objects_more : (count counter : ℕ) (rest next old new all : List ℕ) (event : Event) → counter < count
    → event ≡ event_at rest
    → next ≡ drop 18 rest → new ≡ old ++ (codes "," ++ event_object event)
    → old ++ further_events (count - counter) rest ≡ all
    → new ++ further_events (count - (counter + 1)) next ≡ all
objects_more count counter rest next old new all event few event_is next_is put so_far =
    let front = codes "," ++ event_object (event_at rest) in
    let left = further_events (count - (counter + 1)) (drop 18 rest) in
    ap (λ text. text ++ further_events (count - (counter + 1)) next)
    (put ∙ ap (λ e. old ++ (codes "," ++ event_object e)) event_is)
    ∙ ap (λ octets. (old ++ front) ++ further_events (count - (counter + 1)) octets) next_is
    ∙ append_assoc old front left ∙ ap (λ text. old ++ text) (sym (objects_left count counter rest few)) ∙ so_far
