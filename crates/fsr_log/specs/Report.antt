-- What the log of a run reports, as a function of the run's answers in their order (profile).
use Rattle.std.specs.Prelude.{ℕ, Bool, if◌then◌else◌, List, [], ◌∷◌, map, Option}
use Rattle.std.specs.Option.{option_map_or}
use Rattle.std.specs.List.{list_any, filter}
use Rattle.circular_buffer.specs.Buffer.{keep_last, last_item}
use Rattle.fsr_log.specs.declared.kinds.Event.{Event}
use Rattle.fsr_log.specs.declared.kinds.TheConstants.{MOST_EVENTS}
use Rattle.fsr_log.specs.Kinds.{is_event, is_alarm}
use Rattle.fsr_log.specs.Noted.{Noted, is_seen, is_open, is_erase, is_reset, event_of}

-- what stands behind the last that passes the test; all, if none does
abbrev pub behind_last : (Noted → Bool) → List Noted → List Noted
behind_last passes [] = []
behind_last passes (noted ∷ notes) =
    if list_any passes notes then behind_last passes notes else (if passes noted then notes else noted ∷ notes)

-- the last that passes the test
abbrev pub last_where : (Noted → Bool) → List Noted → Option Noted
last_where passes notes = last_item (filter passes notes)

-- the events: the refusals since an Erase log was answered last, and of these the last 256
abbrev pub events_of : List Noted → List Event
events_of notes =
    map event_of (keep_last MOST_EVENTS (filter (λ noted. is_event noted.answer.code) (behind_last is_erase notes)))

-- the alarm: an answer has raised it since an Alarm reset was answered last
abbrev pub alarm_of : List Noted → Bool
alarm_of notes = list_any (λ noted. is_alarm noted.answer.code) (behind_last is_reset notes)

-- the code of the last answer to an Open record, 0 if there is none
abbrev pub last_open_of : List Noted → ℕ
last_open_of notes = option_map_or (λ noted. noted.answer.code) (last_where (λ noted. is_open noted.kind) notes) 0

-- the last answer that carries the key and the number that a frame had
abbrev pub last_seen_of : List Noted → Option Noted
last_seen_of notes = last_where (λ noted. is_seen noted.answer.code) notes

-- what the log reports; key and number are those that were seen last, 0 if none was
pub record Report : Type 0 where
  pub events : List Event
  pub alarm : Bool
  pub last_open : ℕ
  pub key : ℕ
  pub number : ℕ

abbrev pub report_of : List Noted → Report
report_of notes = record {
  events = events_of notes;
  alarm = alarm_of notes;
  last_open = last_open_of notes;
  key = option_map_or (λ noted. noted.answer.key) (last_seen_of notes) 0;
  number = option_map_or (λ noted. noted.answer.number) (last_seen_of notes) 0;
}
