-- What one more answer changes in a log. Private: the clauses of `Log` speak of all answers.
use Rattle.std.specs.Prelude.{ℕ, ◌+◌, ◌||◌, Bool, false, if◌then◌else◌, [], ◌∷◌, ◌++◌}
use Rattle.circular_buffer.specs.Buffer.{Buffer, buffer, keep_last}
use Rattle.record_io.specs.declared.answers.Answer.{Answer}
use Rattle.fsr_log.specs.declared.kinds.Event.{Event}
use Rattle.fsr_log.specs.declared.messages.TheConstants.{ERASE_LOG, ALARM_RESET}
use Rattle.fsr_log.specs.declared.messages.TheConstants.{REPLY}
use Rattle.fsr_log.specs.Kinds.{is_event, is_alarm}
use Rattle.fsr_log.specs.Noted.{is_reply}

-- the ring: none behind an erased log, one event more behind a refusal
abbrev pub ring_behind : Buffer Event → ℕ → Answer → Buffer Event
ring_behind ring index answer =
    if is_reply (REPLY + ERASE_LOG) answer then buffer [] ring.capacity
    else (if is_event answer.code
    then buffer (keep_last ring.capacity (ring.items ++ record {
      index = index;
      code = answer.code;
      detail = answer.detail;
      number = answer.number;
    } ∷ [])) ring.capacity
    else ring)

-- the alarm
abbrev pub alarm_behind : Bool → Answer → Bool
alarm_behind before answer =
    if is_reply (REPLY + ALARM_RESET) answer then false else (before || is_alarm answer.code)
