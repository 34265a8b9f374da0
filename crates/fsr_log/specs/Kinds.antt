-- What an answer is to the log, by its code (profile).
use Rattle.std.specs.Prelude.{ℕ, Bool, true, false}
use Rattle.std.specs.Option.{option_map_or}
use Rattle.record_io.specs.declared.code.AnswerCode.{AnswerCode}
use Rattle.record_io.specs.declared.code.AnswerCode.TheVariants as codes
use Rattle.record_io.specs.Codes.{code_at}
use Rattle.fsr_log.specs.declared.kinds.AnswerKind.{AnswerKind}
use Rattle.fsr_log.specs.declared.kinds.AnswerKind.TheVariants.{Service, Refusal, Association, Mac, Number}

abbrev pub kind_of : AnswerCode → AnswerKind
kind_of codes.Protected = Service
kind_of codes.Accepted = Service
kind_of codes.Clear = Service
kind_of codes.Done = Service
kind_of codes.Refused = Refusal
kind_of codes.Monitored = Service
kind_of codes.MonitorFault = Service
kind_of codes.Layout = Refusal
kind_of codes.Channel = Refusal
kind_of codes.Spi = Association
kind_of codes.Direction = Association
kind_of codes.State = Association
kind_of codes.Coverage = Association
kind_of codes.Mac = Mac
kind_of codes.Number = Number
kind_of codes.Exhausted = Refusal
kind_of codes.SiteFault = Refusal
kind_of codes.Stopped = Refusal
kind_of codes.NoMemory = Refusal
kind_of codes.End = Service

-- an octet that is no code refuses nothing
abbrev pub kind_at : ℕ → AnswerKind
kind_at code = option_map_or kind_of (code_at code) Service

abbrev pub is_event_kind : AnswerKind → Bool
is_event_kind Service = false
is_event_kind Refusal = true
is_event_kind Association = true
is_event_kind Mac = true
is_event_kind Number = true

abbrev pub raises_alarm : AnswerKind → Bool
raises_alarm Service = false
raises_alarm Refusal = false
raises_alarm Association = true
raises_alarm Mac = true
raises_alarm Number = true

-- the bit of a report word that says it of the last answer to an Open record
abbrev pub kind_bit : AnswerKind → ℕ
kind_bit Service = 0
kind_bit Refusal = 0
kind_bit Association = 1
kind_bit Mac = 2
kind_bit Number = 4

-- a refusal: codes 04, 10 to 17, 20 and 31 to 33
abbrev pub is_event : ℕ → Bool
is_event code = is_event_kind (kind_at code)

-- a code that raises the alarm: 12 to 17
abbrev pub is_alarm : ℕ → Bool
is_alarm code = raises_alarm (kind_at code)
