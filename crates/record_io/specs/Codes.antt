-- The codes of answers (profile).
use Rattle.std.specs.Prelude.{ℕ, ◌==◌, List, [], ◌∷◌, Option, find}
use Rattle.record_io.specs.declared.code.TheConstants.{ACCEPTED, CHANNEL, CLEAR, COVERAGE, DIRECTION, DONE, END}
use Rattle.record_io.specs.declared.code.TheConstants.{EXHAUSTED, LAYOUT, MAC, NO_MEMORY, NUMBER}
use Rattle.record_io.specs.declared.code.TheConstants.{MONITORED, MONITOR_FAULT}
use Rattle.record_io.specs.declared.code.TheConstants.{PROTECTED, REFUSED, SITE_FAULT, SPI, STATE, STOPPED}
use Rattle.record_io.specs.declared.code.AnswerCode.{AnswerCode}
use Rattle.record_io.specs.declared.code.AnswerCode.TheVariants.{Protected, Accepted, Clear, Done, Refused, Layout}
use Rattle.record_io.specs.declared.code.AnswerCode.TheVariants.{Monitored, MonitorFault}
use Rattle.record_io.specs.declared.code.AnswerCode.TheVariants.{Channel, Spi, Direction, State, Coverage, Mac, Number}
use Rattle.record_io.specs.declared.code.AnswerCode.TheVariants.{Exhausted, SiteFault, Stopped, NoMemory, End}

abbrev pub code_octet : AnswerCode → ℕ
code_octet Protected = PROTECTED
code_octet Accepted = ACCEPTED
code_octet Clear = CLEAR
code_octet Done = DONE
code_octet Refused = REFUSED
code_octet Monitored = MONITORED
code_octet MonitorFault = MONITOR_FAULT
code_octet Layout = LAYOUT
code_octet Channel = CHANNEL
code_octet Spi = SPI
code_octet Direction = DIRECTION
code_octet State = STATE
code_octet Coverage = COVERAGE
code_octet Mac = MAC
code_octet Number = NUMBER
code_octet Exhausted = EXHAUSTED
code_octet SiteFault = SITE_FAULT
code_octet Stopped = STOPPED
code_octet NoMemory = NO_MEMORY
code_octet End = END

abbrev pub all_codes : List AnswerCode
all_codes = Protected ∷ Accepted ∷ Clear ∷ Done ∷ Refused ∷ Monitored ∷ MonitorFault ∷ Layout ∷ Channel ∷ Spi
    ∷ Direction ∷ State ∷ Coverage ∷ Mac ∷ Number ∷ Exhausted ∷ SiteFault ∷ Stopped ∷ NoMemory ∷ End ∷ []

-- the code with this octet
unfoldable pub code_at : ℕ → Option AnswerCode
code_at octet = find (λ code. code_octet code == octet) all_codes
