-- The words for the codes of answers, and what their details name (profile).
use Rattle.std.specs.Prelude.{ℕ, ◌==◌, if◌then◌else◌, codes, List, [], ◌∷◌, Option, Some, None}
use Rattle.sdls_base.specs.declared.states.SaState.TheVariants.{Unkeyed, Keyed, Operational}
use Rattle.text_words.specs.Words.{sa_state_word}
use Rattle.record_io.specs.declared.status.TheConstants.{MALFORMED, NO_STATE, SOURCE_FAULT}
use Rattle.record_io.specs.declared.status.TheConstants as statuses
use Rattle.record_io.specs.declared.code.AnswerCode.{AnswerCode}
use Rattle.record_io.specs.declared.code.AnswerCode.TheVariants.{Protected, Accepted, Clear, Done, Refused, Layout}
use Rattle.record_io.specs.declared.code.AnswerCode.TheVariants.{Monitored, MonitorFault}
use Rattle.record_io.specs.declared.code.AnswerCode.TheVariants.{Channel, Spi, Direction, State, Coverage, Mac, Number}
use Rattle.record_io.specs.declared.code.AnswerCode.TheVariants.{Exhausted, SiteFault, Stopped, NoMemory, End}

abbrev pub code_word : AnswerCode → List ℕ
code_word Protected = codes "protected"
code_word Accepted = codes "accepted"
code_word Clear = codes "clear"
code_word Done = codes "done"
code_word Refused = codes "refused"
code_word Monitored = codes "monitored"
code_word MonitorFault = codes "monitor-fault"
code_word Layout = codes "layout"
code_word Channel = codes "channel"
code_word Spi = codes "spi"
code_word Direction = codes "direction"
code_word State = codes "state"
code_word Coverage = codes "coverage"
code_word Mac = codes "mac"
code_word Number = codes "number"
code_word Exhausted = codes "exhausted"
code_word SiteFault = codes "site-fault"
code_word Stopped = codes "stopped"
code_word NoMemory = codes "no-memory"
code_word End = codes "end"

-- the word that a table has for an octet
abbrev pub word_of : List (ℕ × List ℕ) → ℕ → Option (List ℕ)
word_of [] octet = None
word_of (row ∷ rows) octet = if row.0 == octet then Some row.1 else word_of rows octet

-- the details of a frame that breaks its layout: the checks of the layouts, or that the plan has no such link
abbrev pub layout_details : List (ℕ × List ℕ)
layout_details =
    (0, codes "NoLink") ∷ (1, codes "Short") ∷ (2, codes "Long") ∷ (3, codes "LengthField") ∷ (4, codes "Version")
    ∷ (5, codes "Spare") ∷ (6, codes "SecondaryHeader") ∷ (7, codes "Fecf") ∷ []

-- the details of an association that is not operational: its state, or none where none is operational
abbrev pub state_details : List (ℕ × List ℕ)
state_details = (0, codes "none") ∷ (1, sa_state_word Unkeyed) ∷ (2, sa_state_word Keyed)
    ∷ (3, sa_state_word Operational) ∷ []

-- the details of a refused command
abbrev pub refusal_details : List (ℕ × List ℕ)
refusal_details =
    (0x11, codes "AlreadyLoaded") ∷ (0x12, codes "DuplicateKey") ∷ (0x13, codes "BookFull") ∷ (0x14, codes "KeyInState")
    ∷ (0x15, codes "KeyInUse") ∷ (0x16, codes "UnknownKey") ∷ (0x21, codes "UnknownSpi") ∷ (0x22, codes "SpiTaken")
    ∷ (0x23, codes "SaInState") ∷ (0x24, codes "ChannelTaken") ∷ (0x25, codes "KeyNotActive")
    ∷ (0x26, codes "BelowFloor")
    ∷ (0x27, codes "TableFull") ∷ (0x28, codes "WrongSuite") ∷ (0x29, codes "PastEnd") ∷ (0x2a, codes "UnknownChannel")
    ∷ (0x2b, codes "KeyTaken") ∷ (0x31, codes "BadTag") ∷ (0x32, codes "BadItems") ∷ (0x33, codes "Exhausted")
    ∷ (0x34, codes "PduFault") ∷ (0x35, codes "NotMaster") ∷ (0x36, codes "NotSession") ∷ []

-- what the number of End is, by its status; where it is nothing the number is 0
abbrev pub end_numbers : List (ℕ × List ℕ)
end_numbers =
    (MALFORMED, codes "offset") ∷ (SOURCE_FAULT, codes "faults") ∷ (statuses.SITE_FAULT, codes "faults")
    ∷ (NO_STATE, codes "offset") ∷ []
