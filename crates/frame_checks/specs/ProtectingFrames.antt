-- The checks of a frame that is to be protected, before the clear frame's layout (CCSDS 355.0-B-2, ApplySecurity; order
-- profile).
use Rattle.std.specs.Prelude.{◌≡◌, Bool, true, false, IsSomeAnd, ℕ, List, [], ◌∷◌, ◌++◌, Option, Some, None, is_none}
use Rattle.std.specs.Prelude.{unwrap_or, Result, Ok, Err}
use Rattle.std.specs.Option.{option_and_then, option_map_or}
use Rattle.sdls_base.specs.FirstFailing.{Check, first_failing}
use Rattle.sdls_base.specs.declared.link.Link.{Link}
use Rattle.sa_book.specs.declared.sa_book.SaRow.{SaRow}
use Rattle.sa_book.specs.SaBook.{sender_on}
use Rattle.unit_plan.specs.PlanLines.{PlanLines, link_of}
use Rattle.unit_state.specs.declared.state.State.{State}
use Rattle.frame_shield.specs.declared.binding.Binding.{Binding}
use Rattle.frame_shield.specs.declared.protecting_frames.ShieldFault.{ShieldFault}
use Rattle.frame_shield.specs.declared.protecting_frames.ShieldFault.TheVariants.{Layout, Channel, State as NoSender}
use Rattle.frame_checks.specs.declared.protecting_frames.ChannelBinding.{ChannelBinding}
use Rattle.frame_checks.specs.Header.{lacks_header, is_clear, channel_of}
use Rattle.frame_checks.specs.Binding.{binding_of}

-- what checks answer: a refusal, no security, or the binding under which the frame is protected
abbrev pub Answer : Type 0
Answer = Result (Option Binding) ShieldFault

-- the answer of `binding` without the channel that stands in it
abbrev pub without_channel : Result (Option ChannelBinding) ShieldFault → Answer
without_channel (Ok (Some found)) = Ok (Some found.binding)
without_channel (Ok None) = Ok None
without_channel (Err fault) = Err fault

-- the association that sends on the frame's channel
abbrev pub sender_of : PlanLines → State → ℕ → Link → List ℕ → Option SaRow
sender_of plan state link line clear =
    option_and_then (sender_on state.associations) (channel_of plan link line.layout clear)

-- on a link that has a line, the checks for which the plan is enough, each with the answer where it fails
abbrev pub channel_checks : {A : Type 0} → PlanLines → ℕ → Link → List ℕ → List (Check (Result (Option A) ShieldFault))
channel_checks plan link line clear =
    (lacks_header line.layout clear, Err (Layout 1))
    ∷ (is_clear line.layout clear, Ok None)
    ∷ (is_none (channel_of plan link line.layout clear), Err Channel) ∷ []

-- all checks: those, and then that of the sender
abbrev pub protect_checks : PlanLines → State → ℕ → Link → List ℕ → List (Check Answer)
protect_checks plan state link line clear =
    channel_checks plan link line clear ++ (is_none (sender_of plan state link line clear), Err NoSender) ∷ []

-- the answer of the first check that fails, or else the sender's binding
abbrev pub answer_on : PlanLines → State → ℕ → List ℕ → Link → Answer
answer_on plan state link clear line = unwrap_or (first_failing (protect_checks plan state link line clear))
    (Ok (option_and_then (binding_of plan state line) (sender_of plan state link line clear)))

-- the same, after the check that the link has a line
abbrev pub protect_check : PlanLines → State → ℕ → List ℕ → Answer
protect_check plan state link clear =
    option_map_or (answer_on plan state link clear) (link_of plan.links link) (Err (Layout 0))

-- the answer of the first check that fails of those for which the plan is enough, or else the channel
abbrev pub channel_on : PlanLines → ℕ → List ℕ → Link → Result (Option ℕ) ShieldFault
channel_on plan link clear line = unwrap_or (first_failing (channel_checks plan link line clear))
    (Ok (channel_of plan link line.layout clear))

abbrev pub channel_check : PlanLines → ℕ → List ℕ → Result (Option ℕ) ShieldFault
channel_check plan link clear = option_map_or (channel_on plan link clear) (link_of plan.links link) (Err (Layout 0))

abbrev pub tells_channel : Result (Option ℕ) ShieldFault → Bool
tells_channel (Ok (Some channel)) = true
tells_channel (Ok None) = false
tells_channel (Err fault) = false

-- the frame passes the checks for which the plan is enough, and carries security
abbrev pub has_channel : PlanLines → ℕ → List ℕ → Bool
has_channel plan link clear = tells_channel (channel_check plan link clear)

-- the link has a line, and the frame its header, which says that it carries no security
abbrev pub IsSentClear : PlanLines → ℕ → List ℕ → Type 0
IsSentClear plan link clear = IsSomeAnd (link_of plan.links link)
    (λ line. (lacks_header line.layout clear ≡ false) × (is_clear line.layout clear ≡ true))
