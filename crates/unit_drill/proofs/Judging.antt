-- What the receiver of a drill replies, on each lane.
use Rattle.std.proofs.Common.{◌≡◌, ℕ, ◌+◌, ◌/◌, ◌^◌, ◌<◌, List, ◌∷◌, None, Some, refl, ◌∙◌, ap, arith}
use Rattle.sdls_base.specs.declared.states.Direction.TheVariants.{Receive}
use Rattle.replay_window.specs.declared.window.Window.{Window}
use Rattle.unit_plan.specs.Channels.{channel_at}
use Rattle.unit_state.specs.declared.state.State.{State}
use Rattle.frame_shield.specs.Protects.{Protects}
use Rattle.frame_checks.specs.declared.opening_frames.OpenReply.{OpenReply}
use Rattle.frame_checks.specs.Header.{channel_of}
use Rattle.frame_checks.specs.OpeningFrames.{IsOpenReply}
use Rattle.unit_drill.specs.Plans.{link_line}
use Rattle.unit_drill.proofs.Read.{receiver_bare}
use Rattle.unit_drill.proofs.Binding.{bound_to, clear_on, field_by}
use Rattle.unit_drill.proofs.Lanes.{each, four, key_on, row_on, state_at, suite_on}
use Rattle.unit_drill.proofs.Opening.{JudgesOpening, OpensOnce, judges}

abbrev pub receiving : (ℕ → Window) → (ℕ → ℕ) → State
receiving windows floors = state_at 2 Receive (each 1) windows floors

channel_on : (lane c d e : ℕ) (rest : List ℕ)
    → channel_at receiver_bare.channels (record { link = 0; spacecraft = 1; channel = lane; map = None }) ≡ Some lane
    → c / 2 ^ 2 ≡ lane → channel_of receiver_bare 0 link_line.layout (0 ∷ 1 ∷ c ∷ d ∷ e ∷ rest) ≡ Some lane
channel_on lane c d e rest there same =
    ap (λ (channel : ℕ). channel_at receiver_bare.channels
    (record { link = 0; spacecraft = 1; channel = channel; map = None })) same ∙ there

pub judges_on : OpensOnce → (windows : ℕ → Window) (floors : ℕ → ℕ) (n s : ℕ) (g : ℕ → ℕ) (out field : List ℕ)
    (reply : OpenReply) (lane : ℕ) → lane < 4
    → Protects (bound_to 1 (lane + 1) (suite_on lane) (key_on lane) (lane + 1)) n (clear_on lane s (field_by g)) out
    → IsOpenReply receiver_bare (receiving windows floors) 0 out reply field
    → JudgesOpening (row_on Receive windows lane) (lane + 1) (key_on lane) n (field_by g) reply field
judges_on once windows floors n s g out field reply = four _
    (judges once (receiving windows floors) 0 1 (suite_on 0) (key_on 0) 1 (row_on Receive windows 0) (omega arith) refl
    (λ rest. refl)
    (λ c d e rest same. channel_on 0 c d e rest refl same) refl refl n s g out field reply)
    (judges once (receiving windows floors) 1 2 (suite_on 1) (key_on 1) 2 (row_on Receive windows 1) (omega arith) refl
    (λ rest. refl)
    (λ c d e rest same. channel_on 1 c d e rest refl same) refl refl n s g out field reply)
    (judges once (receiving windows floors) 2 3 (suite_on 2) (key_on 2) 3 (row_on Receive windows 2) (omega arith) refl
    (λ rest. refl)
    (λ c d e rest same. channel_on 2 c d e rest refl same) refl refl n s g out field reply)
    (judges once (receiving windows floors) 3 4 (suite_on 3) (key_on 3) 4 (row_on Receive windows 3) (omega arith) refl
    (λ rest. refl)
    (λ c d e rest same. channel_on 3 c d e rest refl same) refl refl n s g out field reply)
