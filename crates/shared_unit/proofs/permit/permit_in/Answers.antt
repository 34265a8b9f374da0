use Rattle.std.proofs.Common.{◌≡◌, Ok, Some, None, Option, Result, sym, ap, ◌∙◌}
use Rattle.frame_shield.specs.declared.protecting_frames.ShieldFault.{ShieldFault}
use Rattle.frame_checks.specs.declared.protecting_frames.ChannelBinding.{ChannelBinding}
use Rattle.frame_checks.specs.ProtectingFrames.{protect_check, without_channel}
use Rattle.shared_unit.proofs.Checks.{bound_there, clear_channel}
use Rattle.shared_unit.proofs.Places.{there_place}
use Rattle.shared_unit.proofs.permit.permit_in.Goals as goal

abbrev Found : Type 0
Found = Result (Option ChannelBinding) ShieldFault

abbrev on : Option ChannelBinding → Found
on found = Ok found

pub row_in-row-requires : goal.row_in-row-requires
row_in-row-requires g c =
    let plan = c.args.shared.now.plan in
    let state = c.args.shared.now.state in
    let found : ChannelBinding = c.in-Ok-Some.found in
    let is : c.binding.result ≡ on (Some found) = c.in-Ok-Some.is ∙ ap on c.in-Ok-Some.field-0-is in
    let bound : protect_check plan state c.args.link c.args.clear.now ≡ Ok (Some found.binding) =
    sym c.binding.ensures.checked ∙ ap without_channel is in
    record {
      there = there_place state.keys found.binding.key
          (bound_there plan state c.args.link c.args.clear.now found.channel found.binding
          (rw is at c.binding.ensures.channel) bound);
    }

pub returns-in-Ok-None-clause-permits : goal.returns-in-Ok-None-clause-permits
returns-in-Ok-None-clause-permits g c =
    let none : c.binding.result ≡ on None = c.in-Ok-None.is ∙ ap on c.in-Ok-None.field-0-is in (
      clear_channel c.args.shared.now.plan c.args.link c.args.clear.now (c.binding.ensures.clear.0 none),
      sym c.binding.ensures.checked ∙ ap without_channel none,
    )
