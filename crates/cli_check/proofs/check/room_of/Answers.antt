use Rattle.std.proofs.Common.{length, false, arith}
use Rattle.cli_check.specs.declared.check.Refusal.TheVariants.{Short, Long, Version, Spare, Spi, Mac}
use Rattle.sdls_base.specs.declared.layout.AosLayout.{AosLayout}
use Rattle.aos_frame.specs.AosFrame.{view}
use Rattle.cli_check.proofs.Rooms.{room_behind, no_fault}
use Rattle.cli_check.proofs.check.room_of.Goals as goal

pub returns-in-Ok-clause-accepted : goal.returns-in-Ok-clause-accepted
returns-in-Ok-clause-accepted c =
    let found = c.in-Ok.ensures.found in
    let layout : AosLayout = record { length = length c.args.frame.now; insert = 0; ocf = false; fecf = false } in
    let passed = no_fault layout c.args.frame.now c.in-Ok.ensures.fault in (
      λ key. elim [
        | Short ↦ λ below fails. omega arith
        | Long ↦ λ below fails. omega arith
        | Version ↦ λ below fails. fails passed.0
        | Spare ↦ λ below fails. fails passed.1
        | Spi ↦ λ below. absurd (omega arith)
        | Mac ↦ λ below. absurd (omega arith)
      ],
      room_behind c.args.frame.now c.in-Ok.parts.prefix.now c.in-Ok.parts.room.now (view c.in-Ok.parts).ocf
          found.fits.ocf c.in-Ok.ensures.prefix_length c.in-Ok.ensures.whole,
    )
