use Rattle.std.proofs.Common.{[], ap, map, sym}
use Rattle.aes_block.specs.Aes.{encrypted}
use Rattle.aes_block.proofs.ScheduleFacts.{eight}
use Rattle.aes_block.proofs.schedule.Schedule.encrypt_each.Goals as goal

pub returns : goal.returns
returns c =
    rw (c.encrypt4.ensures, c.encrypt4-2.ensures)
    (sym (ap (map (encrypted c.args.self.now)) (eight [] c.args.blocks.now c.told-blocks)))
