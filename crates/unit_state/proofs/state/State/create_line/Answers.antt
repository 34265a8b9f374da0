use Rattle.replay_window.proofs.Fields.{width_field}
use Rattle.unit_state.proofs.state.State.create_line.Goals as goal

pub create-requires-clause-channels : goal.create-requires-clause-channels
create-requires-clause-channels c =
    record { one = c.requires.channels.one; most = c.requires.channels.most; ascending = c.requires.channels.ascending }

pub create-requires-clause-window : goal.create-requires-clause-window
create-requires-clause-window c =
    width_field c.args.found.now.sa.window (record { least = c.requires.window.least; most = c.requires.window.most })
