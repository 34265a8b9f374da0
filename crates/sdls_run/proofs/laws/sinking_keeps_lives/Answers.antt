use Rattle.run_promise.specs.Life.{no_account}
use Rattle.sdls_run.proofs.Reading.{sinks_soundly}
use Rattle.sdls_run.proofs.laws.sinking_keeps_lives.Goals as goal

pub returns : goal.returns
returns c = λ call empty sinks.
    c.sound_reading_keeps_lives.ensures call
    (λ plan state shows. c.no_records_are_sound.ensures call (no_account call) plan state shows empty)
    (λ is_told plan state shows. sinks_soundly call plan state shows (sinks is_told))
