use Rattle.run_promise.specs.Life.{no_account}
use Rattle.law_runs.proofs.Resting.{reads_soundly}
use Rattle.law_runs.proofs.life.reading_keeps_lives.Goals as goal

pub returns : goal.returns
returns c = λ call empty reads.
    c.sound_reading_keeps_lives.ensures call
    (λ plan state shows. c.no_records_are_sound.ensures call (no_account call) plan state shows empty)
    (λ is_told plan state shows. reads_soundly c.shows_one.ensures call plan state shows is_told reads)
