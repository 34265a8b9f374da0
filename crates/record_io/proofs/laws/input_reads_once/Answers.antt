use Rattle.record_io.proofs.OneReading.{input_once}
use Rattle.record_io.proofs.laws.input_reads_once.Goals as goal

pub returns : goal.returns
returns c = input_once
