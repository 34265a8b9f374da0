use Rattle.pair_audit.proofs.OneRecording.{reads_once, not_malformed}
use Rattle.pair_audit.proofs.audit.recording_reads_once.Goals as goal

pub returns-clause-one_way : goal.returns-clause-one_way
returns-clause-one_way c = reads_once c.answers_shown_once.ensures

pub returns-clause-in_order : goal.returns-clause-in_order
returns-clause-in_order c = not_malformed c.answers_shown_once.ensures
