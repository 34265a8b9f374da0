use Rattle.fsr_log.proofs.Noting.{noted}
use Rattle.fsr_log.proofs.log.Log.note.Goals as goal

pub returns : goal.returns
returns c = λ notes all.
    noted notes (record { index = c.args.index; kind = c.args.kind; answer = c.args.answer.now }) c.args.self.now
    c.self.inside.events _ c.self.inside.alarm _ c.self.inside.last_open _ c.self.inside.seen _
    c.self.view_is c.self.invariant c.note_event.ensures c.alarm-self-inside.ensures
    c.last_open-self-inside.ensures c.last_seen-self-inside.ensures all
