use Rattle.std.proofs.Common.{◌≡◌, ◌++◌, drop}
use Rattle.plan_text.specs.Put.{note_lines}
use Rattle.plan_text.proofs.check.put_notes.Given as goal

-- the lines put, and those of the notes that are left, are all lines
abbrev pub invariant-loop-note : goal.invariant-loop-note
invariant-loop-note l = l.text.items ++ note_lines (drop l.note-index l.notes)
    ≡ l.initial.text.items ++ note_lines l.notes
