-- The answers to records, by what the calls on the unit answered (profile).
use Rattle.std.specs.Prelude.{◌≡◌, ◌≢◌, ℕ, Bool, List, [], ◌∷◌, take, Option, Some, None, Result, Ok, Err, MatchResult}
use Rattle.frame_checks.specs.declared.opening_frames.OpenReply.{OpenReply}
use Rattle.frame_checks.specs.Accepting.{LeavesOctets, field_in}
use Rattle.ep_core.specs.declared.refusal.Reply.{Reply}
use Rattle.record_io.specs.declared.answers.Answer.{Answer}
use Rattle.record_io.specs.declared.code.TheConstants.{PROTECTED, CLEAR, EXHAUSTED, SITE_FAULT, STOPPED, NO_MEMORY}
use Rattle.record_io.specs.declared.reader.RecordKind.TheVariants.{Command}
use Rattle.record_io.specs.declared.item_cursor.Record.{Record}
use Rattle.counter_table.specs.declared.view.View.{View}
use Rattle.run_promise.specs.Answers.{Told, counting, plain, numbered, opened_told, replied_told, fault_told}
use Rattle.unit_book.specs.declared.fault.BookFault.{BookFault}
use Rattle.unit_book.specs.declared.fault.BookFault.TheVariants as faults
use Rattle.unit_book.specs.Book.{BookView}
use Rattle.unit_book.specs.Records.{OpensWithEntry, RefusesFrame}
use Rattle.shared_unit.specs.declared.permit.Protected.{Protected}
use Rattle.shared_unit.specs.declared.permit.Protected.TheVariants as protecteds
use Rattle.shared_unit.specs.Calls.{WithPosition}
use Rattle.shared_unit.specs.Commanding.{IsCommanded}
use Rattle.shared_unit.specs.Told.{known_of_book}
use Rattle.shared_unit.specs.Turn.{Visits}
use Rattle.run_promise.specs.Call.{Begin}
use Rattle.run_promise.specs.Deed.{deed_of}
use Rattle.law_workers.specs.Order.{Layout, Handled}
use Rattle.law_workers.specs.Ends.{IsFullFor}
use Rattle.law_workers.specs.Alone.{MovedInTurn}

-- ---- answers

abbrev pub answer_of : Told → ℕ → Answer
answer_of told position = record {
  code = told.code;
  detail = told.detail;
  key = told.key;
  position = position;
  number = told.number;
  body = told.body;
}

-- memory ran out, in the call or for the answer
abbrev pub unserved_answer : Answer
unserved_answer = answer_of (plain NO_MEMORY 0) 0

-- if an entry was refused, by the fault and the count of entries beside it; none if the run has as many as it may
abbrev pub fault_answer : BookFault → ℕ → Option Answer
fault_answer (faults.SiteFault count) position = Some (answer_of (counting SITE_FAULT 0 count) position)
fault_answer (faults.Stopped count) position = Some (answer_of (counting STOPPED 0 count) position)
fault_answer faults.SessionFull position = None
fault_answer faults.NoMemory position = Some unserved_answer

-- of a frame that was opened, with its octets as the call left them
abbrev pub opened_answer : Result (OpenReply × ℕ) (BookFault × ℕ) → List ℕ → Option Answer
opened_answer (Ok told) left = Some (answer_of (opened_told told.0 (field_in told.0 left)) told.1)
opened_answer (Err refused) left = fault_answer refused.0 refused.1

abbrev pub commanded_answer : Result (Reply × ℕ) (BookFault × ℕ) → Option Answer
commanded_answer (Ok told) = Some (answer_of (replied_told told.0) told.1)
commanded_answer (Err refused) = fault_answer refused.0 refused.1

-- of a frame that was protected, with the octets of the room that the call wrote to
abbrev pub protected_answer : Protected → List ℕ → Option Answer
protected_answer (protecteds.Done d) out = Some (answer_of (numbered PROTECTED d.key d.number (take d.length out))
    d.epoch)
protected_answer protecteds.Clear out = Some (answer_of (plain CLEAR 0) 0)
protected_answer (protecteds.Refused fault epoch) out = Some (answer_of (fault_told fault) epoch)
protected_answer (protecteds.Exhausted key number epoch) out = Some (answer_of (numbered EXHAUSTED key number []) epoch)
protected_answer (protecteds.Fault fault position) out = fault_answer fault position

-- ---- what became of a record

-- if memory ran out for a frame, no line was made for it; for a command there may be the reserve that it needed
abbrev pub LeavesLog : View → View → Record → Answer → Type 0
LeavesLog old new task answer = answer.code ≡ NO_MEMORY → task.kind ≢ Command → new.turn.made ≡ old.turn.made

-- the record was handled and has this answer; or it has none, since the history is full
abbrev pub Answered : Layout → Begin → ℕ → View → View → Record → Option Answer → Type 0
Answered layout begin segment old new task (Some answer) = Handled layout begin old new (task ∷ [])
    (deed_of segment task answer ∷ []) × LeavesLog old new task answer
Answered layout begin segment old new task None = Handled layout begin old new (task ∷ []) []
    × IsFullFor begin old new task

-- The record was served in turn, and moved a word as its answer says; if it has none, it may have moved one.
abbrev pub AnsweredExactly : Begin → ℕ → View → View → Record → Option Answer → Type 0
AnsweredExactly begin segment old new task (Some answer) = MovedInTurn begin old new 1
    (deed_of segment task answer ∷ [])
AnsweredExactly begin segment old new task None = MovedInTurn begin old new 1 []

-- ---- what the calls say, for a record

-- `open_frame`, which left the frame's octets so
abbrev pub OpensRecord : Bool → Record → List ℕ → Result (OpenReply × ℕ) (BookFault × ℕ) → View → View → Type 0
OpensRecord told task left result v w = (found : BookView) × (given : BookView)
    × Visits told found given v.turn w.turn
    × WithPosition result (known_of_book given) (λ answer. MatchResult answer
    (λ told. OpensWithEntry task.index task.link task.octets (field_in told.0 left) found given told.0 told.1
    × LeavesOctets told.0 task.octets left)
    (RefusesFrame task.index task.link task.octets found given))

-- `command`
abbrev pub CommandsRecord : Bool → Record → Result (Reply × ℕ) (BookFault × ℕ) → View → View → Type 0
CommandsRecord told task result v w = (found : BookView) × (given : BookView)
    × Visits told found given v.turn w.turn
    × WithPosition result (known_of_book given)
    (λ answer. IsCommanded task.index task.octets answer found given v.numbers w.numbers)
