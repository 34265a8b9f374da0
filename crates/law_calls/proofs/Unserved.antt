-- A record for whose answer memory ran out before its call.
use Rattle.std.proofs.Common.{ℕ, [], Some, refl, sym, append-nil, arith}
use Rattle.record_io.specs.declared.item_cursor.Record.{Record}
use Rattle.record_io.specs.declared.code.TheConstants.{NO_MEMORY}
use Rattle.counter_table.specs.declared.view.View.{View}
use Rattle.run_promise.specs.Call.{Begin}
use Rattle.law_workers.specs.Views.{IsBetween}
use Rattle.law_workers.specs.Deeds.{course_in}
use Rattle.law_workers.specs.Order.{Layout}
use Rattle.law_calls.specs.Answering.{Answered, AnsweredExactly, unserved_answer}
use Rattle.law_calls.proofs.Counting.{counted_none}
use Rattle.law_calls.proofs.Fitted.{wanting_fits}
use Rattle.law_calls.proofs.OneRecord.{Turned, handled_answered}
use Rattle.run_promise.specs.Words.{Kept}
use Rattle.law_calls.proofs.Moving.{moves_none}
use Rattle.law_calls.proofs.Exactness.{wanting_exactly}
use Rattle.law_calls.proofs.InTurn.{looks_pass}
use Rattle.law_calls.proofs.Stages.{late_stands, unused_late}

-- the worker's turn is as it was
same_turn : (v : View) → Turned v.turn.known.log [] v.turn v.turn
same_turn v = record {
  earlier = record {
    log = ([], sym (append-nil v.turn.known.log));
    changes = omega arith;
    faults = omega arith;
    standing = omega arith;
    put_faults = omega arith;
    stopped = λ _. refl;
    stood = λ _. refl;
  };
  sparing = (omega arith, λ rose low all. rose);
  opening = refl;
  epochs = omega arith;
  low = omega arith;
  log_is = sym (append-nil v.turn.known.log);
  made = sym (append-nil v.turn.made);
  holds = refl;
  filled = refl;
}

pub unserved : (begin : Begin) (layout : Layout) (segment : ℕ) (v : View) (task : Record)
    → Answered layout begin segment v v task (Some unserved_answer)
unserved begin layout segment v task = (
  handled_answered begin task v v layout segment v.turn.known.log [] [] [] [] [] (same_turn v)
      (counted_none begin task v v refl) tt (λ index. omega arith) (omega arith) (omega arith) unserved_answer
      (wanting_fits (IsBetween begin v v) (course_in begin v) task)
      (late_stands begin segment task v v NO_MEMORY 0 0 refl refl (λ is. absurd (omega arith)))
      (λ key number uses.
      absurd (unused_late NO_MEMORY 0 0 key number (λ is. absurd (omega arith)) (λ is. absurd (omega arith)) uses))
      (λ is. absurd (omega arith)) (λ _. refl),
  λ code other. refl,
)

pub unserved_exactly : (begin : Begin) (segment : ℕ) (v : View) (task : Record)
    → AnsweredExactly begin segment v v task (Some unserved_answer)
unserved_exactly begin segment v task =
    wanting_exactly begin segment task v v Kept (moves_none begin v v refl) v.turn.known.log [] (same_turn v) tt []
    (looks_pass begin v v [] (same_turn v) (sym (append-nil v.numbers.spent))) (λ _. refl) (λ same all. all) (λ _. refl)
