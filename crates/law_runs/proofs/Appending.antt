-- What can need an append can need one where more is known to be near, whatever else is known of the run.
use Rattle.std.proofs.Common.{ℕ, Bool, List, inl, inr}
use Rattle.sdls_base.specs.declared.entry.Entry.{Entry}
use Rattle.sdls_base.specs.declared.entry.Seen.{Seen}
use Rattle.sdls_base.specs.declared.entry.Seen.TheVariants as seens
use Rattle.record_io.specs.declared.reader.RecordKind.{RecordKind}
use Rattle.record_io.specs.declared.reader.RecordKind.TheVariants.{Protect, Open, Command, Monitor}
use Rattle.record_io.specs.declared.item_cursor.Record.{Record}
use Rattle.unit_plan.specs.PlanLines.{PlanLines}
use Rattle.unit_state.specs.declared.state.State.{State}
use Rattle.run_promise.specs.Fits.{Course, CanAppend, IsUnmarked, MayAppend}
use Rattle.run_promise.specs.History.{SeenNear}

seen_near : (near far : ℕ → ℕ → Type 0) → ((k n : ℕ) → near k n → far k n) → (k : ℕ) (seen : Seen)
    → SeenNear near k seen → SeenNear far k seen
seen_near near far more k seens.Nothing h = h
seen_near near far more k (seens.Word n) h = more k n h
seen_near near far more k (seens.Number n) h = more k n h
seen_near near far more k (seens.Exhausted n) h = more k n h

module _ (near far : ℕ → ℕ → Type 0) (more : (k n : ℕ) → near k n → far k n) (plan : PlanLines) (start : State)
    (es : List Entry)
    (rows rows' before faults before' faults' : ℕ) (told told' : Bool) where
  abbrev old : Course
  old = record {
    begin = record { rows = rows; told = told; plan = plan; start = start };
    faults_before = before;
    faults = faults;
    entries = es;
  }

  abbrev new : Course
  new = record {
    begin = record { rows = rows'; told = told'; plan = plan; start = start };
    faults_before = before';
    faults = faults';
    entries = es;
  }

  unmarked : (state : State) (key number : ℕ) → IsUnmarked near state key number → IsUnmarked far state key number
  unmarked state key number h = record { is_near = more key number h.is_near; unmarked = h.unmarked; below = h.below }

  append : (kind : RecordKind) (p : ℕ) (task : Record) → CanAppend near old p task kind → CanAppend far new p task kind
  append Protect p task h = record {
    earlier = h.earlier;
    within = h.within;
    binding = h.binding;
    bound = h.bound;
    number = h.number;
    is = unmarked _ h.binding.key h.number h.is;
  }
  append Open p task h = record {
    spi = h.spi;
    key = h.key;
    number = h.number;
    from = h.from;
    to = h.to;
    field = h.field;
    accepts = h.accepts;
    above = h.above;
  }
  append Command p task (inl h) = inl (record {
    seen = h.seen;
    change = h.change;
    reply = h.reply;
    sees = h.sees;
    is_near = λ k o. seen_near near far more k h.seen (h.is_near k o);
    step = h.step;
    changes = h.changes;
  })
  append Command p task (inr h) =
      inr (record { key = h.key; number = h.number; needs = h.needs; is = unmarked _ h.key h.number h.is })
  append Monitor p task h = absurd h

  pub may_append : (p : ℕ) (task : Record) → MayAppend near old p task → MayAppend far new p task
  may_append p task h = append task.kind p task h
