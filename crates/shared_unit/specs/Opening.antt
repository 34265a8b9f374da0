-- Permits to open: what a worker may open frames under before it takes the turn (CCSDS 355.0-B-2, ProcessSecurity;
-- permits profile).
use Rattle.std.specs.Prelude.{◌≡◌, ◌⊎◌, ⊤, ℕ, ◌≤◌, List, Option, Some, None, IsSomeAnd}
use Rattle.unit_plan.specs.PlanLines.{PlanLines}
use Rattle.unit_state.specs.History.{epoch_after}
use Rattle.frame_shield.specs.declared.opening_frames.Opened.{Opened}
use Rattle.frame_checks.specs.Trying.{IsOpener, IsTried}
use Rattle.counter_table.specs.declared.view.Turn.{Turn}
use Rattle.counter_table.specs.Turn.{epoch_seen}
use Rattle.run_promise.specs.Log.{entries_of}
use Rattle.unit_book.specs.Book.{BookView}
use Rattle.shared_unit.specs.declared.permit.OpenPermit.{OpenPermit}
use Rattle.shared_unit.specs.Told.{state_at}

-- The permit is true for a worker that knows this.
pub record IsOpenTrueFor (permit : OpenPermit) (v : Turn) : Type 0 where
  -- its epoch was seen, and the log that was seen reaches it
  pub seen : permit.epoch ≤ epoch_seen v
  pub reached : permit.epoch ≤ epoch_after (entries_of v.known.log)
  -- in the state of its epoch frames open under its opener
  pub opener : IsOpener v.known.opening.plan (state_at v.known permit.epoch) permit.opener

abbrev pub IsOpenTrueIfKept : Option OpenPermit → Turn → Type 0
IsOpenTrueIfKept None v = ⊤
IsOpenTrueIfKept (Some permit) v = IsOpenTrueFor permit v

-- before the turn: nothing was tried, and the octets are as they came, or they were opened under the permit
abbrev pub IsTriedUnder : PlanLines → Option OpenPermit → ℕ → List ℕ → List ℕ → Option Opened → Type 0
IsTriedUnder plan kept link octets frame None = frame ≡ octets
IsTriedUnder plan kept link octets frame (Some opened) =
    IsSomeAnd kept (λ permit. IsTried plan permit.opener link octets frame opened)

-- in the permit's epoch frames open under its opener in the book's state
abbrev pub OpensInBook : Option OpenPermit → BookView → Type 0
OpensInBook None book = ⊤
OpensInBook (Some permit) book = book.changes ≡ permit.epoch → IsOpener book.plan book.state permit.opener

-- a permit of the book's epoch, under whose opener frames open in its state
pub record IsPermitOf (permit : OpenPermit) (book : BookView) : Type 0 where
  pub epoch : permit.epoch ≡ book.changes
  pub opener : IsOpener book.plan book.state permit.opener

-- what was kept, or a new permit
abbrev pub IsNewOrKept : Option OpenPermit → Option OpenPermit → BookView → Type 0
IsNewOrKept old new book = (new ≡ old) ⊎ IsSomeAnd new (λ permit. IsPermitOf permit book)
