-- A command under the turn: what the words showed, and the step (CCSDS 355.1-B-1; numbers profile).
use Rattle.std.specs.Prelude.{◌≡◌, ◌⊎◌, ℕ, ◌<◌, ◌≤◌, List, Some, Result, Ok, Err}
use Rattle.sdls_base.specs.KeyId.{end_of}
use Rattle.sdls_base.specs.declared.entry.Seen.{Seen}
use Rattle.sdls_base.specs.declared.entry.Seen.TheVariants as sights
use Rattle.key_book.specs.KeyBook.{place_of}
use Rattle.ep_core.specs.declared.judging.Need.{Need}
use Rattle.ep_core.specs.declared.judging.Need.TheVariants as needs
use Rattle.ep_core.specs.declared.refusal.Reply.{Reply}
use Rattle.counter_table.specs.declared.view.Numbers.{Numbers}
use Rattle.counter_table.specs.declared.view.Turn.{Turn}
use Rattle.counter_table.specs.declared.view.View.{View}
use Rattle.counter_table.specs.Numbers.{top, raising}
use Rattle.counter_table.specs.Turn.{learning}
use Rattle.unit_book.specs.declared.fault.BookFault.{BookFault}
use Rattle.unit_book.specs.declared.fault.BookFault.TheVariants as refusals
use Rattle.unit_book.specs.Book.{BookView}
use Rattle.unit_book.specs.Records.{Handles, RefusesMessage}
use Rattle.run_promise.specs.History.{IsNeedOf}
use Rattle.run_promise.specs.Numbers.{marks_of}
use Rattle.shared_unit.specs.Numbers.{Draws, RunsOut, UsesNumber}
use Rattle.shared_unit.specs.Funding.{Reserves}

-- The key's word was found, no less than each seen before, and raised to the number.
pub record RaisesWord (key number n : ℕ) (found : BookView) (v w : Numbers) : Type 0 where
  pub row : ℕ
  pub place : place_of found.state.keys key ≡ Some row
  pub later : top row v.nexts ≤ n
  pub positive : 0 < n
  pub is : w ≡ raising row number n v

-- A number of the key was drawn, reserved where it had to be, and spent.
pub record DrawsFor (key n : ℕ) (found middle : BookView) (v w : Numbers) : Type 0 where
  pub row : ℕ
  pub place : place_of found.state.keys key ≡ Some row
  pub below : n < end_of key
  pub mark : ℕ
  pub reserved : Reserves key n (Ok mark) found middle
  pub uses : UsesNumber row n 0 v w

-- The key had no number left.
pub record FindsNone (key n : ℕ) (found : BookView) (v w : Numbers) : Type 0 where
  pub row : ℕ
  pub place : place_of found.state.keys key ≡ Some row
  pub out : RunsOut row (end_of key) n v w

-- A number was drawn, and its reserve refused.
pub record FailsFor (need : Need) (fault : BookFault) (found middle : BookView) (v w : Numbers) : Type 0 where
  pub key : ℕ
  pub is : need ≡ needs.Number key
  pub row : ℕ
  pub place : place_of found.state.keys key ≡ Some row
  pub n : ℕ
  pub below : n < end_of key
  pub draws : Draws row (end_of key) n v w
  pub reserved : Reserves key n (Err fault) found middle

-- what the words showed for the need, and what became of the book and of the numbers
abbrev pub Satisfies : Need → Seen → BookView → BookView → Numbers → Numbers → Type 0
Satisfies needs.Nothing sights.Nothing found middle v w = (middle ≡ found) × (w ≡ v)
Satisfies (needs.Look key) (sights.Word n) found middle v w = (middle ≡ found) × RaisesWord key 1 n found v w
Satisfies (needs.Raise key number) (sights.Word n) found middle v w = (middle ≡ found)
    × RaisesWord key number n found v w
Satisfies (needs.Number key) (sights.Number n) found middle v w = DrawsFor key n found middle v w
Satisfies (needs.Number key) (sights.Exhausted n) found middle v w = (middle ≡ found) × FindsNone key n found v w
Satisfies need seen found middle v w = ⊥

abbrev pub IsSeen : Need → Result Seen BookFault → BookView → BookView → View → View → Type 0
IsSeen need (Ok seen) found middle v w =
    Satisfies need seen found middle v.numbers w.numbers
    × ((w.turn ≡ v.turn) ⊎ (w.turn ≡ learning (marks_of middle.state) v.turn))
IsSeen need (Err fault) found middle v w = FailsFor need fault found middle v.numbers w.numbers
    × (w.turn ≡ v.turn)

abbrev pub knowing : ℕ → Turn → Turn
knowing changes v = record v { known = record v.known { changes = changes } }

-- by the answer, what became of the book and of the numbers
abbrev pub IsCommanded : ℕ → List ℕ → Result (Reply × ℕ) BookFault → BookView → BookView → Numbers → Numbers → Type 0
IsCommanded index pdu (Ok answer) found given v w =
    (need : Need) × (seen : Seen) × (middle : BookView) × IsNeedOf found.state pdu need
    × Satisfies need seen found middle v w
    × Handles index pdu seen middle given answer.0 answer.1
IsCommanded index pdu (Err fault) found given v w =
    ((fault ≡ refusals.NoMemory) × (given ≡ found) × (w ≡ v))
    ⊎ ((need : Need) × IsNeedOf found.state pdu need × (FailsFor need fault found given v w
    ⊎ ((seen : Seen) × (middle : BookView) × Satisfies need seen found middle v w
    × RefusesMessage index pdu seen middle given fault)))
