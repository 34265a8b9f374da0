-- The words of a run's keys, which its answers move: one record after the other, and on however many lanes (profile).
use Rattle.std.specs.Prelude.{◌≡◌, ⊤, ℕ, ◌+◌, ◌-◌, ◌<◌, ◌≤◌, ◌==◌, if◌then◌else◌, max, List, [], ◌∷◌, ◌⊎◌, slice_get}
use Rattle.std.specs.Prelude.{Some, ◌↔◌, IsTrue, slice_index, None}
use Rattle.std.specs.List.{All}
use Rattle.sdls_base.specs.declared.entry.Entry.{Entry}
use Rattle.sdls_base.specs.declared.entry.Seen.{Seen}
use Rattle.sdls_base.specs.declared.TheConstants.{MOST_KEYS}
use Rattle.sdls_base.specs.declared.entry.Seen.TheVariants.{Number}
use Rattle.sdls_base.specs.declared.entry.Seen.TheVariants as seens
use Rattle.key_book.specs.KeyBook.{place_of}
use Rattle.unit_state.specs.declared.state.State.{State}
use Rattle.unit_state.specs.History.{after_all, after_first}
use Rattle.ep_core.specs.declared.judging.Need.{Need}
use Rattle.ep_core.specs.declared.judging.Need.TheVariants as needs
use Rattle.record_io.specs.declared.code.TheConstants.{PROTECTED, CLEAR, DONE, REFUSED, LAYOUT, STATE, EXHAUSTED}
use Rattle.record_io.specs.declared.code.TheConstants.{NO_MEMORY}
use Rattle.record_io.specs.declared.reader.RecordKind.{RecordKind}
use Rattle.record_io.specs.declared.reader.RecordKind.TheVariants.{Protect, Open, Command, Monitor}
use Rattle.record_io.specs.declared.item_cursor.Record.{Record}
use Rattle.record_io.specs.Places.{records_of}
use Rattle.run_promise.specs.History.{IsNeedOf, AsksFor}
use Rattle.run_promise.specs.Deed.{Deed, tells_count}
use Rattle.run_promise.specs.Numbers.{mark_at}
use Rattle.run_promise.specs.Call.{CallSeen}
use Rattle.run_promise.specs.Account.{Account, deeds_in}

-- ---- the words as a machine that records move, one after the other

-- What a record did to a row's word `next`: nothing, or it found the word and left it, drew a number, raised the word
-- to a number, or drew one at or past the key's end.
pub data Move : Type 0 where
  Kept : Move
  Found : (row word : ℕ) → Move
  Drew : (row number : ℕ) → Move
  Raised : (row word number : ℕ) → Move
  Overdrew : (row number : ℕ) → Move

-- what the move adds to the row's word
abbrev pub adds : ℕ → Move → ℕ
adds row Kept = 0
adds row (Found own word) = 0
adds row (Drew own number) = if own == row then 1 else 0
adds row (Raised own word number) = if own == row then number - word else 0
adds row (Overdrew own number) = if own == row then 1 else 0

abbrev pub adds_all : ℕ → List Move → ℕ
adds_all row [] = 0
adds_all row (move ∷ moves) = adds row move + adds_all row moves

-- What the move found is the word as it stands, of one of so many rows. No number is drawn past the end: the word is
-- looked at first.
abbrev pub IsAt : ℕ → (ℕ → ℕ) → Move → Type 0
IsAt rows words Kept = ⊤
IsAt rows words (Found row word) = (row < rows) × (word ≡ words row)
IsAt rows words (Drew row number) = (row < rows) × (number ≡ words row)
IsAt rows words (Raised row word number) = (row < rows) × (word ≡ words row)
IsAt rows words (Overdrew row number) = ⊥

-- The move found the word of one of so many rows, no lower than the first of these words, and left it no higher than
-- the
-- last.
abbrev pub LiesBetween : ℕ → (ℕ → ℕ) → (ℕ → ℕ) → Move → Type 0
LiesBetween rows first last Kept = ⊤
LiesBetween rows first last (Found row word) = (row < rows) × (first row ≤ word) × (word ≤ last row)
LiesBetween rows first last (Drew row number) = (row < rows) × (first row ≤ number) × (number < last row)
LiesBetween rows first last (Raised row word number) = (row < rows) × (first row ≤ word) × (max word number ≤ last row)
LiesBetween rows first last (Overdrew row number) = (row < rows) × (first row ≤ number) × (number < last row)

abbrev pub word_after : (ℕ → ℕ) → Move → ℕ → ℕ
word_after words move row = words row + adds row move

-- The machine's run: each move finds what those before it left.
abbrev pub Runs : ℕ → (ℕ → ℕ) → List Move → Type 0
Runs rows words [] = ⊤
Runs rows words (move ∷ moves) = IsAt rows words move × Runs rows (word_after words move) moves

-- ---- which move an answer says

module _ (start : State) (entries : List Entry) where
  -- the state after the first p entries
  abbrev pub before : ℕ → State
  before p = after_first start entries p

  -- the row of the key
  abbrev pub HasRow : ℕ → ℕ → Type 0
  HasRow key row = place_of (after_all start entries).keys key ≡ Some row

  -- a move of this kind, on the row of the key for which the message needs this
  abbrev pub Shown : State → Record → (ℕ → Need) → (ℕ → Move) → Move → Type 0
  Shown state task need of move = (key : ℕ) × (row : ℕ) × IsNeedOf state task.octets (need key) × HasRow key row
      × (move ≡ of row)

  -- What a command saw shows its move: a word that was only looked at was left, or raised to 1; a word from which the
  -- message asks that the numbers go on was raised to the number asked for, or left above it; a number was drawn; the
  -- key had none left.
  abbrev pub TellsSeen : State → Record → Seen → Move → Type 0
  TellsSeen state task seens.Nothing move = move ≡ Kept
  TellsSeen state task (seens.Word word) move =
      Shown state task (λ key. needs.Look key) (λ row. Raised row word 1) move
      ⊎ ((key : ℕ) × (row : ℕ) × (number : ℕ) × AsksFor state task.octets key number × HasRow key row
      × (move ≡ Raised row word number))
  TellsSeen state task (seens.Number number) move =
      Shown state task (λ key. needs.Number key) (λ row. Drew row number) move
  TellsSeen state task (seens.Exhausted number) move =
      Shown state task (λ key. needs.Number key) (λ row. Found row number) move
      ⊎ Shown state task (λ key. needs.Number key) (λ row. Overdrew row number) move

  -- the answer to a frame that is protected shows its move: the number used, the word or number at the end, or none if
  -- it is not bound, or memory ran out for it
  pub record TellsProtect (deed : Deed) (move : Move) : Type 0 where
    pub protected : deed.answer.code ≡ PROTECTED → (row : ℕ) × HasRow deed.answer.key row
        × (move ≡ Drew row deed.answer.number)
    pub exhausted : deed.answer.code ≡ EXHAUSTED → (row : ℕ) × HasRow deed.answer.key row
        × ((move ≡ Found row deed.answer.number) ⊎ (move ≡ Overdrew row deed.answer.number))
    pub unbound : (deed.answer.code ≡ CLEAR) ⊎ ((LAYOUT ≤ deed.answer.code) × (deed.answer.code ≤ STATE)) → move ≡ Kept
    pub wanting : deed.answer.code ≡ NO_MEMORY → move ≡ Kept

  -- a command's answer shows it by its entry
  pub record TellsCommand (deed : Deed) (move : Move) : Type 0 where
    pub entry : (deed.answer.code ≡ DONE) ⊎ (deed.answer.code ≡ REFUSED) → (e : Entry)
        × (slice_get entries (deed.answer.position - 1) ≡ Some e)
        × TellsSeen (before (deed.answer.position - 1)) deed.task e.seen move

  -- codes 31 and 32 tell nothing of the move, nor does 33 of a command
  abbrev pub TellsKind : RecordKind → Deed → Move → Type 0
  TellsKind Protect deed move = TellsProtect deed move
  TellsKind Open deed move = move ≡ Kept
  TellsKind Command deed move = TellsCommand deed move
  TellsKind Monitor deed move = move ≡ Kept

  abbrev pub Tells : Deed → Move → Type 0
  Tells deed move = TellsKind deed.task.kind deed move

  -- the answers tell the moves, one by one
  abbrev pub TellAll : List Deed → List Move → Type 0
  TellAll [] [] = ⊤
  TellAll [] (move ∷ moves) = ⊥
  TellAll (deed ∷ deeds) [] = ⊥
  TellAll (deed ∷ deeds) (move ∷ moves) = Tells deed move × TellAll deeds moves

-- ---- the words of a run on however many lanes

-- what the moves of the records, which stand under the records' numbers, add to the row's word
abbrev pub adds_each : ℕ → (ℕ → Move) → List Record → ℕ
adds_each row move_of [] = 0
adds_each row move_of (task ∷ tasks) = adds row (move_of task.index) + adds_each row move_of tasks

-- A count in the answer has the entry at place p, which was made for the record with this index, if that record
-- comes before the answer's own, and only then.
abbrev pub CountsEntry : ℕ → ℕ → Deed → Type 0
CountsEntry p index deed = IsTrue (tells_count deed) → ((p < deed.answer.position) ↔ (index < deed.task.index))

-- Each record that was handled made one move, on whichever lane, and its answer shows it. Of a record without an
-- answer,
-- of one that is answered 31 or 32 (but an Open), and of a command that is answered 33, the move may be any one that
-- lies between the marks at the start and the words, as each move does. Each reserve, of the first `ends` entries, is
-- of
-- a number that a record drew. A count that is told is that of the entries of the records before, their reserves among
-- them. The words are the marks at the start and what all moves added.
pub record MovedWords (call : CallSeen) (account : Account) (state : State) (ends : ℕ) (words : List ℕ) : Type 0 where
  pub move_of : ℕ → Move
  pub told : All (λ deed. Tells state call.entries deed (move_of deed.task.index)) (deeds_in account)
  pub between : (index : ℕ) → LiesBetween MOST_KEYS (mark_at state) (slice_index words) (move_of index)
  pub entries : (p : ℕ) (entry : Entry) (index : ℕ) → p < ends → slice_get call.entries p ≡ Some entry
      → entry.index ≡ Some index → All (CountsEntry p index) (deeds_in account)
  pub reserves : (p : ℕ) (entry : Entry) → p < ends → slice_get call.entries p ≡ Some entry → entry.index ≡ None
      → (index : ℕ) × (row : ℕ) × (number : ℕ) × (entry.seen ≡ Number number) × (move_of index ≡ Drew row number)
      × All (CountsEntry p index) (deeds_in account)
  pub word : (row : ℕ) → row < MOST_KEYS
      → slice_index words row ≡ mark_at state row + adds_each row move_of (records_of account.handled)
