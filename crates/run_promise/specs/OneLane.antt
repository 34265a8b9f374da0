-- One lane alone: what each record makes of the history before it, and that the words are those of the machine
-- (profile).
use Rattle.std.specs.Prelude.{◌≡◌, ◌⊎◌, ℕ, ◌+◌, ◌<◌, ◌≤◌, ◌==◌, ◌||◌, Bool, IsTrue, List, [], ◌∷◌, ◌++◌, length, Option}
use Rattle.std.specs.Prelude.{Some, None, Result, Ok, Err, ◌≢◌, take, slice_get, slice_index, Contains, false}
use Rattle.std.specs.List.{All}
use Rattle.sdls_base.specs.KeyId.{end_of}
use Rattle.sdls_base.specs.declared.entry.Change.{Change}
use Rattle.sdls_base.specs.declared.entry.Entry.{Entry}
use Rattle.sdls_base.specs.declared.entry.Seen.{Seen}
use Rattle.sdls_base.specs.declared.TheConstants.{MOST_KEYS}
use Rattle.sdls_base.specs.declared.entry.Seen.TheVariants as seens
use Rattle.sdls_outside.specs.Faults.{Rose}
use Rattle.frame_shield.specs.declared.binding.Binding.{Binding}
use Rattle.frame_shield.specs.declared.protecting_frames.ShieldFault.{ShieldFault}
use Rattle.frame_shield.specs.Protects.{Protects}
use Rattle.unit_plan.specs.PlanLines.{PlanLines}
use Rattle.key_book.specs.KeyBook.{place_of}
use Rattle.unit_state.specs.declared.state.State.{State}
use Rattle.unit_state.specs.History.{after_all, at_epoch, epoch_after}
use Rattle.frame_checks.specs.declared.opening_frames.OpenReply.{OpenReply}
use Rattle.frame_checks.specs.OpeningFrames.{IsOpenReply}
use Rattle.frame_checks.specs.ProtectingFrames.{channel_check}
use Rattle.ep_core.specs.declared.judging.Need.{Need}
use Rattle.ep_core.specs.declared.refusal.Reply.{Reply}
use Rattle.ep_core.specs.declared.judging.Need.TheVariants as needs
use Rattle.record_io.specs.declared.answers.Answer.{Answer}
use Rattle.record_io.specs.declared.code.TheConstants.{PROTECTED, EXHAUSTED, SITE_FAULT}
use Rattle.record_io.specs.declared.reader.RecordKind.{RecordKind}
use Rattle.record_io.specs.declared.reader.RecordKind.TheVariants.{Protect, Open, Command, Monitor}
use Rattle.record_io.specs.declared.item_cursor.Record.{Record}
use Rattle.run_promise.specs.Answers.{told_by, numbered, opened_told, replied_told, unbound_told}
use Rattle.run_promise.specs.History.{frame_entry, record_entry, IsNeedOf, IsStepOf}
use Rattle.run_promise.specs.Numbers.{mark_of, reserve_of, mark_at}
use Rattle.run_promise.specs.Fits.{protect_reply}
use Rattle.run_promise.specs.Call.{Begin, CallSeen}
use Rattle.run_promise.specs.Deed.{Deed, tells_count}
use Rattle.run_promise.specs.Words.{Move, Kept, Found, Drew, Raised, Overdrew, adds_all, Runs, TellAll}
use Rattle.run_promise.specs.Account.{Account, AnsweredEach, begin_of, deeds_in}

-- ---- record by record

-- the epoch that stands beside an answer of the checks of a frame that is to be protected: 0 where the plan is enough
-- for them
abbrev pub epoch_beside : Result (Option ℕ) ShieldFault → ℕ → ℕ
epoch_beside (Ok (Some channel)) epoch = epoch
epoch_beside (Ok None) epoch = 0
epoch_beside (Err fault) epoch = 0

module _ (begin : Begin) (history : List Entry) where
  -- the state after the history, and the one that its epoch began with
  abbrev pub now : State
  now = after_all begin.start history

  abbrev pub at_last_epoch : State
  at_last_epoch = at_epoch begin.start history (epoch_after history)

  -- The number that was drawn is below its key's mark, or an entry of its own reserves it.
  abbrev pub Funds : ℕ → ℕ → List Entry → Type 0
  Funds key number own = ((own ≡ []) × (number < mark_of now key))
      ⊎ ((own ≡ reserve_of begin.plan now key number ∷ []) × (mark_of now key ≤ number))

  -- ---- a frame that is to be protected

  -- the checks tell the answer in the state of the epoch
  pub record AloneUnbound (task : Record) (answer : Answer) (own : List Entry) (move : Move) : Type 0 where
    pub told : unbound_told (protect_reply begin.plan at_last_epoch task.link task.octets) ≡ Some (told_by answer)
    pub position_is : answer.position ≡ epoch_beside (channel_check begin.plan task.link task.octets)
        (epoch_after history)
    pub own_is : own ≡ []
    pub move_is : move ≡ Kept

  -- they bind it, to a key that has this row
  pub record AloneBound (task : Record) : Type 0 where
    pub binding : Binding
    pub bound : protect_reply begin.plan at_last_epoch task.link task.octets ≡ Ok (Some binding)
    pub row : ℕ
    pub row_is : place_of now.keys binding.key ≡ Some row

  -- it is protected with the number that was drawn
  pub record AloneProtected (task : Record) (answer : Answer) (own : List Entry) (move : Move) : Type 0 where
    pub is : AloneBound task
    pub told : told_by answer ≡ numbered PROTECTED is.binding.key answer.number answer.body
    pub position_is : answer.position ≡ epoch_after history
    pub below : answer.number < end_of is.binding.key
    pub protects : Protects is.binding answer.number task.octets answer.body
    pub funded : Funds is.binding.key answer.number own
    pub move_is : move ≡ Drew is.row answer.number

  -- its key has come to the end of its numbers
  pub record AloneExhausted (task : Record) (answer : Answer) (own : List Entry) (move : Move) : Type 0 where
    pub is : AloneBound task
    pub told : told_by answer ≡ numbered EXHAUSTED is.binding.key answer.number []
    pub position_is : answer.position ≡ epoch_after history
    pub at_end : end_of is.binding.key ≤ answer.number
    pub own_is : own ≡ []
    pub move_is : (move ≡ Found is.row answer.number) ⊎ (move ≡ Overdrew is.row answer.number)

  -- ---- a frame that is to be opened

  -- the checks tell the answer, and an entry says so
  pub record AloneOpened (task : Record) (answer : Answer) (own : List Entry) (move : Move) : Type 0 where
    pub reply : OpenReply
    pub field : List ℕ
    pub replies : IsOpenReply begin.plan now task.link task.octets reply field
    pub told : told_by answer ≡ opened_told reply field
    pub position_is : answer.position ≡ length history + 1
    pub own_is : own ≡ frame_entry begin.plan now task.index reply ∷ []
    pub move_is : move ≡ Kept

  -- ---- a command

  -- what the words showed for a need, with the reserve of a number that was drawn
  abbrev pub AloneShows : Need → Seen → List Entry → Move → Type 0
  AloneShows needs.Nothing seens.Nothing own move = (own ≡ []) × (move ≡ Kept)
  AloneShows (needs.Look key) (seens.Word n) own move = (own ≡ [])
      × ((row : ℕ) × (place_of now.keys key ≡ Some row) × (move ≡ Raised row n 1))
  AloneShows (needs.Raise key number) (seens.Word n) own move =
      (own ≡ []) × ((row : ℕ) × (place_of now.keys key ≡ Some row) × (move ≡ Raised row n number))
  AloneShows (needs.Number key) (seens.Number n) own move =
      (n < end_of key) × Funds key n own × ((row : ℕ) × (place_of now.keys key ≡ Some row) × (move ≡ Drew row n))
  AloneShows (needs.Number key) (seens.Exhausted n) own move = (end_of key ≤ n) × (own ≡ [])
      × ((row : ℕ) × (place_of now.keys key ≡ Some row) × ((move ≡ Found row n) ⊎ (move ≡ Overdrew row n)))
  AloneShows need seen own move = ⊥

-- it was shown what it needs
pub record AloneShown (begin : Begin) (history : List Entry) (task : Record) (reserve : List Entry)
    (move : Move) : Type 0 where
  pub need : Need
  pub needed : IsNeedOf (now begin history) task.octets need
  pub seen : Seen
  pub shows : AloneShows begin history need seen reserve move
  pub change : Change
  pub reply : Reply
  pub step : IsStepOf (now begin (history ++ reserve)) task.octets seen (change, reply)

module _ (begin : Begin) (history : List Entry) where
  -- the step gives the answer, and an entry says so
  pub record AloneHandled (task : Record) (answer : Answer) (own : List Entry) (move : Move) : Type 0 where
    pub reserve : List Entry
    pub is : AloneShown begin history task reserve move
    pub told : told_by answer ≡ replied_told is.reply
    pub position_is : answer.position ≡ length history + length own
    pub own_is : own ≡ reserve ++ record_entry task.index is.seen is.change ∷ []

  -- ---- a record of any kind

  abbrev pub ServesKind : RecordKind → Record → Answer → List Entry → Move → Type 0
  ServesKind Protect task answer own move = AloneUnbound begin history task answer own move
      ⊎ (AloneProtected begin history task answer own move ⊎ AloneExhausted begin history task answer own move)
  ServesKind Open task answer own move = AloneOpened begin history task answer own move
  ServesKind Command task answer own move = AloneHandled task answer own move
  ServesKind Monitor task answer own move = (own ≡ []) × (move ≡ Kept)

  -- The record has this answer, made these entries and moved a word so. Nothing is said of one for which the site
  -- failed or memory ran out: codes from 31 on.
  abbrev pub AloneServes : Record → Answer → List Entry → Move → Type 0
  AloneServes task answer own move = (SITE_FAULT ≤ answer.code) ⊎ ServesKind task.kind task answer own move

-- an append has failed: before, or as this answer says
abbrev pub has_failed : Bool → Answer → Bool
has_failed before answer = before || (answer.code == SITE_FAULT)

abbrev pub failed_after : Bool → List Deed → Bool
failed_after before [] = before
failed_after before (deed ∷ deeds) = failed_after (has_failed before deed.answer) deeds

-- The count of all entries: of those of the history, which stand, and of one more only if an append has failed.
abbrev pub CountsAll : Bool → List Entry → ℕ → Type 0
CountsAll failed history count = (count ≡ length history) ⊎ (IsTrue failed × (count ≡ length history + 1))

-- Records served one after the other: each finds the history that those before it left. A count that is told is that of
-- all entries then.
abbrev pub ServesAll : Begin → Bool → List Entry → List Deed → List Move → List Entry → Type 0
ServesAll begin failed history [] [] own = own ≡ []
ServesAll begin failed history [] (move ∷ moves) own = ⊥
ServesAll begin failed history (deed ∷ deeds) [] own = ⊥
ServesAll begin failed history (deed ∷ deeds) (move ∷ moves) own = (first : List Entry) × (rest : List Entry)
    × (own ≡ first ++ rest)
    × AloneServes begin history deed.task deed.answer first move
    × (IsTrue (tells_count deed) → CountsAll failed history deed.answer.position)
    × ServesAll begin (has_failed failed deed.answer) (history ++ first) deeds moves rest

-- ---- the whole run

-- all records are of one lane; of Monitor records it is not looked at
abbrev pub OneLane : List Record → Type 0
OneLane tasks = (lane : ℕ) × All (λ (task : Record). task.kind ≢ Monitor → task.lane ≡ lane) tasks

-- The moves that the answers tell, and one more at most where a record has no answer, are those of the machine whose
-- words begin at the marks of the image. Each reserve is of a number that was drawn so, and the words by which the keys
-- were released are those that the machine came to. So many entries are of the lane; those behind them are releases.
-- The answered records were served one after the other, each in the history that those before it left; they made all
-- entries of the lane, but for the last at most: one that a record without an answer left, or that failed.
pub record IsExact (call : CallSeen) (account : Account) (plan : PlanLines) (state : State) (words : List ℕ)
    (ends : ℕ) : Type 0 where
  pub moves : List Move
  pub beyond : List Move
  pub few : length beyond ≤ 1
  pub each : AnsweredEach account → beyond ≡ []
  pub told : TellAll state call.entries (deeds_in account) moves
  pub runs : Runs MOST_KEYS (mark_at state) (moves ++ beyond)
  pub reserves : (p : ℕ) (entry : Entry) → p < ends → slice_get call.entries p ≡ Some entry → entry.index ≡ None
      → (row : ℕ) × (number : ℕ) × (entry.seen ≡ seens.Number number) × Contains (moves ++ beyond) (Drew row number)
  pub last : (row : ℕ) → row < MOST_KEYS → slice_index words row ≡ mark_at state row + adds_all row (moves ++ beyond)
  pub served : (own : List Entry) × (rest : List Entry) × (take ends call.entries ≡ own ++ rest)
      × ServesAll (begin_of call plan state) false [] (deeds_in account) moves own × (length rest ≤ 1)
      × (AnsweredEach account → ¬ Rose call.site.faults account.faults_when_put → rest ≡ [])
