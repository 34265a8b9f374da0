-- A legal entry, and a release, change what the state allows.
use Rattle.std.proofs.Common.{◌≡◌, ℕ, ◌≤◌, List, Option, Some, None, IsSome, IsSomeAnd, inl, inr, refl, sym, subst}
use Rattle.std.specs.Prelude.{MatchOption}
use Rattle.sdls_base.specs.declared.entry.Change.{Change}
use Rattle.sdls_base.specs.declared.entry.Change.TheVariants as changes
use Rattle.sdls_base.specs.declared.entry.Entry.{Entry}
use Rattle.sdls_base.specs.declared.entry.Seen.{Seen}
use Rattle.sdls_base.specs.declared.entry.Seen.TheVariants as seens
use Rattle.key_book.specs.declared.key_row.KeyRow.{KeyRow}
use Rattle.unit_plan.specs.PlanLines.{PlanLines}
use Rattle.unit_plan.specs.PlanRules.{IsPlan}
use Rattle.unit_state.specs.declared.state.State.{State}
use Rattle.unit_state.specs.State.{KeepsRules}
use Rattle.unit_state.specs.Allows.{Allows}
use Rattle.unit_state.specs.Laws.{IsNoMarks}
use Rattle.unit_state.proofs.Found.{held_rules}
use Rattle.frame_checks.specs.declared.opening_frames.OpenReply.{OpenReply}
use Rattle.frame_checks.specs.declared.opening_frames.OpenReply.TheVariants as opens
use Rattle.frame_checks.specs.Accepting.{MayBeAccepted, OnAccepted}
use Rattle.frame_checks.proofs.Replies.{any_reply_may}
use Rattle.ep_codec.specs.declared.command.Command.{Command}
use Rattle.ep_codec.specs.declared.command.Command.TheVariants.{Rekeying, Activate, Deactivate, Verify, Destroy}
use Rattle.ep_codec.specs.declared.command.Command.TheVariants.{Inventory, Compose, ReadNumber, Create, Delete}
use Rattle.ep_codec.specs.declared.command.Command.TheVariants.{SetWindow, Rekey, Expire, SetNumber, Start, Stop}
use Rattle.ep_codec.specs.declared.command.Command.TheVariants.{Status}
use Rattle.ep_core.specs.declared.refusal.Refusal.{Refusal}
use Rattle.ep_core.specs.declared.refusal.Reply.{Reply}
use Rattle.ep_core.specs.Need.{need_of}
use Rattle.ep_core.specs.Refusals.{refusal_of}
use Rattle.ep_core.specs.Step.{IsDone, refused}
use Rattle.ep_core.proofs.Allowed.{change_allowed}
use Rattle.record_io.specs.declared.item_cursor.Record.{Record}
use Rattle.run_promise.specs.History.{frame_change, IsStepOf, SeesFor, SeenNear, IsLegal, IsRelease}
use Rattle.law_history.specs.Entries.{anywhere}
use Rattle.law_history.specs.Laws.{IsOfCommand}
use Rattle.run_promise.proofs.Marking.{reserve_allowed, release_of_allowed}
use Rattle.run_promise.proofs.Accepted.{accept_allowed}

-- ---- what a command changes

made_by : (step made : Change × Reply) → step ≡ made → IsOfCommand made.0 → IsOfCommand step.0
made_by step made is of = subst (λ (s : Change × Reply). IsOfCommand s.0) (sym is) of

some_made : {X : Type 0} (o : Option X) (f : X → Change × Reply) (step : Change × Reply) → IsSomeAnd o (λ x. step ≡ f x)
    → ((x : X) → IsOfCommand (f x).0) → IsOfCommand step.0
some_made {X} None f step is of = absurd is
some_made {X} (Some x) f step is of = made_by step (f x) is (of x)

of_done : (state : State) (command : Command) (seen : Seen) (step : Change × Reply) → IsDone state command seen step
    → IsOfCommand step.0
of_done state (Rekeying master vector sealed tag) seen step is = made_by step _ is tt
of_done state (Activate keys) seen step is = made_by step _ is tt
of_done state (Deactivate keys) seen step is = made_by step _ is tt
of_done state (Verify key challenge) seen step is = some_made _ _ step is (λ held. tt)
of_done state (Destroy keys) seen step is = made_by step _ is tt
of_done state (Inventory first last) seen step (found, listed, is) = made_by step _ is tt
of_done state (Compose master keys) seen step is = some_made _ _ step is (λ held. tt)
of_done state (ReadNumber spi) seen step is = some_made _ _ step is (λ row. tt)
of_done state (Create new) seen step is = made_by step _ is tt
of_done state (Delete spi) seen step is = made_by step _ is tt
of_done state (SetWindow spi window) seen step is = made_by step _ is tt
of_done state (Rekey spi key number) seen step is = made_by step _ is tt
of_done state (Expire spi) seen step is = made_by step _ is tt
of_done state (SetNumber spi number) seen step is = made_by step _ is tt
of_done state (Start spi) seen step is = made_by step _ is tt
of_done state (Stop spi) seen step is = made_by step _ is tt
of_done state (Status spi) seen step is = some_made _ _ step is (λ row. tt)

of_step_by : (o : Option Refusal) (state : State) (command : Command) (seen : Seen) (step : Change × Reply)
    → MatchOption o (IsDone state command seen step) (λ refusal. step ≡ refused refusal) → IsOfCommand step.0
of_step_by None state command seen step done = of_done state command seen step done
of_step_by (Some refusal) state command seen step is = made_by step (refused refusal) is tt

-- no step of a command sets marks, or accepts a number
pub of_step : (state : State) (octets : List ℕ) (seen : Seen) (step : Change × Reply) → IsStepOf state octets seen step
    → IsOfCommand step.0
of_step state octets seen step (inl (command, pdu, is)) =
    of_step_by (refusal_of state command seen) state command seen step is
of_step state octets seen step (inr (offset, fault, is)) = made_by step _ is tt

pub command_marks : (change : Change) → IsOfCommand change → IsNoMarks change
command_marks (changes.Marks key mark floor) of = of
command_marks (changes.Load items) of = tt
command_marks (changes.KeyStates ids to) of = tt
command_marks (changes.Create new) of = tt
command_marks (changes.Rekey spi key number) of = tt
command_marks (changes.SaTo spi to) of = tt
command_marks (changes.SetNumber spi number) of = tt
command_marks (changes.SetWindow spi window) of = tt
command_marks (changes.Accepted spi key number floor) of = tt
command_marks changes.Nothing of = tt

pub frame_marks : (plan : PlanLines) (state : State) (reply : OpenReply) → IsNoMarks (frame_change plan state reply)
frame_marks plan state (opens.Accepted spi key number from to) = tt
frame_marks plan state opens.Clear = tt
frame_marks plan state (opens.Layout number) = tt
frame_marks plan state opens.Channel = tt
frame_marks plan state opens.Spi = tt
frame_marks plan state opens.Direction = tt
frame_marks plan state (opens.State held) = tt
frame_marks plan state opens.Coverage = tt
frame_marks plan state opens.Mac = tt
frame_marks plan state (opens.Number key number high width) = tt

-- ---- what is allowed

frame_allowed : (plan : PlanLines) (state : State) (reply : OpenReply) → KeepsRules state → 1 ≤ plan.accept
    → OnAccepted reply (MayBeAccepted state) → Allows state (frame_change plan state reply)
frame_allowed plan state (opens.Accepted spi key number from to) rules some may =
    accept_allowed plan state spi key number rules may some
frame_allowed plan state opens.Clear rules some may = tt
frame_allowed plan state (opens.Layout number) rules some may = tt
frame_allowed plan state opens.Channel rules some may = tt
frame_allowed plan state opens.Spi rules some may = tt
frame_allowed plan state opens.Direction rules some may = tt
frame_allowed plan state (opens.State held) rules some may = tt
frame_allowed plan state opens.Coverage rules some may = tt
frame_allowed plan state opens.Mac rules some may = tt
frame_allowed plan state (opens.Number key number high width) rules some may = tt

step_allowed : (state : State) (octets : List ℕ) (seen : Seen) (step : Change × Reply) → KeepsRules state
    → SeesFor state octets seen
    → IsStepOf state octets seen step → Allows state step.0
step_allowed state octets seen step rules sees (inl (command, pdu, is)) =
    change_allowed state command seen step rules pdu.bounds (sees (need_of state command) (inl (command, pdu, refl))) is
step_allowed state octets seen step rules sees (inr (offset, fault, is)) =
    subst (λ (s : Change × Reply). Allows state s.0) (sym is) tt

-- a legal entry's change is one that the state before it allows
pub legal_allowed : (near : ℕ → ℕ → Type 0) (plan : PlanLines) (state : State) (records : List Record) (entry : Entry)
    → IsPlan plan
    → KeepsRules state → IsLegal near plan state records entry → Allows state entry.change
legal_allowed near plan state records entry ok rules (inl opening) =
    subst (λ (e : Entry). Allows state e.change) (sym opening.entry_is)
    (frame_allowed plan state opening.reply rules ok.accept.0
    (any_reply_may plan state opening.task.link opening.task.octets opening.reply opening.field opening.replies))
legal_allowed near plan state records entry ok rules (inr (inl procedure)) =
    step_allowed state procedure.task.octets entry.seen (entry.change, procedure.reply) rules procedure.sees
    procedure.step
legal_allowed near plan state records entry ok rules (inr (inr reserve)) =
    subst (λ (e : Entry). Allows state e.change) (sym reserve.entry_is)
    (reserve_allowed plan state reserve.key reserve.number rules reserve.there reserve.below ok.block.0)

-- so is a release's, whose word is at least 1
pub release_is_allowed : (near : ℕ → ℕ → Type 0) (state : State) (entry : Entry) (release : IsRelease near state entry)
    → KeepsRules state
    → 1 ≤ release.word → Allows state entry.change
release_is_allowed near state entry release rules some =
    release_of_allowed state release.word release.held entry rules
    (held_rules state release.held.id release.held rules release.there)
    (subst (λ (o : Option KeyRow). IsSome o) (sym release.there) refl) some release.releases

-- ---- near, and nearer

pub seen_wider : (near wider : ℕ → ℕ → Type 0) → ((key number : ℕ) → near key number → wider key number)
    → (key : ℕ) (seen : Seen)
    → SeenNear near key seen → SeenNear wider key seen
seen_wider near wider more key seens.Nothing is = tt
seen_wider near wider more key (seens.Word word) is = more key word is
seen_wider near wider more key (seens.Number number) is = more key number is
seen_wider near wider more key (seens.Exhausted number) is = more key number is

-- what is legal near some words is legal near more
pub legal_wider : (near wider : ℕ → ℕ → Type 0) → ((key number : ℕ) → near key number → wider key number)
    → (plan : PlanLines) (state : State) (records : List Record) (entry : Entry)
    → IsLegal near plan state records entry → IsLegal wider plan state records entry
legal_wider near wider more plan state records entry (inl opening) = inl opening
legal_wider near wider more plan state records entry (inr (inl procedure)) = inr (inl (record {
  task = procedure.task;
  there = procedure.there;
  kind_is = procedure.kind_is;
  index_is = procedure.index_is;
  reply = procedure.reply;
  sees = procedure.sees;
  step = procedure.step;
  is_near = λ key of. seen_wider near wider more key entry.seen (procedure.is_near key of);
}))
legal_wider near wider more plan state records entry (inr (inr reserve)) = inr (inr (record {
  key = reserve.key;
  number = reserve.number;
  there = reserve.there;
  is_near = more reserve.key reserve.number reserve.is_near;
  unmarked = reserve.unmarked;
  below = reserve.below;
  entry_is = reserve.entry_is;
}))

pub release_wider : (near wider : ℕ → ℕ → Type 0) → ((key number : ℕ) → near key number → wider key number)
    → (state : State) (entry : Entry)
    → IsRelease near state entry → IsRelease wider state entry
release_wider near wider more state entry release = record {
  held = release.held;
  word = release.word;
  there = release.there;
  is_near = more release.held.id release.word release.is_near;
  releases = release.releases;
}

pub legal_anywhere : (near : ℕ → ℕ → Type 0) (plan : PlanLines) (state : State) (records : List Record) (entry : Entry)
    → IsLegal near plan state records entry → IsLegal anywhere plan state records entry
legal_anywhere near = legal_wider near anywhere (λ key number is. tt)
