-- How a book handles frames and commands (CCSDS 355.0-B-2, ProcessSecurity; 355.1-B-1, procedures).
use Rattle.std.specs.Prelude.{◌≡◌, ℕ, ◌⊎◌, List, [], ◌∷◌, ◌++◌}
use Rattle.sdls_base.specs.declared.entry.Change.{Change}
use Rattle.sdls_base.specs.declared.entry.Entry.{Entry}
use Rattle.sdls_base.specs.declared.entry.Logged.TheVariants as logged
use Rattle.sdls_base.specs.declared.entry.Seen.{Seen}
use Rattle.frame_checks.specs.declared.opening_frames.OpenReply.{OpenReply}
use Rattle.frame_checks.specs.OpeningFrames.{IsOpenReply}
use Rattle.ep_core.specs.declared.refusal.Reply.{Reply}
use Rattle.unit_image.specs.Storing.{Destroys}
use Rattle.run_promise.specs.History.{frame_entry, record_entry, IsStepOf}
use Rattle.unit_book.specs.declared.fault.BookFault.{BookFault}
use Rattle.unit_book.specs.declared.fault.BookFault.TheVariants as faults
use Rattle.unit_book.specs.Book.{BookView, CanEnter, IsBarred, IsUnstored, LeavesStateAlone, Made}

-- the frame was opened with this reply, as the checks answer in the state before, and made its entry
pub record OpensWithEntry (index link : ℕ) (frame field : List ℕ) (old new : BookView) (reply : OpenReply)
    (position : ℕ) : Type 0 where
  pub reply_is : IsOpenReply old.plan old.state link frame reply field
  pub made : Made (frame_entry old.plan old.state index reply) old new position

-- why a frame makes no entry, in the order of the refusals; what the checks answer of it comes before a fault of the
-- site
abbrev pub RefusesFrame : ℕ → ℕ → List ℕ → BookView → BookView → BookFault → Type 0
RefusesFrame index link frame old new fault = (IsBarred old fault × (new ≡ old))
    ⊎ (CanEnter old × ((reply : OpenReply) × (field : List ℕ)
    × IsOpenReply old.plan old.state link frame reply field
    × IsUnstored (frame_entry old.plan old.state index reply) old new fault))

-- the message was handled in the state before, with this reply, and made its entry
pub record Handles (index : ℕ) (octets : List ℕ) (seen : Seen) (old new : BookView) (reply : Reply)
    (position : ℕ) : Type 0 where
  pub change : Change
  pub step : IsStepOf old.state octets seen (change, reply)
  pub made : Made (record_entry index seen change) old new position

-- Why a message makes no entry, in the order of the refusals. Lack of memory, which needs no cause, leaves the book as
-- it was.
abbrev pub RefusesMessage : ℕ → List ℕ → Seen → BookView → BookView → BookFault → Type 0
RefusesMessage index octets seen old new fault = (IsBarred old fault × (new ≡ old))
    ⊎ ((fault ≡ faults.NoMemory) × (new ≡ old))
    ⊎ (CanEnter old × ((step : Change × Reply) × IsStepOf old.state octets seen step
    × IsUnstored (record_entry index seen step.0) old new fault))

-- Where the entry that was made takes away the octets of keys, each octet of all banks of each image that a crash may
-- leave is stated: the banks hold the new state, with no records. Of an image that had a plan alone outside them, each
-- octet is.
abbrev pub LeavesNoOctets : BookView → BookView → Type 0
LeavesNoOctets old new = (entry : Entry) → new.log ≡ old.log ++ logged.Entry entry ∷ [] → Destroys entry.change
    → LeavesStateAlone new
