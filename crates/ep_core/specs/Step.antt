-- The step of a procedure: what a command changes in a state, and its reply (CCSDS 355.1-B-1; profile).
use Rattle.std.specs.Prelude.{◌≡◌, ⊤, ℕ, ◌+◌, List, [], length, Option, Some, None, MatchOption, IsSomeAnd}
use Rattle.std.specs.List.{flat_map}
use Rattle.std.specs.Option.{option_map_or}
use Rattle.cmac.specs.Cmac.{mac}
use Rattle.gcm.specs.Gcm.{gcm_seal}
use Rattle.sdls_base.specs.FirstFailing.{first_told}
use Rattle.sdls_base.specs.KeyId.{class_of}
use Rattle.sdls_base.specs.declared.entry.Change.{Change}
use Rattle.sdls_base.specs.declared.entry.Change.TheVariants as changes
use Rattle.sdls_base.specs.declared.entry.Seen.{Seen}
use Rattle.sdls_base.specs.declared.key_id.KeyClass.{KeyClass}
use Rattle.sdls_base.specs.declared.key_id.KeyClass.TheVariants.{Master, Gcm, Cmac}
use Rattle.sdls_base.specs.declared.states.Direction.{Direction}
use Rattle.sdls_base.specs.declared.states.Direction.TheVariants.{Send, Receive}
use Rattle.sdls_base.specs.declared.states.KeyState.TheVariants.{Active, Deactivated, Destroyed}
use Rattle.sdls_base.specs.declared.states.SaState.TheVariants.{Unkeyed, Keyed, Operational}
use Rattle.key_book.specs.declared.key_book.Inventory.{Inventory as Listing}
use Rattle.key_book.specs.declared.key_row.KeyRow.{KeyRow}
use Rattle.key_book.specs.Inventory.{IsInventory}
use Rattle.replay_window.specs.Window.{field_of}
use Rattle.sa_book.specs.declared.sa_book.SaRow.{SaRow}
use Rattle.unit_state.specs.declared.state.State.{State}
use Rattle.unit_state.specs.State.{key_row, association_row}
use Rattle.ep_codec.specs.declared.command.Command.{Command}
use Rattle.ep_codec.specs.declared.command.Command.TheVariants.{Rekeying, Activate, Deactivate, Verify, Destroy}
use Rattle.ep_codec.specs.declared.command.Command.TheVariants.{Inventory, Compose, ReadNumber, Create, Delete}
use Rattle.ep_codec.specs.declared.command.Command.TheVariants.{SetWindow, Rekey, Expire, SetNumber, Start, Stop}
use Rattle.ep_codec.specs.declared.command.Command.TheVariants.{Status}
use Rattle.ep_codec.specs.declared.reply_pdu.ReplyPdu.{ReplyPdu}
use Rattle.ep_codec.specs.declared.reply_pdu.ReplyPdu.TheVariants as replies
use Rattle.ep_codec.specs.ReplyPdu.{reply_octets}
use Rattle.ep_core.specs.declared.refusal.Refusal.{Refusal}
use Rattle.ep_core.specs.declared.refusal.Reply.{Reply}
use Rattle.ep_core.specs.declared.refusal.Reply.TheVariants.{Done, Refused}
use Rattle.ep_core.specs.Refusal.{code_of, value_of}
use Rattle.ep_core.specs.Refusals.{refusal_of, opened, items_of, text_checks}
use Rattle.sdls_base.specs.Spelling.{item_octets}
use Rattle.sdls_header.specs.declared.header.Vector.TheVariants.{Wide}
use Rattle.sdls_header.specs.SecurityHeader.{vector_octets}
use Rattle.ep_core.specs.Sealed.{front, challenge_data, challenge_text}
use Rattle.ep_core.specs.Seen.{word_of, number_of}

-- a change with its reply, for which no number was used
abbrev pub done : Change → ReplyPdu → Change × Reply
done change pdu = (change, Done None 0 (reply_octets pdu))

-- a reply alone
abbrev pub telling : ReplyPdu → Change × Reply
telling pdu = done changes.Nothing pdu

-- a reply for which a number of a key was used
abbrev pub using_number : ℕ → ℕ → ReplyPdu → Change × Reply
using_number key number pdu = (changes.Nothing, Done (Some key) number (reply_octets pdu))

-- a refusal changes nothing
abbrev pub refused : Refusal → Change × Reply
refused refusal = (changes.Nothing, Refused (code_of refusal) (value_of refusal))

-- the next number of an association: the word that was seen of a sending one
abbrev pub next_of : ℕ → SaRow → Direction → ℕ
next_of word row Send = word
next_of word row Receive = row.window.high + 1

-- a challenge under a key: sealed with the unit's vector for the number (SP 800-38D), or with a MAC (SP 800-38B)
abbrev pub sealed_challenge : List ℕ → ℕ → KeyRow → ℕ → List ℕ → ReplyPdu
sealed_challenge device key held number challenge =
    let vector = vector_octets (Wide device number) in
    let sealed = gcm_seal held.bytes vector (challenge_data key) challenge in
    replies.VerifyGcm key vector sealed.0 sealed.1

abbrev pub verified : KeyClass → List ℕ → ℕ → KeyRow → ℕ → List ℕ → ReplyPdu
verified Master device key held number challenge = sealed_challenge device key held number challenge
verified Gcm device key held number challenge = sealed_challenge device key held number challenge
verified Cmac device key held number challenge =
    replies.VerifyCmac key number (mac held.bytes (challenge_text number challenge))

-- the octets that a key has
abbrev pub octets_of : State → ℕ → List ℕ
octets_of state key = option_map_or (λ held. held.bytes) (key_row state key) []

-- keys with their octets, in the order of a list
abbrev pub clear_text : State → List ℕ → List ℕ
clear_text state keys = flat_map (λ key. item_octets (record { id = key; bytes = octets_of state key })) keys

-- a Rekeying message for these keys, sealed under a master key with the unit's vector for the number
abbrev pub composed : List ℕ → ℕ → KeyRow → ℕ → List ℕ → ReplyPdu
composed device master held number clear =
    let vector = vector_octets (Wide device number) in
    let sealed = gcm_seal held.bytes vector (front master (length clear)) clear in
    replies.Compose master vector sealed.0 sealed.1

-- the states of keys, as an inventory says them
abbrev pub IsInventoryOf : State → ℕ → ℕ → Change × Reply → Type 0
IsInventoryOf state first last step = (found : Listing) × IsInventory state.keys first last found
    × (step ≡ telling (replies.Inventory found.total found.rows))

-- what each command does, where nothing refuses it
abbrev pub IsDone : State → Command → Seen → Change × Reply → Type 0
IsDone state (Rekeying master vector sealed tag) seen step =
    step ≡ done (changes.Load (items_of (opened state master vector sealed tag))) replies.Rekeying
IsDone state (Activate keys) seen step = step ≡ done (changes.KeyStates keys Active) replies.Activate
IsDone state (Deactivate keys) seen step = step ≡ done (changes.KeyStates keys Deactivated) replies.Deactivate
IsDone state (Verify key challenge) seen step = IsSomeAnd (key_row state key)
    (λ held. step ≡ using_number key (number_of seen)
    (verified (class_of key) state.device key held (number_of seen) challenge))
IsDone state (Destroy keys) seen step = step ≡ done (changes.KeyStates keys Destroyed) replies.Destroy
IsDone state (Inventory first last) seen step = IsInventoryOf state first last step
IsDone state (Compose master keys) seen step = IsSomeAnd (key_row state master) (λ held. step
    ≡ using_number master (number_of seen) (composed state.device master held (number_of seen) (clear_text state keys)))
IsDone state (ReadNumber spi) seen step = IsSomeAnd (association_row state spi)
    (λ row. step ≡ telling (replies.ReadNumber spi (next_of (word_of seen) row row.direction)))
IsDone state (Create new) seen step = step ≡ done (changes.Create new) replies.Create
IsDone state (Delete spi) seen step = step ≡ done (changes.SaTo spi None) replies.Delete
IsDone state (SetWindow spi window) seen step = step ≡ done (changes.SetWindow spi window) replies.SetWindow
IsDone state (Rekey spi key number) seen step = step ≡ done (changes.Rekey spi key number) replies.Rekey
IsDone state (Expire spi) seen step = step ≡ done (changes.SaTo spi (Some Unkeyed)) replies.Expire
IsDone state (SetNumber spi number) seen step = step ≡ done (changes.SetNumber spi number) replies.SetNumber
IsDone state (Start spi) seen step = step ≡ done (changes.SaTo spi (Some Operational)) replies.Start
IsDone state (Stop spi) seen step = step ≡ done (changes.SaTo spi (Some Keyed)) replies.Stop
IsDone state (Status spi) seen step = IsSomeAnd (association_row state spi) (λ row. step
    ≡ telling (replies.Status spi row.state row.direction row.suite row.key (field_of row.window)))

-- The step of a Rekeying under an active master key, once its text was opened, or its tag was wrong.
abbrev pub IsLoading : State → Option (List ℕ) → Change × Reply → Type 0
IsLoading state text step = MatchOption (first_told (text_checks state text))
    (step ≡ done (changes.Load (items_of text)) replies.Rekeying) (λ refusal. step ≡ refused refusal)

-- a command that seals and opens nothing
abbrev pub IsPlain : Command → Type 0
IsPlain (Rekeying master vector sealed tag) = ⊥
IsPlain (Activate keys) = ⊤
IsPlain (Deactivate keys) = ⊤
IsPlain (Verify key challenge) = ⊥
IsPlain (Destroy keys) = ⊤
IsPlain (Inventory first last) = ⊤
IsPlain (Compose master keys) = ⊥
IsPlain (ReadNumber spi) = ⊤
IsPlain (Create new) = ⊤
IsPlain (Delete spi) = ⊤
IsPlain (SetWindow spi window) = ⊤
IsPlain (Rekey spi key number) = ⊤
IsPlain (Expire spi) = ⊤
IsPlain (SetNumber spi number) = ⊤
IsPlain (Start spi) = ⊤
IsPlain (Stop spi) = ⊤
IsPlain (Status spi) = ⊤

-- The step: the first refusal that applies, and else what the command does.
abbrev pub IsStep : State → Command → Seen → Change × Reply → Type 0
IsStep state command seen step =
    MatchOption (refusal_of state command seen) (IsDone state command seen step) (λ refusal. step ≡ refused refusal)
