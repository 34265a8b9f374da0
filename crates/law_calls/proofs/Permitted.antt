-- What a permit that is true says of the history as it is known: the frame is bound in the state of its epoch, and its
-- key keeps
-- its row since.
use Rattle.std.proofs.Common.{◌≡◌, ℕ, ◌≤◌, Bool, IsTrue, true, false, List, [], ◌∷◌, length, take, drop, Option, Some}
use Rattle.std.proofs.Common.{None, Result, Ok, Err, refl, sym, ◌∙◌, ap, arith, unwrap_or, is_none}
use Rattle.std.specs.Option.{option_map_or, option_and_then}
use Rattle.std.proofs.lemmas.List.{length-take, take-take, take-append-drop}
use Rattle.sdls_base.specs.FirstFailing.{first_failing}
use Rattle.sdls_base.specs.declared.entry.Entry.{Entry}
use Rattle.sdls_base.specs.declared.layout.FrameFault.{FrameFault}
use Rattle.sdls_base.specs.declared.link.Link.{Link}
use Rattle.key_book.specs.KeyBook.{place_of}
use Rattle.sa_book.specs.declared.sa_book.SaRow.{SaRow}
use Rattle.sa_book.specs.SaBook.{sender_on}
use Rattle.unit_plan.specs.PlanLines.{PlanLines, link_of}
use Rattle.unit_state.specs.declared.state.State.{State}
use Rattle.unit_state.specs.History.{after_all, after_first, at_epoch, epoch_after}
use Rattle.unit_state.proofs.Histories.{at_epoch_more}
use Rattle.frame_shield.specs.declared.binding.Binding.{Binding}
use Rattle.frame_shield.specs.declared.protecting_frames.ShieldFault.{ShieldFault}
use Rattle.frame_shield.specs.declared.protecting_frames.ShieldFault.TheVariants.{Layout, Channel, State as NoSender}
use Rattle.frame_shield.specs.Binding.{clear_fault}
use Rattle.frame_shield.specs.ShieldFault.{fault_number}
use Rattle.frame_checks.specs.Header.{lacks_header, is_clear, channel_of}
use Rattle.frame_checks.specs.Binding.{binding_of}
use Rattle.frame_checks.specs.ProtectingFrames.{Answer, answer_on, channel_check, channel_on, protect_check}
use Rattle.frame_checks.specs.ProtectingFrames.{has_channel, tells_channel}
use Rattle.run_promise.specs.Fits.{layout_check, protect_reply}
use Rattle.law_history.proofs.Epochs.{begins}
use Rattle.law_workers.proofs.Histories.{row_kept_first}

-- a binding with its layout is the answer of all checks
pub bound_reply : (plan : PlanLines) (state : State) (link : ℕ) (clear : List ℕ) (b : Binding)
    → protect_check plan state link clear ≡ Ok (Some b)
    → clear_fault b clear ≡ None → protect_reply plan state link clear ≡ Ok (Some b)
bound_reply plan state link clear b bound fits = ap (layout_check clear) bound
    ∙ ap (λ (o : Option FrameFault). let a : Answer =
    option_map_or (λ (f : FrameFault). Err (Layout (fault_number f))) o (Ok (Some b)) in a) fits

-- the checks for which the plan is enough, and all checks, of what they look at
abbrev planned : Bool → Bool → Option ℕ → Result (Option ℕ) ShieldFault
planned lacks clear channel =
    unwrap_or (first_failing ((lacks, Err (Layout 1)) ∷ (clear, Ok None) ∷ (is_none channel, Err Channel) ∷ []))
    (Ok channel)

abbrev checked : Bool → Bool → Option ℕ → (ℕ → Option SaRow) → (SaRow → Option Binding) → Answer
checked lacks clear channel sender bind = unwrap_or
    (first_failing ((lacks, Err (Layout 1)) ∷ (clear, Ok None) ∷ (is_none channel, Err Channel)
    ∷ (is_none (option_and_then sender channel), Err NoSender) ∷ []))
    (Ok (option_and_then bind (option_and_then sender channel)))

planned_refusal : (lacks clear : Bool) (channel : Option ℕ) (sender : ℕ → Option SaRow) (bind : SaRow → Option Binding)
    (fault : ShieldFault)
    → planned lacks clear channel ≡ Err fault → checked lacks clear channel sender bind ≡ Err fault
planned_refusal true clear channel sender bind fault h = cc
planned_refusal false true channel sender bind fault h = absurd cc
planned_refusal false false None sender bind fault h = cc
planned_refusal false false (Some c) sender bind fault h = absurd cc

planned_clear : (lacks clear : Bool) (channel : Option ℕ) (sender : ℕ → Option SaRow) (bind : SaRow → Option Binding)
    → planned lacks clear channel ≡ Ok None → checked lacks clear channel sender bind ≡ Ok None
planned_clear true clear channel sender bind h = absurd cc
planned_clear false true channel sender bind h = refl
planned_clear false false None sender bind h = absurd cc
planned_clear false false (Some c) sender bind h = absurd cc

-- what the plan refuses is refused in each state; and so a frame that is sent as it stands
pub planned_reply : (plan : PlanLines) (state : State) (link : ℕ) (clear : List ℕ) (fault : ShieldFault)
    → channel_check plan link clear ≡ Err fault
    → protect_reply plan state link clear ≡ Err fault
planned_reply plan state link clear fault h = ap (layout_check clear) (by_line (link_of plan.links link) h) where
  by_line : (o : Option Link) → option_map_or (channel_on plan link clear) o (Err (Layout 0)) ≡ Err fault
      → option_map_or (answer_on plan state link clear) o (Err (Layout 0)) ≡ Err fault
  by_line None q = cc
  by_line (Some line) q = planned_refusal (lacks_header line.layout clear) (is_clear line.layout clear)
      (channel_of plan link line.layout clear)
      (sender_on state.associations) (binding_of plan state line) fault q

pub clear_reply : (plan : PlanLines) (state : State) (link : ℕ) (clear : List ℕ)
    → channel_check plan link clear ≡ Ok None
    → protect_reply plan state link clear ≡ Ok None
clear_reply plan state link clear h = ap (layout_check clear) (by_line (link_of plan.links link) h) where
  by_line : (o : Option Link) → option_map_or (channel_on plan link clear) o (Err (Layout 0)) ≡ Ok None
      → option_map_or (answer_on plan state link clear) o (Err (Layout 0)) ≡ Ok None
  by_line None q = absurd cc
  by_line (Some line) q = planned_clear (lacks_header line.layout clear) (is_clear line.layout clear)
      (channel_of plan link line.layout clear)
      (sender_on state.associations) (binding_of plan state line) q

-- a frame that passes these checks has a channel
pub channel_passed : (plan : PlanLines) (link : ℕ) (clear : List ℕ) → IsTrue (has_channel plan link clear)
    → (channel : ℕ) × (channel_check plan link clear ≡ Ok (Some channel))
channel_passed plan link clear h = by_check (channel_check plan link clear) refl h where
  by_check : (check : Result (Option ℕ) ShieldFault) → channel_check plan link clear ≡ check
      → IsTrue (tells_channel check)
      → (channel : ℕ) × (channel_check plan link clear ≡ Ok (Some channel))
  by_check (Ok (Some channel)) e t = (channel, e)
  by_check (Ok None) e t = absurd (let f : false ≡ true = t in cc)
  by_check (Err fault) e t = absurd (let f : false ≡ true = t in cc)

-- An epoch that the first n entries have reached began at one of their places.
pub record Began (start : State) (all : List Entry) (n epoch : ℕ) : Type 0 where
  pub place : ℕ
  pub low : place ≤ n
  pub within : place ≤ length all
  pub state : at_epoch start all epoch ≡ after_first start all place

pub began_before : (start : State) (all : List Entry) (n epoch : ℕ) → epoch ≤ epoch_after (take n all)
    → Began start all n epoch
began_before start all n epoch reached =
    let (place, at) = begins start (take n all) epoch reached in
    let within : place ≤ length (take n all) = at.within in
    let size = length-take n all in
    let low : place ≤ n = omega arith in
    let same : at_epoch start all epoch ≡ at_epoch start (take n all) epoch =
    ap (λ (es : List Entry). at_epoch start es epoch) (sym (take-append-drop n all))
    ∙ at_epoch_more start (take n all) (drop n all) epoch reached in
    record {
      place = place;
      low = low;
      within = omega arith;
      state = same ∙ at.state ∙ ap (after_all start) (take-take place n all low);
    }

-- a key has its row after the first n entries, where it had it at such an epoch
pub row_before : (start : State) (all : List Entry) (n epoch key row : ℕ) → epoch ≤ epoch_after (take n all)
    → place_of (at_epoch start all epoch).keys key ≡ Some row → place_of (after_first start all n).keys key ≡ Some row
row_before start all n epoch key row reached there =
    let (place, at) = begins start (take n all) epoch reached in
    let same : at_epoch start all epoch ≡ at_epoch start (take n all) epoch =
    ap (λ (es : List Entry). at_epoch start es epoch) (sym (take-append-drop n all))
    ∙ at_epoch_more start (take n all) (drop n all) epoch reached in
    row_kept_first start (take n all) place key row
    (ap (λ (s : State). place_of s.keys key) (sym (same ∙ at.state)) ∙ there)

pub row_last : (start : State) (all : List Entry) (epoch key row : ℕ) → epoch ≤ epoch_after all
    → place_of (at_epoch start all epoch).keys key ≡ Some row
    → place_of (after_all start all).keys key ≡ Some row
row_last start all epoch key row reached there =
    let (place, at) = begins start all epoch reached in
    row_kept_first start all place key row (ap (λ (s : State). place_of s.keys key) (sym at.state) ∙ there)
