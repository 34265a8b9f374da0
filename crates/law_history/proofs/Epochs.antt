-- Epochs are places of their history.
use Rattle.std.proofs.Common.{◌≡◌, ℕ, zero, suc, ◌+◌, ◌≤◌, Bool, true, false, cond, List, [], ◌∷◌, length, take, drop}
use Rattle.std.proofs.Common.{refl, sym, ◌∙◌, ap, subst, arith}
use Rattle.std.proofs.lemmas.List.{length-take, take-take, take-append-drop}
use Rattle.sdls_base.specs.declared.entry.Entry.{Entry}
use Rattle.unit_state.specs.declared.state.State.{State}
use Rattle.unit_state.specs.Applied.{applied}
use Rattle.unit_state.specs.Restart.{counts}
use Rattle.unit_state.specs.History.{after_all, after_first, at_epoch, epoch_after}
use Rattle.unit_state.proofs.Histories.{at_epoch_more}
use Rattle.law_history.specs.Taken.{IsLoadedWith}
use Rattle.law_history.specs.Laws.{BeginsAt}
use Rattle.law_history.proofs.Along.{along_to}
use Rattle.law_history.proofs.Loaded.{loaded_step}

reached_by : (b : Bool) (epoch rest : ℕ) → suc epoch ≤ cond b 1 0 + rest → cond b epoch (suc epoch) ≤ rest
reached_by true epoch rest reached = omega arith
reached_by false epoch rest reached = omega arith

counted_by : (b : Bool) (epoch rest : ℕ) → rest ≡ cond b epoch (suc epoch) → cond b 1 0 + rest ≡ suc epoch
counted_by true epoch rest same = omega arith
counted_by false epoch rest same = omega arith

-- an epoch that is reached began at a place of the history, whose epoch it is
pub begins : (start : State) (entries : List Entry) (epoch : ℕ) → epoch ≤ epoch_after entries
    → (place : ℕ) × BeginsAt start entries epoch place
begins start [] zero reached = (zero, record { within = omega arith; state = refl; counted = refl })
begins start (entry ∷ entries) zero reached = (zero, record { within = omega arith; state = refl; counted = refl })
begins start [] (suc epoch) reached = absurd (omega arith)
begins start (entry ∷ entries) (suc epoch) reached =
    let b : Bool = counts entry.change in
    let (place, at) = begins (applied start entry.change) entries (cond b epoch (suc epoch))
    (reached_by b epoch (epoch_after entries) reached) in (
      suc place,
      record {
        within = (let low = at.within in omega arith);
        state = at.state;
        counted = counted_by b epoch (epoch_after (take place entries)) at.counted;
      },
    )

-- what a key was loaded with stays so from a place to a later one
pub loaded_since : (start : State) (entries : List Entry) (k p key : ℕ) (octets : List ℕ) → k ≤ p → p ≤ length entries
    → IsLoadedWith (after_first start entries k) key octets → IsLoadedWith (after_first start entries p) key octets
loaded_since start entries k p key octets low within is =
    along_to (λ (s : State). IsLoadedWith s key octets) start entries k p low within is
    (λ n entry least below there so_far. loaded_step (after_first start entries n) entry.change key octets so_far)

-- so it does from an epoch to a place that has reached it
pub loaded_since_epoch : (start : State) (entries : List Entry) (epoch p key : ℕ) (octets : List ℕ) → p ≤ length entries
    → epoch ≤ epoch_after (take p entries) → IsLoadedWith (at_epoch start entries epoch) key octets
    → IsLoadedWith (after_first start entries p) key octets
loaded_since_epoch start entries epoch p key octets within reached is =
    let (place, at) = begins start (take p entries) epoch reached in
    let size = length-take p entries in
    let low_place = at.within in
    let low : place ≤ p = omega arith in
    let same : at_epoch start entries epoch ≡ at_epoch start (take p entries) epoch =
    ap (λ (es : List Entry). at_epoch start es epoch) (sym (take-append-drop p entries))
    ∙ at_epoch_more start (take p entries) (drop p entries) epoch reached in
    let state : at_epoch start entries epoch ≡ after_first start entries place =
    same ∙ at.state ∙ ap (after_all start) (take-take place p entries low) in
    loaded_since start entries place p key octets low within (subst (λ (s : State). IsLoadedWith s key octets) state is)
