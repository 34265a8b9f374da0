-- Steps by the first refusal, for the clauses of the commands' calls.
use Rattle.std.proofs.Common.{◌≡◌, ℕ, ◌≤◌, List, [], ◌∷◌, Option, Some, None, sym, ap, ◌∙◌, subst, length, arith}
use Rattle.std.specs.Prelude.{MatchOption, IfSome, IfOk, if◌then◌else◌, Bool, true, false, Result, Ok, Err}
use Rattle.std.specs.Str.{bytes_eq}
use Rattle.std.proofs.lemmas.List.{length-map}
use Rattle.std.proofs.lemmas.List.FromFn.{length-range_with_len}
use Rattle.std.specs.List.{All}
use Rattle.std.specs.List.{AllByRecursion}
use Rattle.std.proofs.lemmas.List.Elements.{All-nil, All-cons}
use Rattle.std.specs.Option.{option_or}
use Rattle.sdls_base.specs.FirstFailing.{first_told}
use Rattle.sdls_base.specs.declared.entry.Change.{Change}
use Rattle.sdls_base.specs.declared.entry.Seen.{Seen}
use Rattle.gcm.specs.Gcm.{gcm_open, gctr, tag_of}
use Rattle.unit_state.specs.declared.state.State.{State}
use Rattle.ep_codec.specs.declared.command.Command.{Command}
use Rattle.ep_codec.specs.declared.command.Command.TheVariants.{Rekeying}
use Rattle.ep_core.specs.declared.refusal.Refusal.{Refusal}
use Rattle.ep_core.specs.declared.refusal.Reply.{Reply}
use Rattle.ep_core.specs.Refusals.{refusal_of, opened, master_checks, text_checks, rekeying_checks}
use Rattle.ep_core.specs.Step.{IsStep, IsDone, IsLoading, refused}
use Rattle.ep_core.proofs.Checks.{told_append}

pub step_refused : (state : State) (command : Command) (seen : Seen) (step : Change × Reply) (refusal : Refusal)
    → refusal_of state command seen ≡ Some refusal → step ≡ refused refusal → IsStep state command seen step
step_refused state command seen step refusal e is =
    subst (λ (o : Option Refusal). MatchOption o (IsDone state command seen step) (λ refusal. step ≡ refused refusal))
    (sym e) is

pub step_done : (state : State) (command : Command) (seen : Seen) (step : Change × Reply)
    → refusal_of state command seen ≡ None → IsDone state command seen step → IsStep state command seen step
step_done state command seen step e is =
    subst (λ (o : Option Refusal). MatchOption o (IsDone state command seen step) (λ refusal. step ≡ refused refusal))
    (sym e) is

-- the master key of a Rekeying is refused

pub master_refused : (state : State) (master : ℕ) (text : Option (List ℕ)) (refusal : Refusal)
    → first_told (master_checks state master) ≡ Some refusal
    → first_told (rekeying_checks state master text) ≡ Some refusal
master_refused state master text refusal e =
    told_append (master_checks state master) (text_checks state text)
    ∙ ap (λ (o : Option Refusal). option_or o (first_told (text_checks state text))) e

-- or it is not

pub master_passed : (state : State) (master : ℕ) (text : Option (List ℕ))
    → first_told (master_checks state master) ≡ None
    → first_told (rekeying_checks state master text) ≡ first_told (text_checks state text)
master_passed state master text e =
    told_append (master_checks state master) (text_checks state text)
    ∙ ap (λ (o : Option Refusal). option_or o (first_told (text_checks state text))) e

pub step_loading : (state : State) (master : ℕ) (vector sealed tag : List ℕ) (seen : Seen) (step : Change × Reply)
    (text : Option (List ℕ))
    → first_told (master_checks state master) ≡ None → text ≡ opened state master vector sealed tag
    → IsLoading state text step
    → IsStep state (Rekeying master vector sealed tag) seen step
step_loading state master vector sealed tag seen step text e f is =
    let there : IsLoading state (opened state master vector sealed tag) step =
    subst (λ (t : Option (List ℕ)). IsLoading state t step) f is in
    subst (λ (o : Option Refusal). MatchOption o (IsDone state (Rekeying master vector sealed tag) seen step)
    (λ refusal. step ≡ refused refusal))
    (sym (master_passed state master (opened state master vector sealed tag) e)) there

-- what holds of each, place by place
pub each_of : {X : Type 0} (P : X → Type 0) (xs : List X) → AllByRecursion P xs → All P xs
each_of P [] all = All-nil P
each_of P (x ∷ xs) all = All-cons P x xs all.0 (each_of P xs all.1)

pub ok_too : {X E : Type 0} (P Q : X → Type 0) (result : Result X E) → ((x : X) → P x → Q x) → IfOk result P
    → IfOk result Q
ok_too P Q (Ok x) also is = also x is
ok_too P Q (Err e) also is = tt

pub length-gctr : (key iv text : List ℕ) → length (gctr key iv text) ≡ length text
unfolding gctr
length-gctr key iv text = simp (length-map, length-range_with_len)

-- what was opened is as long as what was sealed
pub opened_length : (key iv aad text tag : List ℕ) (opened : Option (List ℕ)) → gcm_open key iv aad text tag ≡ opened
    → length text ≤ 280
    → IfSome opened (λ clear. length clear ≤ 280)
opened_length key iv aad text tag opened e short =
    subst (λ (o : Option (List ℕ)). IfSome o (λ clear. length clear ≤ 280)) e
    (by (bytes_eq tag (tag_of key iv aad text)))
  where
    by : (b : Bool) → IfSome (if b then Some (gctr key iv text) else None) (λ clear. length clear ≤ 280)
    by true = omega (arith, length-gctr key iv text)
    by false = tt
