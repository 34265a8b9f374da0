-- The lines of a plan make a state that keeps the rules.
use Rattle.std.proofs.Common.{◌≡◌, ℕ, zero, suc, Bool, true, false, List, [], ◌∷◌, length, map, take, drop, Option}
use Rattle.std.proofs.Common.{Some, None, is_none, Result, Ok, Err, refl, sym, ap, ◌∙◌, subst, arith}
use Rattle.std.specs.List.{All}
use Rattle.std.specs.Option.{option_map_or}
use Rattle.std.proofs.lemmas.Bool.{false≢true}
use Rattle.std.proofs.lemmas.List.Elements.{All-take, All-drop, All-cons, All-nil}
use Rattle.sdls_base.specs.Bounds.{IsKeyLength}
use Rattle.sdls_base.specs.declared.entry.Change.TheVariants.{Load, KeyStates, Create, Rekey, SaTo}
use Rattle.sdls_base.specs.declared.states.KeyState.{KeyState}
use Rattle.sdls_base.specs.declared.states.KeyState.TheVariants.{PreActive, Active, Deactivated, Destroyed}
use Rattle.sdls_base.specs.declared.states.SaState.TheVariants.{Operational}
use Rattle.key_book.specs.declared.key_row.KeyRow.{KeyRow}
use Rattle.key_book.specs.KeyRefusal.{load_refusal}
use Rattle.key_book.specs.Moves.{moves_refusal}
use Rattle.replay_window.proofs.Fields.{width_field}
use Rattle.sa_book.specs.declared.sa_book.SaRow.{SaRow}
use Rattle.sa_book.specs.SaBook.{in_use}
use Rattle.sa_book.specs.SaRefusal.{create_refusal, start_refusal}
use Rattle.unit_plan.specs.declared.plan.PlanKey.{PlanKey}
use Rattle.unit_plan.specs.declared.plan.PlanSa.{PlanSa}
use Rattle.unit_plan.specs.declared.plan_error.PlanCause.TheVariants.{Refused}
use Rattle.unit_plan.specs.declared.plan_error.PlanFault.{PlanFault}
use Rattle.unit_plan.specs.PlanError.{◌>>=◌, check}
use Rattle.unit_plan.specs.PlanLines.{PlanLines}
use Rattle.unit_plan.specs.PlanRules.{IsAssociation}
use Rattle.unit_state.specs.declared.state.State.{State}
use Rattle.unit_state.specs.State.{KeepsRules, key_row, association_row}
use Rattle.unit_state.specs.Applied.{applied}
use Rattle.unit_state.specs.Initial.{bare, loaded, activated, activated_if, key_made, line_refusal, takes_key, created}
use Rattle.unit_state.specs.Initial.{keyed, started, association_made, OfKey, in_order, lines_made, initial}
use Rattle.unit_state.specs.Taking.{least_with}
use Rattle.unit_state.proofs.Lines.{count_before, made_in_turns}
use Rattle.unit_state.proofs.Moves.{moves_any}
use Rattle.unit_state.proofs.RulesKept.{loaded_kept, states_kept, create_kept, keyed_kept, state_kept}

-- the rule of a `key` line
abbrev pub IsKey : PlanKey → Type 0
IsKey key = IsKeyLength (length key.item.bytes)

-- a result after another
pub record Passed {A B : Type 0} (r : Result A PlanFault) (f : A → Result B PlanFault) (y : B) : Type 0 where
  pub first : A
  pub is : r ≡ Ok first
  pub then : f first ≡ Ok y

passed_at : {A B : Type 0} (r s : Result A PlanFault) (f : A → Result B PlanFault) (y : B) → s ≡ r → (r >>= f) ≡ Ok y
    → Passed s f y
passed_at (Ok x) s f y e h = record { first = x; is = e; then = h }
passed_at (Err fault) s f y e h = absurd (cc)

passed : {A B : Type 0} (r : Result A PlanFault) (f : A → Result B PlanFault) (y : B) → (r >>= f) ≡ Ok y → Passed r f y
passed r f y h = passed_at r r f y refl h

abbrev ok_of : State → Result State PlanFault
ok_of state = Ok state

value_of : State → Result State PlanFault → State
value_of d (Ok x) = x
value_of d (Err fault) = d

same_ok : (x y : State) → ok_of x ≡ Ok y → x ≡ y
unfolding value_of
same_ok x y e = ap (value_of x) e

-- a check that passed
checked : (line : ℕ) (b : Bool) (next state : State) → (check line Refused b >>= λ taken. Ok next) ≡ Ok state
    → (b ≡ true) × (next ≡ state)
checked line true next state h = (refl, same_ok next state h)
checked line false next state h = absurd (cc)

none_of : {X : Type 0} (o : Option X) → is_none o ≡ true → o ≡ None
none_of None h = refl
none_of (Some x) h = absurd (false≢true h)

loaded_rules : (state next : State) (key : PlanKey) → KeepsRules state → IsKey key → loaded state key ≡ Ok next
    → KeepsRules next
loaded_rules state next key ok long h =
    let c = checked key.line (is_none (load_refusal state.keys (key.item ∷ []))) (applied state (Load (key.item ∷ [])))
    next h in
    subst KeepsRules c.1
    (loaded_kept state (key.item ∷ []) ok
    (All-cons (λ item. IsKeyLength (length item.bytes)) key.item [] long (All-nil _)) (none_of _ c.0))

activated_rules : (state next : State) (key : PlanKey) → KeepsRules state → activated state key ≡ Ok next
    → KeepsRules next
activated_rules state next key ok h =
    let c = checked key.line (is_none (moves_refusal state.keys (key.item.id ∷ []) Active []))
    (applied state (KeyStates (key.item.id ∷ []) Active)) next h in
    subst KeepsRules c.1
    (states_kept state (key.item.id ∷ []) Active ok (record {
      count = record { least = omega arith; most = omega arith };
      book = moves_any state.keys (key.item.id ∷ []) Active (in_use state.associations) [] (λ a b. refl)
          ∙ none_of _ c.0;
    }))

activated_if_rules : (state next : State) (key : PlanKey) (to : KeyState) → KeepsRules state
    → activated_if state key to ≡ Ok next → KeepsRules next
activated_if_rules state next key Active ok h = activated_rules state next key ok h
activated_if_rules state next key PreActive ok h = subst KeepsRules (same_ok state next h) ok
activated_if_rules state next key Deactivated ok h = subst KeepsRules (same_ok state next h) ok
activated_if_rules state next key Destroyed ok h = subst KeepsRules (same_ok state next h) ok

key_rules : (state next : State) (key : PlanKey) → KeepsRules state → IsKey key → key_made state key ≡ Ok next
    → KeepsRules next
key_rules state next key ok long h =
    let p = passed (loaded state key) (λ next. activated_if next key key.state) next h in
    activated_if_rules p.first next key key.state (loaded_rules state p.first key ok long p.is) p.then

keys_rules : (state next : State) (keys : List PlanKey) → KeepsRules state → All IsKey keys
    → lines_made state (map OfKey keys) ≡ Ok next → KeepsRules next
keys_rules state next [] ok long h = subst KeepsRules (same_ok state next h) ok
keys_rules state next (key ∷ keys) ok long h =
    let p = passed (key_made state key) (λ next. lines_made next (map OfKey keys)) next h in
    keys_rules p.first next keys (key_rules state p.first key ok (long zero key (omega arith)) p.is)
    (λ i d low. long (suc i) d (omega arith)) p.then

created_rules : (state next : State) (found : PlanSa) → KeepsRules state → IsAssociation found
    → created state found ≡ Ok next → KeepsRules next
created_rules state next found ok bounds h =
    let c = checked found.line (is_none (create_refusal state.associations found.sa state.channels))
    (applied state (Create found.sa)) next h in
    subst KeepsRules c.1
    (create_kept state found.sa ok (record {
      window = width_field found.sa.window (record { least = bounds.window.least; most = bounds.window.most });
      channels = record {
        one = bounds.channels.one;
        most = bounds.channels.most;
        ascending = bounds.channels.ascending;
      };
      numbers = bounds.identifiers;
      book = none_of _ c.0;
    }))

-- an association that takes a key is there, and so is the key
keyed_at : (state : State) (found : PlanSa) (o : Option SaRow) (p : Option KeyRow) → KeepsRules state
    → association_row state found.sa.spi ≡ o → key_row state found.key ≡ p
    → option_map_or (λ (row : SaRow). option_map_or (λ (held : KeyRow). is_none (line_refusal state found row held)) p
    false) o false ≡ true → KeepsRules (applied state (Rekey found.sa.spi found.key found.number))
keyed_at state found None p ok e f h = absurd (false≢true h)
keyed_at state found (Some row) None ok e f h = absurd (false≢true h)
keyed_at state found (Some row) (Some held) ok e f h =
    keyed_kept state found.sa.spi found.key found.number (least_with held.mark row.direction held) row held ok e f
    (none_of _ h)

keyed_rules : (state next : State) (found : PlanSa) → KeepsRules state → keyed state found ≡ Ok next → KeepsRules next
keyed_rules state next found ok h =
    let c = checked found.line (takes_key state found) (applied state (Rekey found.sa.spi found.key found.number)) next
    h in
    subst KeepsRules c.1 (keyed_at state found (association_row state found.sa.spi) (key_row state found.key) ok refl
    refl c.0)

started_rules : (state next : State) (found : PlanSa) → KeepsRules state → started state found ≡ Ok next
    → KeepsRules next
started_rules state next found ok h =
    let c = checked found.line (is_none (start_refusal state.associations found.sa.spi))
    (applied state (SaTo found.sa.spi (Some Operational))) next h in
    subst KeepsRules c.1 (state_kept state found.sa.spi (Some Operational) ok (none_of _ c.0))

association_rules : (state next : State) (found : PlanSa) → KeepsRules state → IsAssociation found
    → association_made state found ≡ Ok next → KeepsRules next
association_rules state next found ok bounds h =
    let p = passed (created state found) (λ unkeyed. keyed unkeyed found >>= λ stopped. started stopped found) next h in
    let q = passed (keyed p.first found) (λ stopped. started stopped found) next p.then in
    started_rules q.first next found
    (keyed_rules p.first q.first found (created_rules state p.first found ok bounds p.is) q.is) q.then

lines_rules : (state next : State) (keys : List PlanKey) (associations : List PlanSa) → KeepsRules state
    → All IsKey keys → All IsAssociation associations → lines_made state (in_order keys associations) ≡ Ok next
    → KeepsRules next
lines_rules state next keys [] ok long bounds h = keys_rules state next keys ok long h
lines_rules state next keys (found ∷ associations) ok long bounds h =
    let n = count_before found.line keys in
    let p = passed (lines_made state (map OfKey (take n keys))) (λ ready. association_made ready found >>= λ next.
    lines_made next (in_order (drop n keys) associations)) next
    (sym (made_in_turns state keys found associations) ∙ h) in
    let q = passed (association_made p.first found) (λ next. lines_made next (in_order (drop n keys) associations)) next
    p.then in
    lines_rules q.first next (drop n keys) associations
    (association_rules p.first q.first found
    (keys_rules state p.first (take n keys) ok (All-take IsKey n keys long) p.is) (bounds zero found (omega arith))
    q.is)
    (All-drop IsKey n keys long) (λ i d low. bounds (suc i) d (omega arith)) q.then

bare_rules : (plan : PlanLines) → KeepsRules (bare plan)
bare_rules plan =
    record {
      keys = record {
        most = omega arith;
        rules = record {
          each = λ i d low. absurd (omega arith);
          identifiers = λ i j d less low. absurd (omega arith);
          digests = λ i j d less low. absurd (omega arith);
        };
      };
      associations = record {
        most = omega arith;
        each = λ i d low. absurd (omega arith);
        apart = λ i j d less low. absurd (omega arith);
      };
      held = λ i d low. absurd (omega arith);
    }

-- a whole plan
pub initial_rules : (plan : PlanLines) (state : State) → All IsKey plan.keys → All IsAssociation plan.associations
    → initial plan ≡ Ok state → KeepsRules state
initial_rules plan state long bounds h =
    lines_rules (bare plan) state plan.keys plan.associations (bare_rules plan) long bounds h
