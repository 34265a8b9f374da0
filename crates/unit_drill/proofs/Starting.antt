-- The state that the lines of a drill's plan make, where they make one.
use Rattle.std.proofs.Common.{◌≡◌, ℕ, ◌-◌, Bool, true, false, List, [], ◌∷◌, map, take, drop, Some, Ok, sym, ◌∙◌, ap}
use Rattle.std.specs.FinSet as set
use Rattle.sha2.specs.Sha256.{sha256}
use Rattle.sdls_base.specs.declared.entry.Change.TheVariants.{Load, KeyStates, Create, Rekey, SaTo}
use Rattle.sdls_base.specs.declared.states.Direction.{Direction}
use Rattle.sdls_base.specs.declared.states.Direction.TheVariants.{Send, Receive}
use Rattle.sdls_base.specs.declared.states.KeyState.{KeyState}
use Rattle.sdls_base.specs.declared.states.KeyState.TheVariants as keys
use Rattle.sdls_base.specs.declared.states.SaState.TheVariants.{Operational}
use Rattle.sdls_base.specs.declared.states.Suite.{Suite}
use Rattle.sdls_base.specs.declared.states.Suite.TheVariants.{Cmac, Gcm}
use Rattle.key_book.specs.declared.key_row.KeyRow.{KeyRow}
use Rattle.replay_window.specs.declared.window.Window.{Window}
use Rattle.sa_book.specs.declared.sa_book.SaRow.{SaRow}
use Rattle.unit_plan.specs.declared.plan.PlanKey.{PlanKey}
use Rattle.unit_plan.specs.declared.plan.PlanSa.{PlanSa}
use Rattle.unit_plan.specs.declared.plan_error.PlanCause.{PlanCause}
use Rattle.unit_plan.specs.PlanError.{◌>>=◌, check}
use Rattle.unit_state.specs.declared.state.State.{State}
use Rattle.unit_state.specs.Applied.{applied}
use Rattle.unit_state.specs.Initial.{activated_if, association_made, bare, created, initial, in_order, key_made, keyed}
use Rattle.unit_state.specs.Initial.{lines_made, loaded, OfKey, started}
use Rattle.unit_state.specs.Restart.{restarted}
use Rattle.unit_state.proofs.Lines.{count_before, made_in_turns}
use Rattle.unit_drill.specs.Plans.{key_of, receiver_lines, sender_lines}
use Rattle.law_image.proofs.Planned.{behind, no_fault, ok_of, same_ok}

-- behind a check
checked : (line : ℕ) (cause : PlanCause) (b : Bool) (x y : State) → (check line cause b >>= λ taken. Ok x) ≡ ok_of y
    → x ≡ y
checked line cause true x y h = same_ok x y h
checked line cause false x y h = absurd (no_fault _ y h)

-- ---- what the lines make, where no book refuses one

abbrev made_active : State → PlanKey → KeyState → State
made_active state key keys.Active = applied state (KeyStates (key.item.id ∷ []) keys.Active)
made_active state key keys.PreActive = state
made_active state key keys.Deactivated = state
made_active state key keys.Destroyed = state

abbrev with_keys : State → List PlanKey → State
with_keys state [] = state
with_keys state (key ∷ more) = with_keys (made_active (applied state (Load (key.item ∷ []))) key key.state) more

abbrev with_association : State → PlanSa → State
with_association state found =
    applied (applied (applied state (Create found.sa)) (Rekey found.sa.spi found.key found.number))
    (SaTo found.sa.spi (Some Operational))

abbrev with_lines : State → List PlanKey → List PlanSa → State
with_lines state keys [] = with_keys state keys
with_lines state keys (found ∷ associations) =
    with_lines (with_association (with_keys state (take (count_before found.line keys) keys)) found)
    (drop (count_before found.line keys) keys) associations

active_is : (state next : State) (key : PlanKey) (to : KeyState) → activated_if state key to ≡ Ok next
    → made_active state key to ≡ next
active_is state next key keys.Active h = checked _ _ _ _ next h
active_is state next key keys.PreActive h = same_ok state next h
active_is state next key keys.Deactivated h = same_ok state next h
active_is state next key keys.Destroyed h = same_ok state next h

keys_are : (state next : State) (keys : List PlanKey) → lines_made state (map OfKey keys) ≡ Ok next
    → with_keys state keys ≡ next
keys_are state next [] h = same_ok state next h
keys_are state next (key ∷ more) h =
    let one = behind (key_made state key) (λ (next : State). lines_made next (map OfKey more)) next h in
    let two = behind (loaded state key) (λ (next : State). activated_if next key key.state) one.0 one.1 in
    let same : applied state (Load (key.item ∷ [])) ≡ two.0 = checked _ _ _ _ two.0 two.1 in
    let active = active_is two.0 one.0 key key.state two.2 in
    ap (λ (s : State). with_keys s more) (ap (λ (s : State). made_active s key key.state) same ∙ active)
    ∙ keys_are one.0 next more one.2

association_is : (state next : State) (found : PlanSa) → association_made state found ≡ Ok next
    → with_association state found ≡ next
association_is state next found h =
    let unkeyed = behind (created state found) (λ (s : State). keyed s found >>= λ (t : State). started t found) next
    h in
    let stopped = behind (keyed unkeyed.0 found) (λ (t : State). started t found) next unkeyed.2 in
    let one : applied state (Create found.sa) ≡ unkeyed.0 = checked _ _ _ _ unkeyed.0 unkeyed.1 in
    let two : applied unkeyed.0 (Rekey found.sa.spi found.key found.number) ≡ stopped.0 =
    checked _ _ _ _ stopped.0 stopped.1 in
    let three : applied stopped.0 (SaTo found.sa.spi (Some Operational)) ≡ next = checked _ _ _ _ next stopped.2 in
    ap (λ (s : State). applied s (SaTo found.sa.spi (Some Operational)))
    (ap (λ (s : State). applied s (Rekey found.sa.spi found.key found.number)) one ∙ two) ∙ three

lines_are : (state next : State) (keys : List PlanKey) (associations : List PlanSa)
    → lines_made state (in_order keys associations) ≡ Ok next
    → with_lines state keys associations ≡ next
lines_are state next keys [] h = keys_are state next keys h
lines_are state next keys (found ∷ associations) h =
    let count = count_before found.line keys in
    let ready = behind (lines_made state (map OfKey (take count keys)))
    (λ (s : State). association_made s found >>= λ (t : State). lines_made t (in_order (drop count keys) associations))
    next (sym (made_in_turns state keys found associations) ∙ h) in
    let one = behind (association_made ready.0 found)
    (λ (t : State). lines_made t (in_order (drop count keys) associations)) next ready.2 in
    ap (λ (s : State). with_lines s (drop count keys) associations)
    (ap (λ (s : State). with_association s found) (keys_are state ready.0 (take count keys) ready.1)
    ∙ association_is ready.0 one.0 found one.1)
    ∙ lines_are one.0 next (drop count keys) associations one.2

-- ---- the states of a drill's units

-- a key, with its mark and its floor
abbrev pub key_at : ℕ → ℕ → ℕ → ℕ → KeyRow
key_at id octet mark floor = record {
  id = id;
  state = keys.Active;
  bytes = key_of octet;
  digest = sha256 (key_of octet);
  mark = mark;
  floor = floor;
}

-- a window that begins at 0
abbrev pub first_window : Window
first_window = record {
  high = 0;
  width = 4294967296;
  base = 0;
  back = 0;
  taken = set.empty;
}

-- an association, with its window
abbrev pub association_at : Direction → ℕ → Suite → ℕ → Window → SaRow
association_at direction spi suite key window = record {
  spi = spi;
  direction = direction;
  suite = suite;
  state = Operational;
  key = Some key;
  channels = (spi - 1) ∷ [];
  window = window;
}

abbrev pub first_state : ℕ → Direction → State
first_state digit direction = record {
  keys = key_at 32769 1 1 0 ∷ key_at 257 2 1 0 ∷ key_at 32771 3 1 0 ∷ key_at 259 4 1 0 ∷ [];
  associations = association_at direction 1 Cmac 32769 first_window ∷ association_at direction 2 Gcm 257 first_window
      ∷ association_at direction 3 Cmac 32771 first_window ∷ association_at direction 4 Gcm 259 first_window ∷ [];
  channels = 0 ∷ 1 ∷ 2 ∷ 3 ∷ [];
  device = 0 ∷ 0 ∷ 13 ∷ digit ∷ [];
}

pub sender_starts : (first : State) → initial sender_lines ≡ Ok first → restarted first ≡ first_state 1 Send
sender_starts first h = ap restarted
    (sym (lines_are (bare sender_lines) first sender_lines.keys sender_lines.associations h))

pub receiver_starts : (first : State) → initial receiver_lines ≡ Ok first → restarted first ≡ first_state 2 Receive
receiver_starts first h = ap restarted
    (sym (lines_are (bare receiver_lines) first receiver_lines.keys receiver_lines.associations h))
