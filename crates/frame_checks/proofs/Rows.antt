-- What the rules say of the association that sends, or that a frame names, and of its key.
use Rattle.std.proofs.Common.{◌≡◌, ℕ, Bool, true, List, length, Option, Some, None, IsSomeAnd, sym, refl, ap, ◌∙◌}
use Rattle.std.proofs.Common.{subst}
use Rattle.std.specs.Prelude.{IfSome, IsSome, ◌&&◌, ◌==◌}
use Rattle.std.specs.List.{list_any}
use Rattle.std.specs.Option.{option_map, option_and_then}
use Rattle.std.proofs.lemmas.Option.{same_Some}
use Rattle.sdls_base.specs.Bounds.{IsKeyLength}
use Rattle.sdls_base.specs.declared.link.Link.{Link}
use Rattle.sdls_base.specs.declared.states.KeyState.{KeyState}
use Rattle.sdls_base.specs.declared.states.KeyState.TheVariants.{PreActive, Active, Deactivated, Destroyed}
use Rattle.sdls_base.specs.declared.states.SaState.{SaState}
use Rattle.sdls_base.specs.declared.states.SaState.TheVariants.{Unkeyed, Keyed, Operational}
use Rattle.sdls_base.specs.declared.states.Direction.TheVariants.{Send}
use Rattle.sdls_base.specs.declared.states.Suite.{Suite}
use Rattle.key_book.specs.declared.key_row.KeyRow.{KeyRow}
use Rattle.key_book.specs.KeyRow.{HasBytes}
use Rattle.sa_book.specs.declared.sa_book.SaRow.{SaRow}
use Rattle.sa_book.specs.SaRow.{IsSaRow}
use Rattle.sa_book.specs.SaBook.{is_operational, is_same_direction, sender_on}
use Rattle.unit_plan.specs.PlanLines.{PlanLines}
use Rattle.unit_state.specs.declared.state.State.{State}
use Rattle.unit_state.specs.State.{KeepsRules, HasKey, MayHold, key_row, association_row}
use Rattle.unit_state.proofs.Found.{found, found_passes, held_rules}
use Rattle.unit_state.proofs.KeyRules.{equal_number}
use Rattle.frame_shield.specs.declared.binding.Binding.{Binding}
use Rattle.frame_checks.specs.Binding.{binding_of}
use Rattle.frame_checks.specs.OpeningFrames.{association_in, index_in}

-- what a row keeps
pub record KeepsRow (state : State) (row : SaRow) : Type 0 where
  pub rules : IsSaRow row
  pub key : HasKey state.keys row

operational_by : (s : SaState) (same covered : Bool) → (is_operational s && same && covered) ≡ true → s ≡ Operational
operational_by Unkeyed same covered e = absurd (cc)
operational_by Keyed same covered e = absurd (cc)
operational_by Operational same covered e = refl

pub sender_keeps : (state : State) (channel : ℕ) (row : SaRow) → KeepsRules state
    → Some row ≡ sender_on state.associations channel → KeepsRow state row
sender_keeps state channel row rules e = record {
  rules = found IsSaRow _ state.associations row (sym e) rules.associations.each;
  key = found (HasKey state.keys) _ state.associations row (sym e) rules.held;
}

pub sender_operational : (state : State) (channel : ℕ) (row : SaRow) → Some row ≡ sender_on state.associations channel
    → row.state ≡ Operational
sender_operational state channel row e =
    operational_by row.state (is_same_direction row.direction Send) (list_any (λ own. own == channel) row.channels)
    (found_passes _ state.associations row (sym e))

-- the row that a frame names has the index that it carries
named_by : (state : State) (o : Option ℕ) (row : SaRow) → option_and_then (association_row state) o ≡ Some row
    → association_row state row.spi ≡ Some row
named_by state None row e = absurd (cc)
named_by state (Some spi) row e =
    let same : row.spi ≡ spi = equal_number row.spi spi (found_passes _ state.associations row e) in
    ap (association_row state) same ∙ e

pub named_row : (state : State) (room : List ℕ) (row : SaRow) → association_in state room ≡ Some row
    → association_row state row.spi ≡ Some row
named_row state room row e = named_by state (index_in room) row e

pub row_index : (state : State) (spi : ℕ) (row : SaRow) → association_row state spi ≡ Some row → row.spi ≡ spi
row_index state spi row e = equal_number row.spi spi (found_passes _ state.associations row e)

pub named_keeps : (state : State) (room : List ℕ) (row : SaRow) → KeepsRules state
    → association_in state room ≡ Some row → KeepsRow state row
named_keeps state room row rules e =
    let there = named_row state room row e in
    record {
      rules = found IsSaRow _ state.associations row there rules.associations.each;
      key = found (HasKey state.keys) _ state.associations row there rules.held;
    }

-- the octets of a key that is held
active_octets : (s : KeyState) (bytes digest : List ℕ) → s ≡ Active → HasBytes s bytes digest
    → IsKeyLength (length bytes)
active_octets PreActive bytes digest e has = has.0
active_octets Active bytes digest e has = has.0
active_octets Deactivated bytes digest e has = has.0
active_octets Destroyed bytes digest e has = absurd (cc)

pub key_octets : (state : State) (row : SaRow) (key : ℕ) (held : KeyRow) → KeepsRules state → HasKey state.keys row
    → row.key ≡ Some key → key_row state key ≡ Some held → IsKeyLength (length held.bytes)
key_octets state row key held rules has own there =
    let holds = subst (λ o. IfSome o (λ k. IsSomeAnd (key_row state k) (MayHold row))) own has in
    let may : MayHold row held = subst (λ o. IsSomeAnd o (MayHold row)) there holds in
    active_octets held.state held.bytes held.digest may.active (held_rules state key held rules there).bytes

-- what a binding is of
pub record IsBoundTo (state : State) (line : Link) (row : SaRow) (b : Binding) : Type 0 where
  pub index : b.spi ≡ row.spi
  pub key : row.key ≡ Some b.key
  pub held : IsSome (key_row state b.key)
  pub link : b.link ≡ line

abbrev made : PlanLines → Link → ℕ → Suite → ℕ → KeyRow → Binding
made plan line spi suite key held = record {
  spi = spi;
  suite = suite;
  key = key;
  schedule = held.bytes;
  device = plan.device;
  link = line;
}

is_there : {A : Type 0} (o : Option A) (a : A) → o ≡ Some a → IsSome o
is_there o a e = subst (λ p. IsSome p) (sym e) refl

bound_held : (plan : PlanLines) (state : State) (line : Link) (row : SaRow) (key : ℕ) (o : Option KeyRow) (b : Binding)
    → row.key ≡ Some key → key_row state key ≡ o → option_map (made plan line row.spi row.suite key) o ≡ Some b
    → IsBoundTo state line row b
bound_held plan state line row key None b own there e = absurd (cc)
bound_held plan state line row key (Some held) b own there e =
    let same : made plan line row.spi row.suite key held ≡ b = same_Some _ _ e in
    subst (λ x. IsBoundTo state line row x) same
    (record { index = refl; key = own; held = is_there _ held there; link = refl })

bound_by : (plan : PlanLines) (state : State) (line : Link) (row : SaRow) (o : Option ℕ) (b : Binding)
    → row.key ≡ o → option_and_then (λ key. option_map (made plan line row.spi row.suite key) (key_row state key)) o
    ≡ Some b → IsBoundTo state line row b
bound_by plan state line row None b own e = absurd (cc)
bound_by plan state line row (Some key) b own e = bound_held plan state line row key (key_row state key) b own refl e

pub bound_to : (plan : PlanLines) (state : State) (line : Link) (row : SaRow) (b : Binding)
    → binding_of plan state line row ≡ Some b → IsBoundTo state line row b
bound_to plan state line row b e = bound_by plan state line row row.key b refl e

-- the link of a binding is the one that it was made for
pub bound_link : (plan : PlanLines) (state : State) (line : Link) (row : SaRow) (b : Binding)
    → binding_of plan state line row ≡ Some b
    → binding_of plan state b.link row ≡ Some b
bound_link plan state line row b e =
    ap (λ (l : Link). binding_of plan state l row) (bound_to plan state line row b e).link ∙ e
