-- The state that the lines of a plan make, in their order, or the first line that the books refuse (profile).
use Rattle.std.specs.Prelude.{◌≡◌, ⊤, Bool, false, nat_le, if◌then◌else◌, List, [], ◌∷◌, map, Option, Some, is_none}
use Rattle.std.specs.Prelude.{Result}
use Rattle.std.specs.Prelude.{Ok, Err}
use Rattle.std.specs.Option.{option_map_or}
use Rattle.sdls_base.specs.declared.entry.Change.TheVariants.{Load, KeyStates, Create, Rekey, SaTo}
use Rattle.sdls_base.specs.declared.states.KeyState.{KeyState}
use Rattle.sdls_base.specs.declared.states.KeyState.TheVariants.{PreActive, Active, Deactivated, Destroyed}
use Rattle.sdls_base.specs.declared.states.SaState.TheVariants.{Operational}
use Rattle.key_book.specs.declared.key_row.KeyRow.{KeyRow}
use Rattle.key_book.specs.KeyRefusal.{load_refusal}
use Rattle.key_book.specs.Moves.{moves_refusal}
use Rattle.sa_book.specs.declared.sa_book.SaRow.{SaRow}
use Rattle.sa_book.specs.declared.refusals.SaRefusal.{SaRefusal}
use Rattle.sa_book.specs.SaRefusal.{create_refusal, start_refusal}
use Rattle.unit_plan.specs.declared.plan.PlanKey.{PlanKey}
use Rattle.unit_plan.specs.declared.plan.PlanSa.{PlanSa}
use Rattle.unit_plan.specs.declared.plan_error.PlanCause.TheVariants.{Refused}
use Rattle.unit_plan.specs.declared.plan_error.PlanFault.{PlanFault}
use Rattle.unit_plan.specs.declared.plan_error.PlanError.{PlanError}
use Rattle.unit_plan.specs.declared.plan_error.PlanError.TheVariants.{Refused as RefusedAt, NoMemory}
use Rattle.unit_plan.specs.PlanError.{◌>>=◌, check}
use Rattle.unit_plan.specs.PlanLines.{PlanLines}
use Rattle.unit_state.specs.declared.state.State.{State}
use Rattle.unit_state.specs.State.{key_row, association_row}
use Rattle.unit_state.specs.Applied.{applied}
use Rattle.unit_state.specs.Taking.{taking_refusal}

-- before its keys and associations
abbrev pub bare : PlanLines → State
bare plan = record { keys = []; associations = []; channels = map (λ row. row.0) plan.channels; device = plan.device }

-- a `key` line loads the key, and makes it active where it says so
abbrev pub loaded : State → PlanKey → Result State PlanFault
loaded state key = do
  taken ← check key.line Refused (is_none (load_refusal state.keys (key.item ∷ [])))
  Ok (applied state (Load (key.item ∷ [])))

abbrev pub activated : State → PlanKey → Result State PlanFault
activated state key = do
  taken ← check key.line Refused (is_none (moves_refusal state.keys (key.item.id ∷ []) Active []))
  Ok (applied state (KeyStates (key.item.id ∷ []) Active))

abbrev pub activated_if : State → PlanKey → KeyState → Result State PlanFault
activated_if state key Active = activated state key
activated_if state key PreActive = Ok state
activated_if state key Deactivated = Ok state
activated_if state key Destroyed = Ok state

abbrev pub key_made : State → PlanKey → Result State PlanFault
key_made state key = loaded state key >>= λ next. activated_if next key key.state

-- what decides on a key for an association: a number below the key's mark or up to its floor is too low
abbrev pub line_refusal : State → PlanSa → SaRow → KeyRow → Option SaRefusal
line_refusal state found row held = taking_refusal state found.sa.spi found.key found.number held.mark row held

abbrev pub takes_key : State → PlanSa → Bool
takes_key state found = option_map_or
    (λ row. option_map_or (λ held. is_none (line_refusal state found row held)) (key_row state found.key) false)
    (association_row state found.sa.spi) false

-- an `sa` line does what creating, rekeying and starting do
abbrev pub created : State → PlanSa → Result State PlanFault
created state found = do
  taken ← check found.line Refused (is_none (create_refusal state.associations found.sa state.channels))
  Ok (applied state (Create found.sa))

abbrev pub keyed : State → PlanSa → Result State PlanFault
keyed state found = do
  taken ← check found.line Refused (takes_key state found)
  Ok (applied state (Rekey found.sa.spi found.key found.number))

abbrev pub started : State → PlanSa → Result State PlanFault
started state found = do
  taken ← check found.line Refused (is_none (start_refusal state.associations found.sa.spi))
  Ok (applied state (SaTo found.sa.spi (Some Operational)))

abbrev pub association_made : State → PlanSa → Result State PlanFault
association_made state found = created state found >>= λ unkeyed. keyed unkeyed found >>= λ stopped. started stopped
    found

-- a line that makes a row
pub data RowLine : Type 0 where
  OfKey : PlanKey → RowLine
  OfAssociation : PlanSa → RowLine

abbrev pub line_made : State → RowLine → Result State PlanFault
line_made state (OfKey key) = key_made state key
line_made state (OfAssociation found) = association_made state found

-- one line after the other
abbrev pub lines_made : State → List RowLine → Result State PlanFault
lines_made state [] = Ok state
lines_made state (line ∷ lines) = line_made state line >>= λ next. lines_made next lines

-- the lines in the order in which the plan has them
abbrev pub in_order : List PlanKey → List PlanSa → List RowLine
in_order keys [] = map OfKey keys
in_order [] (found ∷ associations) = OfAssociation found ∷ in_order [] associations
in_order (key ∷ keys) (found ∷ associations) =
    if nat_le found.line key.line then OfAssociation found ∷ in_order (key ∷ keys) associations
    else OfKey key ∷ in_order keys (found ∷ associations)

-- a whole plan
abbrev pub initial : PlanLines → Result State PlanFault
initial plan = lines_made (bare plan) (in_order plan.keys plan.associations)

-- what a call answers, and the state that it left, is what lines make, unless memory ran out
abbrev pub MakesLines : Result (Unit {0}) PlanError → Result State PlanFault → State → Type 0
MakesLines (Ok u) said state = said ≡ Ok state
MakesLines (Err (RefusedAt first)) said state = said ≡ Err first
MakesLines (Err NoMemory) said state = ⊤
