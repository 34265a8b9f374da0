-- What a need names (profile).
use Rattle.std.specs.Prelude.{⊤, ◌<◌, IsSome}
use Rattle.sdls_base.specs.KeyId.{end_of}
use Rattle.unit_state.specs.declared.state.State.{State}
use Rattle.unit_state.specs.State.{key_row}
use Rattle.ep_core.specs.declared.judging.Need.{Need}
use Rattle.ep_core.specs.declared.judging.Need.TheVariants.{Nothing, Look, Raise, Number}

-- the key that it names is there, and the number below the key's end
abbrev pub NamesKey : State → Need → Type 0
NamesKey state Nothing = ⊤
NamesKey state (Look key) = IsSome (key_row state key)
NamesKey state (Raise key number) = IsSome (key_row state key) × (number < end_of key)
NamesKey state (Number key) = IsSome (key_row state key)
