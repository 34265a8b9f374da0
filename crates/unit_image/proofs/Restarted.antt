-- A restart leaves the rules of a state: for `write_after`.
use Rattle.std.proofs.Common.{◌<◌, ◌≤◌, ◌≡◌, ℕ, nat_eq, get_or, Option, Some, None, refl, sym, subst}
use Rattle.std.specs.Option.{option_map_or}
use Rattle.std.proofs.lemmas.List.{length-map}
use Rattle.std.proofs.lemmas.List.Elements.{All-map}
use Rattle.sdls_base.proofs.Searches.{pairs_map}
use Rattle.sdls_base.specs.KeyId.{end_of}
use Rattle.sdls_base.specs.declared.TheConstants.{MOST_ASSOCIATIONS}
use Rattle.sdls_base.specs.declared.states.Direction.{Direction}
use Rattle.sdls_base.specs.declared.states.Direction.TheVariants.{Send, Receive}
use Rattle.key_book.specs.declared.key_row.KeyRow.{KeyRow}
use Rattle.key_book.specs.KeyBook.{row_of}
use Rattle.sa_book.specs.declared.sa_book.SaRow.{SaRow}
use Rattle.sa_book.specs.SaBook.{RowsAreApart}
use Rattle.sa_book.specs.SaRow.{HasHigh, IsSaRow}
use Rattle.unit_state.specs.declared.state.State.{State}
use Rattle.unit_state.specs.Restart.{restarted, restarted_high, restarted_row}
use Rattle.unit_state.specs.State.{KeepsRules}
use Rattle.unit_state.proofs.Found.{found_passes, held_floor}
use Rattle.unit_state.proofs.Held.{all_restarted}
use Rattle.unit_state.proofs.KeyRules.{equal_number}

module _ (state : State) (rules : KeepsRules state) where
  -- the highest number is then the floor of the key, which is below the key's end
  high_left : (direction : Direction) (key : Option ℕ) (high : ℕ) → HasHigh direction key high
      → HasHigh direction key (restarted_high state.keys direction key high)
  high_left Send key high has = has
  high_left Receive None high has = has
  high_left Receive (Some key) high has = go (row_of state.keys key) refl
    where
      go : (found : Option KeyRow) → row_of state.keys key ≡ found
          → option_map_or (λ (row : KeyRow). row.floor) found high < end_of key
      go None is = has
      go (Some row) is =
          subst (λ (id : ℕ). row.floor < end_of id)
          (equal_number row.id key (found_passes (λ (row : KeyRow). nat_eq row.id key) state.keys row is))
          (held_floor state key row rules is)

  row_left : (row : SaRow) → IsSaRow row → IsSaRow (restarted_row state.keys row)
  row_left row ok = record {
    keyless = ok.keyless;
    suite = ok.suite;
    high = high_left row.direction row.key row.window.high ok.high;
    width = ok.width;
    back = ok.back;
    channels = ok.channels;
  }

  pub restarted_rules : KeepsRules (restarted state)
  restarted_rules = record {
    keys = rules.keys;
    associations = record {
      most = subst (λ (n : ℕ). n ≤ MOST_ASSOCIATIONS) (sym (length-map state.associations (restarted_row state.keys)))
          rules.associations.most;
      each = All-map IsSaRow (restarted_row state.keys) state.associations
          (λ k d low. row_left (get_or state.associations k d) (rules.associations.each k d low));
      apart = pairs_map RowsAreApart (restarted_row state.keys) state.associations
          (λ a b apart. record { order = apart.order; channels = apart.channels; keys = apart.keys })
          rules.associations.apart;
    };
    held = all_restarted state.keys state.associations rules.held;
  }
