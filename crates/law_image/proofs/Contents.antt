-- The content of a state whose rows are of their types: for `beginning_shows`.
use Rattle.std.proofs.Common.{ℕ, ◌<◌, ◌≤◌, ◌^◌, List, length, get_or, refl, sym, ap, subst, inl, inr, arith}
use Rattle.std.proofs.lemmas.List.{length-map}
use Rattle.std.proofs.lemmas.List.Elements.{All-map}
use Rattle.sdls_base.specs.KeyId.{class_of, end_of, end_of_class}
use Rattle.sdls_base.specs.declared.key_id.KeyClass.{KeyClass}
use Rattle.sdls_base.specs.declared.key_id.KeyClass.TheVariants.{Master, Gcm, Cmac}
use Rattle.sdls_base.specs.declared.states.KeyState.{KeyState}
use Rattle.sdls_base.specs.declared.states.KeyState.TheVariants.{PreActive, Active, Deactivated, Destroyed}
use Rattle.key_book.specs.declared.key_row.KeyRow.{KeyRow}
use Rattle.key_book.specs.KeyRow as key_rules
use Rattle.replay_window.specs.Window.{field_of}
use Rattle.replay_window.proofs.Fields.{field_small, IsWindowField-field}
use Rattle.sa_book.specs.declared.sa_book.SaRow.{SaRow}
use Rattle.sa_book.specs.SaRow as sa_rules
use Rattle.unit_state.specs.declared.state.State.{State}
use Rattle.unit_state.specs.State.{KeepsRules}
use Rattle.unit_state.specs.Restart.{restarted, restarted_row}
use Rattle.unit_state.proofs.StateLaws.{restarted_twice}
use Rattle.sdls_base.specs.Version.{most_associations_of}
use Rattle.sdls_base.specs.declared.version.Version.{Version}
use Rattle.sdls_base.specs.declared.version.Version.TheVariants.{Two}
use Rattle.book_record.specs.KeyParts.{IsRowKeyLength}
use Rattle.unit_image.specs.Content.{content_of}
use Rattle.unit_image.specs.ContentReading.{HasRows, IsContent, IsTypedKey, IsTypedSa}
use Rattle.unit_image.proofs.Contents.{restart_leaves_content}
use Rattle.unit_image.proofs.Restarted.{restarted_rules}
use Rattle.law_image.proofs.StateIds.{IsNamed, IsNamedKey, IsNamedSa}

class_end : (class : KeyClass) → end_of_class class ≤ 2 ^ 48
class_end Master = omega arith
class_end Gcm = omega arith
class_end Cmac = omega arith

end_small : (id : ℕ) → end_of id ≤ 2 ^ 48
end_small id = class_end (class_of id)

key_long : (state : KeyState) (bytes digest : List ℕ) → key_rules.HasBytes state bytes digest
    → IsRowKeyLength (length bytes)
key_long PreActive bytes digest has = inr has.0
key_long Active bytes digest has = inr has.0
key_long Deactivated bytes digest has = inr has.0
key_long Destroyed bytes digest has = inl (ap (λ (octets : List ℕ). length octets) has)

key_typed : (row : KeyRow) → key_rules.IsKeyRow row → IsNamedKey row → IsTypedKey row
key_typed row rules named =
    let small : end_of row.id ≤ 2 ^ 48 = end_small row.id in
    let mark : row.mark ≤ end_of row.id = rules.mark_to_end in
    let floor : row.floor < end_of row.id = rules.floor_below_end in
    record {
      types = record {
        id = named.0;
        digest = named.1;
        mark = omega (arith, mark, small);
        floor = omega (arith, floor, small);
      };
      fits = key_long row.state row.bytes row.digest rules.bytes;
      spelled = refl;
    }

sa_typed : (row : SaRow) → sa_rules.IsSaRow row → IsNamedSa row → IsTypedSa row
sa_typed row rules named =
    let small : field_of row.window < 2 ^ 64 =
    field_small (field_of row.window)
    (IsWindowField-field row.window.back row.window.width rules.back rules.width) in
    record {
      types = record { spi = named.0; key = named.1; window = small };
      fits = rules.channels;
      spelled = refl;
    }

-- a state that keeps its rules has rows of their types, which fit version 2
pub has_rows : (state : State) → KeepsRules state → IsNamed state → HasRows Two state
has_rows state rules named = record {
  keys = λ k d low. key_typed (get_or state.keys k d) (rules.keys.rules.each k d low) (named.keys k d low);
  associations = λ k d low. sa_typed (get_or state.associations k d) (rules.associations.each k d low)
      (named.associations k d low);
  fits = record { keys = rules.keys.most; associations = rules.associations.most };
}

-- its content is that of the state that a restart leaves
pub is_content : (version : Version) (state : State) → KeepsRules state → HasRows version state
    → IsContent version (restarted state) (content_of version state)
is_content version state rules rows = record {
  rules = restarted_rules state rules;
  rows = record {
    keys = rows.keys;
    associations = All-map IsTypedSa (restarted_row state.keys) state.associations
        (λ k d low. rows.associations k d low);
    fits = record {
      keys = rows.fits.keys;
      associations = subst (λ (n : ℕ). n ≤ most_associations_of version)
          (sym (length-map state.associations (restarted_row state.keys)))
          rows.fits.associations;
    };
  };
  left = restarted_twice state;
  spelled = sym (restart_leaves_content version state);
}
