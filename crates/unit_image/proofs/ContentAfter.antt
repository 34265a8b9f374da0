-- The content of the state after a change: for `write_marks` and `write_after`.
use Rattle.std.proofs.Common.{◌≡◌, ℕ, suc, ◌+◌, ◌*◌, ◌^◌, ◌<◌, ◌≤◌, Bool, true, false, cond, nat_eq, List, [], ◌∷◌}
use Rattle.std.proofs.Common.{◌++◌, length, get_or, take, drop, Some, refl, sym, ◌∙◌, ap, subst, arith, length-take-le}
use Rattle.std.proofs.lemmas.List.{length-map, set_split, take-append-drop}
use Rattle.std.proofs.lemmas.List.Quantifiers.{position-Some}
use Rattle.std.proofs.lemmas.Option.{same_Some}
use Rattle.std.proofs.Math.Seq.{drop-cons}
use Rattle.std.proofs.lemmas.List.Elements.{All-map}
use Rattle.sdls_base.specs.declared.TheConstants.{MOST_KEYS, MOST_ASSOCIATIONS}
use Rattle.sdls_base.specs.declared.entry.Change.TheVariants.{Marks}
use Rattle.sdls_base.specs.declared.version.Version.TheVariants.{Two}
use Rattle.key_book.specs.declared.key_row.KeyRow.{KeyRow}
use Rattle.key_book.specs.KeyBook.{AreKeyRows, row_of, place_of, changed}
use Rattle.key_book.proofs.Rows.{set-changed}
use Rattle.replay_window.proofs.Lowered.{lowered_field}
use Rattle.book_record.specs.declared.sa_rows.SaParts.{SaParts}
use Rattle.sa_book.specs.declared.sa_book.SaRow.{SaRow}
use Rattle.sa_book.specs.SaRefusal.{receives_with}
use Rattle.sa_book.specs.Numbers.{with_floor, lowered}
use Rattle.unit_state.specs.declared.state.State.{State}
use Rattle.unit_state.specs.State.{KeepsRules}
use Rattle.unit_state.specs.Applied.{applied}
use Rattle.unit_state.specs.Restart.{restarted, restarted_row}
use Rattle.unit_state.proofs.KeyRules.{stands}
use Rattle.book_record.specs.KeyParts.{AreKeyRowOctets, key_row_octets}
use Rattle.book_record.specs.SaParts.{AreSaRowOctets, sa_parts, sa_row_octets}
use Rattle.unit_image.specs.Content.{sa_rows, content_of, replaced}
use Rattle.unit_image.specs.ContentReading.{HasRows, IsContent, IsTypedKey, IsTypedSa}
use Rattle.unit_image.proofs.Restarted.{restarted_rules}

-- ---- what a restart leaves

pub left_content : (state : State) → restarted (restarted state) ≡ restarted state
    → content_of Two (restarted state) ≡ content_of Two state
    → KeepsRules state → HasRows Two state → IsContent Two (restarted state) (content_of Two state)
left_content state once same rules has = record {
  rules = restarted_rules state rules;
  rows = record {
    keys = has.keys;
    associations = All-map IsTypedSa (restarted_row state.keys) state.associations
        (λ k d low. has.associations k d low);
    fits = record {
      keys = has.fits.keys;
      associations =
          subst (λ (n : ℕ). n ≤ MOST_ASSOCIATIONS) (sym (length-map state.associations (restarted_row state.keys)))
          has.fits.associations;
    };
  };
  left = once;
  spelled = sym same;
}

-- ---- another mark and another floor

abbrev pub marked : ℕ → ℕ → KeyRow → KeyRow
marked mark floor row = record row { mark = mark; floor = floor }

typed_key : (mark floor : ℕ) → mark < 2 ^ 64 → floor < 2 ^ 64 → (b : Bool) (row : KeyRow) → IsTypedKey row
    → IsTypedKey (cond b (marked mark floor row) row)
typed_key mark floor fits also false row is = is
typed_key mark floor fits also true row is = record {
  types = record { id = is.types.id; digest = is.types.digest; mark = fits; floor = also };
  fits = is.fits;
  spelled = refl;
}

-- what a row says of an association, its window begun at a floor, is what it said before
floor_parts : (floor : ℕ) (row : SaRow) → sa_parts (with_floor row floor) ≡ sa_parts row
floor_parts floor row = ap (λ (field : ℕ). record (sa_parts row) { sa = record (sa_parts row).sa { window = field } })
    (lowered_field floor row.window)

typed_sa : (floor : ℕ) (b : Bool) (row : SaRow) → IsTypedSa row → IsTypedSa (cond b (with_floor row floor) row)
typed_sa floor false row is = is
typed_sa floor true row is =
    subst (λ (parts : SaParts). AreSaRowOctets parts (sa_row_octets parts)) (sym (floor_parts floor row)) is

pub marked_rows : (state : State) (key mark floor : ℕ) → mark < 2 ^ 64 → floor < 2 ^ 64 → HasRows Two state
    → HasRows Two (applied state (Marks key mark floor))
marked_rows state key mark floor fits also has = record {
  keys = All-map IsTypedKey (λ (row : KeyRow). cond (nat_eq row.id key) (marked mark floor row) row) state.keys
      (λ k d low. typed_key mark floor fits also (nat_eq (get_or state.keys k d).id key) (get_or state.keys k d)
      (has.keys k d low));
  associations = All-map IsTypedSa (λ (row : SaRow). cond (receives_with key row) (with_floor row floor) row)
      state.associations
      (λ k d low. typed_sa floor (receives_with key (get_or state.associations k d)) (get_or state.associations k d)
      (has.associations k d low));
  fits = record {
    keys = subst (λ (n : ℕ). n ≤ MOST_KEYS)
        (sym (length-map state.keys (λ (row : KeyRow). cond (nat_eq row.id key) (marked mark floor row) row)))
        has.fits.keys;
    associations = subst (λ (n : ℕ). n ≤ MOST_ASSOCIATIONS)
        (sym (length-map state.associations (λ (row : SaRow). cond (receives_with key row) (with_floor row floor) row)))
        has.fits.associations;
  };
}

-- the content has no highest numbers

same_parts : (floor : ℕ) (b : Bool) (row : SaRow) → sa_row_octets (sa_parts (cond b (with_floor row floor) row))
    ≡ sa_row_octets (sa_parts row)
same_parts floor false row = refl
same_parts floor true row = ap (λ (parts : SaParts). sa_row_octets parts) (floor_parts floor row)

lowered_rows : (rows : List SaRow) (key floor : ℕ) → sa_rows (lowered rows key floor) ≡ sa_rows rows
lowered_rows [] key floor = refl
lowered_rows (row ∷ rows) key floor =
    ap (λ (octets : List ℕ). octets ++ sa_rows (lowered rows key floor)) (same_parts floor (receives_with key row) row)
    ∙ ap (λ (octets : List ℕ). sa_row_octets (sa_parts row) ++ octets) (lowered_rows rows key floor)

same_rows : (state : State) (rows : List SaRow) → sa_rows rows ≡ sa_rows state.associations
    → length rows ≡ length state.associations
    → content_of Two (record state { associations = rows }) ≡ content_of Two state
unfolding content_of
same_rows state rows same count = rw (same, count)

pub lowered_content : (state : State) (key floor : ℕ)
    → content_of Two (record state { associations = lowered state.associations key floor }) ≡ content_of Two state
lowered_content state key floor =
    same_rows state (lowered state.associations key floor) (lowered_rows state.associations key floor)
    (length-map state.associations (λ (row : SaRow). cond (receives_with key row) (with_floor row floor) row))

-- the row of the key is another one, at its place
record IsMarked (keys : List KeyRow) (key mark floor place : ℕ) (row : KeyRow) : Type 0 where
  pub split : keys ≡ take place keys ++ row ∷ drop (suc place) keys
  pub joined : changed keys key (marked mark floor) ≡ take place keys ++ marked mark floor row ∷ drop (suc place) keys
  pub size : length (take place keys) ≡ place

is_marked : (keys : List KeyRow) (key mark floor place : ℕ) (row : KeyRow) → AreKeyRows keys
    → place_of keys key ≡ Some place
    → row_of keys key ≡ Some row → IsMarked keys key mark floor place row
is_marked keys key mark floor place row rules at found =
    let stood = stands (λ (row : KeyRow). nat_eq row.id key) keys row found in
    let read : row ≡ get_or keys place row =
    subst (λ (n : ℕ). row ≡ get_or keys n row) (same_Some stood.index place (sym stood.place ∙ at)) stood.read in
    let within : place < length keys = (position-Some (λ (row : KeyRow). nat_eq row.id key) keys place row at).0 in
    record {
      split = sym (take-append-drop place keys)
          ∙ ap (λ (rest : List KeyRow). take place keys ++ rest)
          (drop-cons keys place row within ∙ ap (λ (r : KeyRow). r ∷ drop (suc place) keys) (sym read));
      joined = sym (set-changed keys key place (marked mark floor) row rules at read)
          ∙ set_split keys place (marked mark floor row) within;
      size = length-take-le place keys (omega arith);
    }

-- other octets were put from a place on
put_replaced : (at end : ℕ) (octets old new : List ℕ) → end ≡ at + length octets → take end new ≡ take at old ++ octets
    → drop end new ≡ drop end old → new ≡ replaced at octets old
put_replaced at end octets old new place written rest =
    sym (take-append-drop end new)
    ∙ ap (λ (front : List ℕ). front ++ drop end new) written
    ∙ ap (λ (back : List ℕ). (take at old ++ octets) ++ back) (rest ∙ ap (λ (n : ℕ). drop n old) place)

-- the row of a key changes its own octets alone, as a law of contents says
abbrev pub IsRowLaw : Type 0
IsRowLaw = (state : State) (front back : List KeyRow) (old new : KeyRow) → HasRows Two state
    → state.keys ≡ front ++ old ∷ back
    → IsTypedKey new → content_of Two (record state { keys = front ++ new ∷ back })
    ≡ replaced (503 + 96 * length front) (key_row_octets new) (content_of Two state)

-- the row of the key was put at its place
pub marks_written : IsRowLaw → (state : State) (key mark floor place end : ℕ) (row : KeyRow) (octets old new : List ℕ)
    → AreKeyRows state.keys → HasRows Two state
    → place_of state.keys key ≡ Some place → row_of state.keys key ≡ Some row
    → AreKeyRowOctets (marked mark floor row) octets
    → old ≡ content_of Two state → end ≡ 503 + 96 * place + length octets
    → take end new ≡ take (503 + 96 * place) old ++ octets
    → drop end new ≡ drop end old → new ≡ content_of Two (applied state (Marks key mark floor))
marks_written law state key mark floor place end row octets old new rules has at found typed was ends written rest =
    let is : IsMarked state.keys key mark floor place row =
    is_marked state.keys key mark floor place row rules at found in
    let own : IsTypedKey (marked mark floor row) = record { types = typed.types; fits = typed.fits; spelled = refl } in
    let next : State = record state { keys = changed state.keys key (marked mark floor) } in
    put_replaced (503 + 96 * place) end octets old new ends written rest
    ∙ ap (λ (s : List ℕ). replaced (503 + 96 * place) octets s) was
    ∙ ap (λ (s : List ℕ). replaced (503 + 96 * place) s (content_of Two state)) typed.spelled
    ∙ ap (λ (n : ℕ). replaced (503 + 96 * n) (key_row_octets (marked mark floor row)) (content_of Two state))
    (sym is.size)
    ∙ sym (law state (take place state.keys) (drop (suc place) state.keys) row (marked mark floor row) has is.split own)
    ∙ ap (λ (keys : List KeyRow). content_of Two (record state { keys = keys })) (sym is.joined)
    ∙ sym (lowered_content next key floor)
