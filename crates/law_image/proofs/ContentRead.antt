-- The one state that octets can be the content of, read off their places: for `refused_exactly`.
use Rattle.std.proofs.Common.{◌≡◌, ℕ, zero, suc, List, [], ◌∷◌, ◌++◌, ◌≤◌, length, take, drop, map, refl, sym, ◌∙◌}
use Rattle.std.proofs.Common.{ap, subst, arith}
use Rattle.std.specs.List.{AllByRecursion, flat_map}
use Rattle.std.proofs.Math.Seq.{take-append_seam}
use Rattle.std.proofs.lemmas.List.Elements.{recursion_from_All}
use Rattle.sdls_base.proofs.Endings.{drop_front}
use Rattle.sdls_base.specs.Places.{number_at}
use Rattle.sdls_base.specs.declared.version.Version.{Version}
use Rattle.key_book.specs.declared.key_row.KeyRow.{KeyRow}
use Rattle.replay_window.specs.Window.{new_window}
use Rattle.replay_window.proofs.Fields.{field_of-new_window}
use Rattle.sa_book.specs.declared.sa_book.SaRow.{SaRow}
use Rattle.unit_state.specs.declared.state.State.{State}
use Rattle.unit_state.specs.Restart.{restarted, restarted_high, restarted_row}
use Rattle.unit_state.proofs.StateLaws.{restarted_twice}
use Rattle.book_record.specs.declared.sa_rows.SaParts.{SaParts}
use Rattle.book_record.specs.KeyParts.{key_row_octets}
use Rattle.book_record.specs.RowReading.{key_row_at, sa_row_at}
use Rattle.book_record.specs.SaParts.{AreSaRowOctets, sa_parts}
use Rattle.book_record.proofs.Rows.{key_row_says, sa_row_says}
use Rattle.unit_image.specs.Content.{key_room_of, key_rows}
use Rattle.unit_image.specs.ContentReading.{IsContent, IsRestartedRow, IsTypedKey, associations_in, key_count, keys_in}
use Rattle.unit_image.specs.ContentReading.{sa_count}
use Rattle.unit_image.specs.Rows.{state_of}
use Rattle.unit_image.proofs.Contents.{ContentParts, content_parts, content_says, keys_sized, sas_are}
use Rattle.unit_image.proofs.RowsRead.{key_sized, sa_octets, sa_sized, same_sa}

-- ---- the state that stands at the places of a content

-- so many rows, each read off octets of its own
abbrev rows_at : {X : Type 0} → (List ℕ → X) → ℕ → ℕ → List ℕ → List X
rows_at at width zero octets = []
rows_at at width (suc n) octets = at (take width octets) ∷ rows_at at width n (drop width octets)

pub state_at : Version → List ℕ → List ℕ → List ℕ → State
state_at version channels device content = restarted (state_of
    (rows_at key_row_at 96 (key_count content) (keys_in content))
    (rows_at sa_row_at 32 (sa_count version content) (associations_in version content)) channels device)

-- ---- rows are read back

rows_back : {X : Type 0} (f : X → List ℕ) (at : List ℕ → X) (width : ℕ) (P : X → Type 0)
    → ((row : X) → P row → length (f row) ≡ width) → ((row : X) → P row → at (f row) ≡ row)
    → (rows : List X) → AllByRecursion P rows → rows_at at width (length rows) (flat_map f rows) ≡ rows
rows_back f at width P sized back [] all = refl
rows_back f at width P sized back (row ∷ rows) all =
    let rest = flat_map f rows in
    let size = sized row all.0 in
    let first = ap (λ (n : ℕ). at (take n (f row ++ rest))) (sym size) ∙ ap at (take-append_seam (f row) rest)
    ∙ back row all.0 in
    let others = ap (rows_at at width (length rows)) (drop_front (f row) rest width (sym size))
    ∙ rows_back f at width P sized back rows all.1 in
    λ i. first i ∷ others i

rows_map : {X Y : Type 0} (g : X → Y) (at : List ℕ → X) (width n : ℕ) (octets : List ℕ)
    → map g (rows_at at width n octets) ≡ rows_at (λ s. g (at s)) width n octets
rows_map g at width zero octets = refl
rows_map g at width (suc n) octets =
    ap (λ rows. g (at (take width octets)) ∷ rows) (rows_map g at width n (drop width octets))

-- what is read of an association's row, as a restart leaves it
sa_back : (keys : List KeyRow) (row : SaRow) → IsRestartedRow keys row (sa_octets row)
    → restarted_row keys (sa_row_at (sa_octets row)) ≡ row
sa_back keys row is =
    let read = sa_row_at (sa_octets row) in
    let high = restarted_high keys read.direction read.key 0 in
    let said = sym (sa_row_says (sa_parts row) (sa_octets row) is.is_row).value in
    same_sa keys (restarted_row keys read) row (sa_octets row) (record {
      is_row = subst (λ (parts : SaParts). AreSaRowOctets parts (sa_octets row)) said is.is_row;
      window = ap (new_window high) (sym (field_of-new_window 0 (number_at 16 (sa_octets row))));
    }) is

-- ---- the state is read back

pub state_back : (version : Version) (channels device content : List ℕ) (state : State)
    → IsContent version state content
    → state.channels ≡ channels → state.device ≡ device → state_at version channels device content ≡ state
unfolding state_at
state_back version channels device content state is same_channels same_device =
    let Low = λ (row : SaRow). IsRestartedRow state.keys row (sa_octets row) in
    let short : length (key_rows state.keys) ≤ key_room_of version =
    omega (arith, keys_sized state.keys is.rows.keys, is.rows.fits.keys) in
    let at = subst (ContentParts version state) (sym is.spelled) (content_parts version state is.rows.fits short) in
    let says = content_says version state content is in
    let sas = sas_are version state content is in
    let read = rows_at sa_row_at 32 (sa_count version content) (associations_in version content) in
    let keys : rows_at key_row_at 96 (key_count content) (keys_in content) ≡ state.keys =
    (λ i. rows_at key_row_at 96 (at.key_counted i) (says.keys i))
    ∙ rows_back key_row_octets key_row_at 96 IsTypedKey key_sized
    (λ row typed. (key_row_says row (key_row_octets row) typed).value) state.keys
    (recursion_from_All IsTypedKey state.keys is.rows.keys) in
    let associations : map (restarted_row state.keys) read ≡ state.associations =
    rows_map (restarted_row state.keys) sa_row_at 32 (sa_count version content) (associations_in version content)
    ∙ (λ i. rows_at (λ s. restarted_row state.keys (sa_row_at s)) 32 (at.sa_counted i) (sas.spelled i))
    ∙ rows_back sa_octets (λ s. restarted_row state.keys (sa_row_at s)) 32 Low (sa_sized state.keys)
    (sa_back state.keys) state.associations (recursion_from_All Low state.associations sas.each) in
    ap (λ (rows : List KeyRow). restarted (state_of rows read channels device)) keys
    ∙ (λ i. state_of state.keys (associations i) (sym same_channels i) (sym same_device i))

-- ---- a restart leaves the state that is read

pub read_left : (version : Version) (channels device content : List ℕ)
    → restarted (state_at version channels device content) ≡ state_at version channels device content
unfolding state_at
read_left version channels device content = restarted_twice (state_of
    (rows_at key_row_at 96 (key_count content) (keys_in content))
    (rows_at sa_row_at 32 (sa_count version content) (associations_in version content)) channels device)

pub read_beside : (version : Version) (channels device content : List ℕ)
    → ((state_at version channels device content).channels ≡ channels)
    × ((state_at version channels device content).device ≡ device)
unfolding state_at
read_beside version channels device content = (refl, refl)
