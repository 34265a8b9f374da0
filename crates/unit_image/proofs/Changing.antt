-- A row that changes changes its own octets of the content alone: for `key_row_changes`, `sa_row_changes`,
-- `marks_change`.
use Rattle.std.proofs.Common.{◌≡◌, ℕ, ◌+◌, ◌*◌, ◌-◌, List, [], ◌∷◌, ◌++◌, length, take, drop, replicate, refl, sym, ap}
use Rattle.std.proofs.Common.{◌∙◌, subst, arith, All, append_assoc, length-append}
use Rattle.std.specs.List.{flat_map}
use Rattle.std.specs.Int.{w16, w64, to_be_bytes}
use Rattle.std.proofs.Math.Seq.{take-append_seam}
use Rattle.std.proofs.lemmas.List.Elements.{All-from_recursion, recursion_from_All}
use Rattle.std.specs.List.{AllByRecursion}
use Rattle.sdls_base.proofs.Endings.{drop_front}
use Rattle.sdls_base.specs.Code.{key_state_code}
use Rattle.sdls_base.specs.declared.version.Version.{Version}
use Rattle.book_record.specs.KeyParts.{key_row_octets}
use Rattle.book_record.specs.Padded.{padded}
use Rattle.book_record.specs.SaParts.{sa_parts}
use Rattle.book_record.proofs.Rows.{padded_length, row_key_length_small, sa_row_length}
use Rattle.key_book.specs.declared.key_row.KeyRow.{KeyRow}
use Rattle.sa_book.specs.declared.sa_book.SaRow.{SaRow}
use Rattle.unit_state.specs.declared.state.State.{State}
use Rattle.unit_image.specs.Content.{key_rows, sa_rows, counts_of, key_room_of, sa_room_of}
use Rattle.unit_image.specs.Content.{associations_at, content_of, replaced}
use Rattle.unit_image.specs.ContentReading.{HasRows, IsTypedKey, IsTypedSa}
use Rattle.unit_image.proofs.Contents.{keys_sized, sas_sized, head_length}
use Rattle.unit_image.proofs.RowsRead.{sa_octets, key_sized}

-- ---- one part of a list in the place of another

replaced_part : (front old new back : List ℕ) (at : ℕ) → at ≡ length front → length old ≡ length new
    → front ++ (new ++ back) ≡ replaced at new (front ++ (old ++ back))
replaced_part front old new back at place same =
    let before : take at (front ++ (old ++ back)) ≡ front =
    ap (λ (n : ℕ). take n (front ++ (old ++ back))) place ∙ take-append_seam front (old ++ back) in
    let end : at + length new ≡ length (front ++ old) = omega (arith, place, same, length-append front old) in
    let behind : drop (at + length new) (front ++ (old ++ back)) ≡ back =
    ap (λ (s : List ℕ). drop (at + length new) s) (sym (append_assoc front old back))
    ∙ drop_front (front ++ old) back (at + length new) end in
    sym (append_assoc front new back) ∙ ap (λ (s : List ℕ). (s ++ new) ++ back) (sym before)
    ∙ ap (λ (s : List ℕ). (take at (front ++ (old ++ back)) ++ new) ++ s) (sym behind)

rows_cut : {X : Type 0} (f : X → List ℕ) (front back : List X) (row : X)
    → flat_map f (front ++ row ∷ back) ≡ flat_map f front ++ (f row ++ flat_map f back)
rows_cut f [] back row = refl
rows_cut f (x ∷ front) back row =
    ap (λ (s : List ℕ). f x ++ s) (rows_cut f front back row)
    ∙ sym (append_assoc (f x) (flat_map f front) (f row ++ flat_map f back))

front_all : {X : Type 0} (P : X → Type 0) (front back : List X) → AllByRecursion P (front ++ back)
    → AllByRecursion P front
front_all P [] back all = tt
front_all P (x ∷ front) back all = (all.0, front_all P front back all.1)

at_row : {X : Type 0} (P : X → Type 0) (front back : List X) (row : X) → AllByRecursion P (front ++ row ∷ back) → P row
at_row P [] back row all = all.0
at_row P (x ∷ front) back row all = at_row P front back row all.1

-- ---- a key's row

key_parts_of : (h f r b e s : List ℕ) → (h ++ ((f ++ (r ++ b)) ++ e)) ++ s ≡ (h ++ f) ++ (r ++ ((b ++ e) ++ s))
key_parts_of h f r b e s = simp append_assoc

key_shape : (version : Version) (state : State) (front back : List KeyRow) (row : KeyRow) (n gap : ℕ)
    → length (front ++ row ∷ back) ≡ n
    → key_room_of version - length (key_rows (front ++ row ∷ back)) ≡ gap
    → content_of version (record state { keys = front ++ row ∷ back })
    ≡ (padded 503 (counts_of version n (length state.associations)) ++ key_rows front)
    ++ (key_row_octets row
    ++ ((key_rows back ++ replicate gap 0) ++ padded (sa_room_of version) (sa_rows state.associations)))
unfolding content_of
key_shape version state front back row n gap count rest =
    let none : ℕ = 0 in
    let head : ℕ → List ℕ = λ m. padded 503 (counts_of version m (length state.associations)) in
    let sas = padded (sa_room_of version) (sa_rows state.associations) in
    ap (λ (m : ℕ). (head m ++ padded (key_room_of version) (key_rows (front ++ row ∷ back))) ++ sas) count
    ∙ ap (λ (m : ℕ). (head n ++ (key_rows (front ++ row ∷ back) ++ replicate m none)) ++ sas) rest
    ∙ ap (λ (s : List ℕ). (head n ++ (s ++ replicate gap none)) ++ sas) (rows_cut key_row_octets front back row)
    ∙ key_parts_of (head n) (key_rows front) (key_row_octets row) (key_rows back) (replicate gap none) sas

pub key_row_changes : (version : Version) (state : State) (front back : List KeyRow) (old new : KeyRow)
    → HasRows version state
    → state.keys ≡ front ++ old ∷ back → IsTypedKey new
    → content_of version (record state { keys = front ++ new ∷ back })
    ≡ replaced (503 + 96 * length front) (key_row_octets new) (content_of version state)
key_row_changes version state front back old new has is typed =
    let P = IsTypedKey in
    let none : ℕ = 0 in
    let all = recursion_from_All P (front ++ old ∷ back) (subst (All P) is has.keys) in
    let front_size = keys_sized front (All-from_recursion P front (front_all P front (old ∷ back) all)) in
    let same : length (key_row_octets old) ≡ length (key_row_octets new) =
    key_sized old (at_row P front back old all) ∙ sym (key_sized new typed) in
    let n = length (front ++ old ∷ back) in
    let gap = key_room_of version - length (key_rows (front ++ old ∷ back)) in
    let count : length (front ++ new ∷ back) ≡ n =
    omega (arith, length-append front (new ∷ back), length-append front (old ∷ back)) in
    let rest : key_room_of version - length (key_rows (front ++ new ∷ back)) ≡ gap =
    omega (
      arith,
      ap length (rows_cut key_row_octets front back new),
      ap length (rows_cut key_row_octets front back old),
      same,
      length-append (key_rows front) (key_row_octets new ++ key_rows back),
      length-append (key_rows front) (key_row_octets old ++ key_rows back),
      length-append (key_row_octets new) (key_rows back),
      length-append (key_row_octets old) (key_rows back),
    ) in
    let head = padded 503 (counts_of version n (length state.associations)) in
    let post = (key_rows back ++ replicate gap none) ++ padded (sa_room_of version) (sa_rows state.associations) in
    let place : 503 + 96 * length front ≡ length (head ++ key_rows front) =
    omega (arith, front_size, length-append head (key_rows front), head_length version n (length state.associations)) in
    let before : content_of version state ≡ (head ++ key_rows front) ++ (key_row_octets old ++ post) =
    ap (λ (keys : List KeyRow). content_of version (record state { keys = keys })) is
    ∙ key_shape version state front back old n gap refl refl in
    key_shape version state front back new n gap count rest
    ∙ replaced_part (head ++ key_rows front) (key_row_octets old) (key_row_octets new) post (503 + 96 * length front)
    place same
    ∙ ap (λ (s : List ℕ). replaced (503 + 96 * length front) (key_row_octets new) s) (sym before)

-- ---- an association's row

sa_parts_of : (h f r b e : List ℕ) → h ++ ((f ++ (r ++ b)) ++ e) ≡ (h ++ f) ++ (r ++ (b ++ e))
sa_parts_of h f r b e = simp append_assoc

sa_shape : (version : Version) (state : State) (front back : List SaRow) (row : SaRow) (m gap : ℕ)
    → length (front ++ row ∷ back) ≡ m
    → sa_room_of version - length (sa_rows (front ++ row ∷ back)) ≡ gap
    → content_of version (record state { associations = front ++ row ∷ back })
    ≡ ((padded 503 (counts_of version (length state.keys) m) ++ padded (key_room_of version) (key_rows state.keys))
    ++ sa_rows front)
    ++ (sa_octets row ++ (sa_rows back ++ replicate gap 0))
unfolding content_of
sa_shape version state front back row m gap count rest =
    let none : ℕ = 0 in
    let head : ℕ → List ℕ = λ n. padded 503 (counts_of version (length state.keys) n)
    ++ padded (key_room_of version) (key_rows state.keys) in
    ap (λ (n : ℕ). head n ++ padded (sa_room_of version) (sa_rows (front ++ row ∷ back))) count
    ∙ ap (λ (n : ℕ). head m ++ (sa_rows (front ++ row ∷ back) ++ replicate n none)) rest
    ∙ ap (λ (s : List ℕ). head m ++ (s ++ replicate gap none)) (rows_cut sa_octets front back row)
    ∙ sa_parts_of (head m) (sa_rows front) (sa_octets row) (sa_rows back) (replicate gap none)

pub sa_row_changes : (version : Version) (state : State) (front back : List SaRow) (old new : SaRow)
    → HasRows version state
    → state.associations ≡ front ++ old ∷ back → IsTypedSa new
    → content_of version (record state { associations = front ++ new ∷ back })
    ≡ replaced (associations_at version + 32 * length front) (sa_octets new) (content_of version state)
sa_row_changes version state front back old new has is typed =
    let P = IsTypedSa in
    let none : ℕ = 0 in
    let all = recursion_from_All P (front ++ old ∷ back) (subst (All P) is has.associations) in
    let front_size = sas_sized front (All-from_recursion P front (front_all P front (old ∷ back) all)) in
    let own = at_row P front back old all in
    let same : length (sa_octets old) ≡ length (sa_octets new) =
    sa_row_length (sa_parts old) (sa_octets old) own ∙ sym (sa_row_length (sa_parts new) (sa_octets new) typed) in
    let m = length (front ++ old ∷ back) in
    let gap = sa_room_of version - length (sa_rows (front ++ old ∷ back)) in
    let count : length (front ++ new ∷ back) ≡ m =
    omega (arith, length-append front (new ∷ back), length-append front (old ∷ back)) in
    let rest : sa_room_of version - length (sa_rows (front ++ new ∷ back)) ≡ gap =
    omega (
      arith,
      ap length (rows_cut sa_octets front back new),
      ap length (rows_cut sa_octets front back old),
      same,
      length-append (sa_rows front) (sa_octets new ++ sa_rows back),
      length-append (sa_rows front) (sa_octets old ++ sa_rows back),
      length-append (sa_octets new) (sa_rows back),
      length-append (sa_octets old) (sa_rows back),
    ) in
    let head = padded 503 (counts_of version (length state.keys) m) in
    let keys = padded (key_room_of version) (key_rows state.keys) in
    let keys_size : length keys ≡ key_room_of version =
    padded_length (key_room_of version) (key_rows state.keys)
    (omega (arith, keys_sized state.keys has.keys, has.fits.keys)) in
    let pre = (head ++ keys) ++ sa_rows front in
    let post = sa_rows back ++ replicate gap none in
    let place : associations_at version + 32 * length front ≡ length pre =
    omega (
      arith,
      front_size,
      keys_size,
      length-append (head ++ keys) (sa_rows front),
      length-append head keys,
      head_length version (length state.keys) m,
    ) in
    let before : content_of version state ≡ pre ++ (sa_octets old ++ post) =
    ap (λ (rows : List SaRow). content_of version (record state { associations = rows })) is
    ∙ sa_shape version state front back old m gap refl refl in
    sa_shape version state front back new m gap count rest
    ∙ replaced_part pre (sa_octets old) (sa_octets new) post (associations_at version + 32 * length front) place same
    ∙ ap (λ (s : List ℕ). replaced (associations_at version + 32 * length front) (sa_octets new) s) (sym before)

-- ---- a mark and a floor

marks_parts : (front marked floored rest : List ℕ) → ((front ++ marked) ++ floored) ++ rest
    ≡ front ++ ((marked ++ floored) ++ rest)
marks_parts front marked floored rest = simp append_assoc

pub marks_change : (parts : KeyRow) (mark floor : ℕ) → IsTypedKey parts
    → key_row_octets (record parts { mark = mark; floor = floor })
    ≡ replaced 68 (to_be_bytes w64 mark ++ to_be_bytes w64 floor) (key_row_octets parts)
unfolding key_row_octets
marks_change parts mark floor is =
    let none : ℕ = 0 in
    let room = padded 32 parts.bytes in
    let front = to_be_bytes w16 parts.id ++ key_state_code parts.state ∷ length parts.bytes ∷ (room ++ parts.digest) in
    let size : length (room ++ parts.digest) ≡ 64 =
    omega (
      arith,
      length-append room parts.digest,
      padded_length 32 parts.bytes (row_key_length_small (length parts.bytes) is.fits),
      is.types.digest,
    ) in
    let rest : (marks floors : List ℕ) → length marks ≡ 8 → length floors ≡ 8
    → 96 - length ((front ++ marks) ++ floors) ≡ 12 =
    λ marks floors eight also. omega (
      arith,
      eight,
      also,
      size,
      length-append (front ++ marks) floors,
      length-append front marks,
    ) in
    let shape : (marks floors : List ℕ) → length marks ≡ 8 → length floors ≡ 8
    → padded 96 ((front ++ marks) ++ floors) ≡ front ++ ((marks ++ floors) ++ replicate 12 none) =
    λ marks floors eight also.
    ap (λ (n : ℕ). ((front ++ marks) ++ floors) ++ replicate n none) (rest marks floors eight also)
    ∙ marks_parts front marks floors (replicate 12 none) in
    let old = to_be_bytes w64 parts.mark ++ to_be_bytes w64 parts.floor in
    let new = to_be_bytes w64 mark ++ to_be_bytes w64 floor in
    shape (to_be_bytes w64 mark) (to_be_bytes w64 floor) refl refl
    ∙ replaced_part front old new (replicate 12 none) 68 (omega (arith, size)) refl
    ∙ ap (λ (s : List ℕ). replaced 68 new s)
    (sym (shape (to_be_bytes w64 parts.mark) (to_be_bytes w64 parts.floor) refl refl))
