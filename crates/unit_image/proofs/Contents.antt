-- What stands in the content of a state, and which state it is of: for `read_content` and `write_version`.
use Rattle.std.proofs.Common.{◌≡◌, ℕ, suc, ◌+◌, ◌*◌, ◌-◌, ◌<◌, ◌≤◌, List, [], ◌∷◌, ◌++◌, length, get_or, take, drop}
use Rattle.std.proofs.Common.{replicate, Result, Ok, Err, refl, sym, ap, ◌∙◌, subst, arith, All, drop_of_length-le}
use Rattle.std.proofs.Common.{append-nil, append_assoc, length-append, zero}
use Rattle.std.specs.Prelude.{map, IfOk, IfErr}
use Rattle.std.specs.List.{flat_map, AllByRecursion}
use Rattle.std.specs.Int.{w16, to_be_bytes}
use Rattle.std.proofs.Math.Seq.{take-append_seam}
use Rattle.std.proofs.lemmas.Nat.{from_be_bytes-to_be_bytes_2, be_bytes_2}
use Rattle.std.proofs.lemmas.List.{drop-drop, take-append-drop, length-replicate, length-map}
use Rattle.std.proofs.lemmas.List.Elements.{recursion_from_All, All-head, All-tail}
use Rattle.sdls_base.proofs.Endings.{drop_front}
use Rattle.sdls_base.specs.Version.{most_keys_of, most_associations_of, content_length_of}
use Rattle.sdls_base.specs.declared.version.Version.{Version}
use Rattle.sdls_base.specs.declared.version.Version.TheVariants.{One, Two}
use Rattle.key_book.specs.declared.key_row.KeyRow.{KeyRow}
use Rattle.sa_book.specs.declared.sa_book.SaRow.{SaRow}
use Rattle.unit_state.specs.declared.state.State.{State}
use Rattle.unit_state.specs.State.{KeepsRules}
use Rattle.unit_state.specs.Restart.{restarted, restarted_row}
use Rattle.book_record.specs.Padded.{padded}
use Rattle.book_record.specs.KeyParts.{key_row_octets, AreKeyRowOctets}
use Rattle.book_record.specs.SaParts.{sa_parts}
use Rattle.sdls_base.specs.Places.{word_at}
use Rattle.book_record.proofs.Rows.{one_key_row, padded_front, padded_length, sa_row_length}
use Rattle.unit_image.specs.Rows.{HasRowsCause, MakesOf, state_of}
use Rattle.unit_image.specs.declared.rows.RowsFault.{RowsFault}
use Rattle.unit_image.specs.Content.{key_rows, sa_rows, counts_of, key_room_of, sa_room_of}
use Rattle.unit_image.specs.Content.{associations_at, content_of}
use Rattle.unit_image.specs.ContentReading.{IsRestartedRow, AreKeyRows, AreSaRows, AreZero, key_count, sa_count}
use Rattle.unit_image.specs.ContentReading.{counts_end_of, HasRoom, keys_in, associations_in, FitsVersion, HasRows}
use Rattle.unit_image.specs.ContentReading.{IsContent, IsTypedKey, IsTypedSa}
use Rattle.unit_image.proofs.Highs.{rows_low, rows_left}
use Rattle.unit_image.proofs.RowsRead.{whole_cause, sa_octets, head_of, key_sized, sa_sized, same_sa}

-- ---- rows are as many as their octets say

keys_sized_each : (rows : List KeyRow) → AllByRecursion IsTypedKey rows → length (key_rows rows) ≡ 96 * length rows
keys_sized_each [] all = omega arith
keys_sized_each (row ∷ rows) all =
    omega (arith, keys_sized_each rows all.1, key_sized row all.0, length-append (key_row_octets row) (key_rows rows))

pub keys_sized : (rows : List KeyRow) → All IsTypedKey rows → length (key_rows rows) ≡ 96 * length rows
keys_sized rows all = keys_sized_each rows (recursion_from_All IsTypedKey rows all)

sas_sized_each : (rows : List SaRow) → AllByRecursion IsTypedSa rows → length (sa_rows rows) ≡ 32 * length rows
sas_sized_each [] all = omega arith
sas_sized_each (row ∷ rows) all =
    omega (
      arith,
      sas_sized_each rows all.1,
      sa_row_length (sa_parts row) (sa_octets row) all.0,
      length-append (sa_octets row) (sa_rows rows),
    )

pub sas_sized : (rows : List SaRow) → All IsTypedSa rows → length (sa_rows rows) ≡ 32 * length rows
sas_sized rows all = sas_sized_each rows (recursion_from_All IsTypedSa rows all)

-- ---- the places of each version

pub whole_length : (version : Version) → content_length_of version ≡ associations_at version + sa_room_of version
whole_length One = refl
whole_length Two = refl

-- the counts end before the rows begin
pub counts_end_small : (version : Version) → counts_end_of version ≤ 4
counts_end_small One = omega arith
counts_end_small Two = omega arith

pub counts_length : (version : Version) (keys associations : ℕ)
    → length (counts_of version keys associations) ≡ counts_end_of version
counts_length One keys associations = refl
counts_length Two keys associations = refl

pub head_length : (version : Version) (keys associations : ℕ)
    → length (padded 503 (counts_of version keys associations)) ≡ 503
head_length version keys associations =
    padded_length 503 (counts_of version keys associations)
    (omega (arith, counts_length version keys associations, counts_end_small version))

key_count_said : (version : Version) (keys associations : ℕ) (rest : List ℕ) → keys ≤ most_keys_of version
    → key_count (counts_of version keys associations ++ rest) ≡ keys
key_count_said One keys associations rest fits = from_be_bytes-to_be_bytes_2 keys (omega (arith, fits))
key_count_said Two keys associations rest fits = from_be_bytes-to_be_bytes_2 keys (omega (arith, fits))

sa_count_said : (version : Version) (keys associations : ℕ) (rest : List ℕ)
    → associations ≤ most_associations_of version
    → sa_count version (counts_of version keys associations ++ rest) ≡ associations
sa_count_said One keys associations rest fits = refl
sa_count_said Two keys associations rest fits = from_be_bytes-to_be_bytes_2 associations (omega (arith, fits))

-- ---- what stands in the content of a state

-- the zeros behind a padded field
padded_behind : (width : ℕ) (octets rest : List ℕ) (n gap : ℕ) → n ≡ length octets → gap ≡ width - length octets
    → take gap (drop n (padded width octets ++ rest)) ≡ replicate gap 0
padded_behind width octets rest n gap e g =
    let none : ℕ = 0 in
    let zeros = replicate (width - length octets) none in
    let size : length zeros ≡ gap = length-replicate (width - length octets) none ∙ sym g in
    ap (λ (s : List ℕ). take gap (drop n s)) (append_assoc octets zeros rest)
    ∙ ap (λ (s : List ℕ). take gap s) (drop_front octets (zeros ++ rest) n e)
    ∙ ap (λ (m : ℕ). take m (zeros ++ rest)) (sym size) ∙ take-append_seam zeros rest
    ∙ ap (λ (m : ℕ). replicate m none) (sym g)

pub record ContentParts (version : Version) (state : State) (content : List ℕ) : Type 0 where
  pub key_counted : key_count content ≡ length state.keys
  pub sa_counted : sa_count version content ≡ length state.associations
  pub gap : AreZero (counts_end_of version) 503 content
  pub from_keys : drop 503 content ≡ padded (key_room_of version) (key_rows state.keys)
      ++ padded (sa_room_of version) (sa_rows state.associations)
  pub from_associations : drop (associations_at version) content
      ≡ padded (sa_room_of version) (sa_rows state.associations)

pub content_parts : (version : Version) (state : State) → FitsVersion version state
    → length (key_rows state.keys) ≤ key_room_of version
    → ContentParts version state (content_of version state)
unfolding content_of
content_parts version state fits short =
    let content = content_of version state in
    let keys = length state.keys in
    let associations = length state.associations in
    let none : ℕ = 0 in
    let counts = counts_of version keys associations in
    let head = padded 503 counts in
    let zeros = replicate (503 - length counts) none in
    let room = padded (key_room_of version) (key_rows state.keys) in
    let sa_room = padded (sa_room_of version) (sa_rows state.associations) in
    let whole : content ≡ head ++ (room ++ sa_room) = append_assoc head room sa_room in
    let from_counts : content ≡ counts ++ (zeros ++ (room ++ sa_room)) =
    whole ∙ append_assoc counts zeros (room ++ sa_room) in
    let size = counts_length version keys associations in
    let gap : 503 - counts_end_of version ≡ 503 - length counts = omega (arith, size) in
    let from_keys : drop 503 content ≡ room ++ sa_room =
    ap (λ (s : List ℕ). drop 503 s) whole ∙ drop_front head (room ++ sa_room) 503
    (sym (head_length version keys associations)) in
    record {
      key_counted = ap key_count from_counts ∙ key_count_said version keys associations (zeros ++ (room ++ sa_room))
          fits.keys;
      sa_counted = ap (sa_count version) from_counts ∙ sa_count_said version keys associations
          (zeros ++ (room ++ sa_room)) fits.associations;
      gap = ap (λ (s : List ℕ). take (503 - counts_end_of version) (drop (counts_end_of version) s)) whole
          ∙ padded_behind 503 counts (room ++ sa_room) (counts_end_of version) (503 - counts_end_of version) (sym size)
          gap;
      from_keys = from_keys;
      from_associations = sym (drop-drop (key_room_of version) 503 content)
          ∙ ap (λ (s : List ℕ). drop (key_room_of version) s) from_keys
          ∙ drop_front room sa_room (key_room_of version)
          (sym (padded_length (key_room_of version) (key_rows state.keys) short));
    }

pub content_sized : (version : Version) (state : State) → HasRows version state
    → length (content_of version state) ≡ content_length_of version
unfolding content_of
content_sized version state rows =
    let head = padded 503 (counts_of version (length state.keys) (length state.associations)) in
    let room = padded (key_room_of version) (key_rows state.keys) in
    let sa_room = padded (sa_room_of version) (sa_rows state.associations) in
    let room_size = padded_length (key_room_of version) (key_rows state.keys)
    (omega (arith, keys_sized state.keys rows.keys, rows.fits.keys)) in
    let sa_size =
    padded_length (sa_room_of version) (sa_rows state.associations)
    (omega (arith, sas_sized state.associations rows.associations, rows.fits.associations)) in
    omega (
      arith,
      whole_length version,
      head_length version (length state.keys) (length state.associations),
      room_size,
      sa_size,
      length-append head room,
      length-append (head ++ room) sa_room,
    )

pub record ContentSays (version : Version) (state : State) (content : List ℕ) : Type 0 where
  pub room : HasRoom version content
  pub keys : keys_in content ≡ key_rows state.keys
  pub associations : associations_in version content ≡ sa_rows state.associations

says : (version : Version) (state : State) → HasRows version state
    → ContentSays version state (content_of version state)
says version state rows =
    let content = content_of version state in
    let keys = key_rows state.keys in
    let sas = sa_rows state.associations in
    let room = padded (key_room_of version) keys in
    let sa_room = padded (sa_room_of version) sas in
    let keys_size = keys_sized state.keys rows.keys in
    let sas_size = sas_sized state.associations rows.associations in
    let parts = content_parts version state rows.fits (omega (arith, keys_size, rows.fits.keys)) in
    let from_sas : drop (associations_at version) content ≡ sa_room ++ [] =
    parts.from_associations ∙ sym (append-nil sa_room) in
    let key_end : 96 * key_count content ≡ length keys = omega (arith, parts.key_counted, keys_size) in
    let sa_end : 32 * sa_count version content ≡ length sas = omega (arith, parts.sa_counted, sas_size) in
    let key_gap : associations_at version - (503 + 96 * key_count content) ≡ key_room_of version - length keys =
    omega (arith, key_end) in
    let behind_keys : AreZero (503 + 96 * key_count content) (associations_at version) content =
    ap (λ (s : List ℕ). take (associations_at version - (503 + 96 * key_count content)) s)
    (sym (drop-drop (96 * key_count content) 503 content) ∙ ap (λ (s : List ℕ). drop (96 * key_count content) s)
    parts.from_keys)
    ∙ padded_behind (key_room_of version) keys sa_room (96 * key_count content)
    (associations_at version - (503 + 96 * key_count content)) key_end key_gap in
    let sa_gap : content_length_of version - (associations_at version + 32 * sa_count version content)
    ≡ sa_room_of version - length sas =
    omega (arith, sa_end, whole_length version) in
    let behind_sas : AreZero (associations_at version + 32 * sa_count version content) (content_length_of version)
    content =
    ap (λ (s : List ℕ). take (content_length_of version - (associations_at version + 32 * sa_count version content)) s)
    (sym (drop-drop (32 * sa_count version content) (associations_at version) content)
    ∙ ap (λ (s : List ℕ). drop (32 * sa_count version content) s) from_sas)
    ∙ padded_behind (sa_room_of version) sas [] (32 * sa_count version content)
    (content_length_of version - (associations_at version + 32 * sa_count version content))
    sa_end sa_gap in
    record {
      room = record {
        keys = omega (arith, parts.key_counted, rows.fits.keys);
        associations = omega (arith, parts.sa_counted, rows.fits.associations);
        gap = parts.gap;
        behind_keys = behind_keys;
        behind_associations = behind_sas;
      };
      keys = ap (λ (s : List ℕ). take (96 * key_count content) s) parts.from_keys
          ∙ ap (λ (n : ℕ). take n (room ++ sa_room)) key_end
          ∙ padded_front (key_room_of version) keys sa_room;
      associations = ap (λ (s : List ℕ). take (32 * sa_count version content) s) from_sas
          ∙ ap (λ (n : ℕ). take n (sa_room ++ [])) sa_end
          ∙ padded_front (sa_room_of version) sas [];
    }

pub content_says : (version : Version) (state : State) (content : List ℕ) → IsContent version state content
    → ContentSays version state content
content_says version state content is = subst (ContentSays version state) (sym is.spelled) (says version state is.rows)

-- ---- rows of the same octets are the same

pub same_rows : {X : Type 0} (f : X → List ℕ) (Is : X → List ℕ → Type 0) (width : ℕ) → 0 < width
    → ((row : X) → Is row (f row) → length (f row) ≡ width)
    → ((a b : X) (octets : List ℕ) → Is a octets → Is b octets → a ≡ b)
    → (a b : List X) → All (λ row. Is row (f row)) a → All (λ row. Is row (f row)) b → flat_map f a ≡ flat_map f b
    → a ≡ b
same_rows f Is width some sized one [] [] own also e = refl
same_rows f Is width some sized one [] (row ∷ rows) own also e =
    absurd (omega (
      arith,
      ap length e,
      length-append (f row) (flat_map f rows),
      sized row (All-head (λ row. Is row (f row)) row rows also),
    ))
same_rows f Is width some sized one (row ∷ rows) b own also e =
    let typed = All-head (λ row. Is row (f row)) row rows own in
    let h = head_of f Is width some sized (f row) (flat_map f rows) (sized row typed) b also e in
    let first = one row h.head (f row) typed h.is in
    let others = same_rows f Is width some sized one rows h.tail (All-tail (λ row. Is row (f row)) row rows own) h.each
    h.spelled in
    (λ i. first i ∷ others i) ∙ sym h.rows_are

-- ---- the content of rows that were read

cut_at : (n m : ℕ) (xs : List ℕ) → drop n xs ≡ take m (drop n xs) ++ drop (n + m) xs
cut_at n m xs = sym (take-append-drop m (drop n xs)) ∙ ap (λ (s : List ℕ). take m (drop n xs) ++ s) (drop-drop m n xs)

head_two : (content : List ℕ) → 2 ≤ length content → ((i : ℕ) → get_or content i 0 < 256)
    → to_be_bytes w16 (word_at 0 content) ≡ take 2 content
head_two [] some octets = absurd (omega arith)
head_two (x ∷ []) some octets = absurd (omega arith)
head_two (x ∷ y ∷ rest) some octets = be_bytes_2 (x ∷ y ∷ []) (word_at 0 (x ∷ y ∷ rest)) refl each refl where
  each : (i : ℕ) → get_or (x ∷ y ∷ []) i 0 < 256
  each zero = octets 0
  each (suc zero) = octets 1
  each (suc (suc i)) = omega arith

padded_from : (from width count behind end : ℕ) (octets content : List ℕ) → behind ≡ from + count
    → take count (drop from content) ≡ octets
    → AreZero behind end content → count ≤ width → end ≡ from + width → length octets ≡ count
    → drop from content ≡ padded width octets ++ drop end content
padded_from from width count behind end octets content next front unused fits place size =
    let none : ℕ = 0 in
    let zeros : AreZero (from + count) end content = subst (λ (n : ℕ). AreZero n end content) next unused in
    let gap = end - (from + count) in
    let last : (from + count) + gap ≡ end = omega arith in
    let same : gap ≡ width - length octets = omega (arith, size) in
    cut_at from count content
    ∙ ap (λ (s : List ℕ). s ++ drop (from + count) content) front
    ∙ ap (λ (s : List ℕ). octets ++ s)
    (cut_at (from + count) gap content ∙ ap (λ (s : List ℕ). s ++ drop ((from + count) + gap) content) zeros
    ∙ ap (λ (n : ℕ). replicate gap none ++ drop n content) last)
    ∙ sym (append_assoc octets (replicate gap none) (drop end content))
    ∙ ap (λ (m : ℕ). (octets ++ replicate m none) ++ drop end content) same

counts_front : (version : Version) (content : List ℕ) → 4 ≤ length content → ((i : ℕ) → get_or content i 0 < 256)
    → take (counts_end_of version) content ≡ counts_of version (key_count content) (sa_count version content)
counts_front version [] some octets = absurd (omega arith)
counts_front version (x ∷ []) some octets = absurd (omega arith)
counts_front version (x ∷ y ∷ []) some octets = absurd (omega arith)
counts_front version (x ∷ y ∷ z ∷ []) some octets = absurd (omega arith)
counts_front One (x ∷ y ∷ z ∷ w ∷ rest) some octets =
    ap (λ (s : List ℕ). s ++ z ∷ []) (sym (head_two (x ∷ y ∷ z ∷ w ∷ rest) (omega arith) octets))
counts_front Two (x ∷ y ∷ z ∷ w ∷ rest) some octets =
    ap (λ (s : List ℕ). s ++ z ∷ w ∷ []) (sym (head_two (x ∷ y ∷ z ∷ w ∷ rest) (omega arith) octets))
    ∙ ap (λ (s : List ℕ). to_be_bytes w16 (word_at 0 (x ∷ y ∷ z ∷ w ∷ rest)) ++ s)
    (sym (head_two (z ∷ w ∷ rest) (omega arith) (λ i. octets (suc (suc i)))))

pub content_from : (version : Version) (state : State) (content : List ℕ) → length content ≡ content_length_of version
    → ((i : ℕ) → get_or content i 0 < 256)
    → HasRoom version content → keys_in content ≡ key_rows state.keys
    → associations_in version content ≡ sa_rows state.associations
    → key_count content ≡ length state.keys → sa_count version content ≡ length state.associations
    → length (key_rows state.keys) ≡ 96 * length state.keys → length (sa_rows state.associations)
    ≡ 32 * length state.associations
    → content ≡ content_of version state
unfolding content_of
content_from version state content size octets room keys sas key_counted sa_counted keys_size sas_size =
    let counts = counts_of version (key_count content) (sa_count version content) in
    let key_room = padded (key_room_of version) (key_rows state.keys) in
    let sa_room = padded (sa_room_of version) (sa_rows state.associations) in
    let long : 4 ≤ length content = omega (arith, size, whole_length version) in
    let front : content ≡ padded 503 counts ++ drop 503 content =
    padded_from 0 503 (counts_end_of version) (counts_end_of version) 503 counts content (omega arith)
    (counts_front version content long octets) room.gap
    (omega (arith, counts_end_small version)) refl
    (counts_length version (key_count content) (sa_count version content)) in
    let key_rest : drop 503 content ≡ key_room ++ drop (associations_at version) content =
    padded_from 503 (key_room_of version) (96 * key_count content) (503 + 96 * key_count content)
    (associations_at version) (key_rows state.keys) content refl keys room.behind_keys
    (omega (arith, room.keys)) refl (omega (arith, keys_size, key_counted)) in
    let short : length content ≤ content_length_of version = omega (arith, size) in
    let end : drop (content_length_of version) content ≡ [] = drop_of_length-le content short in
    let sa_rest : drop (associations_at version) content ≡ sa_room =
    padded_from (associations_at version) (sa_room_of version) (32 * sa_count version content)
    (associations_at version + 32 * sa_count version content)
    (content_length_of version) (sa_rows state.associations) content refl sas
    room.behind_associations (omega (arith, room.associations)) (whole_length version)
    (omega (arith, sas_size, sa_counted))
    ∙ ap (λ (s : List ℕ). sa_room ++ s) end ∙ append-nil sa_room in
    front
    ∙ ap (λ (s : List ℕ). padded 503 counts ++ s) (key_rest ∙ ap (λ (s : List ℕ). key_room ++ s) sa_rest)
    ∙ sym (append_assoc (padded 503 counts) key_room sa_room)
    ∙ ap (λ (n : ℕ). (padded 503 (counts_of version n (sa_count version content)) ++ key_room) ++ sa_room) key_counted
    ∙ ap (λ (n : ℕ). (padded 503 (counts_of version (length state.keys) n) ++ key_room) ++ sa_room) sa_counted

-- ---- the rows of a state that has the content

pub same_keys : (rows others : List KeyRow) (octets : List ℕ) → AreKeyRows rows octets → AreKeyRows others octets
    → rows ≡ others
same_keys rows others octets are also =
    same_rows key_row_octets AreKeyRowOctets 96 (omega arith) key_sized one_key_row rows others are.each also.each
    (sym are.spelled ∙ also.spelled)

pub keys_are : (version : Version) (state : State) (content : List ℕ) → IsContent version state content
    → AreKeyRows state.keys (keys_in content)
keys_are version state content is =
    record { each = is.rows.keys; spelled = (content_says version state content is).keys }

pub keys_read : (version : Version) (state : State) (content : List ℕ) → IsContent version state content
    → (rows : List KeyRow) → AreKeyRows rows (keys_in content) → rows ≡ state.keys
keys_read version state content is rows are =
    same_keys rows state.keys (keys_in content) are (keys_are version state content is)

pub sas_are : (version : Version) (state : State) (content : List ℕ) → IsContent version state content
    → AreSaRows state.keys state.associations (associations_in version content)
sas_are version state content is =
    let low = rows_low state.keys state.associations is.rules.associations.each is.rules.held
    (ap (λ (s : State). s.associations) is.left) in
    record {
      each = λ k d inside. record { is_row = is.rows.associations k d inside; window = low k d inside };
      spelled = (content_says version state content is).associations;
    }

pub sas_read : (version : Version) (state : State) (content : List ℕ) → IsContent version state content
    → (rows : List SaRow) → AreSaRows state.keys rows (associations_in version content) → rows ≡ state.associations
sas_read version state content is rows are =
    let own = sas_are version state content is in
    same_rows sa_octets (IsRestartedRow state.keys) 32 (omega arith) (sa_sized state.keys) (same_sa state.keys) rows
    state.associations are.each own.each (sym are.spelled ∙ own.spelled)

pub one_state : (version : Version) (one other : State) (content : List ℕ) → IsContent version one content
    → IsContent version other content
    → one.channels ≡ other.channels → one.device ≡ other.device → one ≡ other
one_state version one other content is also channels device =
    let keys = keys_read version other content also one.keys (keys_are version one content is) in
    let rows = subst (λ (keys : List KeyRow). AreSaRows keys one.associations (associations_in version content)) keys
    (sas_are version one content is) in
    let associations = sas_read version other content also one.associations rows in
    λ i. state_of (keys i) (associations i) (channels i) (device i)

-- the highest numbers are in no row
highs_apart : (keys : List KeyRow) (rows : List SaRow) → sa_rows (map (restarted_row keys) rows) ≡ sa_rows rows
highs_apart keys [] = refl
highs_apart keys (row ∷ rows) = ap (λ (s : List ℕ). sa_octets row ++ s) (highs_apart keys rows)

pub restart_leaves_content : (version : Version) (state : State)
    → content_of version (restarted state) ≡ content_of version state
unfolding content_of
restart_leaves_content version state =
    let count : length (map (restarted_row state.keys) state.associations) ≡ length state.associations =
    length-map state.associations (restarted_row state.keys) in
    let rows = highs_apart state.keys state.associations in
    λ i. padded 503 (counts_of version (length state.keys) (count i)) ++ padded (key_room_of version)
    (key_rows state.keys) ++ padded (sa_room_of version) (rows i)

-- rows that were read are those of a state with this content
pub read_content : (version : Version) (keys : List KeyRow) (associations : List SaRow)
    (channels device content : List ℕ) → length content ≡ content_length_of version
    → ((i : ℕ) → get_or content i 0 < 256) → HasRoom version content → AreKeyRows keys (keys_in content)
    → AreSaRows keys associations (associations_in version content)
    → length (keys_in content) ≡ 96 * key_count content → length (associations_in version content)
    ≡ 32 * sa_count version content
    → KeepsRules (state_of keys associations channels device)
    → IsContent version (state_of keys associations channels device) content
read_content version keys associations channels device content size octets room are also key_size sa_size rules =
    let state = state_of keys associations channels device in
    let sas : All IsTypedSa associations =
    λ k d inside. (also.each k d inside).is_row in
    let left = rows_left keys associations (λ k d inside. (also.each k d inside).window) in
    let keys_size = keys_sized keys are.each in
    let sas_size = sas_sized associations sas in
    let key_counted : key_count content ≡ length keys = omega (arith, key_size, keys_size, ap length are.spelled) in
    let sa_counted : sa_count version content ≡ length associations =
    omega (arith, sa_size, sas_size, ap length also.spelled) in
    record {
      rules = rules;
      rows = record {
        keys = are.each;
        associations = sas;
        fits = record {
          keys = omega (arith, key_counted, room.keys);
          associations =
              omega (arith, sa_counted, room.associations);
        };
      };
      left = ap (λ (rows : List SaRow). state_of keys rows channels device) left;
      spelled = content_from version state content size octets room are.spelled also.spelled key_counted sa_counted
          keys_size sas_size;
    }

-- ---- what is made of rows

pub made : {X : Type 0} (Keeps Good : X → Type 0) (result : Result X RowsFault) (value : X) → MakesOf result Keeps value
    → (Keeps value → Good value) → IfOk result Good
made Keeps Good (Ok x) value is good = subst Good (sym is.0) (good is.1)
made Keeps Good (Err fault) value is good = tt

pub not_made : {X : Type 0} (Keeps : X → Type 0) (result : Result X RowsFault) (value : X) (Bad : Type 0)
    → MakesOf result Keeps value
    → (¬ Keeps value → Bad) → IfErr result (λ fault. HasRowsCause fault Bad)
not_made Keeps (Ok x) value Bad is bad = tt
not_made Keeps (Err fault) value Bad is bad = whole_cause fault bad is
