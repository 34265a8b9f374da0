-- The rows that were read up to a place, and those behind it: for `key_rows` and `sa_rows`.
use Rattle.std.proofs.Common.{◌≡◌, ℕ, ◌<◌, List, [], ◌∷◌, ◌++◌, length, take, drop, sym, ap, ◌∙◌, subst, arith, All}
use Rattle.std.proofs.Common.{append_assoc, length-append}
use Rattle.std.specs.List.{flat_map}
use Rattle.std.proofs.Math.Seq.{take-append_seam, drop-append_seam}
use Rattle.std.proofs.lemmas.List.Elements.{All-head, All-tail}
use Rattle.book_record.proofs.Rows.{one_sa_row, key_row_length, sa_row_length}
use Rattle.book_record.specs.KeyParts.{key_row_octets}
use Rattle.book_record.specs.declared.sa_rows.SaParts.{SaParts}
use Rattle.book_record.specs.SaParts.{sa_parts, sa_row_octets}
use Rattle.unit_image.specs.Rows.{HasRowsCause}
use Rattle.unit_image.specs.declared.rows.RowsFault.{RowsFault}
use Rattle.unit_image.specs.declared.rows.RowsFault.TheVariants.{Unfit, NoMemory}
use Rattle.key_book.specs.declared.key_row.KeyRow.{KeyRow}
use Rattle.replay_window.specs.Window.{new_window}
use Rattle.sa_book.specs.declared.sa_book.SaRow.{SaRow}
use Rattle.unit_state.specs.Restart.{restarted_high}
use Rattle.unit_image.specs.ContentReading.{IsRestartedRow, IsTypedKey}

-- what a part has a fault for, the whole has it for
pub whole_cause : (fault : RowsFault) {A B : Type 0} → (A → B) → HasRowsCause fault A → HasRowsCause fault B
whole_cause Unfit f a = f a
whole_cause NoMemory f a = tt

-- ---- rows of one kind: the octets of a row, and which octets are a row's

abbrev pub sa_octets : SaRow → List ℕ
sa_octets row = sa_row_octets (sa_parts row)

-- all are those of the front, and others of which this holds
pub record SplitAt {X : Type 0} (Behind : List X → Type 0) (front all : List X) : Type 0 where
  pub others : List X
  pub split : all ≡ front ++ others
  pub behind : Behind others

-- of rows that are octets, the first is the first octets, and the others those behind them
pub record HeadOf {X : Type 0} (f : X → List ℕ) (Is : X → List ℕ → Type 0) (first behind : List ℕ)
    (rows : List X) : Type 0 where
  pub head : X
  pub tail : List X
  pub rows_are : rows ≡ head ∷ tail
  pub is : Is head first
  pub each : All (λ row. Is row (f row)) tail
  pub spelled : behind ≡ flat_map f tail

pub head_of : {X : Type 0} (f : X → List ℕ) (Is : X → List ℕ → Type 0) (width : ℕ) → 0 < width
    → ((row : X) → Is row (f row) → length (f row) ≡ width)
    → (first behind : List ℕ) → length first ≡ width → (rows : List X) → All (λ row. Is row (f row)) rows
    → first ++ behind ≡ flat_map f rows
    → HeadOf f Is first behind rows
head_of f Is width some sized first behind size [] all spelled =
    absurd (omega (arith, ap length spelled, length-append first behind))
head_of f Is width some sized first behind size (row ∷ rows) all spelled =
    let own = All-head (λ row. Is row (f row)) row rows all in
    let same : length first ≡ length (f row) = size ∙ sym (sized row own) in
    let front : f row ≡ first =
    sym (take-append_seam (f row) (flat_map f rows)) ∙ ap (λ (n : ℕ). take n (f row ++ flat_map f rows)) (sym same)
    ∙ ap (λ (s : List ℕ). take (length first) s) (sym spelled) ∙ take-append_seam first behind in
    let back : behind ≡ flat_map f rows =
    sym (drop-append_seam first behind) ∙ ap (λ (s : List ℕ). drop (length first) s) spelled
    ∙ ap (λ (n : ℕ). drop n (f row ++ flat_map f rows)) same ∙ drop-append_seam (f row) (flat_map f rows) in
    record {
      head = row;
      tail = rows;
      rows_are = (λ i. row ∷ rows);
      is = subst (Is row) front own;
      each = All-tail (λ row. Is row (f row)) row rows all;
      spelled = back;
    }

-- one row more
pub split_more : {X : Type 0} (Behind After : List X → Type 0) (front all : List X) (row : X)
    (s : SplitAt Behind front all) (tail : List X)
    → s.others ≡ row ∷ tail → After tail → SplitAt After (front ++ row ∷ []) all
split_more Behind After front all row s tail is after = record {
  others = tail;
  split = s.split ∙ ap (λ rows. front ++ rows) is ∙ sym (append_assoc front (row ∷ []) tail);
  behind = after;
}

-- ---- keys

pub key_sized : (row : KeyRow) → IsTypedKey row → length (key_row_octets row) ≡ 96
key_sized row is = key_row_length row (key_row_octets row) is

-- ---- associations

pub sa_sized : (keys : List KeyRow) (row : SaRow) → IsRestartedRow keys row (sa_octets row)
    → length (sa_octets row) ≡ 32
sa_sized keys row is = sa_row_length (sa_parts row) (sa_octets row) is.is_row

pub same_sa : (keys : List KeyRow) (a b : SaRow) (octets : List ℕ) → IsRestartedRow keys a octets
    → IsRestartedRow keys b octets → a ≡ b
same_sa keys a b octets is also =
    let same = one_sa_row (sa_parts a) (sa_parts b) octets is.is_row also.is_row in
    let window : a.window ≡ b.window = is.window
    ∙ ap (λ (parts : SaParts). new_window (restarted_high keys parts.sa.direction parts.key 0) parts.sa.window) same
    ∙ sym also.window in
    λ i. record {
      spi = (same i).sa.spi;
      direction = (same i).sa.direction;
      suite = (same i).sa.suite;
      state = (same i).state;
      key = (same i).key;
      channels = (same i).sa.channels;
      window = window i;
    }
