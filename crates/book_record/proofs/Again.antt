-- A record is read again, and what may stand at its places is a change that has a record.
use Rattle.std.proofs.Common.{◌≡◌, ℕ, zero, suc, ◌+◌, ◌*◌, ◌^◌, ◌<◌, ◌≤◌, Bool, true, false, List, [], ◌∷◌, ◌++◌}
use Rattle.std.proofs.Common.{length, get_or, take, drop, replicate, Option, Some, None, refl, sym, ap, ◌∙◌, subst}
use Rattle.std.proofs.Common.{arith, append_assoc}
use Rattle.std.specs.Prelude.{◌≢◌, ◌-◌, if◌then◌else◌, ◌==◌}
use Rattle.std.specs.List.{flat_map, AllByRecursion}
use Rattle.std.specs.Int.{w16, w64, from_be_bytes, to_be_bytes}
use Rattle.std.proofs.Math.Seq.{take-append_seam, drop-append_seam}
use Rattle.std.specs.Str.{bytes_eq}
use Rattle.std.proofs.lemmas.Slice.Eq.{bytes_eq-Decides}
use Rattle.std.proofs.lemmas.Bool.{true≢false, ne_eqb}
use Rattle.std.proofs.lemmas.List.{drop-drop, get_or-drop}
use Rattle.std.proofs.lemmas.List.Elements.{recursion_from_All, All-from_recursion}
use Rattle.std.proofs.lemmas.Nat.{from_be_bytes-to_be_bytes_2, from_be_bytes-to_be_bytes_8}
use Rattle.sdls_base.specs.Bounds.{AreChannels, IsKeyLength, IsKeyCount}
use Rattle.sdls_base.specs.Code.{key_state_code, new_state_code, direction_code, suite_code, key_state_of}
use Rattle.sdls_base.specs.Spelling.{item_octets, association_octets}
use Rattle.sdls_base.proofs.Codes.{key_state_again, new_state_again, direction_again, suite_again}
use Rattle.sdls_base.proofs.PlaceFacts.{word_in_front}
use Rattle.sdls_base.specs.declared.entry.Change.{Change}
use Rattle.sdls_base.specs.declared.entry.Change.TheVariants.{Marks, Load, KeyStates, Create, Rekey, SaTo, SetNumber}
use Rattle.sdls_base.specs.declared.entry.Change.TheVariants.{SetWindow, Accepted, Nothing}
use Rattle.sdls_base.specs.declared.key_id.KeyItem.{KeyItem}
use Rattle.sdls_base.specs.declared.states.Direction.{Direction}
use Rattle.sdls_base.specs.declared.states.Direction.TheVariants.{Send, Receive}
use Rattle.sdls_base.specs.declared.states.Suite.{Suite}
use Rattle.sdls_base.specs.declared.states.Suite.TheVariants.{Cmac, Gcm}
use Rattle.sdls_base.specs.declared.states.KeyState.{KeyState}
use Rattle.sdls_base.specs.declared.states.KeyState.TheVariants.{PreActive, Active, Deactivated, Destroyed}
use Rattle.sdls_base.specs.declared.states.SaState.{SaState}
use Rattle.sdls_base.specs.declared.states.SaState.TheVariants.{Unkeyed, Keyed, Operational}
use Rattle.book_record.specs.declared.data.Kind.{Kind}
use Rattle.book_record.specs.declared.data.Kind.TheVariants as kinds
use Rattle.book_record.specs.declared.data.RecordError.{RecordError}
use Rattle.book_record.specs.declared.data.RecordError.TheVariants.{Malformed, NoMemory}
use Rattle.book_record.specs.Kind.{kind_of}
use Rattle.book_record.specs.Record.{body_of, record_octets, HasRecord, HasTypes, IsRecord, IsKey, IsSpi}
use Rattle.sdls_base.specs.Places.{octet_at, word_at, number_at}
use Rattle.book_record.specs.Reading.{HasCause, IsWithin, keys_in, AreKeys, item_at, behind_item, items_in, AreItems}
use Rattle.book_record.specs.Reading.{channels_at, change_at, MayStand}
use Rattle.book_record.proofs.Lists.{item_end, item_length}

-- ---- codes

key_state_within : (state : KeyState) → state ≢ PreActive → IsWithin 2 4 (key_state_code state)
key_state_within PreActive not = absurd (not refl)
key_state_within Active not = record { from = omega arith; to = omega arith }
key_state_within Deactivated not = record { from = omega arith; to = omega arith }
key_state_within Destroyed not = record { from = omega arith; to = omega arith }

new_state_within : (to : Option SaState) → new_state_code to ≤ 3
new_state_within None = omega arith
new_state_within (Some Unkeyed) = omega arith
new_state_within (Some Keyed) = omega arith
new_state_within (Some Operational) = omega arith

pub direction_within : (direction : Direction) → IsWithin 1 2 (direction_code direction)
direction_within Send = record { from = omega arith; to = omega arith }
direction_within Receive = record { from = omega arith; to = omega arith }

pub suite_within : (suite : Suite) → IsWithin 1 2 (suite_code suite)
suite_within Cmac = record { from = omega arith; to = omega arith }
suite_within Gcm = record { from = omega arith; to = omega arith }

-- ---- numbers

pub key_again : (key : ℕ) → IsKey key → from_be_bytes w16 (to_be_bytes w16 key) ≡ key
key_again key is = from_be_bytes-to_be_bytes_2 key is.1

pub spi_again : (spi : ℕ) → IsSpi spi → from_be_bytes w16 (to_be_bytes w16 spi) ≡ spi
spi_again spi is = from_be_bytes-to_be_bytes_2 spi (omega (arith, is.1))

pub number_again : (n : ℕ) → n < 2 ^ 64 → from_be_bytes w64 (to_be_bytes w64 n) ≡ n
number_again n is = from_be_bytes-to_be_bytes_8 n is

-- ---- lists

record KeysAgain (ids : List ℕ) (at : ℕ) (octets : List ℕ) : Type 0 where
  may : AreKeys (length ids) at octets
  same : keys_in (length ids) at octets ≡ ids

keys_again : (ids : List ℕ) (at : ℕ) (octets back : List ℕ) → AllByRecursion IsKey ids
    → drop at octets ≡ flat_map (to_be_bytes w16) ids ++ back → KeysAgain ids at octets
keys_again [] at octets back are stands = record { may = tt; same = refl }
keys_again (key ∷ ids) at octets back are stands =
    let head : word_at at octets ≡ key = word_in_front at octets (flat_map (to_be_bytes w16) (key ∷ ids) ++ back) stands
    ∙ key_again key are.0 in
    let rest : drop (at + 2) octets ≡ flat_map (to_be_bytes w16) ids ++ back =
    sym (drop-drop 2 at octets) ∙ ap (λ (s : List ℕ). drop 2 s) stands in
    let tail = keys_again ids (at + 2) octets back are.1 rest in
    let others = tail.same in
    record { may = (subst IsKey (sym head) are.0, tail.may); same = cc }

record ItemsAgain (items : List KeyItem) (at : ℕ) (octets : List ℕ) : Type 0 where
  may : AreItems (length items) at octets
  same : items_in (length items) at octets ≡ items

abbrev IsGood : KeyItem → Type 0
IsGood item = IsKey item.id × IsKeyLength (length item.bytes)

items_again : (items : List KeyItem) (at : ℕ) (octets back : List ℕ) → AllByRecursion (λ item. IsKey item.id) items
    → AllByRecursion (λ item. IsKeyLength (length item.bytes)) items
    → drop at octets ≡ flat_map item_octets items ++ back → ItemsAgain items at octets
items_again [] at octets back ids lengths stands = record { may = tt; same = refl }
items_again (item ∷ items) at octets back ids lengths stands =
    let bytes = item.bytes in
    let after = flat_map item_octets items ++ back in
    let head : word_at at octets ≡ item.id =
    word_in_front at octets (flat_map item_octets (item ∷ items) ++ back) stands ∙ key_again item.id ids.0 in
    let size : octet_at (at + 2) octets ≡ length bytes =
    sym (get_or-drop at octets 2 0) ∙ ap (λ (s : List ℕ). get_or s 2 0) stands in
    let third : drop (at + 3) octets ≡ bytes ++ after =
    sym (drop-drop 3 at octets) ∙ ap (λ (s : List ℕ). drop 3 s) stands ∙ append_assoc bytes (flat_map item_octets items)
    back in
    let key : take (octet_at (at + 2) octets) (drop (at + 3) octets) ≡ bytes =
    ap (λ (n : ℕ). take n (drop (at + 3) octets)) size ∙ ap (λ (s : List ℕ). take (length bytes) s) third
    ∙ take-append_seam bytes after in
    let rest : drop (behind_item at octets) octets ≡ after =
    sym (drop-drop (octet_at (at + 2) octets) (at + 3) octets) ∙ ap (λ (n : ℕ). drop n (drop (at + 3) octets)) size
    ∙ ap (λ (s : List ℕ). drop (length bytes) s) third ∙ drop-append_seam bytes after in
    let tail = items_again items (behind_item at octets) octets back ids.1 lengths.1 rest in
    let others = tail.same in
    let first : item_at at octets ≡ item = λ i. record { id = head i; bytes = key i } in
    record { may = ((subst IsKey (sym head) ids.0, subst IsKeyLength (sym size) lengths.0), tail.may); same = cc }

-- ---- a record is read again

pub record Found (change : Change) (body : List ℕ) : Type 0 where
  pub kind : Kind
  pub found : kind_of (octet_at 0 body) ≡ Some kind
  pub may : MayStand kind body
  pub value : change_at kind body ≡ change

zeros_behind : List ℕ → List ℕ
zeros_behind data_octets = replicate (511 - (3 + length data_octets)) 0

again : (change : Change) → HasTypes change → HasRecord change → Found change (record_octets change)
unfolding kind_of record_octets HasTypes HasRecord MayStand change_at
again (Marks key mark floor) is bounds =
    let body = record_octets (Marks key mark floor) in
    let e : word_at 3 body ≡ key = key_again key is.0 in
    let f : number_at 5 body ≡ mark = number_again mark is.1 in
    let g : number_at 13 body ≡ floor = number_again floor is.2 in
    record { kind = kinds.Marks; found = refl; may = subst IsKey (sym e) is.0; value = cc }
again (Load items) is bounds =
    let data_octets = length items ∷ flat_map item_octets items in
    let body = body_of 2 data_octets in
    let each = recursion_from_All (λ item. IsKey item.id) items is in
    let lengths = recursion_from_All (λ item. IsKeyLength (length item.bytes)) items bounds.1 in
    let read = items_again items 4 body (replicate (511 - (3 + length data_octets)) 0) each lengths refl in
    record { kind = kinds.Load; found = refl; may = (bounds.0, read.may); value = ap Load read.same }
again (KeyStates ids to) is bounds =
    let data_octets = key_state_code to ∷ length ids ∷ flat_map (to_be_bytes w16) ids in
    let body = body_of 3 data_octets in
    let read = keys_again ids 5 body (replicate (511 - (3 + length data_octets)) 0) (recursion_from_All IsKey ids is)
    refl in
    let f = read.same in
    let g = key_state_again to in
    record {
      kind = kinds.KeyStates;
      found = refl;
      may = (key_state_within to bounds.0, bounds.1, read.may);
      value = λ i. KeyStates (f i) (g i);
    }
again (Create new) is bounds =
    let data_octets = association_octets new in
    let body = body_of 4 data_octets in
    let e : word_at 3 body ≡ new.spi = spi_again new.spi is.0 in
    let f : number_at 7 body ≡ new.window = number_again new.window is.1 in
    let g = direction_again new.direction in
    let h = suite_again new.suite in
    let k : channels_at 15 body ≡ new.channels =
    take-append_seam new.channels (replicate (511 - (3 + length data_octets)) 0) in
    record {
      kind = kinds.Create;
      found = refl;
      may = (
        subst IsSpi (sym e) is.0,
        direction_within new.direction,
        suite_within new.suite,
        subst AreChannels (sym k) bounds,
      );
      value = λ i. Create (record { spi = e i; direction = g i; suite = h i; window = f i; channels = k i });
    }
again (Rekey spi key number) is bounds =
    let body = record_octets (Rekey spi key number) in
    let e : word_at 3 body ≡ spi = spi_again spi is.0 in
    let f : word_at 5 body ≡ key = key_again key is.1 in
    let g : number_at 7 body ≡ number = number_again number is.2 in
    record { kind = kinds.Rekey; found = refl; may = (subst IsSpi (sym e) is.0, subst IsKey (sym f) is.1); value = cc }
again (SaTo spi to) is bounds =
    let body = record_octets (SaTo spi to) in
    let e : word_at 3 body ≡ spi = spi_again spi is in
    let f = new_state_again to in
    record {
      kind = kinds.SaTo;
      found = refl;
      may = (subst IsSpi (sym e) is, new_state_within to);
      value = λ i. SaTo (e i) (f i);
    }
again (SetNumber spi number) is bounds =
    let body = record_octets (SetNumber spi number) in
    let e : word_at 3 body ≡ spi = spi_again spi is.0 in
    let f : number_at 5 body ≡ number = number_again number is.1 in
    record { kind = kinds.SetNumber; found = refl; may = subst IsSpi (sym e) is.0; value = cc }
again (SetWindow spi window) is bounds =
    let body = record_octets (SetWindow spi window) in
    let e : word_at 3 body ≡ spi = spi_again spi is.0 in
    let f : number_at 5 body ≡ window = number_again window is.1 in
    record { kind = kinds.SetWindow; found = refl; may = subst IsSpi (sym e) is.0; value = cc }
again (Accepted spi key number floor) is bounds = absurd bounds
again Nothing is bounds = absurd bounds

pub record_found : (change : Change) (body : List ℕ) → IsRecord change body → Found change body
record_found change body is = subst (Found change) (sym is.spelled) (again change is.types is.bounds)

-- what a record says is what stands at the places of its kind
pub record SaysChange (change : Change) (kind : Kind) (body : List ℕ) : Type 0 where
  pub may : MayStand kind body
  pub value : change_at kind body ≡ change

same_kind : (a b : Kind) → Some a ≡ Some b → a ≡ b
same_kind a b e = cc

pub record_says : (change : Change) (body : List ℕ) (kind : Kind) → kind_of (octet_at 0 body) ≡ Some kind
    → IsRecord change body → SaysChange change kind body
record_says change body kind e is =
    let found = record_found change body is in
    let same : found.kind ≡ kind = same_kind found.kind kind (sym found.found ∙ e) in
    subst (λ (k : Kind). SaysChange change k body) same (record { may = found.may; value = found.value })

-- where the kind is none there is no record
pub no_kind : (change : Change) (body : List ℕ) → kind_of (octet_at 0 body) ≡ None → ¬ IsRecord change body
no_kind change body e is =
    let found = record_found change body is in
    let both : None ≡ Some found.kind = sym e ∙ found.found in
    absurd cc

-- octets that differ are not the same
pub unequal : (written body : List ℕ) → false ≡ bytes_eq written body → written ≢ body
unequal written body test same = true≢false (sym (test ∙ (bytes_eq-Decides written body).1 same))

-- where it may stand there, the reader ran out of memory
pub wants_memory : (e : RecordError) {A : Type 0} → HasCause e (¬ A) → A → e ≡ NoMemory
wants_memory Malformed not a = absurd (not a)
wants_memory NoMemory not a = refl

-- no two changes have one record
pub one_change : (a b : Change) (body : List ℕ) → IsRecord a body → IsRecord b body → a ≡ b
one_change a b body is also =
    let found = record_found a body is in
    sym found.value ∙ (record_says b body found.kind found.found also).value

-- ---- what may stand there has a record

keys_count : (n at : ℕ) (octets : List ℕ) → length (keys_in n at octets) ≡ n
keys_count zero at octets = refl
keys_count (suc n) at octets = omega (arith, keys_count n (at + 2) octets)

items_count : (n at : ℕ) (octets : List ℕ) → length (items_in n at octets) ≡ n
items_count zero at octets = refl
items_count (suc n) at octets = omega (arith, items_count n (behind_item at octets) octets)

items_lengths : (n at : ℕ) (octets : List ℕ) → at + 35 * n ≤ length octets → AreItems n at octets
    → AllByRecursion (λ item. IsKeyLength (length item.bytes)) (items_in n at octets)
items_lengths zero at octets room are = tt
items_lengths (suc n) at octets room are = (
  subst IsKeyLength (sym (item_length at octets are.0 (omega arith))) are.0.1,
  items_lengths n (behind_item at octets) octets (omega (arith, item_end at octets are.0)) are.1,
)

no_pre_active : (n : ℕ) → 2 ≤ n → key_state_of n ≢ PreActive
no_pre_active n least = later (n == 1) (n == 2) (n == 3) (ne_eqb n 1 (λ e. omega (arith, e, least))) where
  later : (a b c : Bool) → a ≡ false
      → (if a then PreActive else (if b then Active else (if c then Deactivated else Destroyed))) ≢ PreActive
  later true b c first e = absurd cc
  later false true c first e = absurd cc
  later false false true first e = absurd cc
  later false false false first e = absurd cc

pub has_record : (kind : Kind) (body : List ℕ) → length body ≡ 511 → MayStand kind body
    → HasRecord (change_at kind body)
unfolding HasRecord MayStand change_at
has_record kinds.Marks body n may = tt
has_record kinds.Load body n may =
    let count = octet_at 3 body in (
      subst IsKeyCount (sym (items_count count 4 body)) may.0,
      All-from_recursion (λ item. IsKeyLength (length item.bytes)) (items_in count 4 body)
          (items_lengths count 4 body (omega (arith, may.0.most)) may.1),
    )
has_record kinds.KeyStates body n may =
    (no_pre_active (octet_at 3 body) may.0.from, subst IsKeyCount (sym (keys_count (octet_at 4 body) 5 body)) may.1)
has_record kinds.Create body n may = may.3
has_record kinds.Rekey body n may = tt
has_record kinds.SaTo body n may = tt
has_record kinds.SetNumber body n may = tt
has_record kinds.SetWindow body n may = tt
