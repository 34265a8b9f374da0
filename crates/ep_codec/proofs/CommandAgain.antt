-- A command that was written is read again.
use Rattle.std.proofs.Common.{◌≡◌, ℕ, ◌+◌, ◌-◌, ◌*◌, ◌%◌, ◌^◌, ◌<◌, true, List, [], ◌∷◌, ◌++◌, length, take, None, refl}
use Rattle.std.proofs.Common.{sym, ap, ◌∙◌, arith, append_assoc, length-append}
use Rattle.std.specs.Prelude.{◌&&◌, ◌==◌, IsTrue, slice_range}
use Rattle.std.specs.Int.{w16, w64, to_be_bytes, is_in_range}
use Rattle.std.proofs.lemmas.Bool.{and_from, le-leb, eq-eqb}
use Rattle.std.proofs.lemmas.List.{take_all, drop_at, take_at, append-nil}
use Rattle.std.proofs.lemmas.Nat.{from_be_bytes-to_be_bytes_2, from_be_bytes-to_be_bytes_8}
use Rattle.sdls_base.specs.declared.TheConstants.{MOST_WINDOW}
use Rattle.replay_window.specs.WindowField.{width_of, IsWindowField}
use Rattle.replay_window.proofs.Fields.{field_small}
use Rattle.ep_codec.specs.declared.procedure.PduType.TheVariants as types
use Rattle.ep_codec.specs.declared.procedure.Procedure.{Procedure}
use Rattle.ep_codec.specs.declared.procedure.Procedure.TheVariants as procedures
use Rattle.ep_codec.specs.declared.command.Command.{Command}
use Rattle.ep_codec.specs.declared.command.Command.TheVariants.{Rekeying, Activate, Deactivate, Verify, Destroy}
use Rattle.ep_codec.specs.declared.command.Command.TheVariants.{Inventory, Compose, ReadNumber, Create, Delete}
use Rattle.ep_codec.specs.declared.command.Command.TheVariants.{SetWindow, Rekey, Expire, SetNumber, Start, Stop}
use Rattle.ep_codec.specs.declared.command.Command.TheVariants.{Status}
use Rattle.sdls_base.specs.FirstFailing.{Check, first_failing}
use Rattle.sdls_base.specs.Bounds.{IsKeyCount}
use Rattle.sdls_base.specs.Spelling.{association_octets}
use Rattle.ep_codec.specs.Command.{message, sealed_data, keys_data, command_octets, IsInBounds, HasTypes, IsCommandPdu}
use Rattle.ep_codec.specs.CommandReading.{command_at, command_procedure}
use Rattle.sdls_base.specs.Code.{direction_code, suite_code}
use Rattle.sdls_base.specs.Places.{octet_at, word_at, number_at}
use Rattle.ep_codec.specs.Field.{is_key, is_spi, is_window, key_check, spi_check, window_check, code_check, count_check}
use Rattle.ep_codec.specs.FieldList.{key_checks, channel_checks}
use Rattle.ep_codec.specs.MessageFault.{command_checks}
use Rattle.ep_codec.specs.Procedure.{tag_of, has_command_length}
use Rattle.ep_codec.proofs.FieldFacts.{low_bound, high_bound, in_bounds, keeps}
use Rattle.ep_codec.proofs.HeaderFacts.{Passes, header_again}
use Rattle.sdls_base.proofs.Codes.{direction_again, suite_again}
use Rattle.ep_codec.proofs.CommandFacts.{direction_in, suite_in}
use Rattle.ep_codec.proofs.Lengths.{keys_length}
use Rattle.ep_codec.proofs.ListFacts.{keys_read_again, keys_pass, channels_pass}

-- ---- ranges of octets that stand one behind the other

pub range_at : (front middle back : List ℕ) (a b : ℕ) → a ≡ length front → b ≡ length front + length middle
    → slice_range (front ++ (middle ++ back)) a b ≡ middle
range_at front middle back a b p q =
    let n : length middle ≡ b - a = omega arith in
    ap (λ (s : List ℕ). take (b - a) s) (drop_at front (middle ++ back) a (sym p)) ∙ take_at middle back (b - a) n

pub record SealedAgain (octets vector sealed tag : List ℕ) (at : ℕ) : Type 0 where
  pub vector_again : slice_range octets at (at + 12) ≡ vector
  pub sealed_again : slice_range octets (at + 12) (length octets - 16) ≡ sealed
  pub tag_again : slice_range octets (length octets - 16) (length octets) ≡ tag

pub sealed_again : (front vector sealed tag : List ℕ) (at : ℕ) → at ≡ length front → length vector ≡ 12
    → length tag ≡ 16
    → SealedAgain (front ++ (vector ++ (sealed ++ tag))) vector sealed tag at
sealed_again front vector sealed tag at p v t =
    let octets = front ++ (vector ++ (sealed ++ tag)) in
    let second : octets ≡ (front ++ vector) ++ (sealed ++ tag) = sym (append_assoc front vector (sealed ++ tag)) in
    let third : octets ≡ ((front ++ vector) ++ sealed) ++ (tag ++ []) =
    second ∙ sym (append_assoc (front ++ vector) sealed tag) ∙ ap (λ (s : List ℕ). ((front ++ vector) ++ sealed) ++ s)
    (sym (append-nil tag)) in
    let n : length octets ≡ at + 12 + length sealed + 16 =
    omega (
      arith,
      length-append front (vector ++ (sealed ++ tag)),
      length-append vector (sealed ++ tag),
      length-append sealed tag,
    ) in
    let m = length-append front vector in
    let k = length-append (front ++ vector) sealed in
    record {
      vector_again = range_at front vector (sealed ++ tag) at (at + 12) p (omega arith);
      sealed_again = ap (λ (s : List ℕ). slice_range s (at + 12) (length octets - 16)) second
          ∙ range_at (front ++ vector) sealed tag (at + 12) (length octets - 16) (omega arith) (omega arith);
      tag_again = ap (λ (s : List ℕ). slice_range s (length octets - 16) (length octets)) third
          ∙ range_at ((front ++ vector) ++ sealed) tag [] (length octets - 16) (length octets) (omega arith)
          (omega arith);
    }

-- ---- fields that are read again

pub spi_again : (spi : ℕ) → IsTrue (is_spi spi) → (octets : List ℕ) → word_at 3 octets ≡ spi → (checks : List (Check ℕ))
    → first_failing checks ≡ None
    → first_failing (spi_check 3 octets ∷ checks) ≡ None
spi_again spi is octets e checks none = keeps (is_spi (word_at 3 octets)) 3 checks (ap is_spi e ∙ is) none

pub key_passes : (at key : ℕ) → IsTrue (is_key key) → (octets : List ℕ) → word_at at octets ≡ key
    → (checks : List (Check ℕ)) → first_failing checks ≡ None
    → first_failing (key_check at octets ∷ checks) ≡ None
key_passes at key is octets e checks none = keeps (is_key (word_at at octets)) at checks (ap is_key e ∙ is) none

pub spi_small : (spi : ℕ) → IsTrue (is_spi spi) → spi < 2 ^ 16
spi_small spi is = omega (arith, high_bound 1 65534 spi is)

pub key_small : (key : ℕ) → IsTrue (is_key key) → key < 2 ^ 16
key_small key is = omega (arith, high_bound 1 65535 key is)

pub window_passes : (window : ℕ) → IsWindowField window → is_window window ≡ true
window_passes window is =
    and_from _ _ (le-leb _ _ is.back) (in_bounds 1 MOST_WINDOW (width_of window) is.width.least is.width.most)

-- ---- commands

-- the octets have no fault, and this value at their places
pub record ReadAgain (p : Procedure) (command : Command) (octets : List ℕ) : Type 0 where
  pub header : Passes types.Command p octets
  pub fields : first_failing (command_checks p octets) ≡ None
  pub value : command_at p octets ≡ command

keys_header : (p : Procedure) (keys : List ℕ) → ((n : ℕ) → has_command_length p n ≡ (is_in_range 2 16 n && n % 2 == 0))
    → IsKeyCount (length keys)
    → Passes types.Command p (message (tag_of p) (keys_data keys))
keys_header p keys fits count =
    let n = keys_length keys in
    let low = count.least in
    let high = count.most in
    let m = length (keys_data keys) in
    let even : m % 2 ≡ 0 = omega arith in
    header_again types.Command p (keys_data keys)
    (fits m ∙ and_from (is_in_range 2 16 m) (m % 2 == 0) (in_bounds 2 16 m (omega arith) (omega arith))
    (eq-eqb (m % 2) 0 even)) (omega arith)

again : (command : Command) → HasTypes command → IsInBounds command
    → ReadAgain (command_procedure command) command (command_octets command)
unfolding command_checks command_at command_octets HasTypes IsInBounds
again (Rekeying master vector sealed tag) is bounds =
    let body = sealed_data master vector sealed tag in
    let octets = message 0x01 body in
    let low = low_bound 19 280 (length sealed) bounds in
    let high = high_bound 19 280 (length sealed) bounds in
    let n : length body ≡ 2 + 12 + length sealed + 16 =
    omega (arith, is.1, is.2, length-append vector (sealed ++ tag), length-append sealed tag) in
    let e : word_at 3 octets ≡ master = from_be_bytes-to_be_bytes_2 master (key_small master is.0) in
    let parts = sealed_again (take 5 octets) vector sealed tag 5 refl is.1 is.2 in
    let f = parts.vector_again in
    let g = parts.sealed_again in
    let h = parts.tag_again in
    record {
      header = header_again types.Command procedures.Rekeying body
          (in_bounds 49 310 (length body) (omega arith) (omega arith)) (omega arith);
      fields = key_passes 3 master is.0 octets e [] refl;
      value = cc;
    }
again (Activate keys) is bounds = record {
  header = keys_header procedures.Activate keys (λ n. refl) bounds;
  fields = keys_pass 3 keys is;
  value = ap Activate (keys_read_again keys is);
}
again (Deactivate keys) is bounds = record {
  header = keys_header procedures.Deactivate keys (λ n. refl) bounds;
  fields = keys_pass 3 keys is;
  value = ap Deactivate (keys_read_again keys is);
}
again (Verify key challenge) is bounds =
    let body = to_be_bytes w16 key ++ challenge in
    let octets = message 0x04 body in
    let n : length body ≡ 18 = omega (arith, is.1) in
    let e : word_at 3 octets ≡ key = from_be_bytes-to_be_bytes_2 key (key_small key is.0) in
    let f : slice_range octets 5 21 ≡ challenge = take_all 16 challenge (omega (arith, is.1)) in
    record {
      header = header_again types.Command procedures.Verify body (eq-eqb (length body) 18 n) (omega arith);
      fields = key_passes 3 key is.0 octets e [] refl;
      value = cc;
    }
again (Destroy keys) is bounds = record {
  header = keys_header procedures.Destroy keys (λ n. refl) bounds;
  fields = keys_pass 3 keys is;
  value = ap Destroy (keys_read_again keys is);
}
again (Inventory first last) is bounds =
    let octets = message 0x07 (to_be_bytes w16 first ++ to_be_bytes w16 last) in
    let e : word_at 3 octets ≡ first = from_be_bytes-to_be_bytes_2 first is.0 in
    let f : word_at 5 octets ≡ last = from_be_bytes-to_be_bytes_2 last is.1 in
    record {
      header = header_again types.Command procedures.Inventory (to_be_bytes w16 first ++ to_be_bytes w16 last) refl
          (omega arith);
      fields = keeps (is_in_range (word_at 3 octets) 65535 (word_at 5 octets)) 5 []
          (in_bounds (word_at 3 octets) 65535 (word_at 5 octets) (omega (arith, is.1)) (omega (arith, is.1))) refl;
      value = cc;
    }
again (Compose master keys) is bounds =
    let body = to_be_bytes w16 master ++ keys_data keys in
    let octets = message 0x08 body in
    let n : length body ≡ 2 + 2 * length keys = omega (arith, keys_length keys) in
    let low = bounds.least in
    let high = bounds.most in
    let even : length body % 2 ≡ 0 = omega arith in
    let e : word_at 3 octets ≡ master = from_be_bytes-to_be_bytes_2 master (key_small master is.0) in
    let f = keys_read_again keys is.1 in
    record {
      header = header_again types.Command procedures.Compose body
          (and_from (is_in_range 4 18 (length body)) (length body % 2 == 0)
          (in_bounds 4 18 (length body) (omega arith) (omega arith)) (eq-eqb (length body % 2) 0 even)) (omega arith);
      fields = key_passes 3 master is.0 octets e (key_checks 5 (keys_data keys)) (keys_pass 5 keys is.1);
      value = cc;
    }
again (ReadNumber spi) is bounds =
    let e : word_at 3 (message 0x10 (to_be_bytes w16 spi)) ≡ spi = from_be_bytes-to_be_bytes_2 spi (spi_small spi is) in
    record {
      header = header_again types.Command procedures.ReadNumber (to_be_bytes w16 spi) refl (omega arith);
      fields = spi_again spi is (message 0x10 (to_be_bytes w16 spi)) e [] refl;
      value = ap ReadNumber e;
    }
again (Create sa) is bounds =
    let body = association_octets sa in
    let octets = message 0x11 body in
    let channels = sa.channels in
    let low = bounds.1.one in
    let high = bounds.1.most in
    let e : word_at 3 octets ≡ sa.spi = from_be_bytes-to_be_bytes_2 sa.spi (spi_small sa.spi is) in
    let f : number_at 7 octets ≡ sa.window = from_be_bytes-to_be_bytes_8 sa.window (field_small sa.window bounds.0) in
    let g = direction_again sa.direction in
    let h = suite_again sa.suite in
    let whole : length octets ≡ 16 + length channels = omega arith in
    let count : (octet_at 15 octets == length octets - 16) ≡ true =
    eq-eqb (length channels) (length octets - 16) (omega arith) in
    let pass : first_failing (channel_checks 16 0 channels) ≡ None =
    channels_pass 16 channels bounds.1.ascending bounds.2 in
    record {
      header = header_again types.Command procedures.Create body
          (in_bounds 14 21 (length body) (omega arith) (omega arith)) (omega arith);
      fields = spi_again sa.spi is octets e (code_check 2 5 octets ∷ code_check 2 6 octets ∷ window_check 7 octets
          ∷ count_check 15 octets ∷ channel_checks 16 0 channels)
          (keeps (is_in_range 1 2 (direction_code sa.direction)) 5
          (code_check 2 6 octets ∷ window_check 7 octets ∷ count_check 15 octets ∷ channel_checks 16 0 channels)
          (direction_in sa.direction)
          (keeps (is_in_range 1 2 (suite_code sa.suite)) 6
          (window_check 7 octets ∷ count_check 15 octets ∷ channel_checks 16 0 channels) (suite_in sa.suite)
          (keeps (is_window (number_at 7 octets)) 7 (count_check 15 octets ∷ channel_checks 16 0 channels)
          (ap is_window f ∙ window_passes sa.window bounds.0)
          (keeps (octet_at 15 octets == length octets - 16) 15 (channel_checks 16 0 channels) count pass))));
      value = λ i. Create (record { spi = e i; direction = g i; suite = h i; window = f i; channels = channels });
    }
again (Delete spi) is bounds =
    let e : word_at 3 (message 0x14 (to_be_bytes w16 spi)) ≡ spi = from_be_bytes-to_be_bytes_2 spi (spi_small spi is) in
    record {
      header = header_again types.Command procedures.Delete (to_be_bytes w16 spi) refl (omega arith);
      fields = spi_again spi is (message 0x14 (to_be_bytes w16 spi)) e [] refl;
      value = ap Delete e;
    }
again (SetWindow spi window) is bounds =
    let body = to_be_bytes w16 spi ++ to_be_bytes w64 window in
    let octets = message 0x15 body in
    let e : word_at 3 octets ≡ spi = from_be_bytes-to_be_bytes_2 spi (spi_small spi is) in
    let f : number_at 5 octets ≡ window = from_be_bytes-to_be_bytes_8 window (field_small window bounds) in
    record {
      header = header_again types.Command procedures.SetWindow body refl (omega arith);
      fields = spi_again spi is octets e (window_check 5 octets ∷ [])
          (keeps (is_window (number_at 5 octets)) 5 [] (ap is_window f ∙ window_passes window bounds) refl);
      value = cc;
    }
again (Rekey spi key number) is bounds =
    let body = to_be_bytes w16 spi ++ (to_be_bytes w16 key ++ to_be_bytes w64 number) in
    let octets = message 0x16 body in
    let e : word_at 3 octets ≡ spi = from_be_bytes-to_be_bytes_2 spi (spi_small spi is.0) in
    let f : word_at 5 octets ≡ key = from_be_bytes-to_be_bytes_2 key (key_small key is.1) in
    let g : number_at 7 octets ≡ number = from_be_bytes-to_be_bytes_8 number is.2 in
    record {
      header = header_again types.Command procedures.Rekey body refl (omega arith);
      fields = spi_again spi is.0 octets e (key_check 5 octets ∷ []) (key_passes 5 key is.1 octets f [] refl);
      value = cc;
    }
again (Expire spi) is bounds =
    let e : word_at 3 (message 0x19 (to_be_bytes w16 spi)) ≡ spi = from_be_bytes-to_be_bytes_2 spi (spi_small spi is) in
    record {
      header = header_again types.Command procedures.Expire (to_be_bytes w16 spi) refl (omega arith);
      fields = spi_again spi is (message 0x19 (to_be_bytes w16 spi)) e [] refl;
      value = ap Expire e;
    }
again (SetNumber spi number) is bounds =
    let body = to_be_bytes w16 spi ++ to_be_bytes w64 number in
    let octets = message 0x1a body in
    let e : word_at 3 octets ≡ spi = from_be_bytes-to_be_bytes_2 spi (spi_small spi is.0) in
    let f : number_at 5 octets ≡ number = from_be_bytes-to_be_bytes_8 number is.1 in
    record {
      header = header_again types.Command procedures.SetNumber body refl (omega arith);
      fields = spi_again spi is.0 octets e [] refl;
      value = cc;
    }
again (Start spi) is bounds =
    let e : word_at 3 (message 0x1b (to_be_bytes w16 spi)) ≡ spi = from_be_bytes-to_be_bytes_2 spi (spi_small spi is) in
    record {
      header = header_again types.Command procedures.Start (to_be_bytes w16 spi) refl (omega arith);
      fields = spi_again spi is (message 0x1b (to_be_bytes w16 spi)) e [] refl;
      value = ap Start e;
    }
again (Stop spi) is bounds =
    let e : word_at 3 (message 0x1e (to_be_bytes w16 spi)) ≡ spi = from_be_bytes-to_be_bytes_2 spi (spi_small spi is) in
    record {
      header = header_again types.Command procedures.Stop (to_be_bytes w16 spi) refl (omega arith);
      fields = spi_again spi is (message 0x1e (to_be_bytes w16 spi)) e [] refl;
      value = ap Stop e;
    }
again (Status spi) is bounds =
    let e : word_at 3 (message 0x1f (to_be_bytes w16 spi)) ≡ spi = from_be_bytes-to_be_bytes_2 spi (spi_small spi is) in
    record {
      header = header_again types.Command procedures.Status (to_be_bytes w16 spi) refl (omega arith);
      fields = spi_again spi is (message 0x1f (to_be_bytes w16 spi)) e [] refl;
      value = ap Status e;
    }

pub command_again : (command : Command) (octets : List ℕ) → IsCommandPdu command octets
    → ReadAgain (command_procedure command) command octets
command_again command octets is = rw is.spelled (again command is.types is.bounds)
