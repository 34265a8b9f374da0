use Rattle.std.proofs.Common.{◌≡◌, ℕ, ◌≤◌, ◌+◌, ◌-◌, List, [], ◌++◌, length, take, drop, Option, Some, None, ap, sym}
use Rattle.std.proofs.Common.{◌∙◌, arith, append-nil}
use Rattle.std.specs.Option.{option_map, unwrap_or}
use Rattle.std.proofs.lemmas.List.{drop_at, drop-drop, drop-take, length-drop}
use Rattle.std.proofs.lemmas.Bool.Decides.{nat_tests}
use Rattle.sdls_base.specs.declared.layout.AosLayout.{AosLayout}
use Rattle.cli_check.specs.Check.{trailer, data_field}
use Rattle.aos_frame.specs.FirstFault.{first_fault, version_of, spare_of}

-- the room of a frame without a control field: all that stands behind the prefix
pub room_behind : (frame prefix room : List ℕ) (ocf : Option (List ℕ)) → option_map length ocf ≡ None
    → length prefix ≡ 6
    → frame ≡ prefix ++ room ++ unwrap_or ocf [] → room ≡ drop 6 frame
room_behind frame prefix room None none sized whole =
    let all : frame ≡ prefix ++ room = whole ∙ append-nil (prefix ++ room) in
    sym (ap (λ (octets : List ℕ). drop 6 octets) all ∙ drop_at prefix room 6 sized)
room_behind frame prefix room (Some field) none sized whole = absurd (let k : ⊥ = cc in k)

-- a frame with no fault has the version and the spare bits
pub no_fault : (layout : AosLayout) (frame : List ℕ) → first_fault layout frame ≡ None
    → (version_of frame ≡ 1) × (spare_of frame ≡ 0)
no_fault layout frame none = (grind (arith, nat_tests), grind (arith, nat_tests))

room_length : (frame room : List ℕ) → room ≡ drop 6 frame → length room ≡ length frame - 6
room_length frame room is = ap length is ∙ length-drop 6 frame

-- the trailer of a frame stands at the end of its room
pub trailer_in_room : (frame room : List ℕ) → room ≡ drop 6 frame → 28 ≤ length frame
    → drop (length room - 16) room ≡ trailer frame
trailer_in_room frame room is long =
    let sized = room_length frame room is in
    let place : 6 + (length room - 16) ≡ length frame - 16 = omega arith in
    ap (λ (octets : List ℕ). drop (length room - 16) octets) is ∙ drop-drop (length room - 16) 6 frame
    ∙ ap (λ (n : ℕ). drop n frame) place

-- the data field stands in the room between security header and trailer
pub field_in_room : (frame room : List ℕ) → room ≡ drop 6 frame → 28 ≤ length frame
    → drop 6 (take (length room - 16) room) ≡ data_field frame
field_in_room frame room is long =
    let sized = room_length frame room is in
    let place : 6 + (length room - 16) ≡ length frame - 16 = omega arith in
    ap (λ (octets : List ℕ). drop 6 (take (length room - 16) octets)) is
    ∙ ap (λ (octets : List ℕ). drop 6 octets) (sym (drop-take 6 (length room - 16) frame))
    ∙ drop-drop 6 6 (take (6 + (length room - 16)) frame)
    ∙ ap (λ (n : ℕ). drop 12 (take n frame)) place
