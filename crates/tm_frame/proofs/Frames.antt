-- A frame without fault has the parts at its places, and a frame with parts has no fault.
use Rattle.std.proofs.Common.{◌≡◌, ℕ, ◌+◌, ◌-◌, ◌*◌, ◌/◌, ◌%◌, ◌^◌, ◌≤◌, ◌<◌, Bool, true, false, List, [], ◌∷◌, ◌++◌}
use Rattle.std.proofs.Common.{length, take, drop, get_or, refl, sym, ◌∙◌, ap, arith, append_assoc, length-append}
use Rattle.std.proofs.Common.{length-take-le, length-drop}
use Rattle.std.proofs.lemmas.Bool.{le-ltb, ltb-false}
use Rattle.std.specs.Prelude.{Some, None, is_some, not, ◌==◌, ◌||◌, ◌&&◌, nat_lt, unwrap_or, if◌then◌else◌}
use Rattle.std.proofs.lemmas.List.{get_or-take, get_or_append_left}
use Rattle.std.proofs.lemmas.Grind.{common_steps}
use Rattle.sdls_base.specs.declared.layout.TmLayout.{TmLayout}
use Rattle.sdls_base.specs.declared.layout.FrameFault.TheVariants.{Short, Long, Version, SecondaryHeader, Fecf}
use Rattle.sdls_base.specs.ControlField.{ocf_length, ocf_at, before_ocf, IsControlField}
use Rattle.sdls_base.specs.ErrorControl.{with_error_control, error_control_length, before_error_control}
use Rattle.sdls_base.specs.ErrorControl.{fails_error_control}
use Rattle.sdls_base.specs.Fields.{bit, packed}
use Rattle.sdls_base.proofs.Checks.{passes, passed, passed_later, same_if_passed, passed_if_same}
use Rattle.sdls_base.proofs.ControlFields.{ocf_at-fits, ocf_at-octets, length-ocf, ocf_back}
use Rattle.sdls_base.proofs.Endings.{length-with_error_control, before_error_control-with, fails_error_control-with}
use Rattle.sdls_base.proofs.Endings.{with-before_error_control, take_front, drop_front, get_or-with_error_control}
use Rattle.sdls_base.proofs.FieldLemmas.{cells_six, front_six, bit_small, bit_of_digit, digit_of_bit}
use Rattle.sdls_base.proofs.Pieces.{pieces_whole, get_or-take_small}
use Rattle.tm_frame.specs.TmFrame.{TmParts, TmFrame, FitsLayout, IsLayout, IsSecondaryHeader, primary_header, prefix_of}
use Rattle.tm_frame.specs.TmFrame.{body_of, frame_of, has_secondary}
use Rattle.tm_frame.specs.FirstFault.{first_fault, version_of, ocf_flag, status_of, data_length, fails_secondary}
use Rattle.tm_frame.specs.Reading.{parts_in, parts_at, secondary_length}
use Rattle.tm_frame.proofs.Words.{cells_of, header_cells, same_parts}

-- no check fails
pub record Faultless (layout : TmLayout) (frame : List ℕ) : Type 0 where
  pub whole : length frame ≡ layout.length
  pub version : version_of frame ≡ 0
  pub secondary : fails_secondary layout frame ≡ false
  pub error_control : fails_error_control layout.fecf frame ≡ false

pub faultless : (layout : TmLayout) (frame : List ℕ) → first_fault layout frame ≡ None → Faultless layout frame
faultless layout frame e =
    let short : nat_lt (length frame) layout.length ≡ false = passed _ Short _ e in
    let e1 = passed_later _ Short _ e in
    let long : nat_lt layout.length (length frame) ≡ false = passed _ Long _ e1 in
    let e2 = passed_later _ Long _ e1 in
    let version : not (version_of frame == 0) ≡ false = passed _ Version _ e2 in
    let e3 = passed_later _ Version _ e2 in
    let secondary : fails_secondary layout frame ≡ false = passed _ SecondaryHeader _ e3 in
    let e4 = passed_later _ SecondaryHeader _ e3 in
    record {
      whole = omega (arith, ltb-false (length frame) layout.length short, ltb-false layout.length (length frame) long);
      version = same_if_passed (version_of frame) 0 version;
      secondary = secondary;
      error_control = passed _ Fecf _ e4;
    }

pub first_fault-none : (layout : TmLayout) (frame : List ℕ) → Faultless layout frame → first_fault layout frame ≡ None
first_fault-none layout frame f =
    passes _ Short _ (le-ltb (length frame) layout.length (omega (arith, f.whole)))
    (passes _ Long _ (le-ltb layout.length (length frame) (omega (arith, f.whole)))
    (passes _ Version _ (passed_if_same (version_of frame) 0 f.version)
    (passes _ SecondaryHeader _ f.secondary
    (passes _ Fecf _ f.error_control refl))))

first_false : (a b : Bool) → (a || b) ≡ false → a ≡ false
first_false true b e = e
first_false false b e = refl

second_false : (a b : Bool) → (a || b) ≡ false → b ≡ false
second_false true b e = absurd (cc)
second_false false b e = e

both_false : (a b : Bool) → a ≡ false → b ≡ false → (a || b) ≡ false
both_false true b e f = e
both_false false b e f = f

-- where the check of the secondary header passes and its flag is set, it has version 00 and room
secondary_right : (h : Bool) (v n r : ℕ) → (h && (not (v == 0) || nat_lt r n)) ≡ false → h ≡ true → (v ≡ 0) × (n ≤ r)
secondary_right false v n r e t = absurd (cc)
secondary_right true v n r e t = (
  same_if_passed v 0 (first_false (not (v == 0)) (nat_lt r n) e),
  ltb-false r n (second_false (not (v == 0)) (nat_lt r n) e),
)

secondary_passes : (h : Bool) (v n r : ℕ) → (h ≡ true → (v ≡ 0) × (n ≤ r)) → (h && (not (v == 0) || nat_lt r n)) ≡ false
secondary_passes false v n r right = refl
secondary_passes true v n r right =
    both_false (not (v == 0)) (nat_lt r n) (passed_if_same v 0 (right refl).0) (le-ltb r n (right refl).1)

-- the secondary header has room
within_room : (h : Bool) (v n r : ℕ) → (h && (not (v == 0) || nat_lt r n)) ≡ false → (if h then n else 0) ≤ r
within_room false v n r e = omega arith
within_room true v n r e = (secondary_right true v n r e refl).1

-- the octets of a secondary header that passed
secondary_fits : (h : Bool) (s : List ℕ) → (h ≡ true → (get_or s 6 0 / 64 ≡ 0) × (get_or s 6 0 % 64 + 1 + 6 ≤ length s))
    → IsSecondaryHeader h (take (if h then get_or s 6 0 % 64 + 1 else 0) (drop 6 s))
secondary_fits false s right = grind (arith, common_steps)
secondary_fits true s right =
    let n : ℕ = get_or s 6 0 % 64 + 1 in
    let version : get_or s 6 0 / 64 ≡ 0 = (right refl).0 in
    let room : n + 6 ≤ length s = (right refl).1 in
    let count : length (take n (drop 6 s)) ≡ n = length-take-le n (drop 6 s) (omega (arith, length-drop 6 s)) in
    let first : get_or (take n (drop 6 s)) 0 0 ≡ get_or s 6 0 =
    get_or-take n (drop 6 s) 0 0 (omega arith) ∙ grind (arith, common_steps) in
    (omega (arith, count), omega (arith, count), omega (arith, count, first, version))

-- what is known of a secondary header, where its flag is set
secondary_facts : (h : Bool) (octets : List ℕ) → IsSecondaryHeader h octets → h ≡ true
    → (0 < length octets) × (length octets ≤ 2 ^ 6) × (get_or octets 0 0 ≡ length octets - 1)
secondary_facts false octets is t = absurd (cc)
secondary_facts true octets is t = is

secondary_back : (h : Bool) (octets : List ℕ) (x : ℕ) → IsSecondaryHeader h octets → (h ≡ true → x ≡ get_or octets 0 0)
    → (if h then x % 64 + 1 else 0) ≡ length octets
secondary_back false octets x is same = sym (ap length is)
secondary_back true octets x is same = omega (arith, same refl, is.0, is.1, is.2)

-- the operational control field at the end is there where its flag is set
field_there : (f : Bool) (body : List ℕ) → is_some (ocf_at f body) ≡ f
field_there false body = refl
field_there true body = refl

field_fits : (f : Bool) (body : List ℕ) → ocf_length f ≤ length body
    → IsControlField (is_some (ocf_at f body)) (ocf_at f body)
field_fits false body h = refl
field_fits true body h = ocf_at-fits true body h

-- the primary header of the parts at their places is the first six octets
header_at : (body : List ℕ) → ((i : ℕ) → get_or body i 0 < 256) → version_of body ≡ 0
    → packed (primary_header (parts_in body))
    ≡ (get_or body 0 0 ∷ get_or body 1 0 ∷ get_or body 2 0 ∷ get_or body 3 0 ∷ get_or body 4 0 ∷ get_or body 5 0
    ∷ [])
header_at body octets version =
    let p : TmParts = parts_in body in
    let a : ℕ = get_or body 0 0 in
    let b : ℕ = get_or body 1 0 in
    let e : ℕ = get_or body 4 0 in
    let f : ℕ = get_or body 5 0 in
    let a8 : a < 256 = octets 0 in
    let b8 : b < 256 = octets 1 in
    let e8 : e < 256 = octets 4 in
    let f8 : f < 256 = octets 5 in
    let o : bit (is_some (ocf_at (ocf_flag body) body)) ≡ b / 2 ^ 0 % 2 =
    ap bit (field_there (ocf_flag body) body) ∙ bit_of_digit (b / 2 ^ 0 % 2) (omega arith) in
    header_cells p (omega arith) (omega arith) (octets 2) (octets 3) (omega arith)
    ∙ cells_six (omega arith) (omega (arith, o)) refl refl (omega arith) (omega arith)

body_spelled : (body : List ℕ) → 10 ≤ length body → 6 + secondary_length body ≤ length body - ocf_length (ocf_flag body)
    → ((i : ℕ) → get_or body i 0 < 256) → version_of body ≡ 0
    → body_of (parts_in body) ≡ body
body_spelled body long room octets version =
    let end : ℕ = length body - ocf_length (ocf_flag body) in
    let n : ℕ = secondary_length body in
    let front : List ℕ = get_or body 0 0 ∷ get_or body 1 0 ∷ get_or body 2 0 ∷ get_or body 3 0 ∷ get_or body 4 0
    ∷ get_or body 5 0 ∷ [] in
    ap (λ l. ((l ++ take n (drop 6 body)) ++ drop (6 + n) (take end body)) ++ unwrap_or (ocf_at (ocf_flag body) body)
    []) (header_at body octets version)
    ∙ ap (λ l. ((front ++ take n (drop 6 body)) ++ drop (6 + n) (take end body)) ++ l)
    (ocf_at-octets (ocf_flag body) body)
    ∙ pieces_whole body front 6 n end (front_six body (omega arith)) room

enough_left : (fecf : Bool) (n : ℕ) → 12 ≤ n → 10 ≤ n - error_control_length fecf
enough_left false n h = omega arith
enough_left true n h = omega arith

ocf_small : (f : Bool) → ocf_length f ≤ 4
ocf_small false = omega arith
ocf_small true = omega arith

-- what a body has in common with its frame
record Front (layout : TmLayout) (frame body : List ℕ) : Type 0 where
  count : length body ≡ length frame - error_control_length layout.fecf
  long : 10 ≤ length body
  version : version_of body ≡ version_of frame
  flag : ocf_flag body ≡ ocf_flag frame
  status : status_of body ≡ status_of frame
  seventh : get_or body 6 0 ≡ get_or frame 6 0

front_of : (layout : TmLayout) (frame : List ℕ) → 12 ≤ length frame
    → Front layout frame (before_error_control layout.fecf frame)
front_of layout frame long =
    let n : ℕ = length frame - error_control_length layout.fecf in
    let enough : 10 ≤ n = enough_left layout.fecf (length frame) long in
    let count : length (take n frame) ≡ n = length-take-le n frame (omega arith) in
    record {
      count = count;
      long = omega (arith, count, enough);
      version = ap (λ k. k / 64) (get_or-take n frame 0 0 (omega arith));
      flag = ap (λ k. k / 2 ^ 0 % 2 == 1) (get_or-take n frame 1 0 (omega arith));
      status = ap (λ k. k * 2 ^ 8 + get_or (take n frame) 5 0) (get_or-take n frame 4 0 (omega arith))
          ∙ ap (λ k. get_or frame 4 0 * 2 ^ 8 + k) (get_or-take n frame 5 0 (omega arith));
      seventh = get_or-take n frame 6 0 (omega arith);
    }

-- the octets of the secondary header are those that the check looked at
secondary_same : (layout : TmLayout) (frame body : List ℕ) → Front layout frame body
    → secondary_length body ≡ (if has_secondary (status_of frame) then get_or frame 6 0 % 64 + 1 else 0)
secondary_same layout frame body front =
    ap (λ k. if has_secondary k then get_or body 6 0 % 64 + 1 else 0) front.status
    ∙ ap (λ k. if has_secondary (status_of frame) then k % 64 + 1 else 0) front.seventh

-- the room after the secondary header
pub room_left : (layout : TmLayout) (frame : List ℕ) → IsLayout layout → first_fault layout frame ≡ None
    → 6 + secondary_length (before_error_control layout.fecf frame) ≤ length (before_error_control layout.fecf frame)
    - ocf_length (ocf_flag (before_error_control layout.fecf frame))
room_left layout frame long none =
    let f : Faultless layout frame = faultless layout frame none in
    let body : List ℕ = before_error_control layout.fecf frame in
    let front : Front layout frame body = front_of layout frame (omega (arith, f.whole)) in
    let n : ℕ = if has_secondary (status_of frame) then get_or frame 6 0 % 64 + 1 else 0 in
    let within : n ≤ data_length layout frame =
    within_room (has_secondary (status_of frame)) (get_or frame 6 0 / 64) (get_or frame 6 0 % 64 + 1)
    (data_length layout frame) f.secondary in
    let same : secondary_length body ≡ n = secondary_same layout frame body front in
    let flag : ocf_length (ocf_flag body) ≡ ocf_length (ocf_flag frame) = ap ocf_length front.flag in
    omega (arith, within, same, flag, front.count, front.long, ocf_small (ocf_flag frame))

-- the secondary header of a body, where its flag is set
secondary_here : (layout : TmLayout) (frame body : List ℕ) → Front layout frame body
    → fails_secondary layout frame ≡ false
    → has_secondary (status_of body) ≡ true → (get_or body 6 0 / 64 ≡ 0) × (get_or body 6 0 % 64 + 1 + 6 ≤ length body)
secondary_here layout frame body front passed t =
    let set : has_secondary (status_of frame) ≡ true = ap has_secondary (sym front.status) ∙ t in
    let right = secondary_right (has_secondary (status_of frame)) (get_or frame 6 0 / 64) (get_or frame 6 0 % 64 + 1)
    (data_length layout frame) passed set in (
      ap (λ k. k / 64) front.seventh ∙ right.0,
      omega (arith, right.1, ap (λ k. k % 64) front.seventh, front.count, front.long, ocf_small (ocf_flag frame)),
    )

-- what the checks leave has the parts at its places
pub frame_at : (layout : TmLayout) (frame : List ℕ) → IsLayout layout → ((i : ℕ) → get_or frame i 0 < 256)
    → first_fault layout frame ≡ None
    → TmFrame layout (parts_at layout frame) frame
frame_at layout frame long octets none =
    let f : Faultless layout frame = faultless layout frame none in
    let n : ℕ = length frame - error_control_length layout.fecf in
    let body : List ℕ = take n frame in
    let p : TmParts = parts_in body in
    let front : Front layout frame body = front_of layout frame (omega (arith, f.whole)) in
    let left : 6 + secondary_length body ≤ length body - ocf_length (ocf_flag body) =
    room_left layout frame long none in
    let body_octets : (i : ℕ) → get_or body i 0 < 256 = λ i. get_or-take_small frame n 256 i (omega arith) (octets i) in
    let version : version_of body ≡ 0 = front.version ∙ f.version in
    let spelled : body_of p ≡ body = body_spelled body front.long left body_octets version in
    let whole : frame ≡ frame_of layout p =
    sym (ap (λ l. with_error_control layout.fecf l) spelled ∙ with-before_error_control layout.fecf frame
    f.error_control) in
    let right : has_secondary (status_of body) ≡ true → (get_or body 6 0 / 64 ≡ 0)
    × (get_or body 6 0 % 64 + 1 + 6 ≤ length body) = λ t.
    secondary_here layout frame body front f.secondary t in
    record {
      fits = record {
        spacecraft = omega arith;
        channel = omega arith;
        master_count = body_octets 2;
        channel_count = body_octets 3;
        status = omega (arith, body_octets 4, body_octets 5);
        secondary = secondary_fits (has_secondary (status_of body)) body right;
        ocf = field_fits (ocf_flag body) body (omega (arith, front.long, ocf_small (ocf_flag body)));
        whole = sym (ap length whole) ∙ f.whole;
      };
      spelled = whole;
    }

abbrev pub body_of_cells : TmParts → List ℕ
body_of_cells p = (cells_of p ++ p.secondary) ++ p.room ++ unwrap_or p.ocf []

-- the places that the checks look at, in what was put together
record Places (p : TmParts) (s : List ℕ) : Type 0 where
  version : version_of s ≡ 0
  flag : ocf_flag s ≡ is_some p.ocf
  status : status_of s ≡ p.status
  seventh : has_secondary p.status ≡ true → get_or s 6 0 ≡ get_or p.secondary 0 0

flag_digit : (sc ch o : ℕ) → o < 2 → (sc % 2 ^ 4 * 2 ^ 4 + ch * 2 + o) / 2 ^ 0 % 2 ≡ o
flag_digit sc ch o h = omega arith

places_of : (layout : TmLayout) (p : TmParts) → FitsLayout layout p → Places p (body_of_cells p)
places_of layout p fits = record {
  version = omega (arith, fits.spacecraft);
  flag = ap (λ k. k == 1) (flag_digit p.spacecraft p.channel (bit (is_some p.ocf)) (bit_small (is_some p.ocf)))
      ∙ digit_of_bit (is_some p.ocf);
  status = omega (arith, fits.status);
  seventh = λ t. ap (λ l. get_or l 0 0) (append_assoc p.secondary p.room (unwrap_or p.ocf []))
      ∙ get_or_append_left p.secondary (p.room ++ unwrap_or p.ocf []) 0 0
      (secondary_facts (has_secondary p.status) p.secondary fits.secondary t).0;
}

secondary_length_back : (layout : TmLayout) (p : TmParts) (s : List ℕ) → FitsLayout layout p → Places p s
    → secondary_length s ≡ length p.secondary
secondary_length_back layout p s fits places =
    ap (λ k. if has_secondary k then get_or s 6 0 % 64 + 1 else 0) places.status
    ∙ secondary_back (has_secondary p.status) p.secondary (get_or s 6 0) fits.secondary places.seventh

spacecraft_digits : (sc ch o : ℕ) → sc < 2 ^ 10 → ch < 2 ^ 3 → o < 2
    → ((sc / 2 ^ 4) * 2 ^ 8 + (sc % 2 ^ 4 * 2 ^ 4 + ch * 2 + o)) / 2 ^ 4 % 2 ^ 10 ≡ sc
spacecraft_digits sc ch o h0 h1 h2 = omega arith

channel_digits : (sc ch o : ℕ) → ch < 2 ^ 3 → o < 2 → (sc % 2 ^ 4 * 2 ^ 4 + ch * 2 + o) / 2 ^ 1 % 2 ^ 3 ≡ ch
channel_digits sc ch o h1 h2 = omega arith

parts_in_cells : (layout : TmLayout) (p : TmParts) → FitsLayout layout p → parts_in (body_of_cells p) ≡ p
parts_in_cells layout p fits =
    let tail : List ℕ = unwrap_or p.ocf [] in
    let front : List ℕ = (cells_of p ++ p.secondary) ++ p.room in
    let B : List ℕ = front ++ tail in
    let o : Bool = is_some p.ocf in
    let places : Places p B = places_of layout p fits in
    let sl : secondary_length B ≡ length p.secondary = secondary_length_back layout p B fits places in
    let tail_length : length tail ≡ ocf_length o = length-ocf o p.ocf fits.ocf in
    let end : length B - ocf_length o ≡ length front = omega (arith, length-append front tail) in
    let before : before_ocf (ocf_flag B) B ≡ front =
    ap (λ f. before_ocf f B) places.flag ∙ take_front front tail (length B - ocf_length o) end in
    let after : drop (length B - ocf_length o) B ≡ tail = drop_front front tail (length B - ocf_length o) end in
    let start : 6 + secondary_length B ≡ length (cells_of p ++ p.secondary) =
    omega (arith, length-append (cells_of p) p.secondary, sl) in
    same_parts
    (spacecraft_digits p.spacecraft p.channel (bit o) fits.spacecraft fits.channel (bit_small o))
    (channel_digits p.spacecraft p.channel (bit o) fits.channel (bit_small o))
    refl
    refl
    places.status
    (ap (λ l. take (secondary_length B) l) (append_assoc p.secondary p.room tail)
    ∙ take_front p.secondary (p.room ++ tail) (secondary_length B) sl)
    (ap (λ l. drop (6 + secondary_length B) l) before ∙ drop_front (cells_of p ++ p.secondary) p.room
    (6 + secondary_length B) start)
    (ap (λ f. ocf_at f B) places.flag ∙ ap (λ l. if o then Some l else None) after ∙ ocf_back o p.ocf fits.ocf)

-- a frame with parts has no fault, and the parts are at their places
pub frame_parts : (layout : TmLayout) (p : TmParts) (frame : List ℕ) → TmFrame layout p frame
    → (first_fault layout frame ≡ None) × (parts_at layout frame ≡ p)
frame_parts layout p frame is =
    let fits : FitsLayout layout p = is.fits in
    let tail : List ℕ = unwrap_or p.ocf [] in
    let B : List ℕ = body_of_cells p in
    let o : Bool = is_some p.ocf in
    let header : packed (primary_header p) ≡ cells_of p =
    header_cells p fits.spacecraft fits.channel fits.master_count fits.channel_count fits.status in
    let body : body_of p ≡ B = ap (λ l. (l ++ p.secondary) ++ p.room ++ tail) header in
    let spelled : frame ≡ with_error_control layout.fecf B =
    is.spelled ∙ ap (λ l. with_error_control layout.fecf l) body in
    let places : Places p B = places_of layout p fits in
    let count_B : length B ≡ 6 + length p.secondary + length p.room + length tail =
    omega (
      arith,
      length-append ((cells_of p ++ p.secondary) ++ p.room) tail,
      length-append (cells_of p ++ p.secondary) p.room,
      length-append (cells_of p) p.secondary,
    ) in
    let count : length frame ≡ length B + error_control_length layout.fecf =
    ap length spelled ∙ length-with_error_control layout.fecf B in
    let tail_length : length tail ≡ ocf_length o = length-ocf o p.ocf fits.ocf in
    let at : (i : ℕ) → i < length B → get_or frame i 0 ≡ get_or B i 0 =
    λ i h. ap (λ l. get_or l i 0) spelled ∙ get_or-with_error_control layout.fecf B i h in
    let flag : ocf_flag frame ≡ o = ap (λ k. k / 2 ^ 0 % 2 == 1) (at 1 (omega (arith, count_B))) ∙ places.flag in
    let status : status_of frame ≡ p.status =
    ap (λ k. k * 2 ^ 8 + get_or frame 5 0) (at 4 (omega (arith, count_B))) ∙ ap (λ k. get_or B 4 0 * 2 ^ 8 + k)
    (at 5 (omega (arith, count_B))) ∙ places.status in
    let room : data_length layout frame ≡ length p.secondary + length p.room =
    omega (arith, count, count_B, tail_length, ap ocf_length flag) in
    let right : has_secondary (status_of frame) ≡ true → (get_or frame 6 0 / 64 ≡ 0)
    × (get_or frame 6 0 % 64 + 1 ≤ data_length layout frame) = λ t.
    let set : has_secondary p.status ≡ true = ap has_secondary (sym status) ∙ t in
    let facts = secondary_facts (has_secondary p.status) p.secondary fits.secondary set in
    let x : get_or frame 6 0 ≡ length p.secondary - 1 =
    at 6 (omega (arith, count_B, facts.0)) ∙ places.seventh set ∙ facts.2 in
    (omega (arith, x, facts.0, facts.1), omega (arith, x, facts.0, facts.1, room)) in
    let faultless : Faultless layout frame = record {
      whole = ap length is.spelled ∙ fits.whole;
      version = ap (λ k. k / 64) (at 0 (omega (arith, count_B))) ∙ places.version;
      secondary = secondary_passes (has_secondary (status_of frame)) (get_or frame 6 0 / 64) (get_or frame 6 0 % 64 + 1)
          (data_length layout frame) right;
      error_control = ap (λ l. fails_error_control layout.fecf l) spelled ∙ fails_error_control-with layout.fecf B;
    } in (
      first_fault-none layout frame faultless,
      ap (λ l. parts_in (before_error_control layout.fecf l)) spelled
          ∙ ap (λ l. parts_in l) (before_error_control-with layout.fecf B)
          ∙ parts_in_cells layout p fits,
    )

-- the prefix stands in front of the octets before the error control field
pub prefix_at : (layout : TmLayout) (p : TmParts) (frame : List ℕ) → TmFrame layout p frame
    → take (6 + secondary_length (before_error_control layout.fecf frame)) (before_error_control layout.fecf frame)
    ≡ prefix_of p
prefix_at layout p frame is =
    let fits : FitsLayout layout p = is.fits in
    let tail : List ℕ = unwrap_or p.ocf [] in
    let B : List ℕ = body_of_cells p in
    let header : packed (primary_header p) ≡ cells_of p =
    header_cells p fits.spacecraft fits.channel fits.master_count fits.channel_count fits.status in
    let spelled : frame ≡ with_error_control layout.fecf B =
    is.spelled ∙ ap (λ l. with_error_control layout.fecf ((l ++ p.secondary) ++ p.room ++ tail)) header in
    let sl : secondary_length B ≡ length p.secondary =
    secondary_length_back layout p B fits (places_of layout p fits) in
    let start : 6 + secondary_length B ≡ length (cells_of p ++ p.secondary) =
    omega (arith, length-append (cells_of p) p.secondary, sl) in
    ap (λ l. take (6 + secondary_length l) l)
    (ap (λ l. before_error_control layout.fecf l) spelled ∙ before_error_control-with layout.fecf B)
    ∙ ap (λ l. take (6 + secondary_length B) l) (append_assoc (cells_of p ++ p.secondary) p.room tail)
    ∙ take_front (cells_of p ++ p.secondary) (p.room ++ tail) (6 + secondary_length B) start
    ∙ ap (λ l. l ++ p.secondary) (sym header)
