-- A frame without fault has the parts at its places, and a frame with parts has no fault.
use Rattle.std.proofs.Common.{◌≡◌, ℕ, ◌+◌, ◌-◌, ◌*◌, ◌/◌, ◌%◌, ◌^◌, ◌≤◌, ◌<◌, Bool, true, false, List, [], ◌∷◌, ◌++◌}
use Rattle.std.proofs.Common.{length, take, drop, get_or, refl, sym, ◌∙◌, ap, arith, append_assoc, length-append}
use Rattle.std.proofs.Common.{length-take-le, length-drop, drop-cons}
use Rattle.std.proofs.lemmas.Bool.{le-ltb, ltb-false}
use Rattle.std.specs.Prelude.{Option, Some, None, IfSome, is_some, not, ◌==◌, ◌||◌, nat_lt, if◌then◌else◌}
use Rattle.std.specs.Option.{option_to_list}
use Rattle.std.proofs.lemmas.List.{get_or-take}
use Rattle.sdls_base.specs.declared.layout.TcLayout.{TcLayout}
use Rattle.sdls_base.specs.declared.layout.FrameFault.TheVariants.{Short, Long, LengthField, Version, Spare, Fecf}
use Rattle.sdls_base.specs.ErrorControl.{with_error_control, error_control_length, before_error_control}
use Rattle.sdls_base.specs.ErrorControl.{fails_error_control}
use Rattle.sdls_base.specs.Fields.{bit, packed}
use Rattle.sdls_base.proofs.Checks.{passes, passed, passed_later, same_if_passed, passed_if_same}
use Rattle.sdls_base.proofs.Endings.{length-with_error_control, before_error_control-with, fails_error_control-with}
use Rattle.sdls_base.proofs.Endings.{with-before_error_control, take_front, drop_front, get_or-with_error_control}
use Rattle.sdls_base.proofs.FieldLemmas.{cells_five, front_five, bit_small, bit_of_digit, digit_of_bit}
use Rattle.sdls_base.proofs.Pieces.{get_or-take_small}
use Rattle.tc_frame.specs.TcFrame.{TcParts, TcFrame, FitsLayout, primary_header, prefix_of, body_of, frame_length}
use Rattle.tc_frame.specs.TcFrame.{has_segment}
use Rattle.tc_frame.specs.FirstFault.{first_fault, version_of, spare_of, control_of, segment_length, least}
use Rattle.tc_frame.specs.FirstFault.{length_field}
use Rattle.tc_frame.specs.Reading.{parts_in, parts_at}
use Rattle.tc_frame.proofs.Words.{cells_of, header_cells, same_parts}

-- no check fails
pub record Faultless (layout : TcLayout) (frame : List ℕ) : Type 0 where
  pub header : 5 ≤ length frame
  pub needed : least layout frame ≤ length frame
  pub most : length frame ≤ layout.most
  pub field : length_field frame ≡ length frame - 1
  pub version : version_of frame ≡ 0
  pub spare : spare_of frame ≡ 0
  pub error_control : fails_error_control layout.fecf frame ≡ false

first_false : (a b : Bool) → (a || b) ≡ false → a ≡ false
first_false true b e = e
first_false false b e = refl

second_false : (a b : Bool) → (a || b) ≡ false → b ≡ false
second_false true b e = absurd (cc)
second_false false b e = e

both_false : (a b : Bool) → a ≡ false → b ≡ false → (a || b) ≡ false
both_false true b e f = e
both_false false b e f = f

pub faultless : (layout : TcLayout) (frame : List ℕ) → first_fault layout frame ≡ None → Faultless layout frame
faultless layout frame e =
    let short : (nat_lt (length frame) 5 || nat_lt (length frame) (least layout frame)) ≡ false = passed _ Short _ e in
    let e1 = passed_later _ Short _ e in
    let long : nat_lt layout.most (length frame) ≡ false = passed _ Long _ e1 in
    let e2 = passed_later _ Long _ e1 in
    let field : not (length_field frame == length frame - 1) ≡ false = passed _ LengthField _ e2 in
    let e3 = passed_later _ LengthField _ e2 in
    let version : not (version_of frame == 0) ≡ false = passed _ Version _ e3 in
    let e4 = passed_later _ Version _ e3 in
    let spare : not (spare_of frame == 0) ≡ false = passed _ Spare _ e4 in
    let e5 = passed_later _ Spare _ e4 in
    record {
      header = ltb-false (length frame) 5 (first_false _ _ short);
      needed = ltb-false (length frame) (least layout frame) (second_false _ _ short);
      most = ltb-false layout.most (length frame) long;
      field = same_if_passed (length_field frame) (length frame - 1) field;
      version = same_if_passed (version_of frame) 0 version;
      spare = same_if_passed (spare_of frame) 0 spare;
      error_control = passed _ Fecf _ e5;
    }

pub first_fault-none : (layout : TcLayout) (frame : List ℕ) → Faultless layout frame → first_fault layout frame ≡ None
first_fault-none layout frame f =
    passes _ Short _ (both_false _ _ (le-ltb (length frame) 5 f.header)
    (le-ltb (length frame) (least layout frame) f.needed))
    (passes _ Long _ (le-ltb layout.most (length frame) f.most)
    (passes _ LengthField _ (passed_if_same (length_field frame) (length frame - 1) f.field)
    (passes _ Version _ (passed_if_same (version_of frame) 0 f.version)
    (passes _ Spare _ (passed_if_same (spare_of frame) 0 f.spare)
    (passes _ Fecf _ f.error_control refl)))))

-- the octets of a segment header
abbrev one_if : Bool → ℕ
one_if h = if h then 1 else 0

segment_split : (h : Bool) (s : List ℕ) → 5 + one_if h ≤ length s
    → option_to_list (if h then Some (get_or s 5 0) else None) ++ drop (5 + one_if h) s ≡ drop 5 s
segment_split false s n = refl
segment_split true s n = sym (drop-cons s 5 0 n)

segment_octets : (h : Bool) (x : ℕ) → length (option_to_list (if h then Some x else None)) ≡ one_if h
segment_octets false x = refl
segment_octets true x = refl

segment_there : (h : Bool) (x : ℕ) → is_some (if h then Some x else None) ≡ h
segment_there false x = refl
segment_there true x = refl

segment_small : (h : Bool) (x : ℕ) → x < 2 ^ 8 → IfSome (if h then Some x else None) (λ octet. octet < 2 ^ 8)
segment_small false x n = tt
segment_small true x n = n

one_if_some : (o : Option ℕ) → one_if (is_some o) ≡ length (option_to_list o)
one_if_some None = refl
one_if_some (Some x) = refl

segment_back : (a b c d e : ℕ) (o : Option ℕ) (room : List ℕ)
    → (if is_some o then Some (get_or (((a ∷ b ∷ c ∷ d ∷ e ∷ []) ++ option_to_list o) ++ room) 5 0) else None) ≡ o
segment_back a b c d e None room = refl
segment_back a b c d e (Some x) room = refl

-- the primary header of the parts at their places is the first five octets
header_at : (layout : TcLayout) (body : List ℕ) (n : ℕ) → ((i : ℕ) → get_or body i 0 < 256) → n ≤ 2 ^ 10
    → length_field body ≡ n - 1 → version_of body ≡ 0 → spare_of body ≡ 0
    → packed (primary_header (parts_in layout body) n)
    ≡ (get_or body 0 0 ∷ get_or body 1 0 ∷ get_or body 2 0 ∷ get_or body 3 0 ∷ get_or body 4 0 ∷ [])
header_at layout body n octets most field version spare =
    let p : TcParts = parts_in layout body in
    let a : ℕ = get_or body 0 0 in
    let b : ℕ = get_or body 1 0 in
    let c : ℕ = get_or body 2 0 in
    let d : ℕ = get_or body 3 0 in
    let e : ℕ = get_or body 4 0 in
    let a8 : a < 256 = octets 0 in
    let b8 : b < 256 = octets 1 in
    let c8 : c < 256 = octets 2 in
    let d8 : d < 256 = octets 3 in
    let e8 : e < 256 = octets 4 in
    let r : bit (a / 2 ^ 5 % 2 == 1) ≡ a / 2 ^ 5 % 2 = bit_of_digit (a / 2 ^ 5 % 2) (omega arith) in
    let u : bit (a / 2 ^ 4 % 2 == 1) ≡ a / 2 ^ 4 % 2 = bit_of_digit (a / 2 ^ 4 % 2) (omega arith) in
    header_cells p n (omega arith) (omega arith) (omega arith) most
    ∙ cells_five (omega (arith, r, u)) (omega arith) (omega arith) (omega arith) refl

-- the octets before the error control field are spelled by the parts at their places
body_spelled : (layout : TcLayout) (body : List ℕ) (n : ℕ) → 5 + segment_length layout body ≤ length body
    → n ≡ length body + error_control_length layout.fecf
    → ((i : ℕ) → get_or body i 0 < 256) → n ≤ 2 ^ 10 → length_field body ≡ n - 1 → version_of body ≡ 0
    → spare_of body ≡ 0
    → (frame_length layout (parts_in layout body) ≡ n) × (body_of layout (parts_in layout body) ≡ body)
body_spelled layout body n enough whole octets most field version spare =
    let p : TcParts = parts_in layout body in
    let h : Bool = has_segment layout (control_of body) in
    let segment : List ℕ = option_to_list p.segment in
    let front : List ℕ = get_or body 0 0 ∷ get_or body 1 0 ∷ get_or body 2 0 ∷ get_or body 3 0 ∷ get_or body 4 0 ∷ [] in
    let count : frame_length layout p ≡ n =
    omega (arith, segment_octets h (get_or body 5 0), length-drop (5 + one_if h) body) in (
      count,
      ap (λ k. (packed (primary_header p k) ++ segment) ++ p.room) count
          ∙ ap (λ l. (l ++ segment) ++ p.room) (header_at layout body n octets most field version spare)
          ∙ append_assoc front segment p.room
          ∙ ap (λ l. front ++ l) (segment_split h body enough)
          ∙ sym (front_five body (omega arith)),
    )

field_bound : (w n : ℕ) → w % 2 ^ 10 ≡ n - 1 → n ≤ 2 ^ 10
field_bound w n e = omega arith

spacecraft_digits : (r u sc : ℕ) → sc < 2 ^ 10 → ((r * 2 ^ 5 + u * 2 ^ 4 + sc / 2 ^ 8) * 2 ^ 8 + sc % 2 ^ 8) % 2 ^ 10
    ≡ sc
spacecraft_digits r u sc h = omega arith

channel_digits : (ch m : ℕ) → m < 2 ^ 10 → (ch * 2 ^ 2 + m / 2 ^ 8) / 2 ^ 2 ≡ ch
channel_digits ch m h = omega arith

length_digits : (ch m : ℕ) → m < 2 ^ 10 → ((ch * 2 ^ 2 + m / 2 ^ 8) * 2 ^ 8 + m % 2 ^ 8) % 2 ^ 10 ≡ m
length_digits ch m h = omega arith

version_digits : (r u k : ℕ) → r < 2 → u < 2 → k < 4 → (r * 2 ^ 5 + u * 2 ^ 4 + k) / 64 ≡ 0
version_digits r u k hr hu hk = omega arith

spare_digits : (r u k : ℕ) → k < 4 → (r * 2 ^ 5 + u * 2 ^ 4 + k) / 4 % 4 ≡ 0
spare_digits r u k hk = omega arith

-- what the checks leave has the parts at its places
pub frame_at : (layout : TcLayout) (frame : List ℕ) → ((i : ℕ) → get_or frame i 0 < 256)
    → first_fault layout frame ≡ None
    → TcFrame layout (parts_at layout frame) frame
frame_at layout frame octets none =
    let f : Faultless layout frame = faultless layout frame none in
    let n : ℕ = length frame - error_control_length layout.fecf in
    let body : List ℕ = take n frame in
    let p : TcParts = parts_in layout body in
    let long : 5 ≤ n = omega (arith, f.needed) in
    let body_length : length body ≡ n = length-take-le n frame (omega arith) in
    let body_octets : (i : ℕ) → get_or body i 0 < 256 = λ i. get_or-take_small frame n 256 i (omega arith) (octets i) in
    let first : get_or body 0 0 ≡ get_or frame 0 0 = get_or-take n frame 0 0 (omega arith) in
    let third : get_or body 2 0 ≡ get_or frame 2 0 = get_or-take n frame 2 0 (omega arith) in
    let fourth : get_or body 3 0 ≡ get_or frame 3 0 = get_or-take n frame 3 0 (omega arith) in
    let segment : segment_length layout body ≡ segment_length layout frame =
    ap (λ a. if has_segment layout (a / 2 ^ 4 % 2 == 1) then 1 else 0) first in
    let version : version_of body ≡ 0 = ap (λ k. k / 64) first ∙ f.version in
    let spare : spare_of body ≡ 0 = ap (λ k. k / 4 % 4) first ∙ f.spare in
    let field : length_field body ≡ length frame - 1 =
    ap (λ k. (k * 2 ^ 8 + get_or body 3 0) % 2 ^ 10) third ∙ ap (λ k. (get_or frame 2 0 * 2 ^ 8 + k) % 2 ^ 10)
    fourth ∙ f.field in
    let most : length frame ≤ 2 ^ 10 =
    field_bound (get_or frame 2 0 * 2 ^ 8 + get_or frame 3 0) (length frame) f.field in
    let needed : 5 + segment_length layout body ≤ length body = omega (arith, f.needed, segment, body_length) in
    let whole : length frame ≡ length body + error_control_length layout.fecf = omega (arith, body_length, f.needed) in
    let spelled = body_spelled layout body (length frame) needed whole body_octets most field version spare in
    let count : frame_length layout p ≡ length frame = spelled.0 in
    let sixth : get_or body 5 0 < 2 ^ 8 = body_octets 5 in
    record {
      fits = record {
        spacecraft = omega arith;
        channel = omega (arith, body_octets 2);
        sequence = omega (arith, body_octets 4);
        segment = segment_there (has_segment layout (control_of body)) (get_or body 5 0);
        segment_octet = segment_small (has_segment layout (control_of body)) (get_or body 5 0) sixth;
        most = omega (arith, count, f.most);
        field = omega (arith, count, most);
      };
      spelled =
          sym (ap (λ l. with_error_control layout.fecf l) spelled.1 ∙ with-before_error_control layout.fecf frame
          f.error_control);
    }

abbrev pub body_of_cells : TcLayout → TcParts → List ℕ
body_of_cells layout p = (cells_of p (frame_length layout p) ++ option_to_list p.segment) ++ p.room

bypass_digit : (r u k : ℕ) → r < 2 → u < 2 → k < 4 → (r * 2 ^ 5 + u * 2 ^ 4 + k) / 2 ^ 5 % 2 ≡ r
bypass_digit r u k hr hu hk = omega arith

control_digit : (r u k : ℕ) → r < 2 → u < 2 → k < 4 → (r * 2 ^ 5 + u * 2 ^ 4 + k) / 2 ^ 4 % 2 ≡ u
control_digit r u k hr hu hk = omega arith

-- the control command flag, the segment header and the room at the places of what was put together
control_back : (layout : TcLayout) (p : TcParts) → p.spacecraft < 2 ^ 10
    → control_of (body_of_cells layout p) ≡ p.control
control_back layout p sc =
    ap (λ k. k == 1) (control_digit (bit p.bypass) (bit p.control) (p.spacecraft / 2 ^ 8) (bit_small p.bypass)
    (bit_small p.control) (omega arith)) ∙ digit_of_bit p.control

segment_length_back : (layout : TcLayout) (p : TcParts) → FitsLayout layout p
    → segment_length layout (body_of_cells layout p) ≡ length (option_to_list p.segment)
segment_length_back layout p fits =
    ap (λ k. one_if (has_segment layout k)) (control_back layout p fits.spacecraft) ∙ ap one_if (sym fits.segment)
    ∙ one_if_some p.segment

parts_in_cells : (layout : TcLayout) (p : TcParts) → FitsLayout layout p → parts_in layout (body_of_cells layout p) ≡ p
parts_in_cells layout p fits =
    let n : ℕ = frame_length layout p in
    let B : List ℕ = body_of_cells layout p in
    let front : List ℕ = cells_of p n ++ option_to_list p.segment in
    let start : 5 + segment_length layout B ≡ length front =
    omega (arith, segment_length_back layout p fits, length-append (cells_of p n) (option_to_list p.segment)) in
    same_parts
    (ap (λ k. k == 1) (bypass_digit (bit p.bypass) (bit p.control) (p.spacecraft / 2 ^ 8) (bit_small p.bypass)
    (bit_small p.control) (omega (arith, fits.spacecraft))) ∙ digit_of_bit p.bypass)
    (control_back layout p fits.spacecraft)
    (spacecraft_digits (bit p.bypass) (bit p.control) p.spacecraft fits.spacecraft)
    (channel_digits p.channel (n - 1) (omega (arith, fits.field)))
    refl
    (ap (λ k. if has_segment layout k then Some (get_or B 5 0) else None) (control_back layout p fits.spacecraft)
    ∙ ap (λ k. if k then Some (get_or B 5 0) else None) (sym fits.segment)
    ∙ segment_back (bit p.bypass * 2 ^ 5 + bit p.control * 2 ^ 4 + p.spacecraft / 2 ^ 8) (p.spacecraft % 2 ^ 8)
    (p.channel * 2 ^ 2 + (n - 1) / 2 ^ 8) ((n - 1) % 2 ^ 8) p.sequence p.segment p.room)
    (drop_front front p.room (5 + segment_length layout B) start)

-- a frame with parts has no fault, and the parts are at their places
pub frame_parts : (layout : TcLayout) (p : TcParts) (frame : List ℕ) → TcFrame layout p frame
    → (first_fault layout frame ≡ None) × (parts_at layout frame ≡ p)
frame_parts layout p frame is =
    let fits : FitsLayout layout p = is.fits in
    let n : ℕ = frame_length layout p in
    let B : List ℕ = body_of_cells layout p in
    let header : packed (primary_header p n) ≡ cells_of p n =
    header_cells p n fits.spacecraft fits.channel fits.sequence fits.field in
    let body : body_of layout p ≡ B = ap (λ l. (l ++ option_to_list p.segment) ++ p.room) header in
    let spelled : frame ≡ with_error_control layout.fecf B =
    is.spelled ∙ ap (λ l. with_error_control layout.fecf l) body in
    let count : length frame ≡ n =
    omega (
      arith,
      ap length spelled,
      length-with_error_control layout.fecf B,
      length-append (cells_of p n ++ option_to_list p.segment) p.room,
      length-append (cells_of p n) (option_to_list p.segment),
    ) in
    let first : get_or frame 0 0 ≡ get_or B 0 0 =
    ap (λ l. get_or l 0 0) spelled ∙ get_or-with_error_control layout.fecf B 0 (omega arith) in
    let third : get_or frame 2 0 ≡ get_or B 2 0 =
    ap (λ l. get_or l 2 0) spelled ∙ get_or-with_error_control layout.fecf B 2 (omega arith) in
    let fourth : get_or frame 3 0 ≡ get_or B 3 0 =
    ap (λ l. get_or l 3 0) spelled ∙ get_or-with_error_control layout.fecf B 3 (omega arith) in
    let segment : segment_length layout frame ≡ length (option_to_list p.segment) =
    ap (λ a. if has_segment layout (a / 2 ^ 4 % 2 == 1) then 1 else 0) first ∙ segment_length_back layout p fits in
    let faultless : Faultless layout frame = record {
      header = omega (arith, count);
      needed = omega (arith, count, segment);
      most = omega (arith, count, fits.most);
      field = ap (λ k. (k * 2 ^ 8 + get_or frame 3 0) % 2 ^ 10) third ∙ ap (λ k. (get_or B 2 0 * 2 ^ 8 + k) % 2 ^ 10)
          fourth
          ∙ length_digits p.channel (n - 1) (omega (arith, fits.field)) ∙ ap (λ k. k - 1) (sym count);
      version = ap (λ k. k / 64) first ∙ version_digits (bit p.bypass) (bit p.control) (p.spacecraft / 2 ^ 8)
          (bit_small p.bypass) (bit_small p.control) (omega (arith, fits.spacecraft));
      spare = ap (λ k. k / 4 % 4) first ∙ spare_digits (bit p.bypass) (bit p.control) (p.spacecraft / 2 ^ 8)
          (omega (arith, fits.spacecraft));
      error_control = ap (λ l. fails_error_control layout.fecf l) spelled ∙ fails_error_control-with layout.fecf B;
    } in (
      first_fault-none layout frame faultless,
      ap (λ l. parts_in layout (before_error_control layout.fecf l)) spelled
          ∙ ap (λ l. parts_in layout l) (before_error_control-with layout.fecf B)
          ∙ parts_in_cells layout p fits,
    )

-- the prefix stands in front of the octets before the error control field
pub prefix_at : (layout : TcLayout) (p : TcParts) (frame : List ℕ) → TcFrame layout p frame
    → take (5 + segment_length layout (before_error_control layout.fecf frame)) (before_error_control layout.fecf frame)
    ≡ prefix_of layout p
prefix_at layout p frame is =
    let fits : FitsLayout layout p = is.fits in
    let n : ℕ = frame_length layout p in
    let B : List ℕ = body_of_cells layout p in
    let front : List ℕ = cells_of p n ++ option_to_list p.segment in
    let header : packed (primary_header p n) ≡ cells_of p n =
    header_cells p n fits.spacecraft fits.channel fits.sequence fits.field in
    let spelled : frame ≡ with_error_control layout.fecf B =
    is.spelled ∙ ap (λ l. with_error_control layout.fecf ((l ++ option_to_list p.segment) ++ p.room)) header in
    let start : 5 + segment_length layout B ≡ length front =
    omega (arith, segment_length_back layout p fits, length-append (cells_of p n) (option_to_list p.segment)) in
    ap (λ l. take (5 + segment_length layout l) l)
    (ap (λ l. before_error_control layout.fecf l) spelled ∙ before_error_control-with layout.fecf B)
    ∙ take_front front p.room (5 + segment_length layout B) start
    ∙ ap (λ l. l ++ option_to_list p.segment) (sym header)
