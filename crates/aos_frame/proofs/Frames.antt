-- A frame without fault has the parts at its places, and a frame with parts has no fault.
use Rattle.std.proofs.Common.{◌≡◌, ℕ, ◌+◌, ◌-◌, ◌*◌, ◌/◌, ◌%◌, ◌^◌, ◌≤◌, ◌<◌, Bool, true, false, List, [], ◌∷◌, ◌++◌}
use Rattle.std.proofs.Common.{length, take, drop, get_or, refl, sym, ◌∙◌, ap, arith, append_assoc, length-append}
use Rattle.std.proofs.Common.{length-take-le, length-drop}
use Rattle.std.proofs.lemmas.Bool.{le-ltb, ltb-false}
use Rattle.std.specs.Prelude.{Some, None, not, ◌==◌, nat_lt, unwrap_or, if◌then◌else◌}
use Rattle.std.proofs.lemmas.List.{get_or-take}
use Rattle.sdls_base.specs.declared.layout.AosLayout.{AosLayout}
use Rattle.sdls_base.specs.declared.layout.FrameFault.TheVariants.{Short, Long, Version, Spare, Fecf}
use Rattle.sdls_base.specs.ErrorControl.{with_error_control, error_control_length, before_error_control}
use Rattle.sdls_base.specs.ErrorControl.{fails_error_control}
use Rattle.sdls_base.specs.Fields.{bit, packed}
use Rattle.sdls_base.proofs.Checks.{passes, passed, passed_later, same_if_passed, passed_if_same}
use Rattle.sdls_base.proofs.Endings.{before_error_control-with, fails_error_control-with, with-before_error_control}
use Rattle.sdls_base.proofs.Endings.{take_front, drop_front, get_or-with_error_control}
use Rattle.sdls_base.proofs.FieldLemmas.{cells_six, front_six, bit_small, bit_of_digit, digit_of_bit}
use Rattle.sdls_base.proofs.Pieces.{pieces_whole, get_or-take_small}
use Rattle.sdls_base.proofs.ControlFields.{ocf_at-fits, ocf_at-octets, length-ocf, ocf_back}
use Rattle.sdls_base.specs.ControlField.{ocf_length, ocf_at, before_ocf}
use Rattle.aos_frame.specs.AosFrame.{AosParts, AosFrame, FitsLayout, IsLayout, primary_header, prefix_of, body_of}
use Rattle.aos_frame.specs.AosFrame.{frame_of}
use Rattle.aos_frame.specs.FirstFault.{first_fault, version_of, spare_of}
use Rattle.aos_frame.specs.Reading.{parts_in, parts_at}
use Rattle.aos_frame.proofs.Words.{header_cells, same_parts}

-- no check fails
pub record Faultless (layout : AosLayout) (frame : List ℕ) : Type 0 where
  pub whole : length frame ≡ layout.length
  pub version : version_of frame ≡ 1
  pub spare : spare_of frame ≡ 0
  pub error_control : fails_error_control layout.fecf frame ≡ false

pub faultless : (layout : AosLayout) (frame : List ℕ) → first_fault layout frame ≡ None → Faultless layout frame
faultless layout frame e =
    let short : nat_lt (length frame) layout.length ≡ false = passed _ Short _ e in
    let e1 = passed_later _ Short _ e in
    let long : nat_lt layout.length (length frame) ≡ false = passed _ Long _ e1 in
    let e2 = passed_later _ Long _ e1 in
    let version : not (version_of frame == 1) ≡ false = passed _ Version _ e2 in
    let e3 = passed_later _ Version _ e2 in
    let spare : not (spare_of frame == 0) ≡ false = passed _ Spare _ e3 in
    let e4 = passed_later _ Spare _ e3 in
    record {
      whole = omega (arith, ltb-false (length frame) layout.length short, ltb-false layout.length (length frame) long);
      version = same_if_passed (version_of frame) 1 version;
      spare = same_if_passed (spare_of frame) 0 spare;
      error_control = passed _ Fecf _ e4;
    }

pub first_fault-none : (layout : AosLayout) (frame : List ℕ) → Faultless layout frame → first_fault layout frame ≡ None
first_fault-none layout frame f =
    passes _ Short _ (le-ltb (length frame) layout.length (omega (arith, f.whole)))
    (passes _ Long _ (le-ltb layout.length (length frame) (omega (arith, f.whole)))
    (passes _ Version _ (passed_if_same (version_of frame) 1 f.version)
    (passes _ Spare _ (passed_if_same (spare_of frame) 0 f.spare)
    (passes _ Fecf _ f.error_control refl))))

-- the primary header of the parts at their places is the first six octets
header_at : (layout : AosLayout) (body : List ℕ) → ((i : ℕ) → get_or body i 0 < 256) → version_of body ≡ 1
    → spare_of body ≡ 0
    → packed (primary_header (parts_in layout body))
    ≡ (get_or body 0 0 ∷ get_or body 1 0 ∷ get_or body 2 0 ∷ get_or body 3 0 ∷ get_or body 4 0 ∷ get_or body 5 0
    ∷ [])
header_at layout body octets version spare =
    let p : AosParts = parts_in layout body in
    let a : ℕ = get_or body 0 0 in
    let b : ℕ = get_or body 1 0 in
    let c : ℕ = get_or body 2 0 in
    let d : ℕ = get_or body 3 0 in
    let e : ℕ = get_or body 4 0 in
    let f : ℕ = get_or body 5 0 in
    let a8 : a < 256 = octets 0 in
    let b8 : b < 256 = octets 1 in
    let c8 : c < 256 = octets 2 in
    let d8 : d < 256 = octets 3 in
    let e8 : e < 256 = octets 4 in
    let f8 : f < 256 = octets 5 in
    let r : bit (f / 2 ^ 7 % 2 == 1) ≡ f / 2 ^ 7 % 2 = bit_of_digit (f / 2 ^ 7 % 2) (omega arith) in
    let u : bit (f / 2 ^ 6 % 2 == 1) ≡ f / 2 ^ 6 % 2 = bit_of_digit (f / 2 ^ 6 % 2) (omega arith) in
    header_cells p (omega arith) (omega arith) (omega arith) (omega arith)
    ∙ cells_six (omega arith) (omega arith) (omega arith) (omega arith) (omega arith) (omega (arith, r, u))

start_within : (ocf : Bool) (insert n : ℕ) → 10 + insert ≤ n → 6 + insert ≤ n - ocf_length ocf
start_within false insert n h = omega arith
start_within true insert n h = omega arith

ocf_within : (ocf : Bool) (n : ℕ) → 10 ≤ n → ocf_length ocf ≤ n
ocf_within false n h = omega arith
ocf_within true n h = omega arith

enough_left : (fecf : Bool) (insert n : ℕ) → 12 + insert ≤ n → 10 + insert ≤ n - error_control_length fecf
enough_left false insert n h = omega arith
enough_left true insert n h = omega arith

-- the octets before the error control field are spelled by the parts at their places
body_spelled : (layout : AosLayout) (body : List ℕ) → 10 + layout.insert ≤ length body
    → ((i : ℕ) → get_or body i 0 < 256)
    → version_of body ≡ 1 → spare_of body ≡ 0 → body_of (parts_in layout body) ≡ body
body_spelled layout body room octets version spare =
    let end : ℕ = length body - ocf_length layout.ocf in
    let within : 6 + layout.insert ≤ end = start_within layout.ocf layout.insert (length body) room in
    let front : List ℕ = get_or body 0 0 ∷ get_or body 1 0 ∷ get_or body 2 0 ∷ get_or body 3 0 ∷ get_or body 4 0
    ∷ get_or body 5 0 ∷ [] in
    ap (λ l. ((l ++ take layout.insert (drop 6 body)) ++ drop (6 + layout.insert) (take end body))
    ++ unwrap_or (ocf_at layout.ocf body) []) (header_at layout body octets version spare)
    ∙ ap (λ l. ((front ++ take layout.insert (drop 6 body)) ++ drop (6 + layout.insert) (take end body)) ++ l)
    (ocf_at-octets layout.ocf body)
    ∙ pieces_whole body front 6 layout.insert end (front_six body (omega arith)) within

-- what the checks leave has the parts at its places
pub frame_at : (layout : AosLayout) (frame : List ℕ) → IsLayout layout → ((i : ℕ) → get_or frame i 0 < 256)
    → first_fault layout frame ≡ None
    → AosFrame layout (parts_at layout frame) frame
frame_at layout frame long octets none =
    let f : Faultless layout frame = faultless layout frame none in
    let n : ℕ = length frame - error_control_length layout.fecf in
    let body : List ℕ = take n frame in
    let p : AosParts = parts_in layout body in
    let enough : 10 + layout.insert ≤ n =
    enough_left layout.fecf layout.insert (length frame) (omega (arith, f.whole)) in
    let body_length : length body ≡ n = length-take-le n frame (omega arith) in
    let body_octets : (i : ℕ) → get_or body i 0 < 256 = λ i. get_or-take_small frame n 256 i (omega arith) (octets i) in
    let first : get_or body 0 0 ≡ get_or frame 0 0 = get_or-take n frame 0 0 (omega arith) in
    let sixth : get_or body 5 0 ≡ get_or frame 5 0 = get_or-take n frame 5 0 (omega arith) in
    let version : version_of body ≡ 1 = ap (λ k. k / 64) first ∙ f.version in
    let spare : spare_of body ≡ 0 = ap (λ k. k / 16 % 4) sixth ∙ f.spare in
    let spelled : body_of p ≡ body = body_spelled layout body (omega arith) body_octets version spare in
    let whole : frame ≡ frame_of layout p =
    sym (ap (λ l. with_error_control layout.fecf l) spelled ∙ with-before_error_control layout.fecf frame
    f.error_control) in
    record {
      fits = record {
        spacecraft = omega arith;
        channel = omega arith;
        count = omega (arith, body_octets 2, body_octets 3, body_octets 4);
        cycle = omega arith;
        insert = length-take-le layout.insert (drop 6 body) (omega (arith, length-drop 6 body));
        ocf = ocf_at-fits layout.ocf body (ocf_within layout.ocf (length body) (omega arith));
        whole = sym (ap length whole) ∙ f.whole;
      };
      spelled = whole;
    }

replay_digit : (r u cy : ℕ) → r < 2 → u < 2 → cy < 2 ^ 4 → (r * 2 ^ 7 + u * 2 ^ 6 + cy) / 2 ^ 7 % 2 ≡ r
replay_digit r u cy hr hu hc = omega arith

use_digit : (r u cy : ℕ) → r < 2 → u < 2 → cy < 2 ^ 4 → (r * 2 ^ 7 + u * 2 ^ 6 + cy) / 2 ^ 6 % 2 ≡ u
use_digit r u cy hr hu hc = omega arith

cycle_digits : (r u cy : ℕ) → r < 2 → u < 2 → cy < 2 ^ 4 → (r * 2 ^ 7 + u * 2 ^ 6 + cy) % 2 ^ 4 ≡ cy
cycle_digits r u cy hr hu hc = omega arith

spare_digits : (r u cy : ℕ) → r < 2 → u < 2 → cy < 2 ^ 4 → (r * 2 ^ 7 + u * 2 ^ 6 + cy) / 16 % 4 ≡ 0
spare_digits r u cy hr hu hc = omega arith

-- the octets of the primary header, one by one
abbrev pub cells_of : AosParts → List ℕ
cells_of p =
    (64 + p.spacecraft / 4) ∷ (p.spacecraft % 4 * 64 + p.channel) ∷ (p.count / 2 ^ 16) ∷ (p.count / 2 ^ 8 % 2 ^ 8)
    ∷ (p.count % 2 ^ 8)
    ∷ (bit p.replay * 2 ^ 7 + bit p.cycle_use * 2 ^ 6 + p.cycle) ∷ []

abbrev pub body_of_cells : AosParts → List ℕ
body_of_cells p = (cells_of p ++ p.insert) ++ p.room ++ unwrap_or p.ocf []

-- the parts at the places of what was put together are those parts
parts_in_cells : (layout : AosLayout) (p : AosParts) → FitsLayout layout p → parts_in layout (body_of_cells p) ≡ p
parts_in_cells layout p fits =
    let tail : List ℕ = unwrap_or p.ocf [] in
    let front : List ℕ = (cells_of p ++ p.insert) ++ p.room in
    let tail_length : length tail ≡ ocf_length layout.ocf = length-ocf layout.ocf p.ocf fits.ocf in
    let end : length (front ++ tail) - ocf_length layout.ocf ≡ length front = omega (arith, length-append front tail) in
    let before : before_ocf layout.ocf (front ++ tail) ≡ front =
    take_front front tail (length (front ++ tail) - ocf_length layout.ocf) end in
    let after : drop (length (front ++ tail) - ocf_length layout.ocf) (front ++ tail) ≡ tail =
    drop_front front tail (length (front ++ tail) - ocf_length layout.ocf) end in
    let start : 6 + layout.insert ≡ length (cells_of p ++ p.insert) =
    omega (arith, length-append (cells_of p) p.insert, fits.insert) in
    let rb : bit p.replay < 2 = bit_small p.replay in
    let ub : bit p.cycle_use < 2 = bit_small p.cycle_use in
    same_parts
    (omega (arith, fits.spacecraft, fits.channel))
    (omega (arith, fits.spacecraft, fits.channel))
    (omega (arith, fits.count))
    (ap (λ n. n == 1) (replay_digit (bit p.replay) (bit p.cycle_use) p.cycle rb ub fits.cycle) ∙ digit_of_bit p.replay)
    (ap (λ n. n == 1) (use_digit (bit p.replay) (bit p.cycle_use) p.cycle rb ub fits.cycle) ∙ digit_of_bit p.cycle_use)
    (cycle_digits (bit p.replay) (bit p.cycle_use) p.cycle rb ub fits.cycle)
    (ap (λ l. take layout.insert l) (append_assoc p.insert p.room tail) ∙ take_front p.insert (p.room ++ tail)
    layout.insert (sym fits.insert))
    (ap (λ l. drop (6 + layout.insert) l) before ∙ drop_front (cells_of p ++ p.insert) p.room (6 + layout.insert) start)
    (ap (λ l. if layout.ocf then Some l else None) after ∙ ocf_back layout.ocf p.ocf fits.ocf)

-- a frame with parts has no fault, and the parts are at their places
pub frame_parts : (layout : AosLayout) (p : AosParts) (frame : List ℕ) → AosFrame layout p frame
    → (first_fault layout frame ≡ None) × (parts_at layout frame ≡ p)
frame_parts layout p frame is =
    let fits : FitsLayout layout p = is.fits in
    let header : packed (primary_header p) ≡ cells_of p =
    header_cells p fits.spacecraft fits.channel fits.count fits.cycle in
    let body : body_of p ≡ body_of_cells p = ap (λ l. (l ++ p.insert) ++ p.room ++ unwrap_or p.ocf []) header in
    let spelled : frame ≡ with_error_control layout.fecf (body_of_cells p) =
    is.spelled ∙ ap (λ l. with_error_control layout.fecf l) body in
    let rb : bit p.replay < 2 = bit_small p.replay in
    let ub : bit p.cycle_use < 2 = bit_small p.cycle_use in
    let first : get_or frame 0 0 ≡ 64 + p.spacecraft / 4 =
    ap (λ l. get_or l 0 0) spelled ∙ get_or-with_error_control layout.fecf (body_of_cells p) 0 (omega arith) in
    let sixth : get_or frame 5 0 ≡ bit p.replay * 2 ^ 7 + bit p.cycle_use * 2 ^ 6 + p.cycle =
    ap (λ l. get_or l 5 0) spelled ∙ get_or-with_error_control layout.fecf (body_of_cells p) 5 (omega arith) in
    let faultless : Faultless layout frame = record {
      whole = ap length is.spelled ∙ fits.whole;
      version = ap (λ n. n / 64) first ∙ omega (arith, fits.spacecraft);
      spare = ap (λ n. n / 16 % 4) sixth ∙ spare_digits (bit p.replay) (bit p.cycle_use) p.cycle rb ub fits.cycle;
      error_control = ap (λ l. fails_error_control layout.fecf l) spelled ∙ fails_error_control-with layout.fecf
          (body_of_cells p);
    } in (
      first_fault-none layout frame faultless,
      ap (λ l. parts_in layout (before_error_control layout.fecf l)) spelled
          ∙ ap (λ l. parts_in layout l) (before_error_control-with layout.fecf (body_of_cells p))
          ∙ parts_in_cells layout p fits,
    )

-- the prefix stands in front of the octets before the error control field
pub prefix_at : (layout : AosLayout) (p : AosParts) (frame : List ℕ) → AosFrame layout p frame
    → take (6 + layout.insert) (before_error_control layout.fecf frame) ≡ prefix_of p
prefix_at layout p frame is =
    let fits : FitsLayout layout p = is.fits in
    let header : packed (primary_header p) ≡ cells_of p =
    header_cells p fits.spacecraft fits.channel fits.count fits.cycle in
    let n : 6 + layout.insert ≡ length (prefix_of p) =
    omega (arith, length-append (packed (primary_header p)) p.insert, fits.insert, ap length header) in
    ap (λ l. take (6 + layout.insert) (before_error_control layout.fecf l)) is.spelled
    ∙ ap (λ l. take (6 + layout.insert) l)
    (before_error_control-with layout.fecf (body_of p) ∙ append_assoc (prefix_of p) p.room (unwrap_or p.ocf []))
    ∙ take_front (prefix_of p) (p.room ++ unwrap_or p.ocf []) (6 + layout.insert) n
