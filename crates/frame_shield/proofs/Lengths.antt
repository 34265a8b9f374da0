-- How long frames and their prefixes are.
use Rattle.std.proofs.Common.{◌≡◌, ℕ, ◌+◌, ◌-◌, ◌≤◌, Bool, true, false, List, [], ◌++◌, length, refl, sym, ap, ◌∙◌}
use Rattle.std.proofs.Common.{arith, append-nil, length-append}
use Rattle.std.specs.Prelude.{Option, Some, None, unwrap_or}
use Rattle.std.specs.Option.{option_to_list}
use Rattle.sdls_base.specs.declared.states.Suite.{Suite}
use Rattle.sdls_base.specs.declared.states.Suite.TheVariants.{Cmac, Gcm}
use Rattle.sdls_base.specs.Suite.{overhead_of}
use Rattle.sdls_base.specs.Fields.{packed}
use Rattle.sdls_base.specs.ErrorControl.{with_error_control, error_control_length}
use Rattle.sdls_base.proofs.Endings.{length-with_error_control}
use Rattle.sdls_base.specs.declared.layout.TcLayout.{TcLayout}
use Rattle.aes_block.specs.Aes.{encrypted, cipher}
use Rattle.cmac.specs.Cmac.{mac}
use Rattle.gcm.specs.Gcm.{tag_of, gctr}
use Rattle.std.specs.Int.{w64, to_be_bytes}
use Rattle.sdls_header.specs.declared.header.Vector.{Vector}
use Rattle.sdls_header.specs.declared.header.Vector.TheVariants.{Sequence, Wide}
use Rattle.frame_shield.specs.Secured.{sealed}
use Rattle.tc_frame.specs.TcFrame as tc_frames
use Rattle.tm_frame.specs.TmFrame as tm_frames
use Rattle.aos_frame.specs.AosFrame as aos_frames
use Rattle.sdls_base.specs.declared.link.AnyLayout.{AnyLayout}
use Rattle.sdls_base.specs.declared.link.AnyLayout.TheVariants.{Tc, Tm, Aos}
use Rattle.frame_shield.specs.AnyFrame.{AnyParts, tc, tm, aos, IsFrame, prefix_of, room_of}
use Rattle.frame_shield.specs.Body.{ocf_of}
use Rattle.sdls_base.specs.Link.{has_fecf, IsInBounds}
use Rattle.frame_shield.specs.Binding.{clear_layout, gain_of}
use Rattle.frame_shield.specs.Shield.{most_of, prefix_for}
use Rattle.frame_shield.specs.declared.protecting_frames.TheConstants.{FRAME_ROOM}
use Rattle.std.proofs.lemmas.List.{length-drop}

-- the octets of a frame before its error control field
abbrev pub octets_before : AnyLayout → AnyParts → List ℕ
octets_before layout p = (prefix_of layout p ++ room_of p) ++ unwrap_or (ocf_of p) []

-- a frame is its prefix, its room and the fields behind
pub frame_is : (layout : AnyLayout) (p : AnyParts) (frame : List ℕ) → IsFrame layout p frame
    → frame ≡ with_error_control (has_fecf layout) (octets_before layout p)
frame_is (Tc layout) (tc p) frame is =
    is.spelled ∙ ap (λ l. with_error_control layout.fecf l) (sym (append-nil (tc_frames.prefix_of layout p ++ p.room)))
frame_is (Tc layout) (tm p) frame is = absurd is
frame_is (Tc layout) (aos p) frame is = absurd is
frame_is (Tm layout) (tc p) frame is = absurd is
frame_is (Tm layout) (tm p) frame is = is.spelled
frame_is (Tm layout) (aos p) frame is = absurd is
frame_is (Aos layout) (tc p) frame is = absurd is
frame_is (Aos layout) (tm p) frame is = absurd is
frame_is (Aos layout) (aos p) frame is = is.spelled

pub length-frame : (layout : AnyLayout) (p : AnyParts) (frame : List ℕ) → IsFrame layout p frame
    → length frame ≡ length (prefix_of layout p) + length (room_of p) + length (unwrap_or (ocf_of p) [])
    + error_control_length (has_fecf layout)
length-frame layout p frame is =
    let front : List ℕ = prefix_of layout p ++ room_of p in
    let tail : List ℕ = unwrap_or (ocf_of p) [] in
    omega (
      arith,
      ap length (frame_is layout p frame is),
      length-with_error_control (has_fecf layout) (front ++ tail),
      length-append front tail,
      length-append (prefix_of layout p) (room_of p),
    )

-- an insert zone of at most 64 octets
abbrev pub HasShortInsert : AnyLayout → Type 0
HasShortInsert (Tc layout) = Unit {0}
HasShortInsert (Tm layout) = Unit {0}
HasShortInsert (Aos layout) = layout.insert ≤ 64

pub tc_header : (p : tc_frames.TcParts) (n : ℕ) → length (packed (tc_frames.primary_header p n)) ≡ 5
unfolding packed
tc_header p n = refl

tm_header : (p : tm_frames.TmParts) → length (packed (tm_frames.primary_header p)) ≡ 6
unfolding packed
tm_header p = refl

aos_header : (p : aos_frames.AosParts) → length (packed (aos_frames.primary_header p)) ≡ 6
unfolding packed
aos_header p = refl

at_most_one : (o : Option ℕ) → length (option_to_list o) ≤ 1
at_most_one None = omega arith
at_most_one (Some x) = omega arith

secondary_short : (flag : Bool) (octets : List ℕ) → tm_frames.IsSecondaryHeader flag octets → length octets ≤ 64
secondary_short false octets is = omega (arith, ap length is)
secondary_short true octets is = is.1

pub prefix_bounds : (layout : AnyLayout) (p : AnyParts) (frame : List ℕ) → HasShortInsert layout
    → IsFrame layout p frame
    → (5 ≤ length (prefix_of layout p)) × (length (prefix_of layout p) ≤ 70)
prefix_bounds (Tc layout) (tc p) frame short is =
    let n : ℕ = tc_frames.frame_length layout p in
    let header : List ℕ = packed (tc_frames.primary_header p n) in
    let whole : length (header ++ option_to_list p.segment) ≡ 5 + length (option_to_list p.segment) =
    omega (arith, length-append header (option_to_list p.segment), tc_header p n) in
    (omega (arith, whole), omega (arith, whole, at_most_one p.segment))
prefix_bounds (Tc layout) (tm p) frame short is = absurd is
prefix_bounds (Tc layout) (aos p) frame short is = absurd is
prefix_bounds (Tm layout) (tc p) frame short is = absurd is
prefix_bounds (Tm layout) (tm p) frame short is =
    let header : List ℕ = packed (tm_frames.primary_header p) in
    let whole : length (header ++ p.secondary) ≡ 6 + length p.secondary =
    omega (arith, length-append header p.secondary, tm_header p) in (
      omega (arith, whole),
      omega (arith, whole, secondary_short (tm_frames.has_secondary p.status) p.secondary is.fits.secondary),
    )
prefix_bounds (Tm layout) (aos p) frame short is = absurd is
prefix_bounds (Aos layout) (tc p) frame short is = absurd is
prefix_bounds (Aos layout) (tm p) frame short is = absurd is
prefix_bounds (Aos layout) (aos p) frame short is =
    let header : List ℕ = packed (aos_frames.primary_header p) in
    let whole : length (header ++ p.insert) ≡ 6 + length p.insert =
    omega (arith, length-append header p.insert, aos_header p) in
    (omega (arith, whole), omega (arith, whole, is.fits.insert))

-- the octets of a TC frame
pub tc_length : (layout : TcLayout) (p : tc_frames.TcParts) (frame : List ℕ) → tc_frames.TcFrame layout p frame
    → length frame ≡ tc_frames.frame_length layout p
tc_length layout p frame is =
    let n : ℕ = tc_frames.frame_length layout p in
    let header : List ℕ = packed (tc_frames.primary_header p n) in
    omega (
      arith,
      length-frame (Tc layout) (tc p) frame is,
      length-append header (option_to_list p.segment),
      tc_header p n,
    )

pub bounded_insert : (layout : AnyLayout) → IsInBounds layout → HasShortInsert layout
bounded_insert (Tc layout) bounds = tt
bounded_insert (Tm layout) bounds = tt
bounded_insert (Aos layout) bounds = bounds.0

pub clear_insert : (suite : Suite) (layout : AnyLayout) → IsInBounds layout → HasShortInsert (clear_layout suite layout)
clear_insert suite (Tc layout) bounds = tt
clear_insert suite (Tm layout) bounds = tt
clear_insert suite (Aos layout) bounds = bounds.0

pub gain_most : (suite : Suite) (fecf : Bool) → overhead_of suite + error_control_length fecf ≤ 32
gain_most Cmac false = omega arith
gain_most Cmac true = omega arith
gain_most Gcm false = omega arith
gain_most Gcm true = omega arith

-- the clear frame leaves room for what it gains
pub gains : (suite : Suite) (layout : AnyLayout) (p : AnyParts) (clear : List ℕ) → IsInBounds layout
    → IsFrame (clear_layout suite layout) p clear
    → length clear + gain_of suite layout ≤ most_of layout
gains suite (Tc layout) (tc p) clear bounds is =
    let gain : ℕ = gain_of suite (Tc layout) in
    let cut : TcLayout = record layout { fecf = false; most = layout.most - gain } in
    let count : length clear ≡ tc_frames.frame_length cut p = tc_length cut p clear is in
    let small : gain ≤ 32 = gain_most suite layout.fecf in
    let most : tc_frames.frame_length cut p ≤ layout.most - gain = is.fits.most in
    omega (arith, count, small, most, bounds)
gains suite (Tc layout) (tm p) clear bounds is = absurd is
gains suite (Tc layout) (aos p) clear bounds is = absurd is
gains suite (Tm layout) (tc p) clear bounds is = absurd is
gains suite (Tm layout) (tm p) clear bounds is =
    omega (arith, gain_most suite layout.fecf, ap length is.spelled, is.fits.whole, bounds.0)
gains suite (Tm layout) (aos p) clear bounds is = absurd is
gains suite (Aos layout) (tc p) clear bounds is = absurd is
gains suite (Aos layout) (tm p) clear bounds is = absurd is
gains suite (Aos layout) (aos p) clear bounds is =
    omega (arith, gain_most suite layout.fecf, ap length is.spelled, is.fits.whole, bounds.1)

pub most_short : (layout : AnyLayout) → IsInBounds layout → most_of layout ≤ FRAME_ROOM
most_short (Tc layout) bounds = omega arith
most_short (Tm layout) bounds = bounds.1
most_short (Aos layout) bounds = bounds.2

pub no_clear_fecf : (suite : Suite) (layout : AnyLayout) → has_fecf (clear_layout suite layout) ≡ false
no_clear_fecf suite (Tc layout) = refl
no_clear_fecf suite (Tm layout) = refl
no_clear_fecf suite (Aos layout) = refl

length-mac : (key text : List ℕ) → length (mac key text) ≡ 16
unfolding mac encrypted cipher
length-mac key text = refl

length-tag : (key iv aad text : List ℕ) → length (tag_of key iv aad text) ≡ 16
unfolding tag_of
length-tag key iv aad text = refl

-- a MAC has 16 octets
pub length-sealed : (key : List ℕ) (vector : Vector) (covered field : List ℕ)
    → length (sealed key vector covered field).1 ≡ 16
length-sealed key (Sequence n) covered field = length-mac key (covered ++ field)
length-sealed key (Wide device n) covered field =
    length-tag key (device ++ to_be_bytes w64 n) covered (gctr key (device ++ to_be_bytes w64 n) field)

-- the length field takes no octet more
pub length-prefix_for : (layout : AnyLayout) (prefix : List ℕ) (n : ℕ) → 5 ≤ length prefix
    → length (prefix_for layout prefix n) ≡ length prefix
length-prefix_for (Tc layout) prefix n header = omega (arith, length-drop 5 prefix)
length-prefix_for (Tm layout) prefix n header = refl
length-prefix_for (Aos layout) prefix n header = refl
