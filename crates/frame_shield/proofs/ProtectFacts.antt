-- What is put together from a clear frame is its protected frame.
use Rattle.std.proofs.Common.{◌≡◌, ℕ, false, ◌+◌, ◌-◌, ◌*◌, ◌/◌, ◌^◌, ◌≤◌, List, [], ◌++◌, length, refl, sym, ap, ◌∙◌}
use Rattle.std.proofs.Common.{subst, arith, append-nil, append_assoc, length-append}
use Rattle.std.specs.Prelude.{unwrap_or}
use Rattle.std.specs.Option.{option_to_list}
use Rattle.sdls_base.specs.declared.states.Suite.{Suite}
use Rattle.sdls_base.specs.declared.layout.TcLayout.{TcLayout}
use Rattle.sdls_base.specs.declared.layout.TmLayout.{TmLayout}
use Rattle.sdls_base.specs.declared.layout.AosLayout.{AosLayout}
use Rattle.sdls_base.specs.Suite.{overhead_of}
use Rattle.sdls_base.specs.Fields.{packed}
use Rattle.sdls_base.specs.ErrorControl.{with_error_control}
use Rattle.sdls_base.proofs.Endings.{length-with_error_control}
use Rattle.sdls_base.proofs.FieldLemmas.{cells_five}
use Rattle.sdls_header.specs.declared.header.Vector.{Vector}
use Rattle.sdls_header.specs.SecurityHeader.{Pieces, IsVectorOf, header_octets}
use Rattle.tc_frame.specs.TcFrame as tc_frames
use Rattle.tm_frame.specs.TmFrame as tm_frames
use Rattle.aos_frame.specs.AosFrame as aos_frames
use Rattle.tc_frame.proofs.Words.{cells_of, header_cells}
use Rattle.frame_shield.specs.declared.binding.Binding.{Binding}
use Rattle.sdls_base.specs.declared.link.AnyLayout.{AnyLayout}
use Rattle.sdls_base.specs.declared.link.AnyLayout.TheVariants.{Tc, Tm, Aos}
use Rattle.frame_shield.specs.AnyFrame.{AnyParts, tc, tm, aos, IsFrame, prefix_of, room_of, with_room}
use Rattle.frame_shield.specs.Body.{ocf_of}
use Rattle.sdls_base.specs.Link.{has_fecf, IsInBounds}
use Rattle.frame_shield.specs.Binding.{IsBinding, clear_layout, gain_of}
use Rattle.tc_frame.specs.Header.{with_length_field}
use Rattle.frame_shield.specs.Shield.{prefix_for, room_for}
use Rattle.frame_shield.specs.Secured.{IsSecured, sealed, covered, header_of, vector_for}
use Rattle.frame_shield.specs.Protects.{Protects}
use Rattle.frame_shield.proofs.Lengths.{length-frame, tc_length, gain_most, length-sealed}

third_cell : (ch n m : ℕ) → n ≤ 2 ^ 10 → (ch * 2 ^ 2 + (n - 1) / 2 ^ 8) / 4 * 4 + m ≡ ch * 2 ^ 2 + m
third_cell ch n m h = omega arith

-- the parts of the protected frame still fill their fields, and the octets the frame
tc_lengths : (suite : Suite) (layout : TcLayout) (p : tc_frames.TcParts) (clear room : List ℕ) → layout.most ≡ 1024
    → tc_frames.TcFrame (record layout { fecf = false; most = layout.most - gain_of suite (Tc layout) }) p clear
    → length room ≡ length p.room + overhead_of suite
    → (length clear + gain_of suite (Tc layout) ≡ tc_frames.frame_length layout (record p { room = room }))
    × (length clear + gain_of suite (Tc layout) ≤ 1024)
tc_lengths suite layout p clear room bounds is longer =
    let gain : ℕ = gain_of suite (Tc layout) in
    let cut : TcLayout = record layout { fecf = false; most = layout.most - gain } in
    let count : length clear ≡ tc_frames.frame_length cut p = tc_length cut p clear is in
    let small : gain ≤ 32 = gain_most suite layout.fecf in
    let most : tc_frames.frame_length cut p ≤ layout.most - gain = is.fits.most in
    (omega (arith, count, longer), omega (arith, count, small, most, bounds))

-- the prefix of the protected frame
pub prefix_kept : (suite : Suite) (layout : AnyLayout) (p : AnyParts) (clear room : List ℕ) → IsInBounds layout
    → IsFrame (clear_layout suite layout) p clear
    → length room ≡ length (room_of p) + overhead_of suite
    → prefix_for layout (prefix_of (clear_layout suite layout) p) (length clear + gain_of suite layout)
    ≡ prefix_of layout (with_room p room)
prefix_kept suite (Tc layout) (tc p) clear room bounds is longer =
    let gain : ℕ = gain_of suite (Tc layout) in
    let cut : TcLayout = record layout { fecf = false; most = layout.most - gain } in
    let n : ℕ = tc_frames.frame_length cut p in
    let m : ℕ = length clear + gain in
    let q : tc_frames.TcParts = record p { room = room } in
    let segment : List ℕ = option_to_list p.segment in
    let lengths = tc_lengths suite layout p clear room bounds is longer in
    let short : m ≤ 2 ^ 10 = lengths.1 in
    let before : packed (tc_frames.primary_header p n) ≡ cells_of p n =
    header_cells p n is.fits.spacecraft is.fits.channel is.fits.sequence is.fits.field in
    let after : packed (tc_frames.primary_header q m) ≡ cells_of q m =
    header_cells q m is.fits.spacecraft is.fits.channel is.fits.sequence short in
    ap (λ (l : List ℕ). with_length_field (l ++ segment) m) before
    ∙ ap (λ (l : List ℕ). l ++ segment)
    (cells_five refl refl (third_cell p.channel n ((m - 1) / 2 ^ 8) is.fits.field) refl refl ∙ sym after)
    ∙ ap (λ (k : ℕ). packed (tc_frames.primary_header q k) ++ segment) lengths.0
prefix_kept suite (Tc layout) (tm p) clear room bounds is longer = absurd is
prefix_kept suite (Tc layout) (aos p) clear room bounds is longer = absurd is
prefix_kept suite (Tm layout) (tc p) clear room bounds is longer = absurd is
prefix_kept suite (Tm layout) (tm p) clear room bounds is longer = refl
prefix_kept suite (Tm layout) (aos p) clear room bounds is longer = absurd is
prefix_kept suite (Aos layout) (tc p) clear room bounds is longer = absurd is
prefix_kept suite (Aos layout) (tm p) clear room bounds is longer = absurd is
prefix_kept suite (Aos layout) (aos p) clear room bounds is longer = refl

-- the octets of the protected frame, before the frame error control field
abbrev pub whole_of : AnyLayout → AnyParts → List ℕ → List ℕ
whole_of layout p room = (prefix_of layout (with_room p room) ++ room) ++ unwrap_or (ocf_of p) []

tm_whole : (suite : Suite) (layout : TmLayout) (p : tm_frames.TmParts) (clear room : List ℕ) → 48 ≤ layout.length
    → tm_frames.TmFrame (record layout { fecf = false; length = layout.length - gain_of suite (Tm layout) }) p clear
    → length room ≡ length p.room + overhead_of suite
    → length (with_error_control layout.fecf (whole_of (Tm layout) (tm p) room)) ≡ layout.length
tm_whole suite layout p clear room long is longer =
    let gain : ℕ = gain_of suite (Tm layout) in
    let small : gain ≤ 32 = gain_most suite layout.fecf in
    let count = length-frame (clear_layout suite (Tm layout)) (tm p) clear is in
    let all : length clear ≡ layout.length - gain = ap length is.spelled ∙ is.fits.whole in
    let prefix : List ℕ = tm_frames.prefix_of p in
    let tail : List ℕ = unwrap_or p.ocf [] in
    omega (
      arith,
      small,
      count,
      all,
      longer,
      long,
      length-with_error_control layout.fecf ((prefix ++ room) ++ tail),
      length-append (prefix ++ room) tail,
      length-append prefix room,
    )

aos_whole : (suite : Suite) (layout : AosLayout) (p : aos_frames.AosParts) (clear room : List ℕ) → 48 ≤ layout.length
    → aos_frames.AosFrame (record layout { fecf = false; length = layout.length - gain_of suite (Aos layout) }) p clear
    → length room ≡ length p.room + overhead_of suite
    → length (with_error_control layout.fecf (whole_of (Aos layout) (aos p) room)) ≡ layout.length
aos_whole suite layout p clear room long is longer =
    let gain : ℕ = gain_of suite (Aos layout) in
    let small : gain ≤ 32 = gain_most suite layout.fecf in
    let count = length-frame (clear_layout suite (Aos layout)) (aos p) clear is in
    let all : length clear ≡ layout.length - gain = ap length is.spelled ∙ is.fits.whole in
    let prefix : List ℕ = aos_frames.prefix_of p in
    let tail : List ℕ = unwrap_or p.ocf [] in
    omega (
      arith,
      small,
      count,
      all,
      longer,
      long,
      length-with_error_control layout.fecf ((prefix ++ room) ++ tail),
      length-append (prefix ++ room) tail,
      length-append prefix room,
    )

-- what is put together is a frame of the link's layout
pub framed : (suite : Suite) (layout : AnyLayout) (p : AnyParts) (clear room : List ℕ) → IsInBounds layout
    → IsFrame (clear_layout suite layout) p clear
    → length room ≡ length (room_of p) + overhead_of suite
    → IsFrame layout (with_room p room) (with_error_control (has_fecf layout) (whole_of layout p room))
framed suite (Tc layout) (tc p) clear room bounds is longer =
    let q : tc_frames.TcParts = record p { room = room } in
    let lengths = tc_lengths suite layout p clear room bounds is longer in
    record {
      fits = record {
        spacecraft = is.fits.spacecraft;
        channel = is.fits.channel;
        sequence = is.fits.sequence;
        segment = is.fits.segment;
        segment_octet = is.fits.segment_octet;
        most = omega (arith, lengths.0, lengths.1, bounds);
        field = omega (arith, lengths.0, lengths.1);
      };
      spelled = ap (λ (l : List ℕ). with_error_control layout.fecf l)
          (append-nil (tc_frames.prefix_of layout q ++ room));
    }
framed suite (Tc layout) (tm p) clear room bounds is longer = absurd is
framed suite (Tc layout) (aos p) clear room bounds is longer = absurd is
framed suite (Tm layout) (tc p) clear room bounds is longer = absurd is
framed suite (Tm layout) (tm p) clear room bounds is longer = record {
  fits = record {
    spacecraft = is.fits.spacecraft;
    channel = is.fits.channel;
    master_count = is.fits.master_count;
    channel_count = is.fits.channel_count;
    status = is.fits.status;
    secondary = is.fits.secondary;
    ocf = is.fits.ocf;
    whole = tm_whole suite layout p clear room bounds.0 is longer;
  };
  spelled = refl;
}
framed suite (Tm layout) (aos p) clear room bounds is longer = absurd is
framed suite (Aos layout) (tc p) clear room bounds is longer = absurd is
framed suite (Aos layout) (tm p) clear room bounds is longer = absurd is
framed suite (Aos layout) (aos p) clear room bounds is longer = record {
  fits = record {
    spacecraft = is.fits.spacecraft;
    channel = is.fits.channel;
    count = is.fits.count;
    cycle = is.fits.cycle;
    insert = is.fits.insert;
    ocf = is.fits.ocf;
    whole = aos_whole suite layout p clear room (omega (arith, bounds.1)) is longer;
  };
  spelled = refl;
}

-- the pieces of the room that is put together
abbrev pub pieces_for : Binding → Vector → List ℕ → List ℕ → Pieces
pieces_for b vector prefix field =
    let seal = sealed b.schedule vector (covered b prefix vector) field in
    record { header = header_octets (header_of b vector); vector = vector; field = seal.0; mac = seal.1 }

pub secured_for : (b : Binding) (vector : Vector) (prefix field : List ℕ) → IsVectorOf b.suite vector
    → IsSecured b prefix (room_for b vector prefix field) (pieces_for b vector prefix field) field
secured_for b vector prefix field kind =
    let p : Pieces = pieces_for b vector prefix field in
    record {
      split = record {
        whole = sym (append_assoc p.header p.field p.mac);
        header = refl;
        kind = kind;
        mac = length-sealed b.schedule vector (covered b prefix vector) field;
      };
      header = refl;
      seal = refl;
    }

-- the whole
pub protects : (b : Binding) (n : ℕ) (clear : List ℕ) (p : AnyParts) (vector : Vector) (front room : List ℕ)
    → IsBinding b
    → IsFrame (clear_layout b.suite b.link.layout) p clear → IsVectorOf b.suite vector
    → vector ≡ vector_for b.suite b.device n
    → front ≡ prefix_for b.link.layout (prefix_of (clear_layout b.suite b.link.layout) p)
    (length clear + gain_of b.suite b.link.layout)
    → room ≡ room_for b vector front (room_of p)
    → length room ≡ length (room_of p) + overhead_of b.suite
    → Protects b n clear (with_error_control (has_fecf b.link.layout) ((front ++ room) ++ unwrap_or (ocf_of p) []))
protects b n clear p vector front room binds is kind carries front_is room_is longer =
    let fecf = has_fecf b.link.layout in
    let tail : List ℕ = unwrap_or (ocf_of p) [] in
    let same : front ≡ prefix_of b.link.layout (with_room p room) =
    front_is ∙ prefix_kept b.suite b.link.layout p clear room binds.link.layout is longer in
    let secured : IsSecured b front room (pieces_for b vector front (room_of p)) (room_of p) =
    subst (λ (r : List ℕ). IsSecured b front r (pieces_for b vector front (room_of p)) (room_of p)) (sym room_is)
    (secured_for b vector front (room_of p) kind) in
    record {
      parts = p;
      room = room;
      pieces = pieces_for b vector front (room_of p);
      clear_framed = is;
      framed = subst (λ (l : List ℕ). IsFrame b.link.layout (with_room p room)
          (with_error_control fecf ((l ++ room) ++ tail))) (sym same)
          (framed b.suite b.link.layout p clear room binds.link.layout is longer);
      vector = carries;
      secured = subst (λ (l : List ℕ). IsSecured b l room (pieces_for b vector front (room_of p)) (room_of p)) same
          secured;
    }
