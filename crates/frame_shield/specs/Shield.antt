-- How a protected frame is put together, for the private calls.
use Rattle.std.specs.Prelude.{ℕ, List, ◌++◌}
use Rattle.tc_frame.specs.Header.{with_length_field}
use Rattle.sdls_header.specs.declared.header.Vector.{Vector}
use Rattle.sdls_header.specs.SecurityHeader.{header_octets}
use Rattle.frame_shield.specs.declared.binding.Binding.{Binding}
use Rattle.sdls_base.specs.declared.link.AnyLayout.{AnyLayout}
use Rattle.sdls_base.specs.declared.link.AnyLayout.TheVariants.{Tc, Tm, Aos}
use Rattle.sdls_base.specs.Link.{mask_octets}
use Rattle.sdls_header.specs.Authenticated.{masked_octets}
use Rattle.frame_shield.specs.Secured.{header_of, sealed}

-- the most octets of a frame
abbrev pub most_of : AnyLayout → ℕ
most_of (Tc layout) = layout.most
most_of (Tm layout) = layout.length
most_of (Aos layout) = layout.length

-- the prefix of the protected frame of n octets, from that of the clear frame
abbrev pub prefix_for : AnyLayout → List ℕ → ℕ → List ℕ
prefix_for (Tc layout) prefix n = with_length_field prefix n
prefix_for (Tm layout) prefix n = prefix
prefix_for (Aos layout) prefix n = prefix

-- the room of a protected frame, behind what stands before it where the MAC is made
abbrev pub room_behind : Binding → Vector → List ℕ → List ℕ → List ℕ
room_behind b vector front field =
    let header = header_octets (header_of b vector) in
    let seal = sealed b.schedule vector (front ++ header) field in
    header ++ (seal.0 ++ seal.1)

-- the room of a protected frame with this prefix
abbrev pub room_for : Binding → Vector → List ℕ → List ℕ → List ℕ
room_for b vector prefix field = room_behind b vector (masked_octets prefix (mask_octets b.link.mask)) field
