-- Profile: `link` lines.
use Rattle.std.specs.Prelude.{ℕ, ◌+◌, ◌==◌, nat_le, Bool, ◌&&◌, List, [], ◌∷◌, ◌++◌, drop, codes, Option, Some, None}
use Rattle.std.specs.Prelude.{if◌then◌else◌}
use Rattle.std.specs.Option.{option_map}
use Rattle.std.specs.Str.{bytes_eq}
use Rattle.sdls_base.specs.declared.link.AnyLayout.{AnyLayout}
use Rattle.sdls_base.specs.declared.link.AnyLayout.TheVariants.{Tc, Tm, Aos}
use Rattle.sdls_base.specs.declared.link.Mask.{Mask}
use Rattle.sdls_base.specs.declared.link.Link.{Link}
use Rattle.sdls_base.specs.Link.{usual_tc, usual_tm, usual_aos}
use Rattle.unit_plan.specs.Reading.{◌>>=◌, first_of, end_of}
use Rattle.unit_plan.specs.Field.{capped_at, choice_at, decoded}

-- so many octets of a mask, 00 behind them
abbrev pub mask_of : ℕ → List ℕ → Mask
mask_of count octets = record { octets = octets ++ drop count (0 ∷ 0 ∷ 0 ∷ 0 ∷ 0 ∷ 0 ∷ []); length = count }

-- - for the usual mask, or another one of its length
abbrev pub mask_said : Mask → List ℕ → Option Mask
mask_said usual word =
    if bytes_eq word (codes "-") then Some usual else option_map (mask_of usual.length) (decoded usual.length word)

unfoldable pub mask_at : Mask → List (List ℕ) → Option (Mask × List (List ℕ))
mask_at usual words = do
  word ← first_of words
  mask ← mask_said usual word.0
  Some (mask, word.1)

unfoldable pub tc_at : List (List ℕ) → Option (Link × List (List ℕ))
tc_at words = do
  segment ← choice_at (codes "seg") (codes "noseg") words
  fecf ← choice_at (codes "fecf") (codes "nofecf") segment.1
  mask ← mask_at (usual_tc segment.0) fecf.1
  Some (record { layout = Tc (record { segment = segment.0; fecf = fecf.0; most = 1024 }); mask = mask.0 }, mask.1)

unfoldable pub tm_at : List (List ℕ) → Option (Link × List (List ℕ))
tm_at words = do
  size ← capped_at 65535 words
  fecf ← choice_at (codes "fecf") (codes "nofecf") size.1
  mask ← mask_at usual_tm fecf.1
  Some (record { layout = Tm (record { length = size.0; fecf = fecf.0 }); mask = mask.0 }, mask.1)

unfoldable pub aos_at : List (List ℕ) → Option (Link × List (List ℕ))
aos_at words = do
  size ← capped_at 65535 words
  insert ← capped_at 255 size.1
  ocf ← choice_at (codes "ocf") (codes "noocf") insert.1
  fecf ← choice_at (codes "fecf") (codes "nofecf") ocf.1
  mask ← mask_at usual_aos fecf.1
  Some (
    record {
      layout = Aos (record { length = size.0; insert = insert.0; ocf = ocf.0; fecf = fecf.0 });
      mask =
          mask.0;
    },
    mask.1,
  )

-- what belongs to a kind of frames
abbrev pub frame_of : List ℕ → List (List ℕ) → Option (Link × List (List ℕ))
frame_of kind words =
    if bytes_eq kind (codes "tc") then tc_at words
    else (if bytes_eq kind (codes "tm") then tm_at words
    else (if bytes_eq kind (codes "aos") then aos_at words else None))

unfoldable pub frame_at : List (List ℕ) → Option (Link × List (List ℕ))
frame_at words = do
  kind ← first_of words
  frame_of kind.0 kind.1

-- number and link
unfoldable pub link_said : List (List ℕ) → Option (ℕ × Link)
link_said words = do
  n ← capped_at 255 words
  link ← frame_at n.1
  ended ← end_of link.1
  Some (n.0, link.0)

-- the test of a layout's bounds
abbrev pub is_layout : AnyLayout → Bool
is_layout (Tc layout) = layout.most == 1024
is_layout (Tm layout) = nat_le 48 layout.length && nat_le layout.length 2048
is_layout (Aos layout) = nat_le layout.insert 64 &&
    (nat_le (48 + layout.insert) layout.length && nat_le layout.length 2048)

abbrev pub is_link : ℕ → Link → Bool
is_link n link = nat_le n 15 && is_layout link.layout
