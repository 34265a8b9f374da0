-- The operational control field of TM and AOS transfer frames, 4 octets (CCSDS 132.0-B-3 and 732.0-B-4, Operational
-- Control Field).
use Rattle.std.specs.Prelude.{◌≡◌, ℕ, ◌-◌, Bool, if◌then◌else◌, List, length, take, drop, Option, Some, None}
use Rattle.std.specs.Option.{option_map}

-- how many octets the field has, where it is there
abbrev pub ocf_length : Bool → ℕ
ocf_length ocf = if ocf then 4 else 0

-- the octets of a body before the field
abbrev pub before_ocf : Bool → List ℕ → List ℕ
before_ocf ocf body = take (length body - ocf_length ocf) body

-- the field at the end of a body
abbrev pub ocf_at : Bool → List ℕ → Option (List ℕ)
ocf_at ocf body = if ocf then Some (drop (length body - ocf_length ocf) body) else None

-- the field is there, with 4 octets, or is not
abbrev pub IsControlField : Bool → Option (List ℕ) → Type 0
IsControlField ocf field = option_map length field ≡ (if ocf then Some 4 else None)
