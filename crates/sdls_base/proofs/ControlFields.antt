-- The operational control field at the end of a body.
use Rattle.std.proofs.Common.{◌≡◌, ℕ, ◌-◌, ◌≤◌, Bool, true, false, List, [], length, drop, refl, sym, ◌∙◌, ap, arith}
use Rattle.std.proofs.Common.{length-drop}
use Rattle.std.specs.Prelude.{Option, Some, None, unwrap_or, if◌then◌else◌}
use Rattle.std.proofs.lemmas.List.{drop_all}
use Rattle.sdls_base.specs.ControlField.{ocf_length, ocf_at, IsControlField}

pub ocf_at-fits : (ocf : Bool) (body : List ℕ) → ocf_length ocf ≤ length body → IsControlField ocf (ocf_at ocf body)
ocf_at-fits false body h = refl
ocf_at-fits true body h = ap Some (length-drop (length body - 4) body ∙ omega arith)

pub ocf_at-octets : (ocf : Bool) (body : List ℕ) → unwrap_or (ocf_at ocf body) []
    ≡ drop (length body - ocf_length ocf) body
ocf_at-octets false body = sym (drop_all (length body - 0) body (omega arith))
ocf_at-octets true body = refl

pub length-ocf : (ocf : Bool) (field : Option (List ℕ)) → IsControlField ocf field
    → length (unwrap_or field []) ≡ ocf_length ocf
length-ocf false None h = refl
length-ocf false (Some field) h = absurd (cc)
length-ocf true None h = absurd (cc)
length-ocf true (Some field) h = cc

pub ocf_back : (ocf : Bool) (field : Option (List ℕ)) → IsControlField ocf field
    → (if ocf then Some (unwrap_or field []) else None) ≡ field
ocf_back false None h = refl
ocf_back false (Some field) h = absurd (cc)
ocf_back true None h = absurd (cc)
ocf_back true (Some field) h = refl
