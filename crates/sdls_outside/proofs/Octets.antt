-- What stands behind octets that are written over an image.
use Rattle.std.proofs.Common.{◌≡◌, ℕ, ◌+◌, ◌-◌, List, length, take, drop, min, ◌∙◌}
use Rattle.std.proofs.lemmas.List.{drop_min, drop-drop, take_rest}

pub behind-octets : (image octets : List ℕ) (at : ℕ)
    → take (length (drop at image) - min (length octets) (length (drop at image)))
    (drop (min (length octets) (length (drop at image))) (drop at image))
    ≡ drop (at + length octets) image
behind-octets image octets at =
    let over = drop at image in
    take_rest over (min (length octets) (length over)) ∙ drop_min (length octets) over
    ∙ drop-drop (length octets) at image

pub ruleset octet_lemmas = (behind-octets)
