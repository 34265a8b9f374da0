-- What a link delivers, by the places of its events (profile).
use Rattle.std.specs.Prelude.{◌≡◌, ⊤, ℕ, suc, ◌<◌, ◌≤◌, List, [], ◌∷◌, slice_get, Some}
use Rattle.link_world.specs.declared.link.LinkEvent.{LinkEvent}
use Rattle.link_world.specs.declared.link.LinkEvent.TheVariants.{Release, Deliver}

-- the frame is delivered at this place, and was released at one before it
pub record IsDeliveredAt (events : List LinkEvent) (place frame : ℕ) : Type 0 where
  pub delivers : slice_get events place ≡ Some (Deliver frame)
  pub release : ℕ
  pub before : release < place
  pub releases : slice_get events release ≡ Some (Release frame)

-- each of the frames is so, at places that ascend from this one
abbrev pub AreDelivered : List LinkEvent → ℕ → List ℕ → Type 0
AreDelivered events least [] = ⊤
AreDelivered events least (frame ∷ frames) = (place : ℕ) × (least ≤ place) × IsDeliveredAt events place frame
    × AreDelivered events (suc place) frames
