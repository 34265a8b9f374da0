-- One lane more is split off.
use Rattle.std.proofs.Common.{◌≡◌, ℕ, ◌+◌, ◌<◌, List, [], ◌∷◌, ◌++◌, length, Vec, ◌∙◌, ap, subst, arith, length-append}
use Rattle.std.proofs.Common.{slice_index_or}
use Rattle.std.proofs.lemmas.List.{get_or_append_left, get_or-append-add}
use Rattle.std.proofs.lemmas.List.Elements.{Contains-append_left, Contains-push}
use Rattle.counter_table.specs.declared.view.View.{View}
use Rattle.record_io.specs.declared.item_cursor.Record.{Record}
use Rattle.record_io.specs.declared.answers.Answer.{Answer}
use Rattle.law_workers.specs.Views.{keeping, starting}
use Rattle.law_workers.specs.Lanes.{giving_shares}
use Rattle.frame_workers.specs.declared.lane.Lane.{Lane}
use Rattle.frame_workers.specs.Lanes.{IsRoom, IsThere}

-- who gave so many shares away and gives one more
pub gives_more : (base now new : View) (count : ℕ) → now ≡ giving_shares count base → new ≡ keeping now
    → new ≡ giving_shares (count + 1) base
gives_more base now new count is kept = kept ∙ (ap keeping is
    ∙ ap (λ (n : ℕ). record { numbers = record base.numbers { shares = n }; turn = base.turn }) (omega arith))

-- the newcomer has seen what the base has
pub starts_so : (base now new : View) (count : ℕ) → now ≡ giving_shares count base → new ≡ starting now
    → new ≡ starting base
starts_so base now new count is start = start ∙ ap starting is

pub there_push : {B : Type 0} (number : ℕ) (lanes : List (Lane B)) (lane : Lane B) → IsThere number lanes
    → IsThere number (lanes ++ lane ∷ [])
there_push number lanes lane (one, there, is) = (one, Contains-append_left lanes (lane ∷ []) one there, is)

pub there_last : {B : Type 0} (number : ℕ) (lanes : List (Lane B)) (lane : Lane B) → lane.number ≡ number
    → IsThere number (lanes ++ lane ∷ [])
there_last number lanes lane is = (lane, Contains-push lanes lane, is)

module _ {A : Type 0} (tasks : List Record) (rooms left : List (Vec Answer A)) (room : Vec Answer A)
    (is : rooms ≡ left ++ room ∷ [])
    (each : (k : ℕ) (d : Vec Answer A) → k < length rooms → IsRoom tasks k (slice_index_or rooms k d)) where
  size : length rooms ≡ length left + 1
  size = ap length is ∙ length-append left (room ∷ [])

  pub room_last : IsRoom tasks (length left) room
  room_last =
      let zero_more : length left + 0 ≡ length left = omega arith in
      let at : slice_index_or rooms (length left + 0) room ≡ room =
      ap (λ (l : List (Vec Answer A)). slice_index_or l (length left + 0) room) is
      ∙ get_or-append-add left (room ∷ []) 0 room in
      let s = size in
      subst (λ (n : ℕ). IsRoom tasks n room) zero_more
      (subst (IsRoom tasks (length left + 0)) at (each (length left + 0) room (omega arith)))

  pub rooms_left : (k : ℕ) (d : Vec Answer A) → k < length left → IsRoom tasks k (slice_index_or left k d)
  rooms_left k d low =
      let s = size in
      subst (IsRoom tasks k) (ap (λ (l : List (Vec Answer A)). slice_index_or l k d) is
      ∙ get_or_append_left left (room ∷ []) d k low) (each k d (omega arith))
