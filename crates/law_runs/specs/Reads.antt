-- What a moment of a call leaves that reads an image and stores nothing (profile).
use Rattle.std.specs.Prelude.{◌⊎◌, ℕ, IsTrue, List, []}
use Rattle.sdls_outside.specs.Disk.{Leaves}
use Rattle.sdls_outside.specs.Moments.{EachMoment}
use Rattle.unit_image.specs.Image.{IsOpenedForm}
use Rattle.unit_image.specs.OpeningImage.{LeftByOpening}
use Rattle.unit_state.specs.declared.state.State.{State}
use Rattle.unit_state.specs.Restart.{restarted}
use Rattle.unit_image.specs.Shows.{Shows}
use Rattle.run_promise.specs.Call.{CallSeen, image_at_entry}
use Rattle.unit_plan.specs.PlanLines.{PlanLines}
use Rattle.run_promise.specs.Sound.{SoundMoment}
use Rattle.run_promise.specs.Account.{course_of}
use Rattle.run_promise.specs.Life.{no_account}

-- the image shows what a restart leaves of a state that the image at the entry shows, and has no opened form
abbrev pub StillShows : CallSeen → List ℕ → Type 0
StillShows call image = (state : State) × Shows (image_at_entry call) state × Shows image (restarted state)
    × ((form : List ℕ) → ¬ IsOpenedForm image form)

-- a crash then leaves what one at the entry may leave too, or what the opening of the image at the entry may leave, or
-- one that still shows what that shows
abbrev pub IsRead : CallSeen → List ℕ → Type 0
IsRead call image = Leaves call.site.trace.now image
    ⊎ (LeftByOpening (image_at_entry call) image ⊎ StillShows call image)

-- each moment of the call is such
abbrev pub ReadsAlone : CallSeen → Type 0
ReadsAlone call = IsTrue call.told → EachMoment call.site.trace call.site_after.trace
    (λ image sunk. IsRead call image)

-- Each moment is one that a crash at the entry may leave, or a sound one of a run without records, whose octets sunk
-- are taken as none.
abbrev pub ReadsSoundly : CallSeen → PlanLines → State → Type 0
ReadsSoundly call plan state = EachMoment call.site.trace call.site_after.trace
    (λ image sunk. Leaves call.site.trace.now image
    ⊎ SoundMoment (course_of call (no_account call) plan state) [] [] (image_at_entry call)
    image [])
