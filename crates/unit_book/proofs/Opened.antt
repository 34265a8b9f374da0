-- A book that is opened.
use Rattle.std.proofs.Common.{◌≡◌, List, ℕ, length, refl, sym, ◌∙◌, ap, subst, inl, inr}
use Rattle.unit_state.specs.declared.state.State.{State}
use Rattle.unit_state.specs.Restart.{restarted}
use Rattle.unit_state.proofs.StateLaws.{restarted_twice}
use Rattle.sdls_outside.specs.Moments.{Trace}
use Rattle.sdls_base.specs.declared.version.Version.{Version}
use Rattle.sdls_base.specs.declared.version.Version.TheVariants.{One, Two}
use Rattle.unit_image.specs.Image.{Held, held, IsOfTwo, IsSettled, JournalView, used_by, used_next, used_of, version_in}
use Rattle.unit_image.specs.OpeningImage.{IsHeldNext}
use Rattle.unit_image.proofs.Stored.{of_two}
use Rattle.unit_image.specs.Shows.{Shows}

-- a state that an image shows has nothing that a restart would lose
pub shown_rests : (image : List ℕ) (state : State) → Shows image state → restarted state ≡ state
shown_rests image state shows = ap restarted shows.says.left ∙ restarted_twice shows.says.last ∙ sym shows.says.left

pub shown_restarted : (image : List ℕ) (state : State) → Shows image state → Shows image (restarted state)
shown_restarted image state shows = subst (Shows image) (sym (shown_rests image state shows)) shows

used_same : (image : List ℕ) (version : Version) → version_in image ≡ version → version ≡ Two
    → used_of image ≡ used_by version image
used_same image One is two = absurd (cc)
used_same image Two is two = refl

used_none : (image : List ℕ) (version : Version) → version ≡ One → used_by version image ≡ 0
used_none image One is = refl
used_none image Two is = absurd (cc)

-- a journal has as many records as the image that was read, or none if that one was of version 1
pub used_held : (now : Trace) (journal : JournalView) (image : List ℕ) → IsSettled now journal → IsOfTwo journal
    → IsHeldNext image (held now.now.image) → journal.used ≡ used_next image
used_held now journal image settled two (inl same) =
    let version : version_in image ≡ Two = ap (λ (what : Held). what.version) (sym same)
    ∙ of_two now journal settled two in
    settled.of_image.closed.of_image.used ∙ ap (λ (what : Held). length what.records) same
    ∙ used_same image (version_in image) refl version
used_held now journal image settled two (inr migration) =
    settled.of_image.closed.of_image.used ∙ ap (λ (what : Held). length what.records) migration.is
    ∙ sym (used_none image (version_in image) migration.of_one)
