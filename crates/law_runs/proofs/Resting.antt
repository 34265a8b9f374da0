-- A run without records is sound, and so is each moment of a call that reads an image and stores nothing: for
-- `no_records_are_sound` and `reading_keeps_lives`.
use Rattle.std.proofs.Common.{◌≡◌, ◌⊎◌, ℕ, IsTrue, List, [], refl, sym, ◌∙◌, ap, subst, inl, inr, ⊎_elim, arith}
use Rattle.std.specs.Prelude.{slice_index}
use Rattle.std.proofs.lemmas.Option.{none-some}
use Rattle.sdls_base.specs.declared.entry.Entry.{Entry}
use Rattle.sdls_outside.specs.Disk.{Leaves}
use Rattle.unit_image.specs.Image.{HasOneClosed, IsClosedGate, IsOpenedForm}
use Rattle.law_image.proofs.Images.{moves_not_open, records_of}
use Rattle.unit_plan.specs.PlanLines.{PlanLines}
use Rattle.unit_plan.specs.PlanRules.{IsPlan}
use Rattle.unit_state.specs.declared.state.State.{State}
use Rattle.unit_state.specs.Restart.{restarted}
use Rattle.unit_state.specs.State.{KeepsRules}
use Rattle.unit_image.specs.Shows.{Shows}
use Rattle.run_promise.specs.Fits.{Course}
use Rattle.run_promise.specs.Sound.{IsSound, SoundMoment}
use Rattle.run_promise.specs.Call.{CallSeen, ShowsAtEntry, image_at_entry}
use Rattle.run_promise.specs.Account.{course_of}
use Rattle.run_promise.specs.Life.{no_account}
use Rattle.law_runs.specs.Reads.{ReadsSoundly, IsRead, ReadsAlone, StillShows}

none_sound : (course : Course) → IsPlan course.begin.plan → KeepsRules course.begin.start
    → IsSound (record course { entries = [] }) [] []
none_sound course plan_is rules = record {
  history = record {
    plan_is = plan_is;
    rules = rules;
    run = record {
      ends = 0;
      within = omega arith;
      each = λ p entry low there. absurd (omega arith);
      releases = λ p entry low there. absurd (none-some entry there);
      once = λ p q a b index low at_p at_q is_a is_b. absurd (none-some a at_p);
      few_entries = omega arith;
      few_reserves = omega arith;
      in_order = λ p q i j a b at_p at_q is_a is_b low turn. absurd (none-some a at_p);
    };
  };
  answers = λ k d low. absurd (omega arith);
  used_once = λ i j d less low. absurd (omega arith);
  used_above = λ k d low. absurd (omega arith);
  accepted = λ i j d less low. absurd (omega arith);
  accepted_above = λ k d low. absurd (omega arith);
  accepted_near = λ k d low. absurd (omega arith);
  one_fault = λ i j d less low. absurd (omega arith);
  order = λ i j d less low. absurd (omega arith);
  none_made = λ k d low. absurd (omega arith);
  widths = λ k d low. absurd (omega arith);
}

-- a run without records and without entries is sound
pub no_records : (course : Course) → IsPlan course.begin.plan → KeepsRules course.begin.start → course.entries ≡ []
    → IsSound course [] []
no_records course plan_is rules empty =
    subst (λ (entries : List Entry). IsSound (record course { entries = entries }) [] []) (sym empty)
    (none_sound course plan_is rules)

-- Of an image with no opened form only the gate of the other bank may be closed and not 0: the first slot that is
-- closed
-- has a gate that is not open, and so has the octet that migrates an image of version 1.
none_settled : (image : List ℕ) → ((form : List ℕ) → ¬ IsOpenedForm image form) → HasOneClosed image
none_settled image none = record { one = one; opened = λ form at is closed. absurd (none form is) }
  where
    one : (at beside : ℕ) → IsClosedGate image at → IsClosedGate image beside → at ≡ beside
    one at beside (some, inl (few, is)) closed =
        absurd (none _ (
          at,
          (some, inl (few, is)),
          λ opened. (records_of image).closed few (ap (slice_index image) (sym is) ∙ opened),
          refl,
        ))
    one at beside (some, inr (inr (old_is, is))) closed =
        absurd (none _ (
          at,
          (some, inr (inr (old_is, is))),
          λ opened. moves_not_open image old_is (ap (slice_index image) (sym is) ∙ opened),
          refl,
        ))
    one at beside (some, inr (inl is)) (other, inr (inr (old_is, is_moves))) =
        absurd (none _ (
          beside,
          (other, inr (inr (old_is, is_moves))),
          λ opened. moves_not_open image old_is (ap (slice_index image) (sym is_moves) ∙ opened),
          refl,
        ))
    one at beside (some, inr (inl is)) (other, inl (few, is_slot)) =
        absurd (none _ (
          beside,
          (other, inl (few, is_slot)),
          λ opened. (records_of image).closed few (ap (slice_index image) (sym is_slot) ∙ opened),
          refl,
        ))
    one at beside (some, inr (inl is)) (other, inr (inl same)) = is ∙ sym same

module _ (one : (image : List ℕ) (a b : State) → Shows image a → Shows image b → a ≡ b) (call : CallSeen)
    (plan : PlanLines) (state : State)
    (shows : ShowsAtEntry call plan state) where
  abbrev Sound : List ℕ → Type 0
  Sound image = SoundMoment (course_of call (no_account call) plan state) [] [] (image_at_entry call) image []

  still : (image : List ℕ) → StillShows call image → Sound image
  still image shown = record {
    front = refl;
    image_shows = inr (record {
      p = 0;
      shows = record {
        within = omega arith;
        shows = subst (λ (s : State). Shows image (restarted s))
            (one (image_at_entry call) shown.0 state shown.1 shows.shows) shown.2;
        forms = λ form is. absurd (shown.3 form is);
        settled = none_settled image shown.3;
      };
      still_covers = λ q low within. tt;
    });
  }

  sound_at : (image : List ℕ) → IsRead call image → Leaves call.site.trace.now image ⊎ Sound image
  sound_at image (inl leaves) = inl leaves
  sound_at image (inr (inl settles)) = inr (record { front = refl; image_shows = inl (tt, settles) })
  sound_at image (inr (inr shown)) = inr (still image shown)

  -- a call that stores nothing reads soundly
  pub reads_soundly : IsTrue call.told → ReadsAlone call → ReadsSoundly call plan state
  reads_soundly is_told reads =
      let moments = reads is_told in
      record {
        later = moments.later;
        each = λ image sunk m. sound_at image (moments.each image sunk m);
        before = λ time image sunk low m.
            ⊎_elim inl (λ p. inr (sound_at image p)) (moments.before time image sunk low m);
      }
