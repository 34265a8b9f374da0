-- The opening of an image, brought up to version 2: for `bring_up` and `open`.
use Rattle.std.proofs.Common.{◌≡◌, ℕ, ◌∙◌, List, length, get_or, refl, arith, sym, ap, subst, inl, inr, Result, OnOk}
use Rattle.sdls_base.specs.declared.version.Version.{Version}
use Rattle.sdls_base.specs.declared.version.Version.TheVariants.{One, Two}
use Rattle.sdls_outside.specs.Disk.{Disk, IsSynced, Leaves}
use Rattle.sdls_outside.specs.Moments.{Trace, EachMoment, clock}
use Rattle.sdls_outside.proofs.Moments.{each_weaker, each_then, moment_now}
use Rattle.disk_journal.specs.Moments.{EachImage}
use Rattle.unit_state.specs.declared.state.State.{State}
use Rattle.unit_state.specs.Restart.{restarted}
use Rattle.unit_state.specs.State.{KeepsRules}
use Rattle.unit_state.proofs.StateLaws.{restarted_twice}
use Rattle.unit_image.specs.Content.{content_of}
use Rattle.unit_image.specs.ContentReading.{HasRows, IsContent}
use Rattle.disk_journal.specs.Banks.{version_of}
use Rattle.disk_journal.specs.Image.{Held, held, migrated, version_in}
use Rattle.disk_journal.specs.Forms.{Becomes, Holds}
use Rattle.disk_journal.specs.Journal.{IsSettled, JournalView}
use Rattle.disk_journal.specs.declared.layout.Layout.{Layout}
use Rattle.unit_image.specs.Shows.{SaysState, Shows}
use Rattle.unit_image.specs.OpeningImage.{BringsUp, IsBroughtUp, IsHeldNext, LeftByOpening, Opening}
use Rattle.unit_image.proofs.Stored.{on_ok, resting}
use Rattle.unit_image.proofs.Turned.{says_migrated}

-- what an image shows is what a restart leaves of a state
pub shown_left : (image : List ℕ) (state : State) → Shows image state → restarted state ≡ state
shown_left image state shows = ap restarted shows.says.left ∙ restarted_twice shows.says.last ∙ sym shows.says.left

pub is_content : (image : List ℕ) (state : State) → Shows image state → KeepsRules state → HasRows Two state
    → IsContent Two state (content_of Two state)
is_content image state shows rules rows =
    record { rules = rules; rows = rows; left = shown_left image state shows; spelled = refl }

-- the version of an image is that of its journal
pub version_is : (now : Trace) (journal : JournalView) (version : Version) → IsSettled now journal
    → version ≡ version_of journal.layout.form
    → version_in now.now.image ≡ version
version_is now journal version settled is =
    ap (λ (layout : Layout). version_of layout.form) (sym settled.of_image.closed.of_image.layout) ∙ sym is

-- an image of version 2 stays as it is
pub brings_none : {Value Error : Type 0} (state : State) (result : Result Value Error) (journal : JournalView)
    (now : Trace) → IsSettled now journal
    → BringsUp state result journal now now
brings_none state result journal now settled = record {
  next = held now.now.image;
  is = inl refl;
  moments = resting now journal settled;
  done = on_ok result (settled, refl);
}

-- one of version 1 is migrated
pub brings_two : {Value Error : Type 0} (state : State) (content : List ℕ) (result : Result Value Error)
    (journal : JournalView) (old new : Trace)
    → version_in old.now.image ≡ One → content ≡ content_of Two state → IsContent Two state (content_of Two state)
    → EachImage old new (Becomes (held old.now.image) (migrated content (held old.now.image)))
    → OnOk result (IsSettled new journal × (held new.now.image ≡ migrated content (held old.now.image)))
    → BringsUp state result journal old new
brings_two state content result journal old new of_one written is becomes done = record {
  next = migrated content (held old.now.image);
  is = inr (of_one, is, ap (λ (some : List ℕ). migrated some (held old.now.image)) written);
  moments = becomes;
  done = done;
}

-- what is on the disk may stay
leaves_now : (disk : Disk) → IsSynced disk → Leaves disk disk.image
leaves_now disk synced =
    let same : length disk.synced ≡ length disk.image = ap (λ (octets : List ℕ). length octets) synced.1 in
    record {
      no_shorter = omega arith;
      no_longer = omega arith;
      outside = λ i below out. sym (ap (λ (octets : List ℕ). get_or octets i 0) synced.1);
    }

-- ---- after an image was brought to rest

-- what is held next, told of the image that was read
pub next_of : (old mid : List ℕ) (state : State) (next : Held) → held mid ≡ held old → Shows old state
    → IsBroughtUp state (held mid) next
    → IsHeldNext old next
next_of old mid state next same shows (inl is) = inl (is ∙ same)
next_of old mid state next same shows (inr (of_one, content, is)) = inr (record {
  of_one = ap (λ (what : Held). what.version) (sym same) ∙ of_one;
  state = state;
  shows = shows;
  content = content_of Two state;
  is_content = content;
  is = is ∙ ap (migrated (content_of Two state)) same;
})

left_of : (old mid left : List ℕ) (state : State) (next : Held) → held mid ≡ held old → Shows old state
    → IsBroughtUp state (held mid) next
    → Becomes (held mid) next left → LeftByOpening old left
left_of old mid left state next same shows (inl is) becomes =
    inl (inr (subst (λ (what : Held). Becomes what what left) same
    (subst (λ (what : Held). Becomes (held mid) what left) is becomes)))
left_of old mid left state next same shows (inr brought) becomes =
    elim (next_of old mid state next same shows (inr brought)) [
      | inl is ↦
          inl (inr (subst (λ (what : Held). Becomes (held old) what left) is
          (subst (λ (what : Held). Becomes what next left) same becomes)))
      | inr migration ↦ inr (record {
        next = next;
        is_migration = migration;
        becomes = subst (λ (what : Held). Becomes what next left) same becomes;
      })
    ]

-- what is shown then
pub next_shows : (old new : List ℕ) (state : State) → Shows old state → Holds new (held new)
    → IsBroughtUp state (held old) (held new)
    → Shows new state
next_shows old new state shows holds (inl is) = record {
  what = held new;
  holds = holds;
  says = subst (λ (what : Held). SaysState what state) (sym is)
      (subst (λ (what : Held). SaysState what state) (sym shows.holds.is) shows.says);
}
next_shows old new state shows holds (inr (of_one, content, is)) = record {
  what = held new;
  holds = holds;
  says = subst (λ (what : Held). SaysState what state) (sym is)
      (says_migrated (held old) state (content_of Two state)
      (subst (λ (what : Held). SaysState what state) (sym shows.holds.is) shows.says) content);
}

-- ---- the whole opening

-- nothing is sunk while an image is brought to rest
opening_sunk : (old mid : Trace) (journal : JournalView) → IsSettled mid journal → EachMoment old mid (Opening old)
    → mid.now.sunk ≡ old.now.sunk
opening_sunk old mid journal settled each =
    (each.each mid.now.image mid.now.sunk
    (moment_now mid (clock old) mid.now.image (leaves_now mid.now settled.synced))).1

pub opening_then : (old mid new : Trace) (state : State) (next : Held) → held mid.now.image ≡ held old.now.image
    → Shows old.now.image state
    → IsBroughtUp state (held mid.now.image) next → (journal : JournalView) → IsSettled mid journal
    → EachMoment old mid (Opening old)
    → EachImage mid new (Becomes (held mid.now.image) next) → EachMoment old new (Opening old)
opening_then old mid new state next same shows brought journal settled first second =
    let sunk_is = opening_sunk old mid journal settled first in
    each_then old mid new (Opening old) first
    (each_weaker mid new (λ image sunk. Becomes (held mid.now.image) next image × (sunk ≡ mid.now.sunk)) (Opening old)
    (λ image sunk moment.
    (inr (left_of old.now.image mid.now.image image state next same shows brought moment.0), moment.1 ∙ sunk_is))
    second.moments)
