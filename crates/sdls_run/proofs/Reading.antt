-- What a call leaves that stores nothing: for `stat_keeps_lives` and `sinking_keeps_lives`.
use Rattle.std.proofs.Common.{◌≡◌, ◌≢◌, ◌⊎◌, ℕ, List, [], inl, inr, refl}
use Rattle.sdls_outside.specs.Disk.{Leaves}
use Rattle.sdls_outside.specs.Faults.{Rose}
use Rattle.sdls_outside.proofs.Moments.{each_weaker}
use Rattle.sdls_outside.specs.Output.{OnlySinks}
use Rattle.unit_plan.specs.PlanLines.{PlanLines}
use Rattle.unit_state.specs.declared.state.State.{State}
use Rattle.run_promise.specs.Account.{course_of}
use Rattle.run_promise.specs.Call.{CallSeen, ShowsAtEntry, image_at_entry}
use Rattle.run_promise.specs.Life.{no_account}
use Rattle.run_promise.specs.Sound.{SoundMoment}
use Rattle.law_runs.specs.Reads.{IsRead, ReadsAlone, ReadsSoundly}
use Rattle.command_words.specs.declared.reading.Command.{Command}
use Rattle.command_words.specs.declared.reading.Command.TheVariants.{Check, Init, Stat, Run, Audit, Drill, LinkDrill}
use Rattle.command_words.specs.declared.reading.Command.TheVariants.{Usage}
use Rattle.cli_image.proofs.Sinking.{is_there, sinks_leave}
use Rattle.cli_image.specs.Stat.{EndsStat, StatMoment}

is_read : (call : CallSeen) (image : List ℕ) → StatMoment call.site.trace image → IsRead call image
is_read call image (inl leaves) = inl leaves
is_read call image (inr (inl settles)) = inr (inl settles)
is_read call image (inr (inr shown)) = inr (inr (shown.0, shown.1, shown.2.shows, shown.2.no_form))

pub reads_alone : (call : CallSeen)
    → EndsStat call.told call.site.trace call.site_after.trace (Rose call.site.faults call.site_after.faults)
    call.status → ReadsAlone call
reads_alone call ends is_told =
    each_weaker call.site.trace call.site_after.trace (λ image sunk. StatMoment call.site.trace image)
    (λ image sunk. IsRead call image)
    (λ image sunk moment. is_read call image moment) (ends.moments is_told)

-- if nothing was done but to write output, a crash leaves what one at the entry may leave
pub sinks_soundly : (call : CallSeen) (plan : PlanLines) (state : State) → ShowsAtEntry call plan state
    → (image_at_entry call ≢ [] → OnlySinks call.site.trace call.site_after.trace) → ReadsSoundly call plan state
sinks_soundly call plan state shows sinks =
    each_weaker call.site.trace call.site_after.trace (λ image sunk. Leaves call.site.trace.now image)
    (λ image sunk. Leaves call.site.trace.now image
    ⊎ SoundMoment (course_of call (no_account call) plan state) [] [] (image_at_entry call) image [])
    (λ image sunk leaves. inl leaves)
    (sinks_leave call.site.trace call.site_after.trace (sinks (is_there (image_at_entry call) state shows.shows)))

-- a command is `stat` or another
pub by_stat : {X : Type 0} (command : Command) → (command ≡ Stat → X) → (command ≢ Stat → X) → X
by_stat (Check key) is_stat other = other (λ is. cc)
by_stat Init is_stat other = other (λ is. cc)
by_stat Stat is_stat other = is_stat refl
by_stat Run is_stat other = other (λ is. cc)
by_stat Audit is_stat other = other (λ is. cc)
by_stat (Drill number) is_stat other = other (λ is. cc)
by_stat (LinkDrill number) is_stat other = other (λ is. cc)
by_stat Usage is_stat other = other (λ is. cc)

pub init_is_not_stat : Init ≡ Stat → ⊥
init_is_not_stat is = cc
