-- What `stat` puts, and what its moments leave, for `tell_state` and `run_stat`.
use Rattle.std.proofs.Common.{◌≡◌, ◌≢◌, ◌⊎◌, inl, inr, ℕ, ◌+◌, ◌≤◌, Bool, IsTrue, List, [], ◌∷◌, ◌++◌, length, take}
use Rattle.std.proofs.Common.{refl, sym, ◌∙◌, ap, subst, arith, append_assoc, Ok}
use Rattle.std.proofs.lemmas.List.{length-append}
use Rattle.sdls_outside.specs.Disk.{Leaves}
use Rattle.sdls_outside.specs.Faults.{Rose}
use Rattle.sdls_outside.specs.Moments.{Trace, clock, Between, EachMoment}
use Rattle.sdls_outside.specs.Site.{Sank}
use Rattle.sdls_outside.proofs.Moments.{each_then, each_weaker, moment_now}
use Rattle.sdls_base.specs.declared.entry.Logged.{Logged}
use Rattle.sdls_base.specs.declared.entry.Logged.TheVariants as logged
use Rattle.unit_image.specs.Image.{held, IsAtRest, OnlySyncs, used_next}
use Rattle.disk_journal.proofs.Moments.{only_syncs_moments}
use Rattle.unit_plan.specs.Plan.{plan_of}
use Rattle.status_text.specs.Text.{status_text}
use Rattle.unit_image.specs.declared.opening_image.OpenFault.{OpenFault}
use Rattle.unit_image.specs.declared.opening_image.OpenFault.TheVariants as faults
use Rattle.unit_state.specs.declared.state.State.{State}
use Rattle.unit_state.specs.Restart.{restarted}
use Rattle.unit_state.specs.History.{after_first}
use Rattle.unit_image.specs.OpeningImage.{IsOpenCause, LeavesShown, Opening, ShowsUnlessFailed}
use Rattle.unit_image.proofs.OpenFaults.{same_image}
use Rattle.unit_book.proofs.Opened.{shown_rests}
use Rattle.unit_image.specs.Shows.{Shows, ShowsNone}
use Rattle.run_promise.specs.Log.{entries_of}
use Rattle.run_promise.specs.Call.{SiteSeen}
use Rattle.run_promise.specs.Sound.{HasPlan}
use Rattle.law_image.proofs.Images.{opened_plan}
use Rattle.unit_book.specs.Book.{BookView, IsKept, Serves, with_put}
use Rattle.unit_book.proofs.Serving.{serves_shows}
use Rattle.cli_image.specs.declared.stat.StatEnd.{StatEnd}
use Rattle.cli_image.specs.declared.stat.StatEnd.TheVariants.{Told, SiteFault, NoMemory, NoState}
use Rattle.sdls_outside.specs.Output.{OnlySinks, SinksFront}
use Rattle.record_io.specs.Outcome.{Ends}
use Rattle.cli_image.specs.Stat.{IsLeft, PutsText, ShowsAlone, StatMoment, StatDue, TellsBook, end_of_open, fault_text}
use Rattle.cli_image.specs.Stat.{stat_status}
use Rattle.cli_image.proofs.Sinking.{sinks_leave}

-- a book whose log is one piece serves the state at its start alone
pub serves_alone : (start : State) (piece : List ℕ) (standing : ℕ) (before image sunk : List ℕ)
    → Serves start (logged.Piece piece ∷ []) standing before image sunk → IsAtRest image → ShowsAlone start image
serves_alone start piece standing before image sunk serves rests =
    let shown = serves_shows start (logged.Piece piece ∷ []) standing before image sunk serves in
    let after = shown.2 in
    let none : shown.0 ≡ 0 = (let low = after.within in omega arith) in
    let first : after_first start [] shown.0 ≡ start = ap (after_first start []) none in
    record {
      shows = subst (λ (s : State). Shows image (restarted s)) first after.shows;
      no_form = λ form is. rests is.0 is.1;
    }

-- a moment of the opening, and one behind it
pub opening_moment : (entry : Trace) (image sunk : List ℕ) → Opening entry image sunk → StatMoment entry image
opening_moment entry image sunk opening = elim opening.0 [
  | inl leaves ↦ inl leaves
  | inr settles ↦ inr (inl settles)
]

-- nothing was put while the image was opened
pub sunk_same : (old new : Trace) → Leaves new.now new.now.image → EachMoment old new (Opening old)
    → new.now.sunk ≡ old.now.sunk
sunk_same old new stays each =
    let here = each.each new.now.image new.now.sunk (moment_now new (clock old) new.now.image stays) in here.1

-- a text that was put from a later time on, where nothing was put before
pub puts_from : (told : Bool) (text : List ℕ) (due status : ℕ) (old mid new : Trace) (rose late : Type 0)
    → (late → rose)
    → (IsTrue told → mid.now.sunk ≡ old.now.sunk) → PutsText told text due status mid new late
    → PutsText told text due status old new rose
puts_from told text due status old mid new rose late weaker same (inl whole) =
    inl (whole.0, λ is. whole.1 is ∙ ap (λ (sunk : List ℕ). sunk ++ text) (same is))
puts_from told text due status old mid new rose late weaker same (inr front) =
    inr (
      front.0,
      weaker front.1,
      λ is. subst (λ (sunk : List ℕ). Between sunk (sunk ++ text) new.now.sunk) (same is)
          (front.2 is),
    )

-- one put of the text
pub one_put : (text : List ℕ) (old new : Trace) → (new ≡ old) ⊎ Sank text old new
    → Between old.now.sunk (old.now.sunk ++ text) new.now.sunk
one_put text old new (inl same) =
    subst (λ (trace : Trace). Between old.now.sunk (old.now.sunk ++ text) trace.now.sunk) (sym same)
    (record { least = omega arith; prefix = sym (take_front old.now.sunk text) })
  where
    take_front : (xs ys : List ℕ) → take (length xs) (xs ++ ys) ≡ xs
    take_front [] ys = refl
    take_front (x ∷ xs) ys = ap (λ (l : List ℕ). x ∷ l) (take_front xs ys)
one_put text old new (inr sank) = sank.sunk

-- all moments of `stat`, those of the opening and those behind it
pub all_moments : (entry opened last : Trace) (state : State) → Shows entry.now.image state
    → EachMoment entry opened (Opening entry)
    → EachMoment opened last (λ image sunk. ShowsAlone state image)
    → EachMoment entry last (λ image sunk. StatMoment entry image)
all_moments entry opened last state shows opening alone =
    each_then entry opened last (λ image sunk. StatMoment entry image)
    (each_weaker entry opened (Opening entry) (λ image sunk. StatMoment entry image) (opening_moment entry) opening)
    (each_weaker opened last (λ image sunk. ShowsAlone state image) (λ image sunk. StatMoment entry image)
    (λ image sunk shown. inr (inr (state, shows, shown))) alone)

-- the moments of a book behind its opening, which put one piece
pub book_moments : (told : Bool) (old new : BookView) (piece : List ℕ)
    → new ≡ with_put piece (record old { site = new.site }) → old.log ≡ [] → old.opened ≡ old.site → IsKept told new
    → IsTrue told → EachMoment old.site.trace new.site.trace (λ image sunk. ShowsAlone old.start image)
book_moments told old new piece made none first kept is_told =
    let opened : new.opened ≡ old.site = ap (λ (b : BookView). b.opened) made ∙ first in
    let start : new.start ≡ old.start = ap (λ (b : BookView). b.start) made in
    let log : new.log ≡ logged.Piece piece ∷ [] =
    ap (λ (b : BookView). b.log) made ∙ ap (λ (l : List Logged). l ++ logged.Piece piece ∷ []) none in
    let history = kept.history is_told in
    let idle = history.idle (ap entries_of log) in
    let S : List ℕ → List ℕ → Type 0 = Serves new.start new.log new.standing new.opened.trace.now.sunk in
    let both : EachMoment new.opened.trace new.site.trace (λ image sunk. S image sunk × IsAtRest image) =
    each_both new.opened.trace new.site.trace S (λ image sunk. IsAtRest image) history.moments idle.moments in
    each_weaker old.site.trace new.site.trace (λ image sunk. S image sunk × IsAtRest image)
    (λ image sunk. ShowsAlone old.start image)
    (λ image sunk holds. subst (λ (s : State). ShowsAlone s image) start
    (serves_alone new.start piece new.standing new.opened.trace.now.sunk image sunk
    (subst (λ (l : List Logged). Serves new.start l new.standing new.opened.trace.now.sunk image sunk) log holds.0)
    holds.1))
    (subst (λ (o : SiteSeen). EachMoment o.trace new.site.trace (λ image sunk. S image sunk × IsAtRest image)) opened
    both)
  where
    each_both : (old new : Trace) (P Q : List ℕ → List ℕ → Type 0) → EachMoment old new P → EachMoment old new Q
        → EachMoment old new (λ image sunk. P image sunk × Q image sunk)
    each_both old new P Q one other = record {
      later = one.later;
      each = λ image sunk moment. (one.each image sunk moment, other.each image sunk moment);
      before = λ time image sunk low moment. elim (one.before time image sunk low moment) [
        | inl there ↦ inl there
        | inr p ↦ elim (other.before time image sunk low moment) [
          | inl there ↦ inl there
          | inr q ↦ inr (p, q)
        ]
      ];
    }

-- the plan stays while a book that was opened puts one piece
pub book_plans : (told : Bool) (old new : BookView) (piece : List ℕ)
    → new ≡ with_put piece (record old { site = new.site }) → old.opened ≡ old.site → IsKept told new → IsTrue told
    → EachMoment old.site.trace new.site.trace (λ image sunk. HasPlan (held old.image).plan image)
book_plans told old new piece made first kept is_told =
    let opened : new.opened ≡ old.site = ap (λ (b : BookView). b.opened) made ∙ first in
    let read : new.image ≡ old.image = ap (λ (b : BookView). b.image) made in
    subst (λ (o : SiteSeen). EachMoment o.trace new.site.trace (λ image sunk. HasPlan (held old.image).plan image))
    opened
    (subst (λ (image_read : List ℕ). EachMoment new.opened.trace new.site.trace
    (λ image sunk. HasPlan (held image_read).plan image)) read (kept.plan_stays is_told))

-- the plan of an image that shows a state stays while it is opened
opening_plan : (entry : Trace) (state : State) → Shows entry.now.image state → (image sunk : List ℕ)
    → Opening entry image sunk → Leaves entry.now image ⊎ HasPlan (held entry.now.image).plan image
opening_plan entry state shows image sunk (inl leaves, same) = inl leaves
opening_plan entry state shows image sunk (inr settles, same) =
    let (here, forms) = opened_plan entry.now.image image state shows settles in
    inr (record { here = here; forms = forms })

-- all moments of `stat` keep it, where the book was opened
pub all_plans : (entry opened last : Trace) (state : State) → Shows entry.now.image state
    → EachMoment entry opened (Opening entry)
    → EachMoment opened last (λ image sunk. HasPlan (held entry.now.image).plan image)
    → EachMoment entry last (λ image sunk. Leaves entry.now image ⊎ HasPlan (held entry.now.image).plan image)
all_plans entry opened last state shows opening stays =
    let P : List ℕ → List ℕ → Type 0 =
    λ image sunk. Leaves entry.now image ⊎ HasPlan (held entry.now.image).plan image in
    each_then entry opened last P
    (each_weaker entry opened (Opening entry) P (opening_plan entry state shows) opening)
    (each_weaker opened last (λ image sunk. HasPlan (held entry.now.image).plan image) P (λ image sunk has. inr has)
    stays)

-- what is told of the book is what is due for the image that it was opened on
pub told_due : (told : Bool) (rose : Type 0) (image text : List ℕ) (book : BookView) (end : StatEnd)
    → TellsBook book text end
    → (IsTrue told → plan_of (held image).plan ≡ Ok book.plan) → (IsTrue told → Shows image book.state)
    → (IsTrue told → book.journal.used ≡ used_next image) → StatDue told rose image text end
told_due told rose image text book Told tells plan shows used = λ is. record {
  plan = book.plan;
  state = book.state;
  says = plan is;
  shows = shows is;
  text_is = tells ∙ ap (λ (n : ℕ). status_text book.state n book.plan.slots) (used is);
}
told_due told rose image text book SiteFault tells plan shows used = absurd tells
told_due told rose image text book NoMemory tells plan shows used = tells
told_due told rose image text book (NoState offset) tells plan shows used = absurd tells

-- why there is no state is what is due for the image that was refused
pub fault_due : (told : Bool) (image : List ℕ) (before mid now : ℕ) (None : ℕ → Type 0) (fault : OpenFault) → mid ≤ now
    → ((offset : ℕ) → None offset → IsTrue told → ShowsNone image offset) → IsOpenCause before mid None fault
    → StatDue told (Rose before now) image (fault_text (end_of_open fault)) (end_of_open fault)
fault_due told image before mid now None (faults.SiteFault count) low weaker cause = (omega (arith, cause.0), refl)
fault_due told image before mid now None (faults.Image offset) low weaker cause = (weaker offset cause, refl)
fault_due told image before mid now None faults.NoMemory low weaker cause = refl

-- a text that was put by any number of puts
pub ends_put : (told : Bool) (text : List ℕ) (due status : ℕ) (old new : Trace) (rose : Type 0)
    → Ends told old new rose text due status
    → PutsText told text due status old new rose
ends_put told text due status old new rose (inl whole) = inl (whole.0, λ is. (whole.1 is).sunk)
ends_put told text due status old new rose (inr front) = inr (front.0, front.1, λ is. between (front.2 is))
  where
    take_front : (xs ys : List ℕ) → take (length xs) (xs ++ ys) ≡ xs
    take_front [] ys = refl
    take_front (x ∷ xs) ys = ap (λ (l : List ℕ). x ∷ l) (take_front xs ys)

    between : SinksFront text old new → Between old.now.sunk (old.now.sunk ++ text) new.now.sunk
    between part =
        let longer : length new.now.sunk ≡ length old.now.sunk + length part.front =
        ap length part.sunk ∙ length-append old.now.sunk part.front in
        let whole : old.now.sunk ++ text ≡ (old.now.sunk ++ part.front) ++ part.rest =
        ap (λ (l : List ℕ). old.now.sunk ++ l) part.is_front ∙ sym (append_assoc old.now.sunk part.front part.rest) in
        record {
          least = omega arith;
          prefix = part.sunk ∙ sym (take_front (old.now.sunk ++ part.front) part.rest)
              ∙ (ap (λ (l : List ℕ). take (length (old.now.sunk ++ part.front)) l) (sym whole)
              ∙ ap (λ (l : List ℕ). take (length l) (old.now.sunk ++ text)) (sym part.sunk));
        }

-- where it was put, nothing else was done
ends_sink : (told : Bool) (text : List ℕ) (due status : ℕ) (old new : Trace) (rose : Type 0)
    → Ends told old new rose text due status
    → IsTrue told → OnlySinks old new
ends_sink told text due status old new rose (inl whole) is = (whole.1 is).only_sinks
ends_sink told text due status old new rose (inr front) is = (front.2 is).only_sinks

-- all moments of `stat` where the image was refused
pub refused_moments : (told : Bool) (text : List ℕ) (due status : ℕ) (entry mid new : Trace) (rose : Type 0)
    → EachMoment entry mid (Opening entry) → Ends told mid new rose text due status → IsTrue told
    → EachMoment entry new (λ image sunk. StatMoment entry image)
refused_moments told text due status entry mid new rose opening ends is =
    each_then entry mid new (λ image sunk. StatMoment entry image)
    (each_weaker entry mid (Opening entry) (λ image sunk. StatMoment entry image) (opening_moment entry) opening)
    (each_weaker mid new (λ image sunk. Leaves mid.now image) (λ image sunk. StatMoment entry image)
    (λ image sunk leaves. opening_moment entry image mid.now.sunk
    (opening.each image mid.now.sunk (moment_now mid (clock entry) image leaves)))
    (sinks_leave mid new (ends_sink told text due status mid new rose ends is)))

-- and so do those where it was not opened
pub refused_plans : (told : Bool) (text : List ℕ) (due status : ℕ) (entry mid new : Trace) (rose : Type 0)
    (state : State)
    → Shows entry.now.image state → EachMoment entry mid (Opening entry) → Ends told mid new rose text due status
    → IsTrue told
    → EachMoment entry new (λ image sunk. Leaves entry.now image ⊎ HasPlan (held entry.now.image).plan image)
refused_plans told text due status entry mid new rose state shows opening ends is =
    let P : List ℕ → List ℕ → Type 0 =
    λ image sunk. Leaves entry.now image ⊎ HasPlan (held entry.now.image).plan image in
    each_then entry mid new P
    (each_weaker entry mid (Opening entry) P (opening_plan entry state shows) opening)
    (each_weaker mid new (λ image sunk. Leaves mid.now image) P
    (λ image sunk leaves. opening_plan entry state shows image mid.now.sunk
    (opening.each image mid.now.sunk (moment_now mid (clock entry) image leaves)))
    (sinks_leave mid new (ends_sink told text due status mid new rose ends is)))

-- an image that was refused is left
pub refused_left : (told : Bool) (text : List ℕ) (due status : ℕ) (entry mid new : Trace) (rose : Type 0)
    → OnlySyncs entry mid → Leaves entry.now entry.now.image → Ends told mid new rose text due status → IsTrue told
    → IsLeft entry new
refused_left told text due status entry mid new rose only stays ends is =
    let each = only_syncs_moments entry mid only stays in
    let sinks = ends_sink told text due status mid new rose ends is in (
      sinks.stands.image ∙ same_image entry mid only,
      each_then entry mid new (λ image sunk. Leaves entry.now image)
          (each_weaker entry mid (λ image sunk. Leaves entry.now image × (sunk ≡ entry.now.sunk))
          (λ image sunk. Leaves entry.now image)
          (λ image sunk both. both.0) each.moments)
          (each_weaker mid new (λ image sunk. Leaves mid.now image) (λ image sunk. Leaves entry.now image)
          (λ image sunk leaves. (each.moments.each image mid.now.sunk (moment_now mid (clock entry) image leaves)).0)
          (sinks_leave mid new sinks)),
    )

-- a book that was opened tells its state alone at the end
pub alone_now : (opened last : Trace) (state : State) → EachMoment opened last (λ image sunk. ShowsAlone state image)
    → Leaves last.now last.now.image → ShowsAlone state last.now.image
alone_now opened last state each stays =
    each.each last.now.image last.now.sunk (moment_now last (clock opened) last.now.image stays)

-- the plan is that of the image as it reads at the end
pub plan_now : (opened last : Trace) (plan : List ℕ) → EachMoment opened last (λ image sunk. HasPlan plan image)
    → Leaves last.now last.now.image → (held last.now.image).plan ≡ plan
plan_now opened last plan each stays =
    (each.each last.now.image last.now.sunk (moment_now last (clock opened) last.now.image stays)).here

-- the image shows the state that it showed
pub still_shown : ((image : List ℕ) (one other : State) → Shows image one → Shows image other → one ≡ other)
    → (entry last : Trace) (start : State) → Shows entry.now.image start → ShowsAlone start last.now.image
    → (state : State) → Shows entry.now.image state → Shows last.now.image state
still_shown once entry last start shows alone state other =
    subst (Shows last.now.image) (shown_rests entry.now.image start shows ∙ once entry.now.image start state shows
    other) alone.shows

-- a put that is no fault of the image leaves what an opening left that failed
pub fault_leaves : (told : Bool) (entry mid new : Trace) (rose : Type 0) (fault : OpenFault) (status : ℕ)
    → LeavesShown entry mid fault
    → Ends told mid new rose (fault_text (end_of_open fault)) (stat_status (end_of_open fault)) status → IsTrue told
    → (state : State) → Shows entry.now.image state → end_of_open fault ≢ SiteFault → Shows new.now.image state
fault_leaves told entry mid new rose fault status left ends is state shows other =
    let sinks = ends_sink told (fault_text (end_of_open fault)) (stat_status (end_of_open fault)) status mid new rose
    ends is in
    subst (λ (image : List ℕ). Shows image state) (sym sinks.stands.image) (go fault other (left.stands state shows))
  where
    go : (f : OpenFault) → end_of_open f ≢ SiteFault → ShowsUnlessFailed mid.now.image state f
        → Shows mid.now.image state
    go (faults.SiteFault count) other shown = absurd (other refl)
    go (faults.Image offset) other shown = shown
    go faults.NoMemory other shown = shown

-- an opening that failed told no state
pub not_told : (fault : OpenFault) → end_of_open fault ≡ Told → ⊥
not_told (faults.SiteFault count) is = cc
not_told (faults.Image offset) is = cc
not_told faults.NoMemory is = cc
