-- The moments of a call of `run` whose book was opened: while it was opened, and while it served.
use Rattle.std.proofs.Common.{◌≡◌, ◌⊎◌, ℕ, ◌+◌, ◌-◌, ◌<◌, ◌≤◌, min, List, [], ◌∷◌, ◌++◌, length, take, drop, Some}
use Rattle.std.proofs.Common.{refl, sym, ◌∙◌, ap, subst, inl, inr, arith, length-append}
use Rattle.std.proofs.Math.Seq.{drop-append_seam, take-append-add}
use Rattle.std.specs.List.{Contains, slice_get}
use Rattle.std.proofs.lemmas.Bool.{cases_lt}
use Rattle.std.proofs.lemmas.List.{drop_all, length-drop, length-take, take-append-le, take_at}
use Rattle.std.proofs.lemmas.Option.{slice_get_within}
use Rattle.sdls_base.specs.declared.entry.Entry.{Entry}
use Rattle.sdls_base.specs.declared.entry.Logged.{Logged}
use Rattle.sdls_base.specs.declared.entry.Logged.TheVariants as lines
use Rattle.sdls_outside.specs.Disk.{Leaves}
use Rattle.sdls_outside.specs.Moments.{Trace, Between, EachMoment}
use Rattle.sdls_outside.proofs.Moments.{each_then, each_weaker}
use Rattle.record_io.specs.Answers.{answer_octets, answers_octets}
use Rattle.record_io.specs.Places.{Place}
use Rattle.unit_image.specs.OpeningImage.{LeftByOpening, Opening}
use Rattle.unit_image.specs.Shows.{Shows}
use Rattle.law_image.proofs.Images.{opened_plan}
use Rattle.unit_plan.specs.PlanLines.{PlanLines}
use Rattle.unit_state.specs.declared.state.State.{State}
use Rattle.run_promise.specs.Log.{entries_of, pieces_of}
use Rattle.unit_book.specs.Book.{Serves}
use Rattle.run_promise.specs.Deed.{Deed}
use Rattle.law_runs.specs.Settled.{AreSettled}
use Rattle.run_promise.specs.Sound.{EachBegun, HasPlan, ShowsAfter, SoundMoment, deeds_octets}
use Rattle.law_runs.specs.AtEnd.{StaysCovered}
use Rattle.unit_book.proofs.Lines.{entries_front}
use Rattle.law_workers.proofs.Histories.{get_front, place_of_entry}
use Rattle.law_workers.proofs.Logs.{entries_low}
use Rattle.law_runs.proofs.SoundMoments.{moment_sound, pieces_low}
use Rattle.run_promise.specs.Call.{CallSeen, image_at_entry, plan_at_entry, sunk_since}
use Rattle.run_promise.specs.Account.{Account, answers_of_first, course_of, deeds_in, end_octets}
use Rattle.run_promise.specs.Ends.{IsEarly, IsFenced, IsServed}

none_begun : (deeds : List Deed) → EachBegun (λ (d : Deed). ⊥) 0 deeds
none_begun [] = tt
none_begun (deed ∷ deeds) = (
  λ begun. absurd (omega arith),
  subst (λ (n : ℕ). EachBegun (λ (d : Deed). ⊥) n deeds) (let e : 0 ≡ 0 - length (answer_octets deed.answer) =
      omega arith in e) (none_begun deeds),
)

-- nothing more was sunk
nothing_since : (call : CallSeen) (sunk : List ℕ) → sunk ≡ call.site.trace.now.sunk → sunk_since call sunk ≡ []
nothing_since call sunk same = ap (drop (length call.site.trace.now.sunk)) same
    ∙ drop_all (length call.site.trace.now.sunk) call.site.trace.now.sunk (omega arith)

-- a moment of the opening that leaves what one at the entry may leave is early
early_moment : (call : CallSeen) (account : Account) (image sunk : List ℕ) → Leaves call.site.trace.now image
    → sunk ≡ call.site.trace.now.sunk → IsEarly call account.named image sunk
early_moment call account image sunk leaves same = record {
  leaves = leaves;
  only_end = subst (λ (l : List ℕ). l ≡ take (length l) (end_octets call account.named))
      (sym (nothing_since call sunk same)) refl;
}

pub opening_moment : (call : CallSeen) (account : Account) (plan : PlanLines) (state : State) (image sunk : List ℕ)
    → Opening call.site.trace image sunk → IsEarly call account.named image sunk
    ⊎ IsServed call account plan state image sunk
opening_moment call account plan state image sunk (inl leaves, same) =
    inl (early_moment call account image sunk leaves same)
opening_moment call account plan state image sunk (inr settles, same) =
    let none = nothing_since call sunk same in
    inr (subst (SoundMoment (course_of call account plan state) (deeds_in account) (end_octets call account.named)
    (image_at_entry call) image) (sym none)
    (record { front = refl; image_shows = inl (none_begun (deeds_in account), settles) }))

-- what was sunk since, while the book served
since_is : (before a b sunk : List ℕ) → Between (before ++ a) (before ++ b) sunk
    → sunk ≡ before ++ drop (length before) sunk
since_is before a b sunk between =
    let low = between.least in
    let size : length (before ++ a) ≡ length before + length a = length-append before a in
    let n : ℕ = length sunk - length before in
    let long : length sunk ≡ length before + (length sunk - length before) = omega arith in
    let is : sunk ≡ before ++ take (length sunk - length before) b =
    between.prefix ∙ ap (λ (k : ℕ). take k (before ++ b)) long ∙ take-append-add before b
    (length sunk - length before) in
    is ∙ ap (λ (l : List ℕ). before ++ l)
    (sym (ap (drop (length before)) is ∙ drop-append_seam before (take (length sunk - length before) b)))

pub serving_moment : (call : CallSeen) (account : Account) (plan : PlanLines) (state : State) (log : List Logged)
    (standing : ℕ) (image sunk : List ℕ)
    → call.entries ≡ entries_of log → AreSettled (course_of call account plan state) standing log 0 (deeds_in account)
    → StaysCovered (course_of call account plan state) (deeds_in account)
    → pieces_of log ≡ take (length (pieces_of log)) (deeds_octets (deeds_in account) ++ end_octets call account.named)
    → Serves state log standing call.site.trace.now.sunk image sunk → IsServed call account plan state image sunk
serving_moment call account plan state log standing image sunk is settled stays put m =
    moment_sound (course_of call account plan state) standing log (deeds_in account) (end_octets call account.named)
    (image_at_entry call)
    call.site.trace.now.sunk image sunk (sunk_since call sunk) is settled stays put
    (since_is call.site.trace.now.sunk (pieces_of (take m.place log)) (pieces_of (take (m.place + 1) log)) sunk m.sinks)
    m

-- ---- fences

pub opening_fence : (call : CallSeen) (account : Account) (state : State) (image sunk : List ℕ)
    → Opening call.site.trace image sunk
    → IsEarly call account.named image sunk
    ⊎ (LeftByOpening (image_at_entry call) image ⊎ IsFenced call account state image sunk)
opening_fence call account state image sunk (inl leaves, same) =
    inl (early_moment call account image sunk leaves same)
opening_fence call account state image sunk (inr settles, same) = inr (inl settles)

module _ (call : CallSeen) (account : Account) (state : State) (log own rest : List Logged) (standing : ℕ)
    (is : call.entries ≡ entries_of log) (goes : log ≡ own ++ rest)
    (fenced : (place : Place) (at : ℕ) (entry : Entry) → Contains account.handled place
    → slice_get own at ≡ Some (lines.Entry entry) → entry.index ≡ Some place.task.index
    → length (answers_octets (answers_of_first place.segment account.handled account.answers))
    ≤ length (pieces_of (take at own)))
    (earlier : (place : Place) → Contains account.handled place
    → length (answers_octets (answers_of_first place.segment account.handled account.answers)) ≤ length (pieces_of own))
  where
    -- an entry of a record stands behind the answers of the segments before
    behind_answers : (place : Place) (x : ℕ) (entry : Entry) → Contains account.handled place
        → slice_get log x ≡ Some (lines.Entry entry) → entry.index ≡ Some place.task.index
        → length (answers_octets (answers_of_first place.segment account.handled account.answers))
        ≤ length (pieces_of (take x log))
    behind_answers place x entry there line of = go (cases_lt x (length own))
      where
        go : (x < length own) ⊎ (length own ≤ x)
            → length (answers_octets (answers_of_first place.segment account.handled account.answers))
            ≤ length (pieces_of (take x log))
        go (inl lt) =
            let own_line : slice_get own x ≡ Some (lines.Entry entry) =
            sym (get_front own rest x lt) ∙ ap (λ (l : List Logged). slice_get l x) (sym goes) ∙ line in
            let a = fenced place x entry there own_line of in
            let b = ap (λ (l : List Logged). length (pieces_of l))
            (ap (take x) goes ∙ take-append-le x own rest (omega arith)) in omega arith
        go (inr ge) =
            let a = earlier place there in
            let b = ap (λ (l : List Logged). length (pieces_of l))
            (ap (take (length own)) goes ∙ take_at own rest (length own) refl) in
            let c = pieces_low log (length own) x ge in omega arith

    pub serving_fence : (image sunk : List ℕ) → Serves state log standing call.site.trace.now.sunk image sunk
        → IsFenced call account state image sunk
    serving_fence image sunk m =
        let (p, least, shows) = m.shows in
        let (more, front) = entries_front (m.place + 1) log in
        let same : entries_of (take (m.place + 1) log) ≡ take (length (entries_of (take (m.place + 1) log)))
        call.entries =
        sym (ap (take (length (entries_of (take (m.place + 1) log)))) (is ∙ front)
        ∙ take_at (entries_of (take (m.place + 1) log)) more (length (entries_of (take (m.place + 1) log))) refl) in
        record {
          most = length (entries_of (take (m.place + 1) log));
          p = p;
          shows = subst (λ (es : List Entry). ShowsAfter state es p image) same shows;
          answered = λ place at entry there low got of.
              let (x, inside, line, before) = place_of_entry log at entry
              (subst (λ (es : List Entry). slice_get es at ≡ Some entry) is got) in
              let within = slice_get_within call.entries at entry got in
              let size : length (entries_of (take x log)) ≡ min at (length (entries_of log)) =
              ap length before ∙ length-take at (entries_of log) in
              let all = ap length is in
              let x_low : x ≤ m.place =
              not_behind x (cases_lt m.place x) (λ high. let a = entries_low log (m.place + 1) x high in
              omega arith) in
              let a = behind_answers place x entry there line of in
              let b = pieces_low log x m.place x_low in
              let c = m.sinks.least in
              let d = length-append call.site.trace.now.sunk (pieces_of (take m.place log)) in
              let e = length-drop (length call.site.trace.now.sunk) sunk in omega arith;
        }
      where
        not_behind : (x : ℕ) → (m.place < x) ⊎ (x ≤ m.place) → (m.place + 1 ≤ x → ⊥) → x ≤ m.place
        not_behind x (inl high) none = absurd (none (omega arith))
        not_behind x (inr low) none = low

    -- all moments of the call
    pub all_fences : (opened : Trace) → EachMoment call.site.trace opened (Opening call.site.trace)
        → opened.now.sunk ≡ call.site.trace.now.sunk
        → EachMoment opened call.site_after.trace (Serves state log standing opened.now.sunk)
        → EachMoment call.site.trace call.site_after.trace (λ image sunk. IsEarly call account.named image sunk
        ⊎ (LeftByOpening (image_at_entry call) image ⊎ IsFenced call account state image sunk))
    all_fences opened opening same serving =
        let P : List ℕ → List ℕ → Type 0 = λ image sunk. IsEarly call account.named image sunk
        ⊎ (LeftByOpening (image_at_entry call) image ⊎ IsFenced call account state image sunk) in
        each_then call.site.trace opened call.site_after.trace P
        (each_weaker call.site.trace opened (Opening call.site.trace) P (opening_fence call account state) opening)
        (each_weaker opened call.site_after.trace (Serves state log standing opened.now.sunk) P
        (λ image sunk m. inr (inr (serving_fence image sunk
        (subst (λ (before : List ℕ). Serves state log standing before image sunk) same m)))) serving)

-- ---- the plan

opening_plan : (call : CallSeen) (account : Account) (state : State) → Shows (image_at_entry call) state
    → (image sunk : List ℕ) → Opening call.site.trace image sunk
    → IsEarly call account.named image sunk ⊎ HasPlan (plan_at_entry call) image
opening_plan call account state shows image sunk (inl leaves, same) =
    inl (early_moment call account image sunk leaves same)
opening_plan call account state shows image sunk (inr settles, same) =
    let (here, forms) = opened_plan (image_at_entry call) image state shows settles in
    inr (record { here = here; forms = forms })

-- all moments of the call
pub all_plans : (call : CallSeen) (account : Account) (state : State) (opened : Trace)
    → Shows (image_at_entry call) state
    → EachMoment call.site.trace opened (Opening call.site.trace)
    → EachMoment opened call.site_after.trace (λ image sunk. HasPlan (plan_at_entry call) image)
    → EachMoment call.site.trace call.site_after.trace (λ image sunk. IsEarly call account.named image sunk
    ⊎ HasPlan (plan_at_entry call) image)
all_plans call account state opened shows opening serving =
    let P : List ℕ → List ℕ → Type 0 = λ image sunk. IsEarly call account.named image sunk
    ⊎ HasPlan (plan_at_entry call) image in
    each_then call.site.trace opened call.site_after.trace P
    (each_weaker call.site.trace opened (Opening call.site.trace) P (opening_plan call account state shows) opening)
    (each_weaker opened call.site_after.trace (λ image sunk. HasPlan (plan_at_entry call) image) P
    (λ image sunk has. inr has) serving)

-- ---- all together

-- all moments of the call: of the opening, and then of the book
pub all_moments : (call : CallSeen) (account : Account) (plan : PlanLines) (state : State) (opened : Trace)
    (log : List Logged) (standing : ℕ)
    → EachMoment call.site.trace opened (Opening call.site.trace) → opened.now.sunk ≡ call.site.trace.now.sunk
    → EachMoment opened call.site_after.trace (Serves state log standing opened.now.sunk)
    → call.entries ≡ entries_of log → AreSettled (course_of call account plan state) standing log 0 (deeds_in account)
    → StaysCovered (course_of call account plan state) (deeds_in account)
    → pieces_of log ≡ take (length (pieces_of log)) (deeds_octets (deeds_in account) ++ end_octets call account.named)
    → EachMoment call.site.trace call.site_after.trace (λ image sunk. IsEarly call account.named image sunk
    ⊎ IsServed call account plan state image sunk)
all_moments call account plan state opened log standing opening same serving is settled stays put =
    let P : List ℕ → List ℕ → Type 0 = λ image sunk. IsEarly call account.named image sunk
    ⊎ IsServed call account plan state image sunk in
    each_then call.site.trace opened call.site_after.trace (λ image sunk. IsEarly call account.named image sunk
    ⊎ IsServed call account plan state image sunk)
    (each_weaker call.site.trace opened (Opening call.site.trace) (λ image sunk. IsEarly call account.named image sunk
    ⊎ IsServed call account plan state image sunk)
    (opening_moment call account plan state) opening)
    (each_weaker opened call.site_after.trace (Serves state log standing opened.now.sunk)
    (λ image sunk. IsEarly call account.named image sunk ⊎ IsServed call account plan state image sunk)
    (λ image sunk m. inr (serving_moment call account plan state log standing image sunk is settled stays put
    (subst (λ (before : List ℕ). Serves state log standing before image sunk) same m))) serving)
