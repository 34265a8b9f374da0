-- A run whose book was opened, from the close of its counters to its end: for `run_ends_well`.
use Rattle.std.proofs.Common.{◌≡◌, ◌≢◌, ◌⊎◌, ℕ, suc, zero, ◌+◌, ◌-◌, ◌<◌, ◌≤◌, Bool, IsTrue, List, [], ◌∷◌, ◌++◌}
use Rattle.std.proofs.Common.{length, take, drop, min, get_or, Some, Result, Ok, Err, refl, sym, ◌∙◌, ap, subst, inl}
use Rattle.std.proofs.Common.{inr, arith, append-nil, append_assoc, length-append}
use Rattle.std.specs.Prelude.{MatchResult}
use Rattle.std.proofs.Math.Seq.{drop-append_seam, take-append-add}
use Rattle.std.proofs.lemmas.List.{length-take, take-append-le, take_all, take_at}
use Rattle.sdls_base.specs.declared.entry.Entry.{Entry}
use Rattle.sdls_base.specs.declared.entry.Logged.{Logged}
use Rattle.sdls_base.specs.declared.entry.Logged.TheVariants as lines
use Rattle.sdls_outside.specs.Faults.{Rose}
use Rattle.sdls_outside.specs.Moments.{Trace, Between, EachMoment}
use Rattle.sdls_outside.specs.Site as sites
use Rattle.record_io.specs.declared.status.TheConstants.{SITE_FAULT}
use Rattle.record_io.specs.Answers.{IsAnswer, answer_octets, answers_octets}
use Rattle.record_io.specs.Places.{Place, first_count, places_of, records_of}
use Rattle.record_io.specs.Reading.{SourceSeen}
use Rattle.counter_table.specs.declared.view.View.{View}
use Rattle.run_promise.specs.Log.{entries_of, pieces_of}
use Rattle.unit_book.specs.declared.fault.BookFault.{BookFault}
use Rattle.unit_book.specs.declared.fault.BookFault.TheVariants.{SessionFull}
use Rattle.run_promise.specs.declared.end.TheConstants.{MOST_ENTRIES}
use Rattle.unit_book.specs.Book.{BookView, Serves}
use Rattle.unit_book.specs.Log.{sunk_between}
use Rattle.law_workers.proofs.Histories.{entries_both}
use Rattle.run_promise.specs.declared.end.RunEnd.{RunEnd}
use Rattle.run_promise.specs.declared.end.RunEnd.TheVariants as ends
use Rattle.run_promise.specs.Call.{CallSeen, ShowsAtEntry, plan_at_entry, sunk_since, SiteSeen, Begin}
use Rattle.run_promise.specs.Account.{Account, answers_of_first, course_of, deeds_from, due_octets, end_answer}
use Rattle.run_promise.specs.Account.{end_octets, end_status, CameBy, EndsWithRelease, IsToldFirst, PutsDue, PutsFront}
use Rattle.run_promise.specs.Account.{StoodUntilRelease, TellsEnd}
use Rattle.law_runs.specs.Doing.{IsFounded, octets_put}
use Rattle.law_runs.specs.Coming.{HasBroken, HasPut, StopsAtFullHistory, PutsBy, EndsReading}
use Rattle.law_runs.specs.Ending.{Finishes, IsEndPut}
use Rattle.law_runs.specs.Ran.{Ran, begin_by}
use Rattle.law_runs.proofs.ByImage.{same_ok}
use Rattle.law_runs.proofs.Faults.{told_rose}
use Rattle.law_runs.proofs.Doing.{ends_run}
use Rattle.law_runs.proofs.Moved.{moved_run, settled_more}
use Rattle.law_runs.proofs.Moments.{all_fences, all_moments, all_plans}
use Rattle.law_runs.proofs.Releases.{AreAdded, AreWords, IsRefusedRelease, are_added, are_releases, ends_released}
use Rattle.law_runs.proofs.Releases.{released_full, released_pieces, released_quietly}
use Rattle.law_runs.proofs.Placed.{IsBefore, answers_all, places_ascend}
use Rattle.law_runs.specs.AtEnd.{EndsRun, course_at_end, StaysCovered}
use Rattle.law_runs.specs.Release.{AreReleases}
use Rattle.law_runs.specs.Settled.{AreSettled}
use Rattle.run_promise.specs.Answers.{IsUnmade, SaysSiteFailed, Uses}
use Rattle.run_promise.specs.Sound.{HasPlan, IsNearBehind, IsSound, deeds_octets}
use Rattle.law_runs.proofs.Stepping.{octets_of}
use Rattle.run_promise.specs.OneLane.{OneLane, IsExact}
use Rattle.law_runs.proofs.Exacting.{exact_call}
use Rattle.law_runs.proofs.Standing.{kept_stands}
use Rattle.law_runs.proofs.Words.{moved_call}
use Rattle.run_promise.specs.Words.{MovedWords}
use Rattle.run_promise.specs.Ends.{ServesSoundly, IsEarly, IsFenced, IsReleased, IsServed, RunEnds}
use Rattle.law_runs.proofs.Appending.{may_append}
use Rattle.law_workers.proofs.WholeRun.{near, rules_at_end}
use Rattle.unit_image.specs.Image.{held}
use Rattle.unit_image.specs.OpeningImage.{LeftByOpening}
use Rattle.unit_image.specs.Shows.{Shows}
use Rattle.unit_plan.specs.PlanLines.{PlanLines}
use Rattle.run_promise.specs.Fits.{MayAppend, Course, Fits}
use Rattle.run_promise.specs.Deed.{is_entered, Deed, InTurn, StandsBehind, tells_count}
use Rattle.law_runs.proofs.Assembled.{sound_run, covered_run}
use Rattle.law_runs.proofs.Released.{legal_run, used_below, word_near}
use Rattle.unit_state.specs.declared.state.State.{State}
use Rattle.unit_state.specs.State.{KeepsRules}
use Rattle.unit_state.specs.History.{after_first}
use Rattle.unit_state.specs.History as histories
use Rattle.run_promise.specs.History.{LegalRun, NearWord, TurnIn, HasNoEntry}
use Rattle.std.specs.List.{All, AllPairs, Contains, slice_index}
use Rattle.key_book.specs.KeyBook.{place_of}
use Rattle.std.proofs.lemmas.Option.{slice_get_within, get_or_from_slice_get}
use Rattle.std.proofs.lemmas.Bool.{cases_lt}
use Rattle.record_io.specs.declared.answers.Answer.{Answer}
use Rattle.run_promise.specs.Numbers.{releases}
use Rattle.law_workers.specs.Views.{IsBetween, entries_in, log_of}
use Rattle.law_workers.specs.Deeds.{course_in}
use Rattle.sdls_outside.proofs.Moments.{between-old}
use Rattle.law_workers.proofs.Counting.{pieces_both}

-- a front of some octets, behind others, is a front of more
front_between : (base xs ys p : List ℕ) → Between [] xs p → Between base (base ++ (xs ++ ys)) (base ++ p)
front_between base xs ys p between =
    let size : length (base ++ p) ≡ length base + length p = length-append base p in
    let short : length p ≤ length xs = (let a = ap length between.prefix ∙ length-take (length p) xs in omega arith) in
    record {
      least = omega arith;
      prefix = sym (ap (λ (n : ℕ). take n (base ++ (xs ++ ys))) size ∙ take-append-add base (xs ++ ys) (length p)
          ∙ ap (λ (l : List ℕ). base ++ l) (take-append-le (length p) xs ys short ∙ sym between.prefix));
    }

own_front : (k : ℕ) (octets : List ℕ) → take (length (take k octets)) octets ≡ take k octets
own_front zero octets = refl
own_front (suc k) [] = refl
own_front (suc k) (octet ∷ octets) = ap (λ (l : List ℕ). octet ∷ l) (own_front k octets)

behind_between : (base xs octets old new : List ℕ) → Between old (old ++ octets) new
    → Between base (base ++ (xs ++ octets)) (base ++ (xs ++ drop (length old) new))
behind_between base xs octets old new between =
    let n : ℕ = length new - length old in
    let low = between.least in
    let size : length new ≡ length old + (length new - length old) = omega arith in
    let is : new ≡ old ++ take (length new - length old) octets =
    between.prefix ∙ ap (λ (k : ℕ). take k (old ++ octets)) size ∙ take-append-add old octets
    (length new - length old) in
    let piece : drop (length old) new ≡ take (length new - length old) octets =
    ap (drop (length old)) is ∙ drop-append_seam old (take (length new - length old) octets) in
    let short : length (xs ++ take (length new - length old) octets)
    ≡ length xs + length (take (length new - length old) octets) =
    length-append xs (take (length new - length old) octets) in
    let own : take (length (xs ++ take (length new - length old) octets)) (xs ++ octets)
    ≡ xs ++ take (length new - length old) octets =
    ap (λ (k : ℕ). take k (xs ++ octets)) short ∙ take-append-add xs octets
    (length (take (length new - length old) octets))
    ∙ ap (λ (l : List ℕ). xs ++ l) (own_front (length new - length old) octets) in
    let all : length (base ++ (xs ++ take (length new - length old) octets))
    ≡ length base + length (xs ++ take (length new - length old) octets) =
    length-append base (xs ++ take (length new - length old) octets) in
    subst (λ (l : List ℕ). Between base (base ++ (xs ++ octets)) (base ++ (xs ++ l))) (sym piece)
    (record {
      least = omega arith;
      prefix = sym (ap (λ (k : ℕ). take k (base ++ (xs ++ octets))) all ∙ take-append-add base (xs ++ octets)
          (length (xs ++ take (length new - length old) octets))
          ∙ ap (λ (l : List ℕ). base ++ l) own);
    })

nothing_between : (old xs : List ℕ) → Between old (old ++ xs) old
nothing_between old xs = between-old old (old ++ xs) (take_at old xs (length old) refl)

-- what a put that failed has sunk
pub failed_put : (octets : List ℕ) (old new : Trace) → (new ≡ old) ⊎ sites.Sank octets old new
    → Between old.now.sunk (old.now.sunk ++ octets) new.now.sunk
failed_put octets old new (inl same) =
    subst (λ (trace : Trace). Between old.now.sunk (old.now.sunk ++ octets) trace.now.sunk) (sym same)
    (nothing_between old.now.sunk octets)
failed_put octets old new (inr sank) = sank.sunk

pieces_more : (log : List Logged) (piece : List ℕ) → pieces_of (log ++ lines.Piece piece ∷ []) ≡ pieces_of log ++ piece
pieces_more log piece = pieces_both log (lines.Piece piece ∷ []) ∙ ap (λ (l : List ℕ). pieces_of log ++ l)
    (append-nil piece)

pub same_count : (a b : ℕ) → a ≤ b → ¬ Rose a b → b ≡ a
same_count a b low stood = elim (cases_lt a b) [
  | inl lt ↦ absurd (stood (omega arith))
  | inr ge ↦ omega arith
]

empty_entries : (es : List Entry) → length es ≡ 0 → es ≡ []
empty_entries [] h = refl
empty_entries (e ∷ es) h = absurd (omega arith)

between_front : (base due p : List ℕ) → Between base (base ++ due) (base ++ p) → p ≡ take (length p) due
between_front base due p between =
    let size : length (base ++ p) ≡ length base + length p = length-append base p in
    let is : base ++ p ≡ base ++ take (length p) due =
    between.prefix ∙ ap (λ (n : ℕ). take n (base ++ due)) size ∙ take-append-add base due (length p) in
    sym (drop-append_seam base p) ∙ ap (drop (length base)) is ∙ drop-append_seam base (take (length p) due)

module _ (told : Bool) (site after : SiteSeen) (source source_after : SourceSeen)
    (first now : View) (came : RunEnd) (book : BookView) (words : List ℕ) (entries : List Entry) (status : ℕ)
    (ran : Ran told site source source_after first now came book words)
    (end : Finishes told site.faults words came book after entries status) where
  abbrev pub call : CallSeen
  call = record {
    source = source;
    source_after = source_after;
    told = told;
    site = site;
    site_after = after;
    status = status;
    entries = entries;
  }

  abbrev pub account : Account
  account = record {
    came = came;
    named = end.end;
    items = ran.come.items;
    read = ran.come.read;
    part = ran.come.part;
    handled = places_of ran.come.of;
    answers = ran.come.answers;
    faults_when_put = book.site.faults;
  }

  last_site : SiteSeen
  last_site = end.last.site

  pub last_opened : end.last.opened ≡ book.opened
  last_opened = elim end.puts_end [
    | inl broken ↦ ap (λ (b : BookView). b.opened) broken.1 ∙ end.goes_on.opened
    | inr put ↦ ap (λ (b : BookView). b.opened) put.1.made ∙ end.goes_on.opened
  ]

  last_image : end.last.image ≡ site.trace.now.image
  last_image = elim end.puts_end [
    | inl broken ↦ ap (λ (b : BookView). b.image) broken.1 ∙ end.goes_on.image ∙ ran.read
    | inr put ↦ ap (λ (b : BookView). b.image) put.1.made ∙ end.goes_on.image ∙ ran.read
  ]

  last_start : end.last.start ≡ book.start
  last_start = elim end.puts_end [
    | inl broken ↦ ap (λ (b : BookView). b.start) broken.1 ∙ end.goes_on.start
    | inr put ↦ ap (λ (b : BookView). b.start) put.1.made ∙ end.goes_on.start
  ]

  pub last_entries : entries_of end.last.log ≡ entries_of end.released.log
  last_entries = elim end.puts_end [
    | inl broken ↦ ap (λ (b : BookView). entries_of b.log) broken.1
    | inr put ↦ ap (λ (b : BookView). entries_of b.log) put.1.made
        ∙ entries_both end.released.log (lines.Piece (sunk_between end.released.site.trace end.last.site.trace) ∷ [])
        ∙ append-nil (entries_of end.released.log)
  ]

  end_widths : IsAnswer (end_answer end.end (length entries))
  end_widths =
      subst (λ (es : List Entry). IsAnswer (end_answer end.end (length es))) (sym (end.entries_are ∙ last_entries))
      end.widths

  pub entries_known : entries ≡ entries_of end.released.log
  entries_known = end.entries_are ∙ last_entries

  pub last_later : end.released.site.faults ≤ end.last.site.faults
  last_later = elim end.puts_end [
    | inl broken ↦ (let a = ap (λ (b : BookView). b.site.faults) broken.1 in omega arith)
    | inr put ↦ put.1.later
  ]

  after_faults : after.faults ≡ end.last.site.faults
  after_faults = ap (λ (s : SiteSeen). s.faults) end.site_is

  pub sunk_is : IsTrue told → after.trace.now.sunk ≡ site.trace.now.sunk ++ pieces_of end.last.log
  sunk_is is_told = ap (λ (o : SiteSeen). o.trace.now.sunk) end.site_is ∙ (end.kept.history is_told).sunk
      ∙ ap (λ (l : List ℕ). l ++ pieces_of end.last.log)
      (ap (λ (o : SiteSeen). o.trace.now.sunk) last_opened ∙ ran.sunk is_told)

  released_put : pieces_of end.released.log ≡ octets_put now
  released_put = released_pieces words book end.released end.answer end.releases ∙ ap pieces_of ran.log

  has_put : (c : RunEnd) → c ≢ ends.PutFailed
      → PutsBy (begin_by told book.plan book.start) now site.put_faults book.site.put_faults ran.come.answers c
      → HasPut (begin_by told book.plan book.start) now site.put_faults book.site.put_faults ran.come.answers
  has_put ends.Ended other h = h
  has_put (ends.Malformed offset) other h = h
  has_put (ends.SourceFault count) other h = h
  has_put (ends.SiteFault count) other h = absurd h
  has_put ends.NoMemory other h = h
  has_put (ends.NoState offset) other h = absurd h
  has_put ends.SessionFull other h = h
  has_put ends.PutFailed other h = absurd (other refl)

  pub has_broken : came ≡ ends.PutFailed → HasBroken (begin_by told book.plan book.start) now site.put_faults
      book.site.put_faults ran.come.answers
  has_broken is =
      subst (PutsBy (begin_by told book.plan book.start) now site.put_faults book.site.put_faults ran.come.answers) is
      ran.come.put

  -- the octets of End, by the entries that the released book has
  end_is : answer_octets (end_answer end.end (length (entries_of end.released.log))) ≡ end_octets call end.end
  end_is = ap (λ (es : List Entry). answer_octets (end_answer end.end (length es))) (sym entries_known)

  since : IsTrue told → sunk_since call after.trace.now.sunk ≡ pieces_of end.last.log
  since is_told = ap (drop (length site.trace.now.sunk)) (sunk_is is_told) ∙ drop-append_seam site.trace.now.sunk
      (pieces_of end.last.log)

  more_put : length (octets_put now) ≤ length (pieces_of end.last.log)
  more_put = elim end.puts_end [
    | inl broken ↦ (let a = ap length (ap (λ (b : BookView). pieces_of b.log) broken.1 ∙ released_put) in omega arith)
    | inr put ↦ (
        let a = ap length (ap (λ (b : BookView). pieces_of b.log) put.1.made ∙ pieces_more end.released.log
        (sunk_between end.released.site.trace end.last.site.trace)) in
        let b = ap length released_put in
        let c = length-append (pieces_of end.released.log) (sunk_between end.released.site.trace end.last.site.trace) in
        omega arith
        )
  ]

  -- all answers of the segments before that of a record that was handled were put
  earlier_so : IsTrue told → (place : Place) → Contains (places_of ran.come.of) place
      → length (answers_octets (answers_of_first place.segment (places_of ran.come.of) ran.come.answers))
      ≤ length (sunk_since call after.trace.now.sunk)
  earlier_so is_told place there =
      let a = ran.come.earlier is_told place there in
      let b = ap length (since is_told) in
      let c = more_put in omega arith

  puts_answers : PutsDue call account ⊎ PutsFront call account
  puts_answers = elim end.puts_end [
    | inl broken ↦
        let h = has_broken broken.0 in
        let a : after.put_faults ≡ end.last.site.put_faults = ap (λ (s : SiteSeen). s.put_faults) end.site_is in
        let b : end.last.site.put_faults ≡ end.released.site.put_faults =
        ap (λ (b : BookView). b.site.put_faults) broken.1 in
        let c = end.same_puts in
        let d = h.one_failed in
        inr (record {
          one_failed = omega arith;
          status_is = broken.2;
          rose = let r = h.rose in let e = ran.known in let f = ran.known_first in let g = ran.same_faults in
              let i = end.goes_on.later in
              let j = last_later in let k = after_faults in omega arith;
          sunk = λ is_told.
              let pieces : pieces_of end.last.log ≡ octets_put now =
              ap (λ (b : BookView). pieces_of b.log) broken.1 ∙ released_put in
              subst (Between site.trace.now.sunk (site.trace.now.sunk ++ due_octets call account))
              (sym (sunk_is is_told ∙ ap (λ (l : List ℕ). site.trace.now.sunk ++ l) pieces))
              (front_between site.trace.now.sunk (answers_octets ran.come.answers) (end_octets call end.end)
              (octets_put now) (h.octets is_told));
          earlier = earlier_so;
        })
    | inr put ↦ go put.1.put put.1 (has_put came put.0 ran.come.put) put.1.counted put.1.sinks put.1.status_is
  ]
    where
      go : (r : Result (Unit {0}) BookFault) → IsEndPut told end.end end.released end.last status
          → HasPut (begin_by told book.plan book.start) now site.put_faults book.site.put_faults ran.come.answers
          → end.last.site.put_faults ≡ sites.after_put r end.released.site.put_faults
          → (IsTrue told → sites.Puts (answer_octets (end_answer end.end (length (entries_of end.released.log)))) r
          end.released.site.trace end.last.site.trace)
          → MatchResult r (λ _. (status ≡ end_status end.end) × (end.last.site.faults ≡ end.released.site.faults))
          (λ _. (status ≡ SITE_FAULT) × Rose end.released.site.faults end.last.site.faults)
          → PutsDue call account ⊎ PutsFront call account
      go (Ok done) p h counted sinks is =
          let a : after.put_faults ≡ end.last.site.put_faults = ap (λ (s : SiteSeen). s.put_faults) end.site_is in
          let c = end.same_puts in let d = h.none_failed in
          inl (record {
            none_failed = omega arith;
            status_is = is.0;
            sunk = λ is_told.
                let piece : sunk_between end.released.site.trace end.last.site.trace
                ≡ answer_octets (end_answer end.end (length (entries_of end.released.log))) =
                ap (drop (length end.released.site.trace.now.sunk)) (sinks is_told).1
                ∙ drop-append_seam end.released.site.trace.now.sunk
                (answer_octets (end_answer end.end (length (entries_of end.released.log)))) in
                let pieces : pieces_of end.last.log ≡ answers_octets ran.come.answers ++ end_octets call end.end =
                last_pieces p ∙ ap (λ (l : List ℕ). l ++ sunk_between end.released.site.trace end.last.site.trace)
                (h.octets is_told)
                ∙ ap (λ (l : List ℕ). answers_octets ran.come.answers ++ l) (piece ∙ end_is) in
                sunk_is is_told ∙ ap (λ (l : List ℕ). site.trace.now.sunk ++ l) pieces;
          })
        where
          last_pieces : IsEndPut told end.end end.released end.last status
              → pieces_of end.last.log ≡ octets_put now ++ sunk_between end.released.site.trace end.last.site.trace
          last_pieces p = ap (λ (b : BookView). pieces_of b.log) p.made
              ∙ pieces_more end.released.log (sunk_between end.released.site.trace end.last.site.trace)
              ∙ ap (λ (l : List ℕ). l ++ sunk_between end.released.site.trace end.last.site.trace) released_put
      go (Err fault) p h counted sinks is =
          let a : after.put_faults ≡ end.last.site.put_faults = ap (λ (s : SiteSeen). s.put_faults) end.site_is in
          let c = end.same_puts in let d = h.none_failed in
          inr (record {
            one_failed = omega arith;
            status_is = is.0;
            rose = let r = is.1 in let e = ran.kept.later in let g = ran.same_faults in let i = end.goes_on.later in
                let k = after_faults in omega arith;
            sunk = λ is_told.
                let octets : List ℕ = answer_octets (end_answer end.end (length (entries_of end.released.log))) in
                let between : Between end.released.site.trace.now.sunk
                (end.released.site.trace.now.sunk ++ answer_octets
                (end_answer end.end (length (entries_of end.released.log)))) end.last.site.trace.now.sunk =
                failed_put (answer_octets (end_answer end.end (length (entries_of end.released.log))))
                end.released.site.trace end.last.site.trace (sinks is_told) in
                let here = behind_between site.trace.now.sunk (answers_octets ran.come.answers)
                (answer_octets (end_answer end.end (length (entries_of end.released.log))))
                end.released.site.trace.now.sunk end.last.site.trace.now.sunk between in
                let pieces : pieces_of end.last.log ≡ answers_octets ran.come.answers
                ++ sunk_between end.released.site.trace end.last.site.trace =
                ap (λ (b : BookView). pieces_of b.log) p.made
                ∙ pieces_more end.released.log (sunk_between end.released.site.trace end.last.site.trace)
                ∙ ap (λ (l : List ℕ). l ++ sunk_between end.released.site.trace end.last.site.trace)
                (released_put ∙ h.octets is_told) in
                subst (Between site.trace.now.sunk (site.trace.now.sunk ++ due_octets call account))
                (sym (sunk_is is_told ∙ ap (λ (l : List ℕ). site.trace.now.sunk ++ l) pieces))
                (subst (λ (l : List ℕ).
                Between site.trace.now.sunk (site.trace.now.sunk ++ (answers_octets ran.come.answers ++ l))
                (site.trace.now.sunk
                ++ (answers_octets ran.come.answers ++ sunk_between end.released.site.trace end.last.site.trace)))
                end_is here);
            earlier = earlier_so;
          })

  -- ---- the end that is told

  entries_added : AreAdded words book end.released
  entries_added = are_added words book end.released end.answer end.releases end.risen

  entries_split : entries ≡ entries_in now ++ take entries_added.count (releases book.state 0 words)
  entries_split = entries_known ∙ entries_added.entries
      ∙ ap (λ (l : List Logged). entries_of l ++ take entries_added.count (releases book.state 0 words)) ran.log

  entries_most : length entries ≤ MOST_ENTRIES
  entries_most = let a = end.kept.room in let b = ap length end.entries_are in omega arith

  tells_end : TellsEnd call account
  tells_end = elim end.end_is [
    | inl failed ↦ inl failed
    | inr well ↦ elim well.1 [
      | inl other ↦ inr (well.0, inl other.1)
      | inr ended ↦ elim ended.1 [
        | inl rose ↦ inr (
          well.0,
          inr (
            ended.0,
            inl (
              end.released.site.faults,
              rose.1,
              rose.0,
              (let a = last_later in let b = after_faults in omega arith),
            ),
          ),
        )
        | inr stood ↦ elim stood.1 [
          | inl full ↦ inr (
            well.0,
            inr (
              ended.0,
              inr (
                full.1,
                (let a = (released_full words book end.released end.answer end.releases full.0).0 in
                    let b = ap length entries_known in omega arith),
              ),
            ),
          )
          | inr none ↦ inr (well.0, inl (none ∙ sym ended.0))
        ]
      ]
    ]
  ]

  -- with another status than that of a fault of the site the count stood until all answers were put, and behind the
  -- release
  calm : status ≢ SITE_FAULT → (¬ Rose site.faults book.site.faults) × (after.faults ≡ end.released.site.faults)
      × (status ≡ end_status end.end)
  calm other = elim end.puts_end [
    | inl broken ↦ absurd (other broken.2)
    | inr put ↦ go put.1.put put.1.status_is
  ]
    where
      calm_then : status ≡ end_status end.end → ¬ Rose site.faults book.site.faults
      calm_then is = elim end.end_is [
        | inl failed ↦ absurd (other (is ∙ ap end_status failed.1))
        | inr well ↦ well.0
      ]

      go : (r : Result (Unit {0}) BookFault)
          → MatchResult r (λ _. (status ≡ end_status end.end) × (end.last.site.faults ≡ end.released.site.faults))
          (λ _. (status ≡ SITE_FAULT) × Rose end.released.site.faults end.last.site.faults)
          → (¬ Rose site.faults book.site.faults) × (after.faults ≡ end.released.site.faults)
          × (status ≡ end_status end.end)
      go (Ok done) is = (calm_then is.0, after_faults ∙ is.1, is.0)
      go (Err fault) is = absurd (other is.0)

  stood_before : status ≢ SITE_FAULT → book.site.faults ≡ site.faults
  stood_before other =
      let b = ran.kept.later in let c = ran.same_faults in
      same_count site.faults book.site.faults (omega arith) (calm other).0

  -- the count stood to the end; else a release met the fault, and is the last entry
  stood_or_released : status ≢ SITE_FAULT
      → (after.faults ≡ site.faults) ⊎ ((length (entries_in now) < length entries) × EndsWithRelease entries)
  stood_or_released other = elim (released_quietly words book end.released end.answer end.releases) [
    | inl same ↦ inl ((calm other).1 ∙ same ∙ stood_before other)
    | inr more ↦
        let a = ap length entries_known in
        let b = ap (λ (l : List Logged). length (entries_of l)) ran.log in
        let c = ap length entries_split in
        let d = length-append (entries_in now) (take entries_added.count (releases book.state 0 words)) in
        inr (
          omega arith,
          subst EndsWithRelease (sym entries_split)
              (ends_released (entries_in now) entries_added.count book.state words (omega arith)),
        )
  ]

  -- behind these ends alone a release meets a fault that the status does not tell
  told_first : status ≢ SITE_FAULT → length (entries_in now) < length entries → (c : RunEnd) → came ≡ c
      → came ≢ ends.Ended → end.end ≡ came
      → EndsReading source source_after ran.come.items ran.come.read ran.come.part c → IsToldFirst c
  told_first other more ends.Ended is off same reads = absurd (off is)
  told_first other more (ends.Malformed offset) is off same reads = tt
  told_first other more (ends.SourceFault count) is off same reads = tt
  told_first other more (ends.SiteFault count) is off same reads = absurd reads
  told_first other more ends.NoMemory is off same reads = tt
  told_first other more (ends.NoState offset) is off same reads = absurd reads
  told_first other more ends.SessionFull is off same reads =
      absurd (let a = (ran.come.full is).full in let b = entries_most in omega arith)
  told_first other more ends.PutFailed is off same reads = absurd (other ((calm other).2 ∙ ap end_status (same ∙ is)))

  quiet : status ≢ SITE_FAULT → StoodUntilRelease call account
  quiet other =
      let c = calm other in
      elim end.end_is [
        | inl failed ↦ absurd (c.0 failed.0)
        | inr well ↦ elim well.1 [
          | inl off ↦ elim (stood_or_released other) [
            | inl same ↦ inl same
            | inr more ↦ inr (told_first other more.0 came refl off.0 off.1 ran.come.reads, more.1)
          ]
          | inr ended ↦ elim ended.1 [
            | inl rose ↦ absurd (other (c.2 ∙ ap end_status rose.1))
            | inr stood ↦
                inl (c.1 ∙ same_count book.site.faults end.released.site.faults end.goes_on.later stood.0
                ∙ stood_before other)
          ]
        ]
      ]

  -- nothing is released if a record found the history full
  filled : came ≡ ends.SessionFull → length entries ≡ length (entries_in now)
  filled is =
      let a = (ran.come.full is).full in let b = entries_most in let c = ap length entries_split in
      let d = length-append (entries_in now) (take entries_added.count (releases book.state 0 words)) in omega arith

  faults_told : All (λ (answer : Answer). SaysSiteFailed answer → Rose site.faults book.site.faults) ran.come.answers
  faults_told k d low fault =
      let B : Begin = begin_by told book.plan book.start in
      let r = told_rose (IsBetween (begin_by told book.plan book.start) first now)
      (course_in (begin_by told book.plan book.start) now)
      (places_of ran.come.of) ran.come.answers ran.come.few ran.come.done.does.answers.fit k d low fault in
      let a = ran.known in let b = ran.known_first in let c = ran.same_faults in omega arith

  -- ---- the run is sound

  abbrev begin : Begin
  begin = begin_by told book.plan book.start

  abbrev places : List Place
  places = places_of ran.come.of

  abbrev deeds : List Deed
  deeds = deeds_from (places_of ran.come.of) ran.come.answers

  abbrev released_entries : List Entry
  released_entries = take entries_added.count (releases book.state 0 words)

  abbrev words_of : ℕ → ℕ
  words_of row = slice_index words row

  up : AllPairs IsBefore (places_of ran.come.of)
  up = places_ascend first_count ran.come.of

  are_words : AreWords words (λ row. slice_index words row)
  are_words = record {
    some = λ i word there.
        let low = slice_get_within words i word there in
        let g = (ran.stand i (let r = ran.rows in omega arith)).grown in
        let is : get_or words i 0 ≡ word = get_or_from_slice_get words i word 0 there in omega arith;
    at = λ i word there. sym (get_or_from_slice_get words i word 0 there);
  }

  -- where the site had failed nothing was released
  none_released : Rose book.opened.faults book.site.faults → take entries_added.count (releases book.state 0 words) ≡ []
  none_released rose =
      let none : entries_of end.goes_on.added ≡ [] = end.goes_on.stopped rose in
      let a : entries_of end.released.log ≡ entries_of book.log =
      ap entries_of end.goes_on.log ∙ entries_both book.log end.goes_on.added
      ∙ ap (λ (l : List Entry). entries_of book.log ++ l) none ∙ append-nil (entries_of book.log) in
      let b = ap length (sym entries_added.entries ∙ a) in
      let c = length-append (entries_of book.log) (take entries_added.count (releases book.state 0 words)) in
      empty_entries (take entries_added.count (releases book.state 0 words)) (omega arith)

  -- where it had not, the book's state is the one after all entries
  state_is : ¬ Rose book.opened.faults book.site.faults → book.state ≡ histories.after_all book.start (entries_in now)
  state_is well =
      let a : after_first book.start (entries_of book.log) book.standing
      ≡ histories.after_all book.start (entries_of book.log) =
      ap (λ (n : ℕ). after_first book.start (entries_of book.log) n) (ran.kept.whole well)
      ∙ ap (histories.after_all book.start)
      (take_all (length (entries_of book.log)) (entries_of book.log) (omega arith)) in
      ran.kept.led ∙ a ∙ ap (λ (l : List Logged). histories.after_all book.start (entries_of l)) ran.log

  rose_or : (Rose book.opened.faults book.site.faults) ⊎ (¬ Rose book.opened.faults book.site.faults)
  rose_or = elim (cases_lt book.site.faults (min (book.opened.faults + 1) 18446744073709551615)) [
    | inl lt ↦ inr (λ rose. absurd (omega arith))
    | inr ge ↦ inl (omega arith)
  ]

  are_of_keys : AreReleases (λ row. slice_index words row) book.start (entries_in now)
      (take entries_added.count (releases book.state 0 words))
  are_of_keys = elim rose_or [
    | inl rose ↦ subst (AreReleases (λ row. slice_index words row) book.start (entries_in now))
        (sym (none_released rose))
        (λ p entry high there. absurd (
        let low = slice_get_within (entries_in now ++ []) p entry there in
        let size = ap length (append-nil (entries_in now)) in omega arith))
    | inr well ↦
        let is = state_is well in
        subst (λ (st : State). AreReleases (λ row. slice_index words row) book.start (entries_in now)
        (take entries_added.count (releases st 0 words))) (sym is)
        (are_releases book.start (entries_in now) words (λ row. slice_index words row) entries_added.count
        (subst KeepsRules is ran.kept.rules) are_words)
  ]

  stopped_so : Rose now.turn.known.opening.faults now.turn.known.faults
      → take entries_added.count (releases book.state 0 words) ≡ []
  stopped_so rose = none_released (let a = ran.known in let b = ran.known_first in let r = rose in omega arith)

  course_is : course_at_end (begin_by told book.plan book.start) now
      (take entries_added.count (releases book.state 0 words)) book.site.faults
      ≡ course_of call account book.plan book.start
  course_is =
      ap (λ (n : ℕ). record (course_of call account book.plan book.start) {
        faults_before = n;
        entries = entries_in now ++ take entries_added.count (releases book.state 0 words);
      })
      (ran.known_first ∙ ran.same_faults)
      ∙ ap (λ (l : List Entry). record (course_of call account book.plan book.start) { entries = l })
      (sym entries_split)

  module _ (is_told : IsTrue told) where
    abbrev founded : IsFounded (begin_by told book.plan book.start) first
    founded = ran.founded is_told

    abbrev known_end : EndsRun (begin_by told book.plan book.start) first now (places_of ran.come.of)
        (deeds_from (places_of ran.come.of) ran.come.answers)
        (λ row. slice_index words row) (take entries_added.count (releases book.state 0 words)) book.site.faults
    known_end = ends_run (begin_by told book.plan book.start) first now (places_of ran.come.of) ran.come.answers
        (ran.founded is_told) ran.come.done
        ran.whole up (λ row. slice_index words row) ran.stand (take entries_added.count (releases book.state 0 words))
        are_of_keys book.site.faults
        (let a = ran.known in omega arith) stopped_so

    sound_so : IsSound
        (course_at_end (begin_by told book.plan book.start) now (take entries_added.count (releases book.state 0 words))
        book.site.faults)
        (places_of ran.come.of) (deeds_from (places_of ran.come.of) ran.come.answers)
    sound_so = let e = known_end in
        sound_run (begin_by told book.plan book.start) first now (places_of ran.come.of)
        (deeds_from (places_of ran.come.of) ran.come.answers)
        e.opened e.does e.whole e.rows e.plan_is e.rules e.left (λ row. slice_index words row) e.words_are
        (take entries_added.count (releases book.state 0 words)) e.releases_are
        e.pieces e.lined e.once e.ascend book.site.faults e.fewer e.stopped
        (answers_all IsAnswer (places_of ran.come.of) ran.come.answers ran.come.widths)

    covered_so : StaysCovered (course_of call account book.plan book.start)
        (deeds_from (places_of ran.come.of) ran.come.answers)
    covered_so = let e = known_end in
        subst (λ (c : Course). StaysCovered c (deeds_from (places_of ran.come.of) ran.come.answers)) course_is
        (covered_run (begin_by told book.plan book.start) first now (places_of ran.come.of)
        (deeds_from (places_of ran.come.of) ran.come.answers)
        e.opened e.does e.whole e.rows e.plan_is e.rules e.left (λ row. slice_index words row) e.words_are
        (take entries_added.count (releases book.state 0 words)) e.releases_are
        e.pieces e.lined e.once e.ascend book.site.faults e.fewer e.stopped)

    abbrev run_so : LegalRun book.plan book.start (records_of (places_of ran.come.of)) (TurnIn (places_of ran.come.of))
        (entries_in now ++ take entries_added.count (releases book.state 0 words))
    run_so = legal_run (begin_by told book.plan book.start) first now (records_of (places_of ran.come.of))
        (deeds_from (places_of ran.come.of) ran.come.answers)
        known_end.opened known_end.does known_end.whole known_end.rows known_end.rules
        (rules_at_end (begin_by told book.plan book.start) first now (places_of ran.come.of)
        (deeds_from (places_of ran.come.of) ran.come.answers)
        known_end.opened known_end.does known_end.whole known_end.plan_is known_end.rules)
        (λ row. slice_index words row) known_end.words_are (take entries_added.count (releases book.state 0 words))
        known_end.releases_are
        (TurnIn (places_of ran.come.of)) known_end.pieces known_end.lined known_end.once

    abbrev sound_call_run : IsSound (course_of call account book.plan book.start) (places_of ran.come.of)
        (deeds_from (places_of ran.come.of) ran.come.answers)
    sound_call_run = record {
      history = record {
        plan_is = (ran.founded is_told).plan_is;
        rules = (ran.founded is_told).rules;
        run = moved_run book.plan book.start (records_of (places_of ran.come.of)) (TurnIn (places_of ran.come.of))
            (entries_in now ++ take entries_added.count (releases book.state 0 words)) entries (sym entries_split)
            run_so;
      };
      answers =
          subst (λ (c : Course).
          All (λ (deed : Deed). Fits (NearWord c.begin.start c.entries (records_of (places_of ran.come.of))) c
          deed.task deed.answer)
          (deeds_from (places_of ran.come.of) ran.come.answers)) course_is sound_so.answers;
      used_once = sound_so.used_once;
      used_above = sound_so.used_above;
      accepted = sound_so.accepted;
      accepted_above = sound_so.accepted_above;
      accepted_near =
          subst (λ (c : Course). All (IsNearBehind c.entries) (deeds_from (places_of ran.come.of) ran.come.answers))
          course_is sound_so.accepted_near;
      one_fault = sound_so.one_fault;
      order = subst (λ (c : Course). AllPairs (λ one other. InTurn one other → StandsBehind c.begin c.entries one other)
          (deeds_from (places_of ran.come.of) ran.come.answers)) course_is sound_so.order;
      none_made = subst (λ (c : Course). All (λ deed. IsUnmade deed.answer.code → HasNoEntry c.entries deed.task.index)
          (deeds_from (places_of ran.come.of) ran.come.answers)) course_is sound_so.none_made;
      widths = sound_so.widths;
    }

    -- ---- its moments

    -- the log goes on from the one at the close
    log_on : (rest : List Logged) × (end.last.log ≡ log_of now ++ rest)
    log_on = elim end.puts_end [
      | inl broken ↦ (
        end.goes_on.added,
        ap (λ (b : BookView). b.log) broken.1 ∙ end.goes_on.log
            ∙ ap (λ (l : List Logged). l ++ end.goes_on.added) ran.log,
      )
      | inr put ↦ (
        end.goes_on.added ++ lines.Piece (sunk_between end.released.site.trace end.last.site.trace) ∷ [],
        ap (λ (b : BookView). b.log) put.1.made
            ∙ ap (λ (l : List Logged). l ++ lines.Piece (sunk_between end.released.site.trace end.last.site.trace) ∷ [])
            (end.goes_on.log ∙ ap (λ (l : List Logged). l ++ end.goes_on.added) ran.log)
            ∙ append_assoc (log_of now) end.goes_on.added
            (lines.Piece (sunk_between end.released.site.trace end.last.site.trace) ∷ []),
      )
    ]

    standing_on : book.standing ≤ end.last.standing
    standing_on = elim end.puts_end [
      | inl broken ↦ (let a = ap (λ (b : BookView). b.standing) broken.1 in let b = end.goes_on.standing in omega arith)
      | inr put ↦ (let a = ap (λ (b : BookView). b.standing) put.1.made in let b = end.goes_on.standing in omega arith)
    ]

    settled_last : AreSettled (course_of call account book.plan book.start) end.last.standing end.last.log 0
        (deeds_from (places_of ran.come.of) ran.come.answers)
    settled_last =
        let (rest, is) = log_on in
        subst (λ (l : List Logged). AreSettled (course_of call account book.plan book.start) end.last.standing l 0
        (deeds_from (places_of ran.come.of) ran.come.answers)) (sym is)
        (settled_more (course_in (begin_by told book.plan book.start) now) (course_of call account book.plan book.start)
        refl book.standing end.last.standing standing_on (log_of now) rest refl (end.entries_are ∙ ap entries_of is) 0
        (deeds_from (places_of ran.come.of) ran.come.answers) (ran.come.settled is_told (ran.founded is_told)))

    -- the pieces are a front of what is due
    pieces_front : pieces_of end.last.log ≡ take (length (pieces_of end.last.log))
        (deeds_octets (deeds_from (places_of ran.come.of) ran.come.answers) ++ end_octets call end.end)
    pieces_front =
        let due : deeds_octets (deeds_from (places_of ran.come.of) ran.come.answers) ++ end_octets call end.end
        ≡ due_octets call account =
        ap (λ (l : List ℕ). l ++ end_octets call end.end)
        (octets_of (places_of ran.come.of) ran.come.answers ran.come.few) in
        subst (λ (l : List ℕ). pieces_of end.last.log ≡ take (length (pieces_of end.last.log)) l) (sym due)
        (elim puts_answers [
          | inl put ↦
              let same : pieces_of end.last.log ≡ due_octets call account =
              sym (drop-append_seam site.trace.now.sunk (pieces_of end.last.log))
              ∙ ap (drop (length site.trace.now.sunk)) (sym (sunk_is is_told) ∙ put.sunk is_told)
              ∙ drop-append_seam site.trace.now.sunk (due_octets call account) in
              subst (λ (l : List ℕ). l ≡ take (length l) (due_octets call account)) (sym same)
              (sym (take_all (length (due_octets call account)) (due_octets call account) (omega arith)))
          | inr front ↦
              between_front site.trace.now.sunk (due_octets call account) (pieces_of end.last.log)
              (subst (Between site.trace.now.sunk (site.trace.now.sunk ++ due_octets call account)) (sunk_is is_told)
              (front.sunk is_told))
        ])

    pub moments_so : EachMoment site.trace after.trace
        (λ image sunk. IsEarly call account.named image sunk ⊎ IsServed call account book.plan book.start image sunk)
    moments_so =
        let history = end.kept.history is_told in
        let serving : EachMoment book.opened.trace after.trace
        (Serves book.start end.last.log end.last.standing book.opened.trace.now.sunk) =
        subst (λ (o : SiteSeen). EachMoment book.opened.trace o.trace
        (Serves book.start end.last.log end.last.standing book.opened.trace.now.sunk)) (sym end.site_is)
        (subst (λ (st : State). EachMoment book.opened.trace end.last.site.trace
        (Serves st end.last.log end.last.standing book.opened.trace.now.sunk)) last_start
        (subst (λ (o : SiteSeen). EachMoment o.trace end.last.site.trace
        (Serves end.last.start end.last.log end.last.standing o.trace.now.sunk)) last_opened history.moments)) in
        all_moments call account book.plan book.start book.opened.trace end.last.log end.last.standing
        (ran.opening is_told) (ran.sunk is_told) serving
        end.entries_are settled_last covered_so pieces_front

    pub fences_so : EachMoment site.trace after.trace (λ image sunk. IsEarly call account.named image sunk
        ⊎ (LeftByOpening site.trace.now.image image ⊎ IsFenced call account book.start image sunk))
    fences_so =
        let history = end.kept.history is_told in
        let serving : EachMoment book.opened.trace after.trace
        (Serves book.start end.last.log end.last.standing book.opened.trace.now.sunk) =
        subst (λ (o : SiteSeen). EachMoment book.opened.trace o.trace
        (Serves book.start end.last.log end.last.standing book.opened.trace.now.sunk)) (sym end.site_is)
        (subst (λ (st : State). EachMoment book.opened.trace end.last.site.trace
        (Serves st end.last.log end.last.standing book.opened.trace.now.sunk)) last_start
        (subst (λ (o : SiteSeen). EachMoment o.trace end.last.site.trace
        (Serves end.last.start end.last.log end.last.standing o.trace.now.sunk)) last_opened history.moments)) in
        all_fences call account book.start end.last.log (log_of now) log_on.0 end.last.standing end.entries_are log_on.1
        (ran.come.fenced is_told) (ran.come.earlier is_told) book.opened.trace (ran.opening is_told) (ran.sunk is_told)
        serving

    pub plans_so : EachMoment site.trace after.trace (λ image sunk. IsEarly call account.named image sunk
        ⊎ HasPlan (plan_at_entry call) image)
    plans_so =
        let serving : EachMoment book.opened.trace after.trace
        (λ image sunk. HasPlan (held site.trace.now.image).plan image) =
        subst (λ (o : SiteSeen). EachMoment book.opened.trace o.trace
        (λ image sunk. HasPlan (held site.trace.now.image).plan image)) (sym end.site_is)
        (subst (λ (o : SiteSeen). EachMoment o.trace end.last.site.trace
        (λ image sunk. HasPlan (held site.trace.now.image).plan image)) last_opened
        (subst (λ (read : List ℕ). EachMoment end.last.opened.trace end.last.site.trace
        (λ image sunk. HasPlan (held read).plan image)) last_image (end.kept.plan_stays is_told))) in
        all_plans call account book.start book.opened.trace (ran.shows is_told) (ran.opening is_told) serving

  -- ---- its releases

  full_answer : came ≡ ends.Ended → end.end ≡ ends.SessionFull → (end.answer ≡ Err SessionFull)
      × (¬ Rose site.faults book.site.faults)
  full_answer is_ended full = elim end.end_is [
    | inl failed ↦ absurd (let st : end_status (ends.SiteFault book.site.faults) ≡ end_status ends.SessionFull =
        ap end_status (sym failed.1 ∙ full) in omega arith)
    | inr well ↦ elim well.1 [
      | inl other ↦ absurd (other.0 is_ended)
      | inr ended ↦ elim ended.1 [
        | inl rose ↦
            absurd (let st : end_status (ends.SiteFault end.released.site.faults) ≡ end_status ends.SessionFull =
            ap end_status (sym rose.1 ∙ full) in omega arith)
        | inr calm ↦ elim calm.1 [
          | inl found ↦ (found.0, well.0)
          | inr none ↦ absurd (let st : end_status ends.Ended ≡ end_status ends.SessionFull =
              ap end_status (sym none ∙ full) in omega arith)
        ]
      ]
    ]
  ]

  drop_lanes : drop (length (entries_in now)) entries ≡ take entries_added.count (releases book.state 0 words)
  drop_lanes = ap (drop (length (entries_in now))) entries_split ∙ drop-append_seam (entries_in now)
      (take entries_added.count (releases book.state 0 words))

  state_at_end : ¬ Rose book.opened.faults book.site.faults → after_first book.start entries (length (entries_in now))
      ≡ book.state
  state_at_end well =
      ap (λ (l : List Entry). histories.after_all book.start (take (length (entries_in now)) l)) entries_split
      ∙ ap (histories.after_all book.start)
      (take_at (entries_in now) (take entries_added.count (releases book.state 0 words)) (length (entries_in now))
      refl)
      ∙ sym (state_is well)

  rose_to_end : Rose book.opened.faults book.site.faults → Rose site.faults after.faults
  rose_to_end rose = let a = ran.same_faults in let b = end.goes_on.later in let c = last_later in
      let d = after_faults in omega arith

  -- the state behind the entries of the lanes
  at_close : after_first book.start entries (length (entries_in now)) ≡ histories.after_all book.start (entries_in now)
  at_close =
      ap (λ (l : List Entry). histories.after_all book.start (take (length (entries_in now)) l)) entries_split
      ∙ ap (histories.after_all book.start)
      (take_at (entries_in now) (take entries_added.count (releases book.state 0 words)) (length (entries_in now))
      refl)

  near_so : IsTrue told → (key row : ℕ) → place_of (after_first book.start entries (length (entries_in now))).keys key
      ≡ Some row
      → NearWord book.start entries (records_of (places_of ran.come.of)) key (slice_index words row)
  near_so is_told key row is =
      let e = known_end is_told in
      subst (λ (l : List Entry). NearWord book.start l (records_of (places_of ran.come.of)) key (slice_index words row))
      (sym entries_split)
      (word_near (begin_by told book.plan book.start) first now (records_of (places_of ran.come.of))
      (deeds_from (places_of ran.come.of) ran.come.answers)
      e.opened e.does e.whole e.rows e.rules
      (rules_at_end (begin_by told book.plan book.start) first now (places_of ran.come.of)
      (deeds_from (places_of ran.come.of) ran.come.answers)
      e.opened e.does e.whole e.plan_is e.rules)
      (λ row. slice_index words row) e.words_are (take entries_added.count (releases book.state 0 words)) e.releases_are
      key row
      (ap (λ (st : State). place_of st.keys key) (sym at_close) ∙ is))

  above_so : IsTrue told → All (λ (deed : Deed). (key number row : ℕ) → Uses deed.answer key number
      → place_of (after_first book.start entries (length (entries_in now))).keys key ≡ Some row
      → number < slice_index words row)
      (deeds_from (places_of ran.come.of) ran.come.answers)
  above_so is_told k x low key number row uses is =
      let e = known_end is_told in
      used_below (begin_by told book.plan book.start) first now (records_of (places_of ran.come.of))
      (deeds_from (places_of ran.come.of) ran.come.answers)
      e.opened e.does e.whole e.rows e.rules
      (rules_at_end (begin_by told book.plan book.start) first now (places_of ran.come.of)
      (deeds_from (places_of ran.come.of) ran.come.answers)
      e.opened e.does e.whole e.plan_is e.rules)
      (λ row. slice_index words row) e.words_are (take entries_added.count (releases book.state 0 words)) e.releases_are
      k x low key number row uses
      (ap (λ (st : State). place_of st.keys key) (sym at_close) ∙ is)

  uncounted_so : All (λ (deed : Deed). IsTrue (tells_count deed) → deed.answer.position ≤ length (entries_in now))
      (deeds_from (places_of ran.come.of) ran.come.answers)
  uncounted_so k d low tells = ((ran.come.done.does.answers.stand k d low).counted tells).1

  moved_so : IsTrue told → MovedWords call account book.start (length (entries_in now)) words
  moved_so is_told =
      moved_call call account (begin_by told book.plan book.start) first now words
      (take entries_added.count (releases book.state 0 words)) refl ran.come.done.none_made ran.whole
      (ran.founded is_told).opened ran.stand (known_end is_told).once ran.come.moved entries_split

  released_so : IsTrue told → (r : IsReleased call account book.start (length (entries_in now))) × (r.words ≡ words)
  released_so is_told = elim rose_or [
    | inl rose ↦ (
      record {
        words = words;
        rows = ran.rows;
        count = 0;
        are_due = drop_lanes ∙ none_released rose;
        stopped = λ r. ap length entries_split ∙ ap (λ (l : List Entry). length (entries_in now ++ l))
            (none_released rose) ∙ ap length (append-nil (entries_in now));
        refused = λ few. inl (rose_to_end rose);
        full = λ is_ended full.
            absurd ((full_answer is_ended full).1 (let a = ran.same_faults in let r = rose in omega arith));
        filled = filled;
        uncounted = uncounted_so;
        moved = moved_so is_told;
        near = near_so is_told;
        above = above_so is_told;
      },
      refl,
    )
    | inr well ↦
        let state : after_first book.start entries (length (entries_in now)) ≡ book.state = state_at_end well in
        let size : length (releases (after_first book.start entries (length (entries_in now))) 0 words)
        ≡ length (releases book.state 0 words) =
        ap (λ (st : State). length (releases st 0 words)) state in (
          record {
            words = words;
            rows = ran.rows;
            count = entries_added.count;
            are_due = drop_lanes ∙ ap (λ (st : State). take entries_added.count (releases st 0 words)) (sym state);
            stopped = λ r. absurd (well (let a = ran.same_faults in let q = r in omega arith));
            refused = λ few. refused_by (entries_added.refused (omega arith));
            full = λ is_ended full.
                let a = (released_full words book end.released end.answer end.releases
                (full_answer is_ended full).0).1 in
                let b = ap length entries_added.entries in
                let c = length-append (entries_of book.log) (take entries_added.count (releases book.state 0 words)) in
                let d = length-take entries_added.count (releases book.state 0 words) in
                omega arith;
            filled = filled;
            uncounted = uncounted_so;
            moved = moved_so is_told;
            near = near_so is_told;
            above = above_so is_told;
          },
          refl,
        )
  ]
    where
      refused_by : IsRefusedRelease end.released → Rose site.faults after.faults ⊎ (length entries ≡ MOST_ENTRIES)
      refused_by (inl rose) = inl (let a = ap (λ (s : SiteSeen). s.faults) end.goes_on.opened in
          let b = ran.same_faults in let c = last_later in let d = after_faults in let r = rose in omega arith)
      refused_by (inr full) = inr (let a = ap length entries_known in omega arith)

  module _ (shows_one : (image : List ℕ) (one other : State) → Shows image one → Shows image other → one ≡ other) where
    plan_same : IsTrue told → (plan : PlanLines) (state : State) → ShowsAtEntry call plan state → plan ≡ book.plan
    plan_same is_told plan state shows = same_ok plan book.plan (sym shows.says ∙ ran.says is_told)

    state_same : IsTrue told → (plan : PlanLines) (state : State) → ShowsAtEntry call plan state → state ≡ book.start
    state_same is_told plan state shows =
        shows_one site.trace.now.image state book.start shows.shows (ran.shows is_told)

    -- ---- why it ended

    cause_of : (c : RunEnd) → came ≡ c → EndsReading source source_after ran.come.items ran.come.read ran.come.part c
        → CameBy call account c
    cause_of ends.Ended is reads = reads
    cause_of (ends.Malformed offset) is reads = reads
    cause_of (ends.SourceFault count) is reads = reads
    cause_of (ends.SiteFault count) is reads = absurd reads
    cause_of ends.NoMemory is reads = tt
    cause_of (ends.NoState offset) is reads = absurd reads
    cause_of ends.SessionFull is reads =
        let f = ran.come.full is in
        let none : take entries_added.count (releases book.state 0 words) ≡ [] =
        empty_entries (take entries_added.count (releases book.state 0 words))
        (let a = f.full in let b = ap length entries_split in
        let c = length-append (entries_in now) (take entries_added.count (releases book.state 0 words)) in
        let d = entries_most in omega arith) in
        let same : entries ≡ entries_in now =
        entries_split ∙ ap (λ (l : List Entry). entries_in now ++ l) none ∙ append-nil (entries_in now) in
        record {
          full = (let a = f.full in let b = ap length same in let d = entries_most in omega arith);
          not_failed = λ rose. f.not_failed (let b = ap length same in let d = entries_most in omega arith)
              (subst (λ (n : ℕ). Rose n now.turn.known.faults) (sym (ran.known_first ∙ ran.same_faults))
              (subst (λ (n : ℕ). Rose call.site.faults n) (sym ran.known) rose));
          place = f.place;
          first = f.first_without;
          last_segment = f.last_segment;
          due = λ is_told plan state shows. due_at f same is_told plan state shows f.due;
          unmade = subst (λ (es : List Entry). HasNoEntry es f.place.task.index) (sym same) f.unmade;
        }
      where
        due_at : (f : StopsAtFullHistory (begin_by told book.plan book.start) first now (places_of ran.come.of)
            ran.come.answers) → entries ≡ entries_in now
            → IsTrue told → (plan : PlanLines) (state : State) → ShowsAtEntry call plan state
            → IsTrue (is_entered f.place.task.kind)
            ⊎ MayAppend (IsBetween (begin_by told book.plan book.start) first now)
            (course_in (begin_by told book.plan book.start) now) MOST_ENTRIES f.place.task
            → IsTrue (is_entered f.place.task.kind)
            ⊎ MayAppend (NearWord state entries (records_of (places_of ran.come.of)))
            (course_of call account plan state) MOST_ENTRIES f.place.task
        due_at f same is_told plan state shows (inl other) = inl other
        due_at f same is_told plan state shows (inr may) =
            let far : (k n : ℕ) → IsBetween (begin_by told book.plan book.start) first now k n
            → NearWord book.start (entries_in now) (records_of (places_of ran.come.of)) k n =
            (let e = known_end is_told in
            near (begin_by told book.plan book.start) first now (records_of (places_of ran.come.of))
            (deeds_from (places_of ran.come.of) ran.come.answers)
            e.opened e.does e.whole e.rows e.rules
            (rules_at_end (begin_by told book.plan book.start) first now (places_of ran.come.of)
            (deeds_from (places_of ran.come.of) ran.come.answers)
            e.opened e.does e.whole e.plan_is e.rules)) in
            let here : MayAppend (NearWord book.start (entries_in now) (records_of (places_of ran.come.of)))
            (record (course_of call account book.plan book.start) { entries = entries_in now }) MOST_ENTRIES
            f.place.task =
            may_append (IsBetween (begin_by told book.plan book.start) first now)
            (NearWord book.start (entries_in now) (records_of (places_of ran.come.of))) far
            book.plan book.start (entries_in now) _ _ _ _ _ _ _ _ MOST_ENTRIES f.place.task may in
            let there : MayAppend (NearWord book.start entries (records_of (places_of ran.come.of)))
            (course_of call account book.plan book.start) MOST_ENTRIES f.place.task =
            subst (λ (l : List Entry). MayAppend (NearWord book.start l (records_of (places_of ran.come.of)))
            (record (course_of call account book.plan book.start) { entries = l }) MOST_ENTRIES f.place.task)
            (sym same) here in
            inr (subst (λ (st : State). MayAppend (NearWord st entries (records_of (places_of ran.come.of)))
            (course_of call account plan st) MOST_ENTRIES f.place.task)
            (sym (state_same is_told plan state shows))
            (subst (λ (pl : PlanLines). MayAppend (NearWord book.start entries (records_of (places_of ran.come.of)))
            (course_of call account pl book.start) MOST_ENTRIES f.place.task)
            (sym (plan_same is_told plan state shows)) there))
    cause_of ends.PutFailed is reads =
        let h = has_broken is in
        let a = h.one_failed in
        let b = ap (λ (s : SiteSeen). s.put_faults) end.site_is in
        let c : end.last.site.put_faults ≡ end.released.site.put_faults = elim end.puts_end [
          | inl broken ↦ ap (λ (b : BookView). b.site.put_faults) broken.1
          | inr put ↦ absurd (put.0 is)
        ] in
        let d = end.same_puts in (
          omega arith,
          (let r = h.rose in let e = ran.known in let f = ran.known_first in let g = ran.same_faults in omega arith),
        )

    -- ---- all together

    -- where its records are of one lane
    exact_so : IsTrue told → OneLane (records_of (places_of ran.come.of))
        → IsExact call account book.plan book.start words (length (entries_in now))
    exact_so is_told one =
        exact_call call account book.plan (begin_by told book.plan book.start) first now words
        (take entries_added.count (releases book.state 0 words)) refl (ran.founded is_told).opened ran.whole ran.stand
        (ran.come.exactly one) entries_split
        (ran.known_first ∙ ran.same_faults) ran.known

    sound_call : IsTrue told → ServesSoundly call account book.plan book.start
    unfolding legal_run
    sound_call is_told =
        let (r, same) = released_so is_told in
        record {
          sound = record {
            run = sound_call_run is_told;
            moments = moments_so is_told;
            fences = fences_so is_told;
            same_plan = plans_so is_told;
            end_widths = end_widths;
          };
          released = r;
          exact = λ one. subst (λ (ws : List ℕ). IsExact call account book.plan book.start ws (length (entries_in now)))
              (sym same) (exact_so is_told one);
          exit = kept_stands told call account book.start end.last is_told end.kept end.site_is end.entries_are
              last_start
              (ap (λ (s : SiteSeen). s.faults) last_opened ∙ ran.same_faults) last_image;
        }

    -- the image at the entry shows the plan and the state of the book
    entry_shows : IsTrue told → ShowsAtEntry call book.plan book.start
    entry_shows is_told = record { says = ran.says is_told; shows = ran.shows is_told }

    pub run_ends_so : RunEnds call
    run_ends_so = record {
      account = account;
      takes = ran.come.takes;
      answered = ran.come.answered end.end book.site.faults;
      cause = cause_of came refl ran.come.reads;
      tells = tells_end;
      put = puts_answers;
      faults_told = faults_told;
      last_later = let a = ran.kept.later in let b = ran.same_faults in omega arith;
      after_later = let a = end.goes_on.later in let b = last_later in let c = after_faults in omega arith;
      quiet = quiet;
      bounded = entries_most;
      reports = ran.come.reports;
      by_image = λ is_told. inl (record {
        plan = book.plan;
        state = book.start;
        shows = entry_shows is_told;
        serves = sound_call is_told;
      });
    }
