-- The run of a book: what its calls do to the moments.
use Rattle.std.proofs.Common.{◌≡◌, ℕ, ◌+◌, ◌-◌, ◌≤◌, ◌⊎◌, min, List, [], ◌∷◌, ◌++◌, length, take, drop, refl, sym, ◌∙◌}
use Rattle.std.proofs.Common.{ap, subst, inl, inr, arith, length-append, Result, Ok, Err}
use Rattle.std.proofs.lemmas.List.{take_all, take_at, take-take, take-append-le, take-append-drop, drop_all, drop_at}
use Rattle.std.proofs.lemmas.List.{drop-take, length-drop, append_assoc}
use Rattle.sdls_base.specs.declared.entry.Entry.{Entry}
use Rattle.sdls_base.specs.declared.entry.Logged.{Logged}
use Rattle.sdls_base.specs.declared.entry.Logged.TheVariants as logged
use Rattle.sdls_outside.specs.Disk.{Leaves}
use Rattle.sdls_outside.specs.Moments.{Trace, clock, Between, EachMoment}
use Rattle.sdls_outside.specs.Site.{Sank, Puts}
use Rattle.sdls_outside.proofs.Moments.{each_then, each_weaker, each_passes, moment_now, sank_synced, synced_leaves}
use Rattle.sdls_outside.proofs.Moments.{leaves_same}
use Rattle.unit_image.specs.Image.{Becomes, EachImage, Held, held, IsAtRest, IsSettled, IsSettledImage, JournalView}
use Rattle.unit_state.specs.declared.state.State.{State}
use Rattle.unit_state.specs.Restart.{restarted}
use Rattle.unit_state.specs.History.{after_all}
use Rattle.unit_image.specs.Shows.{SaysState, Shows}
use Rattle.run_promise.specs.Log.{entries_of, pieces_of}
use Rattle.unit_book.specs.Log.{sunk_between}
use Rattle.unit_book.specs.Book.{ShowsFrom, Serves, IsHistory, IsCurrent}
use Rattle.unit_book.proofs.Lines.{pieces_more, entries_more, take_more, entries_front, entries_short}
use Rattle.unit_book.proofs.Lines.{entries_take_more}
use Rattle.unit_book.proofs.Lines.{between_more, take_end, take_whole}
use Rattle.unit_book.proofs.Growing.{shows_from_more, shows_from_less, shows_becomes, shows_next}

-- a moment of a run that goes on by a line
pub serves_more : (start : State) (log : List Logged) (line : Logged) (standing next : ℕ) (before image sunk : List ℕ)
    → ((n : ℕ) → n ≤ length (entries_of log) → min n next ≤ min n standing)
    → Serves start log standing before image sunk → Serves start (log ++ line ∷ []) next before image sunk
serves_more start log line standing next before image sunk least serves =
    let k : ℕ = serves.place in
    let low : serves.place ≤ length log = serves.within in
    let size : length (log ++ line ∷ []) ≡ length log + 1 = length-append log (line ∷ []) in
    let same : take k (log ++ line ∷ []) ≡ take k log = take-append-le k log (line ∷ []) low in
    let (rest, more) = take_more (k + 1) log line in
    let (entries, grown) = entries_take_more (k + 1) log line in
    let ends : before ++ pieces_of (take (k + 1) log) ++ rest ≡ before ++ pieces_of (take (k + 1) (log ++ line ∷ [])) =
    append_assoc before (pieces_of (take (k + 1) log)) rest ∙ ap (λ (octets : List ℕ). before ++ octets) (sym more) in
    let few : min (length (entries_of (take k log))) next ≤ min (length (entries_of (take k log))) standing =
    least (length (entries_of (take k log))) (entries_short k log) in
    record {
      place = k;
      within = omega arith;
      sinks = subst (λ (front : List Logged). Between (before ++ pieces_of front)
          (before ++ pieces_of (take (k + 1) (log ++ line ∷ []))) sunk) (sym same)
          (subst (λ (octets : List ℕ). Between (before ++ pieces_of (take k log)) octets sunk) ends
          (between_more (before ++ pieces_of (take k log)) (before ++ pieces_of (take (k + 1) log)) rest sunk
          serves.sinks));
      shows = subst (λ (front : List Logged). ShowsFrom start (entries_of (take (k + 1) (log ++ line ∷ [])))
          (min (length (entries_of front)) next) image) (sym same)
          (subst (λ (found : List Entry). ShowsFrom start found (min (length (entries_of (take k log))) next) image)
          (sym grown)
          (shows_from_more start (entries_of (take (k + 1) log)) entries (min (length (entries_of (take k log))) next)
          image
          (shows_from_less start (entries_of (take (k + 1) log)) (min (length (entries_of (take k log))) next)
          (min (length (entries_of (take k log))) standing) image few serves.shows)));
    }

-- the image shows the state after as many of all entries
pub serves_shows : (start : State) (log : List Logged) (standing : ℕ) (before image sunk : List ℕ)
    → (serves : Serves start log standing before image sunk)
    → ShowsFrom start (entries_of log) (min (length (entries_of (take serves.place log))) standing) image
serves_shows start log standing before image sunk serves =
    let (rest, same) = entries_front (serves.place + 1) log in
    subst (λ (entries : List Entry).
    ShowsFrom start entries (min (length (entries_of (take serves.place log))) standing)
    image) (sym same)
    (shows_from_more start (entries_of (take (serves.place + 1) log)) rest
    (min (length (entries_of (take serves.place log))) standing) image serves.shows)

-- a moment at the newest line
pub serves_last : (start : State) (log : List Logged) (line : Logged) (next : ℕ)
    (before image sunk old_sunk new_sunk : List ℕ)
    → old_sunk ≡ before ++ pieces_of log → new_sunk ≡ before ++ pieces_of (log ++ line ∷ [])
    → Between old_sunk new_sunk sunk
    → ShowsFrom start (entries_of (log ++ line ∷ [])) (min (length (entries_of log)) next) image
    → Serves start (log ++ line ∷ []) next before image sunk
serves_last start log line next before image sunk old_sunk new_sunk old_is new_is between shows =
    let size : length (log ++ line ∷ []) ≡ length log + 1 = length-append log (line ∷ []) in
    let front : take (length log) (log ++ line ∷ []) ≡ log = take_end log line in
    record {
      place = length log;
      within = omega arith;
      sinks = subst (λ (lines : List Logged). Between (before ++ pieces_of lines)
          (before ++ pieces_of (take (length log + 1) (log ++ line ∷ []))) sunk) (sym front)
          (subst (λ (lines : List Logged). Between (before ++ pieces_of log) (before ++ pieces_of lines) sunk)
          (sym (take_whole log line))
          (subst (λ (octets : List ℕ). Between octets (before ++ pieces_of (log ++ line ∷ [])) sunk) old_is
          (subst (λ (octets : List ℕ). Between old_sunk octets sunk) new_is between)));
      shows = subst (λ (lines : List Logged). ShowsFrom start (entries_of (take (length log + 1) (log ++ line ∷ [])))
          (min (length (entries_of lines)) next) image) (sym front)
          (subst (λ (lines : List Logged). ShowsFrom start (entries_of lines) (min (length (entries_of log)) next)
          image)
          (sym (take_whole log line)) shows);
    }

-- what was sunk is a front of what is sunk
front_of : (old octets new : List ℕ) → Between old (old ++ octets) new → take (length old) new ≡ old
front_of old octets new between =
    let low : length old ≤ length new = between.least in
    ap (take (length old)) between.prefix ∙ take-take (length old) (length new) (old ++ octets) low
    ∙ take_at old octets (length old) refl

sunk_more : (before : List ℕ) (log : List Logged) (old new : Trace) → old.now.sunk ≡ before ++ pieces_of log
    → take (length old.now.sunk) new.now.sunk ≡ old.now.sunk
    → new.now.sunk ≡ before ++ pieces_of (log ++ logged.Piece (sunk_between old new) ∷ [])
sunk_more before log old new is grew =
    let piece : List ℕ = sunk_between old new in
    sym (take-append-drop (length old.now.sunk) new.now.sunk)
    ∙ ap (λ (octets : List ℕ). octets ++ piece) (grew ∙ is)
    ∙ append_assoc before (pieces_of log) piece
    ∙ ap (λ (octets : List ℕ). before ++ octets)
    (sym (pieces_more log (logged.Piece piece) ∙ ap (λ (octets : List ℕ). pieces_of log ++ octets) (append_nil piece)))
  where
    append_nil : (octets : List ℕ) → octets ++ [] ≡ octets
    append_nil [] = refl
    append_nil (o ∷ octets) = ap (λ (rest : List ℕ). o ∷ rest) (append_nil octets)

-- a piece makes no entry
pub piece_entries : (log : List Logged) (piece : List ℕ) → entries_of (log ++ logged.Piece piece ∷ []) ≡ entries_of log
piece_entries log piece = entries_more log (logged.Piece piece) ∙ append_nil (entries_of log)
  where
    append_nil : (entries : List Entry) → entries ++ [] ≡ entries
    append_nil [] = refl
    append_nil (e ∷ entries) = ap (λ (rest : List Entry). e ∷ rest) (append_nil entries)

-- a put, or some of it
sank_history : (octets : List ℕ) (opened old new : Trace) (start : State) (log : List Logged) (standing : ℕ)
    → Sank octets old new
    → IsHistory opened old start log standing → standing ≤ length (entries_of log)
    → IsHistory opened new start (log ++ logged.Piece (sunk_between old new) ∷ []) standing
sank_history octets opened old new start log standing sank history stands =
    let line : Logged = logged.Piece (sunk_between old new) in
    let before : List ℕ = opened.now.sunk in
    let grew : take (length old.now.sunk) new.now.sunk ≡ old.now.sunk =
    front_of old.now.sunk octets new.now.sunk sank.sunk in
    let sinks : new.now.sunk ≡ before ++ pieces_of (log ++ line ∷ []) =
    sunk_more before log old new history.sunk grew in
    let same : (image : List ℕ) → Leaves new.now image → Leaves old.now image =
    leaves_same old.now new.now sank.image sank.synced sank.ranges in
    let shows : (least : ℕ) (image : List ℕ) → least ≤ standing → Leaves old.now image
    → ShowsFrom start (entries_of (log ++ line ∷ [])) least image =
    λ least image low leaves.
    subst (λ (entries : List Entry). ShowsFrom start entries least image)
    (sym (piece_entries log (sunk_between old new)))
    (shows_from_less start (entries_of log) least standing image low (history.shows_now image leaves)) in
    let P : List ℕ → List ℕ → Type 0 = Serves start log standing before in
    let Q : List ℕ → List ℕ → Type 0 = Serves start (log ++ line ∷ []) standing before in
    let here : (image sunk : List ℕ) → Between old.now.sunk new.now.sunk sunk → Leaves old.now image → Q image sunk =
    λ image sunk between leaves.
    serves_last start log line standing before image sunk old.now.sunk new.now.sunk history.sunk sinks between
    (shows (min (length (entries_of log)) standing) image (omega arith) leaves) in
    let whole : Between old.now.sunk new.now.sunk new.now.sunk =
    record { least = sank.sunk.least; prefix = sym (take_all (length new.now.sunk) new.now.sunk (omega arith)) } in
    record {
      sunk = sinks;
      moments = each_then opened old new Q
          (each_weaker opened old P Q (λ image sunk serves. serves_more start log line standing standing before image
          sunk (λ n low. omega arith) serves) history.moments)
          (each_passes old new Q sank.passes (λ image sunk leaves between. here image sunk between leaves)
          (λ image leaves. here image new.now.sunk whole (same image leaves)));
      shows_now = λ image leaves. shows standing image (omega arith) (same image leaves);
      idle = λ none.
          let was = history.idle (sym (piece_entries log (sunk_between old new)) ∙ none) in
          record {
            moments = each_then opened old new (λ image sunk. IsAtRest image) was.moments
                (each_passes old new (λ image sunk. IsAtRest image) sank.passes
                (λ image sunk leaves between. was.rests_now image leaves)
                (λ image leaves. was.rests_now image (same image leaves)));
            rests_now = λ image leaves. was.rests_now image (same image leaves);
          };
    }

-- a put that sank nothing
same_history : (opened old : Trace) (start : State) (log : List Logged) (standing : ℕ)
    → IsHistory opened old start log standing
    → IsHistory opened old start (log ++ logged.Piece (sunk_between old old) ∷ []) standing
same_history opened old start log standing history =
    let line : Logged = logged.Piece (sunk_between old old) in
    let before : List ℕ = opened.now.sunk in
    let P : List ℕ → List ℕ → Type 0 = Serves start log standing before in
    let Q : List ℕ → List ℕ → Type 0 = Serves start (log ++ line ∷ []) standing before in
    record {
      sunk = sunk_more before log old old history.sunk (take_all (length old.now.sunk) old.now.sunk (omega arith));
      moments = each_weaker opened old P Q
          (λ image sunk serves. serves_more start log line standing standing before image sunk
          (λ n low. omega arith) serves) history.moments;
      shows_now = λ image leaves. subst (λ (entries : List Entry). ShowsFrom start entries standing image)
          (sym (piece_entries log (sunk_between old old))) (history.shows_now image leaves);
      idle = λ none. history.idle (sym (piece_entries log (sunk_between old old)) ∙ none);
    }

pub sank_puts : {T E : Type 0} → (octets : List ℕ) (result : Result T E) (old new : Trace) → Puts octets result old new
    → (new ≡ old) ⊎ Sank octets old new
sank_puts octets (Ok value) old new puts = inr puts.0
sank_puts octets (Err error) old new puts = puts

pub puts_history : (octets : List ℕ) (opened old new : Trace) (start : State) (log : List Logged) (standing : ℕ)
    → standing ≤ length (entries_of log) → (new ≡ old) ⊎ Sank octets old new → IsHistory opened old start log standing
    → IsHistory opened new start (log ++ logged.Piece (sunk_between old new) ∷ []) standing
puts_history octets opened old new start log standing stands (inl same) history =
    subst (λ (trace : Trace). IsHistory opened trace start (log ++ logged.Piece (sunk_between old trace) ∷ []) standing)
    (sym same)
    (same_history opened old start log standing history)
puts_history octets opened old new start log standing stands (inr sank) history =
    sank_history octets opened old new start log standing sank history stands

puts_current : (octets : List ℕ) (old new : Trace) (start : State) (journal : JournalView) (entries : List Entry)
    → (new ≡ old) ⊎ Sank octets old new → IsCurrent old start journal entries → IsCurrent new start journal entries
puts_current octets old new start journal entries (inl same) current =
    subst (λ (trace : Trace). IsCurrent trace start journal entries) (sym same) current
puts_current octets old new start journal entries (inr sank) current = record {
  settled = record {
    synced = sank_synced octets old new sank current.settled.synced;
    of_image = subst (λ (image : List ℕ). IsSettledImage image journal) (sym sank.image) current.settled.of_image;
  };
  shows = subst (λ (image : List ℕ). Shows image (restarted (after_all start entries))) (sym sank.image) current.shows;
}

pub piece_current : (octets : List ℕ) (old new : Trace) (start : State) (journal : JournalView) (log : List Logged)
    (piece : List ℕ)
    → (new ≡ old) ⊎ Sank octets old new → IsCurrent old start journal (entries_of log)
    → IsCurrent new start journal (entries_of (log ++ logged.Piece piece ∷ []))
piece_current octets old new start journal log piece puts current =
    subst (λ (entries : List Entry). IsCurrent new start journal entries) (sym (piece_entries log piece))
    (puts_current octets old new start journal (entries_of log) puts current)

pub entry_entries : (log : List Logged) (entry : Entry) → entries_of (log ++ logged.Entry entry ∷ []) ≡ entries_of log
    ++ entry ∷ []
entry_entries log entry = entries_more log (logged.Entry entry)

pub entry_pieces : (log : List Logged) (entry : Entry) → pieces_of (log ++ logged.Entry entry ∷ []) ≡ pieces_of log
entry_pieces log entry = pieces_more log (logged.Entry entry) ∙ append_nil (pieces_of log)
  where
    append_nil : (octets : List ℕ) → octets ++ [] ≡ octets
    append_nil [] = refl
    append_nil (o ∷ octets) = ap (λ (rest : List ℕ). o ∷ rest) (append_nil octets)

-- What is known where an entry is stored, or is to be stored: what is held says the state after all entries, and what
-- is held
-- next says the state after the entry too.
pub record NextEntry (start : State) (log : List Logged) (entry : Entry) (image : List ℕ) (next : Held) : Type 0 where
  pub says : SaysState (held image) (restarted (after_all start (entries_of log)))
  pub then : SaysState next (restarted (after_all start (entries_of log ++ entry ∷ [])))

-- the moments while an entry is stored, which is one more
append_moments : (opened old new : Trace) (start : State) (log : List Logged) (entry : Entry)
    (standing next_standing : ℕ) (next : Held)
    → NextEntry start log entry old.now.image next → IsHistory opened old start log standing
    → ((n : ℕ) → n ≤ length (entries_of log) → min n next_standing ≤ min n standing)
    → EachImage old new (Becomes (held old.now.image) next)
    → EachMoment opened new (Serves start (log ++ logged.Entry entry ∷ []) next_standing opened.now.sunk)
append_moments opened old new start log entry standing next_standing next says history least each =
    let line : Logged = logged.Entry entry in
    let before : List ℕ = opened.now.sunk in
    let P : List ℕ → List ℕ → Type 0 = Serves start log standing before in
    let G : List ℕ → List ℕ → Type 0 = λ image sunk. Becomes (held old.now.image) next image × (sunk ≡ old.now.sunk) in
    let Q : List ℕ → List ℕ → Type 0 = Serves start (log ++ line ∷ []) next_standing before in
    let sinks : old.now.sunk ≡ before ++ pieces_of (log ++ line ∷ []) =
    history.sunk ∙ ap (λ (octets : List ℕ). before ++ octets) (sym (entry_pieces log entry)) in
    each_then opened old new Q
    (each_weaker opened old P Q (λ image sunk serves. serves_more start log line standing next_standing before image
    sunk least serves) history.moments)
    (each_weaker old new G Q (λ image sunk grows.
    serves_last start log line next_standing before image sunk old.now.sunk old.now.sunk history.sunk sinks
    (subst (λ (octets : List ℕ). Between old.now.sunk old.now.sunk octets) (sym grows.1)
    (record { least = omega arith; prefix = sym (take_all (length old.now.sunk) old.now.sunk (omega arith)) }))
    (subst (λ (entries : List Entry). ShowsFrom start entries (min (length (entries_of log)) next_standing) image)
    (sym (entry_entries log entry))
    (shows_from_less start (entries_of log ++ entry ∷ []) (min (length (entries_of log)) next_standing)
    (length (entries_of log)) image (omega arith)
    (growing_shows start log entry old.now.image image next says grows.0)))) each.moments)
  where
    growing_shows : (start : State) (log : List Logged) (entry : Entry) (old image : List ℕ) (next : Held)
        → NextEntry start log entry old next
        → Becomes (held old) next image → ShowsFrom start (entries_of log ++ entry ∷ []) (length (entries_of log)) image
    growing_shows start log entry old image next says grows =
        shows_becomes start (entries_of log) entry (held old) next image grows says.says says.then

growing_now : (old new : Trace) (next : Held) → EachImage old new (Becomes (held old.now.image) next) → (image : List ℕ)
    → Leaves new.now image
    → Becomes (held old.now.image) next image
growing_now old new next each image leaves =
    (each.moments.each image new.now.sunk (moment_now new (clock old) image leaves)).0

entry_sunk : (opened old new : Trace) (log : List Logged) (entry : Entry) → new.now.sunk ≡ old.now.sunk
    → old.now.sunk ≡ opened.now.sunk ++ pieces_of log → new.now.sunk ≡ opened.now.sunk
    ++ pieces_of (log ++ logged.Entry entry ∷ [])
entry_sunk opened old new log entry same is =
    same ∙ is ∙ ap (λ (octets : List ℕ). opened.now.sunk ++ octets) (sym (entry_pieces log entry))

-- a log with an entry has one
some_entry : (log : List Logged) (entry : Entry) → entries_of (log ++ logged.Entry entry ∷ []) ≡ [] → ⊥
some_entry log entry none =
    let size : length (entries_of log ++ entry ∷ []) ≡ length (entries_of log) + 1 =
    length-append (entries_of log) (entry ∷ []) in
    let zero : length (entries_of log ++ entry ∷ []) ≡ 0 =
    ap (λ (l : List Entry). length l) (sym (entry_entries log entry) ∙ none) in
    let no : ⊥ = omega arith in no

-- a store that failed
pub failed_history : (opened old new : Trace) (start : State) (log : List Logged) (entry : Entry) (standing : ℕ)
    (next : Held)
    → NextEntry start log entry old.now.image next → IsHistory opened old start log standing
    → standing ≡ length (entries_of log)
    → EachImage old new (Becomes (held old.now.image) next)
    → IsHistory opened new start (log ++ logged.Entry entry ∷ []) standing
failed_history opened old new start log entry standing next says history whole each = record {
  sunk = entry_sunk opened old new log entry each.sunk history.sunk;
  moments = append_moments opened old new start log entry standing standing next says history
      (λ n low. omega arith) each;
  shows_now = λ image leaves.
      let grows : Becomes (held old.now.image) next image = growing_now old new next each image leaves in
      subst (λ (entries : List Entry). ShowsFrom start entries standing image) (sym (entry_entries log entry))
      (subst (λ (n : ℕ). ShowsFrom start (entries_of log ++ entry ∷ []) n image) (sym whole)
      (shows_becomes start (entries_of log) entry (held old.now.image) next image grows
      says.says says.then));
  idle = λ none. absurd (some_entry log entry none);
}

-- an image that a crash may leave of a settled journal is the one that reads, at rest
pub left_settled : (trace : Trace) (journal : JournalView) → IsSettled trace journal → (image : List ℕ)
    → Leaves trace.now image
    → image ≡ trace.now.image
left_settled trace journal settled image leaves = synced_leaves trace.now image settled.synced leaves

-- one that is stored
pub stored_history : (opened old new : Trace) (start : State) (journal : JournalView) (log : List Logged)
    (entry : Entry) (standing : ℕ)
    (next : Held) → NextEntry start log entry old.now.image next → IsHistory opened old start log standing
    → standing ≡ length (entries_of log) → EachImage old new (Becomes (held old.now.image) next)
    → IsSettled new journal → held new.now.image ≡ next
    → IsHistory opened new start (log ++ logged.Entry entry ∷ []) (standing + 1)
stored_history opened old new start journal log entry standing next says history whole each settled holds = record {
  sunk = entry_sunk opened old new log entry each.sunk history.sunk;
  moments = append_moments opened old new start log entry standing (standing + 1) next says history
      (λ n low. omega arith) each;
  shows_now = λ image leaves.
      subst (λ (entries : List Entry). ShowsFrom start entries (standing + 1) image) (sym (entry_entries log entry))
      (subst (λ (n : ℕ). ShowsFrom start (entries_of log ++ entry ∷ []) (n + 1) image) (sym whole)
      (subst (λ (octets : List ℕ). ShowsFrom start (entries_of log ++ entry ∷ []) (length (entries_of log) + 1) octets)
      (sym (left_settled new journal settled image leaves))
      (shows_next start (entries_of log) entry next new.now.image
      (record { opens = settled.of_image.closed.of_image.opens; is = holds }) settled.of_image.closed.rests
      says.then)));
  idle = λ none. absurd (some_entry log entry none);
}

-- what a put sank is a front of the octets, and after `Ok` all of them
pub piece_front : (octets : List ℕ) (old new : Trace) → (new ≡ old) ⊎ Sank octets old new
    → sunk_between old new ≡ take (length (sunk_between old new)) octets
piece_front octets old new (inl same) =
    let none : sunk_between old new ≡ [] =
    ap (λ (t : Trace). sunk_between old t) same ∙ drop_all (length old.now.sunk) old.now.sunk (omega arith) in
    none ∙ sym (ap (λ (p : List ℕ). take (length p) octets) none)
piece_front octets old new (inr sank) =
    let from : ℕ = length old.now.sunk in
    let to : ℕ = length new.now.sunk in
    let low : length old.now.sunk ≤ length new.now.sunk = sank.sunk.least in
    let sum : to ≡ from + (to - from) = omega arith in
    let cut : sunk_between old new ≡ take (to - from) octets =
    ap (drop from) (sank.sunk.prefix ∙ ap (λ (n : ℕ). take n (old.now.sunk ++ octets)) sum)
    ∙ drop-take from (to - from) (old.now.sunk ++ octets)
    ∙ ap (take (to - from)) (drop_at old.now.sunk octets from refl) in
    let size : length (sunk_between old new) ≡ to - from = length-drop from new.now.sunk in
    cut ∙ ap (λ (n : ℕ). take n octets) (sym size)

pub piece_whole : (octets : List ℕ) (old new : Trace) → new.now.sunk ≡ old.now.sunk ++ octets
    → sunk_between old new ≡ octets
piece_whole octets old new is =
    ap (drop (length old.now.sunk)) is ∙ drop_at old.now.sunk octets (length old.now.sunk) refl
