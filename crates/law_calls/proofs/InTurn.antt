-- What a call that handles a record is in turn: what was known before it, where no other worker made a line meanwhile.
use Rattle.std.proofs.Common.{◌≡◌, ◌⊎◌, ℕ, zero, suc, ◌+◌, ◌-◌, ◌<◌, ◌≤◌, nat_le, ◌==◌, ◌&&◌, ◌||◌, eq-eqb, Bool, true}
use Rattle.std.proofs.Common.{false, IsTrue, List, [], ◌∷◌, ◌++◌, length, take, drop, Some, refl, sym, ◌∙◌, ap, subst}
use Rattle.std.proofs.Common.{inl, inr, arith, append-nil, length-append}
use Rattle.std.proofs.lemmas.List.{append_cancel_left, length-take, take-append-le, take_all, take-append-drop}
use Rattle.sdls_base.specs.declared.entry.Entry.{Entry}
use Rattle.sdls_base.specs.declared.entry.Logged.{Logged}
use Rattle.sdls_base.specs.declared.TheConstants.{MOST_KEYS}
use Rattle.sdls_outside.specs.Faults.{Rose}
use Rattle.key_book.specs.KeyBook.{place_of}
use Rattle.record_io.specs.declared.answers.Answer.{Answer}
use Rattle.record_io.specs.declared.code.TheConstants.{MONITOR_FAULT, SITE_FAULT}
use Rattle.record_io.specs.declared.item_cursor.Record.{Record}
use Rattle.unit_state.specs.declared.state.State.{State}
use Rattle.unit_state.specs.Applied.{applied}
use Rattle.unit_state.specs.History.{after_all, epoch_after}
use Rattle.counter_table.specs.declared.view.Known.{Known}
use Rattle.counter_table.specs.declared.view.Numbers.{Numbers}
use Rattle.counter_table.specs.declared.view.Opening.{Opening}
use Rattle.counter_table.specs.declared.view.Turn.{Turn}
use Rattle.counter_table.specs.declared.view.View.{View}
use Rattle.counter_table.specs.Known.{Earlier}
use Rattle.counter_table.specs.Play.{IsCovered}
use Rattle.counter_table.specs.Turn.{epoch_seen, places, stands}
use Rattle.run_promise.specs.Log.{entries_of}
use Rattle.run_promise.specs.Numbers.{mark_of, mark_at}
use Rattle.unit_book.specs.Book.{BookView, Enters}
use Rattle.shared_unit.specs.Told.{known_of_book}
use Rattle.shared_unit.specs.Turn.{FindsCovered, taking_once, Visits}
use Rattle.run_promise.specs.Call.{Begin}
use Rattle.law_workers.specs.Views.{log_of, entries_in}
use Rattle.run_promise.specs.Deed.{deed_of, is_monitored, tells_count}
use Rattle.record_io.specs.declared.reader.RecordKind.{RecordKind}
use Rattle.record_io.specs.declared.reader.RecordKind.TheVariants.{Protect, Open, Command, Monitor}
use Rattle.std.proofs.lemmas.Bool.Decides.{nat_tests}
use Rattle.law_workers.proofs.Rows.{mark_known}
use Rattle.run_promise.specs.Words.{Move}
use Rattle.run_promise.specs.OneLane.{AloneServes, has_failed}
use Rattle.law_workers.specs.InTurn.{MadeAllLines, IsClean, IsLevel, AllStand, stood_in, AreOf, IsBacked, ServedInTurn}
use Rattle.law_workers.proofs.Turns.{all_stood, level_on, backed_on, stood_is, stood_more, stood_on}
use Rattle.law_workers.specs.Began.{BeganWith}
use Rattle.law_calls.proofs.Behind.{after_both, lines_of, lines_entries, places_within}
use Rattle.law_calls.proofs.OneRecord.{Turned}
use Rattle.law_calls.proofs.Visit.{below_mark, began_faults, changes_are, epoch_low, faults_are, led, log_is, log_low}
use Rattle.law_calls.proofs.Visit.{risen_found, whole}

-- fronts of one length are one
front_one : (a b c d : List Logged) → a ++ c ≡ b ++ d → length a ≡ length b → a ≡ b
front_one a b c d same size =
    sym (take-append-le (length a) a c (omega arith) ∙ take_all (length a) a (omega arith))
    ∙ ap (take (length a)) same
    ∙ ap (λ (n : ℕ). take n (b ++ d)) size
    ∙ take-append-le (length b) b d (omega arith) ∙ take_all (length b) b (omega arith)

module _ (v w : View) (log : List Logged) (count : ℕ) (low : length (log_of v) ≤ length log)
    (before after : List Logged)
    (is : log_of w ≡ log_of v ++ after) (has : log_of w ≡ log ++ before) where
  -- the log that was found is the one that was known, where no other line was made
  pub found_known : MadeAllLines v w (places (length log) count) → log ≡ log_of v
  found_known all = front_one log (log_of v) before after (sym has ∙ is) same
    where
      within : length (log_of w) ≡ length log + length before
      within = ap length has ∙ length-append log before

      same : length log ≡ length (log_of v)
      same = by_case (length log - length (log_of v)) (omega arith)
        where
          by_case : (more : ℕ) → length (log_of v) + more ≡ length log → length log ≡ length (log_of v)
          by_case zero h = omega arith
          by_case (suc more) h =
              let size = within in
              let place = all (length (log_of v)) (omega arith) (omega arith) in
              let (least, most) = places_within (length log) count (length (log_of v)) place in absurd (omega arith)

either_one : (one other : Bool) → IsTrue one → IsTrue (one || other)
either_one true other is = refl
either_one false other is = absurd (let no : false ≡ true = is in cc)

or_other : (one other : Bool) → other ≡ true → IsTrue (one || other)
or_other true other is = refl
or_other false other is = is

-- an answer with a code from 31 on tells no count, and none to another record than a Monitor record does
late_uncounted : (kind : RecordKind) (code : ℕ) → SITE_FAULT ≤ code
    → IsTrue (is_monitored kind && nat_le code MONITOR_FAULT) → ⊥
late_uncounted Protect code low t = let no : false ≡ true = t in absurd (let e = no in cc)
late_uncounted Open code low t = let no : false ≡ true = t in absurd (let e = no in cc)
late_uncounted Command code low t = let no : false ≡ true = t in absurd (let e = no in cc)
late_uncounted Monitor code low t = let few : nat_le code MONITOR_FAULT ≡ true = t in
    let less : code ≤ MONITOR_FAULT = grind (arith, nat_tests) in omega arith

pub plain_uncounted : (kind other : RecordKind) (test : Bool) → kind ≡ other → is_monitored other ≡ false
    → IsTrue (is_monitored kind && test) → ⊥
plain_uncounted kind other test is plain t =
    let no : false ≡ true = subst (λ (b : Bool). IsTrue (b && test)) (ap is_monitored is ∙ plain) t in
    absurd (let e = no in cc)

module _ (begin : Begin) (v w : View) (log : List Logged) (es : List Entry) (turned : Turned log es v.turn w.turn) where
  pub known_log : MadeAllLines v w (places (length log) (length es)) → log ≡ log_of v
  known_log = found_known v w log (length es) turned.low (lines_of es) turned.earlier.log.0 turned.earlier.log.1
      turned.log_is

  pub entries_are : entries_in w ≡ entries_of log ++ es
  entries_are = ap entries_of turned.log_is ∙ lines_entries log es

  -- What a call made of what was known: so many numbers were spent; what is known of the entries that stand keeps up
  -- with
  -- the log; and what was spent and seen before is backed.
  pub record Passes (spent : List (ℕ × ℕ)) : Type 0 where
    pub spent_is : w.numbers.spent ≡ v.numbers.spent ++ spent
    pub level : IsLevel v → IsLevel w
    pub backed : MadeAllLines v w (places (length log) (length es)) → IsLevel v → (numbers : List (ℕ × ℕ))
        → AreOf numbers v.numbers.spent
        → IsBacked begin w numbers → IsBacked begin v numbers

  -- where these entries were added, and stand, all stand if all did
  pub stays_with : log ≡ log_of v → stood_in w ≡ stood_in v ++ es → AllStand v → AllStand w
  stays_with same stood before =
      let all : entries_in w ≡ stood_in w =
      entries_are ∙ ap (λ (l : List Logged). entries_of l ++ es) same ∙ ap (λ (l : List Entry). l ++ es)
      (sym (all_stood v before)) ∙ sym stood in
      let size : length (entries_in w) ≡ length (stood_in w) = ap length all in
      let most = length-take w.turn.known.standing (entries_in w) in omega arith

  -- the entries that stand, where all did in the log that was found
  pub stood_clean : log ≡ log_of v → AllStand v → AllStand w → stood_in w ≡ stood_in v ++ es
  stood_clean same before now =
      all_stood w now ∙ entries_are ∙ ap (λ (l : List Logged). entries_of l ++ es) same
      ∙ ap (λ (l : List Entry). l ++ es) (sym (all_stood v before))

  module _ (segment : ℕ) (task : Record) (move : Move) (spent : List (ℕ × ℕ)) (passes : Passes spent) where
    above : (place : ℕ) → 0 < stands place (places (length log) (length es)) → length (log_of v) ≤ place
    above place in' = let (least, most) = places_within (length log) (length es) place in' in let low = turned.low in
        omega arith

    -- so is the record served: it has this answer, and these entries more stand
    abbrev pub ServesSo : Answer → Type 0
    ServesSo answer = (own : List Entry) × (stood_in w ≡ stood_in v ++ own)
        × AloneServes begin (stood_in v) task answer own move
        × ((AllStand v → AllStand w) ⊎ (answer.code ≡ SITE_FAULT))
        × (IsTrue (tells_count (deed_of segment task answer)) → ⊥)

    -- an entry that does not stand was there before, or the answer tells of it
    told_failed : (failed : Bool) (answer : Answer) → (¬ AllStand v → IsTrue failed)
        → (AllStand v → AllStand w) ⊎ (answer.code ≡ SITE_FAULT) → ¬ AllStand w → IsTrue (has_failed failed answer)
    told_failed failed answer tells (inl stays) not =
        either_one failed (answer.code == SITE_FAULT) (tells (λ stands. not (stays stands)))
    told_failed failed answer tells (inr code) not =
        or_other failed (answer.code == SITE_FAULT) (eq-eqb answer.code SITE_FAULT code)

    -- the record has this answer, in the history that was found
    pub served_turn : (answer : Answer) → (log ≡ log_of v → IsLevel v → IsBacked begin w spent → ServesSo answer)
        → ServedInTurn begin v w (places (length log) (length es)) spent (deed_of segment task answer ∷ []) (move ∷ [])
        []
    served_turn answer serves = record {
      above = above;
      backed = passes.backed;
      between = record {
        spent_is = passes.spent_is;
        level = passes.level;
        served = λ all level backed.
            let (own, is, one, ends, uncounted) = serves (known_log all) level backed in (
              own,
              [],
              is ∙ ap (λ (l : List Entry). stood_in v ++ l) (sym (append-nil own)),
              λ failed tells. (
                (own, [], sym (append-nil own), one, λ counts. absurd (uncounted counts), refl),
                told_failed failed answer tells ends,
              ),
              (λ none. refl, inl refl),
            );
      };
    }

    -- in a history whose entries all stand
    pub served_clean : (answer : Answer) → log ≡ log_of v → AllStand v → AllStand w
        → (IsTrue (tells_count (deed_of segment task answer)) → ⊥)
        → AloneServes begin (entries_of log) task answer es move → ServesSo answer
    served_clean answer same before now uncounted serves = (
      es,
      stood_clean same before now,
      subst (λ (l : List Entry). AloneServes begin l task answer es move)
          (ap entries_of same ∙ sym (all_stood v before)) serves,
      inl (λ _. now),
      uncounted,
    )

    -- with an answer that says nothing of its entries
    pub served_late : (answer : Answer) → log ≡ log_of v → SITE_FAULT ≤ answer.code
        → (AllStand v → AllStand w) ⊎ (answer.code ≡ SITE_FAULT)
        → ServesSo answer
    served_late answer same low ends =
        let (own, is) =
        stood_more v w turned.earlier.standing es
        (entries_are ∙ ap (λ (l : List Logged). entries_of l ++ es) same) in
        (own, is, inl low, ends, late_uncounted task.kind answer.code low)

    -- it has none, and made an entry at most, which stands
    pub unserved_turn : length es ≤ 1 → IsClean v → AllStand w
        → ServedInTurn begin v w (places (length log) (length es)) spent [] [] (move ∷ [])
    unserved_turn few clean now = record {
      above = above;
      backed = passes.backed;
      between = record {
        spent_is = passes.spent_is;
        level = passes.level;
        served = λ all level backed. (
          [],
          es,
          stood_clean (known_log all) (level.all clean) now,
          λ failed tells. (refl, λ not. absurd (not now)),
          (λ none. absurd (let n : length (move ∷ []) ≡ 0 = ap length none in omega arith), inr (few, now)),
        );
      };
    }

-- the turn was not taken
pub looks_pass : (begin : Begin) (v w : View) (spent : List (ℕ × ℕ)) (turned : Turned v.turn.known.log [] v.turn w.turn)
    → w.numbers.spent ≡ v.numbers.spent ++ spent → Passes begin v w v.turn.known.log [] turned spent
looks_pass begin v w spent turned is =
    let same : entries_in w ≡ entries_in v =
    entries_are begin v w v.turn.known.log [] turned ∙ append-nil (entries_in v) in
    record {
      spent_is = is;
      level = level_on v w turned.earlier turned.opening same turned.epochs;
      backed = λ all level numbers of h.
          backed_on begin v w numbers (λ key row there.
          ap (λ (l : List Entry). place_of (after_all begin.start l).keys key) same ∙ there)
          (stood_on v w turned.earlier turned.opening same level) turned.epochs h;
    }

-- The turn was taken, with the one book found and the other given back.
module _ (told : Bool) (begin : Begin) (found given : BookView) (u : Turn) (v w : View)
    (began : BeganWith told begin u.known.opening) (free : u.holds ≡ false) (visits : Visits told found given u w.turn)
  where
    not_given : IsClean w → ¬ Rose given.opened.faults given.site.faults
    not_given clean rose =
        let first : w.turn.known.opening.faults ≡ found.opened.faults =
        began_faults told begin found given u w.turn began free visits in
        let now : w.turn.known.faults ≡ given.site.faults =
        faults_are told begin found given u w.turn began free visits in
        let same : given.opened.faults ≡ found.opened.faults = ap (λ (o : Opening). o.faults) visits.takes.opening in
        clean (
        (subst (λ (n : ℕ). Rose n w.turn.known.faults) (same ∙ sym first)
        (subst (λ (n : ℕ). Rose given.opened.faults n) (sym now) rose)))

    pub not_found : IsClean w → ¬ Rose found.opened.faults found.site.faults
    not_found clean rose =
        let low = visits.takes.earlier.faults in
        let same : given.opened.faults ≡ found.opened.faults = ap (λ (o : Opening). o.faults) visits.takes.opening in
        not_given clean (subst (λ (n : ℕ). Rose n given.site.faults) (sym same)
        (later found.opened.faults found.site.faults given.site.faults low rose))
      where
        later : (a b c : ℕ) → b ≤ c → Rose a b → Rose a c
        later a b c low rose = omega arith

    standing_is : w.turn.known.standing ≡ given.standing
    standing_is = ap (λ (t : Turn). t.known.standing) visits.takes.turn

    -- what is known afterwards is what was given back
    pub taken_level : IsLevel w
    taken_level =
        let kept = visits.given_kept in
        let log : w.turn.known.log ≡ given.log = log_is told begin found given u w.turn began free visits in
        let size : length (entries_in w) ≡ length (entries_of given.log) =
        ap (λ (l : List Logged). length (entries_of l)) log in
        let stand = standing_is in
        let few = kept.few_left in
        let changes : w.turn.known.changes ≡ given.changes =
        changes_are told begin found given u w.turn began free visits in
        let counted : given.changes ≡ epoch_after (stood_in w) =
        kept.epoch ∙ ap epoch_after (ap (λ (n : ℕ). take n (entries_of given.log)) (sym stand)
        ∙ ap (λ (l : List Logged). take w.turn.known.standing (entries_of l)) (sym log)) in
        record {
          few = omega arith;
          all = λ clean. let all : given.standing ≡ length (entries_of given.log) = kept.whole (not_given clean) in
              omega arith;
          epoch = omega arith;
        }

    -- all entries stand that were given back so
    pub given_stands : length (entries_of given.log) ≤ given.standing → AllStand w
    given_stands all =
        let log : w.turn.known.log ≡ given.log = log_is told begin found given u w.turn began free visits in
        let size : length (entries_in w) ≡ length (entries_of given.log) =
        ap (λ (l : List Logged). length (entries_of l)) log in
        let stand = standing_is in omega arith

    pub given_as : (old : BookView) → given ≡ old → old.standing ≡ length (entries_of old.log) → AllStand w
    given_as old same all =
        let a : given.standing ≡ old.standing = ap (λ (b : BookView). b.standing) same in
        let b : length (entries_of given.log) ≡ length (entries_of old.log) =
        ap (λ (x : BookView). length (entries_of x.log)) same in
        given_stands (omega arith)

    -- all entries stood in the book that was found, where no line was made since a view in which all did
    pub found_all : u.known ≡ v.turn.known → found.log ≡ log_of v → AllStand v
        → length (entries_of found.log) ≤ found.standing
    found_all known same all =
        let e : Earlier v.turn.known (known_of_book found) =
        subst (λ (k : Known). Earlier k (known_of_book found)) known visits.takes.follows.earlier in
        let low = e.standing in
        let size : length (entries_of found.log) ≡ length (entries_in v) =
        ap (λ (l : List Logged). length (entries_of l)) same in omega arith

    -- and so they do where it was given back as it was found
    pub same_stands : given ≡ found → u.known ≡ v.turn.known → found.log ≡ log_of v → AllStand v → AllStand w
    same_stands same known here all =
        let a : given.standing ≡ found.standing = ap (λ (b : BookView). b.standing) same in
        let b : length (entries_of given.log) ≡ length (entries_of found.log) =
        ap (λ (x : BookView). length (entries_of x.log)) same in
        let c = found_all known here all in given_stands (omega arith)

    -- an entry was made of a book whose entries all stood
    pub given_entered : (old : BookView) (entry : Entry) (position : ℕ) → Enters entry old given position
        → old.standing ≡ length (entries_of old.log) → AllStand w
    given_entered old entry position enters all =
        let a : given.standing ≡ old.standing + 1 = ap (λ (b : BookView). b.standing) enters.is in
        let b : length (entries_of given.log) ≡ length (entries_of old.log) + 1 =
        ap length (ap (λ (x : BookView). entries_of x.log) enters.is ∙ lines_entries old.log (entry ∷ []))
        ∙ length-append (entries_of old.log) (entry ∷ []) in
        given_stands (omega arith)

    -- a book that had not failed was known as such
    pub clean_found : u.known ≡ v.turn.known → ¬ Rose found.opened.faults found.site.faults → IsClean v
    clean_found known not rose = not (risen_found told begin found given u w.turn began free visits
        (subst (λ (k : Known). Rose k.opening.faults k.faults) (sym known) rose))

    -- where no line was made since a view, the entries that stand in the book that was found are those that stood in it
    pub stood_found : u.known ≡ v.turn.known → found.log ≡ log_of v → IsLevel v
        → take found.standing (entries_of found.log) ≡ stood_in v
    stood_found known same level =
        let e : Earlier v.turn.known (known_of_book found) =
        subst (λ (k : Known). Earlier k (known_of_book found)) known visits.takes.follows.earlier in
        let opening : (known_of_book found).opening ≡ v.turn.known.opening =
        visits.takes.follows.opening ∙ ap (λ (k : Known). k.opening) known in
        ap (λ (l : List Logged). take found.standing (entries_of l)) same
        ∙ stood_is v found.standing level e.standing
        (λ rose. e.stood (subst (λ (o : Opening). Rose o.faults v.turn.known.faults) (sym opening) rose))

    -- what was spent and seen before is backed in the book that was found
    pub taken_backed : IsCovered MOST_KEYS v.numbers (known_of_book found) → u.known ≡ v.turn.known
        → epoch_seen v.turn ≤ epoch_seen u → found.log ≡ log_of v → IsLevel v → (numbers : List (ℕ × ℕ))
        → AreOf numbers v.numbers.spent
        → IsBacked begin v numbers
    taken_backed covered known later same level numbers of =
        let stood = stood_found known same level in
        let state : found.state ≡ after_all begin.start (stood_in v) =
        led told begin found given u w.turn began free visits ∙ ap (after_all begin.start) stood in
        record {
          marks = λ key row number low there in'.
              let rows = began.rows in
              let once = covered row number (omega arith) in
              let spent = of row number in' in
              let below : number < mark_at found.state row =
              below_mark number (mark_at found.state row) (omega arith) in
              let left : List Entry = drop v.turn.known.standing (entries_in v) in
              let whole : after_all found.state left ≡ after_all begin.start (entries_in v) =
              ap (λ (s : State). after_all s left) state ∙ sym (after_both begin.start (stood_in v) left)
              ∙ ap (after_all begin.start) (take-append-drop v.turn.known.standing (entries_in v)) in
              let place : place_of (after_all found.state left).keys key ≡ Some row =
              ap (λ (s : State). place_of s.keys key) whole ∙ there in
              let mark : mark_at found.state row ≡ mark_of found.state key =
              mark_known found.state left key row visits.found_kept.rules place in
              let known_mark : mark_of found.state key ≡ mark_of (after_all begin.start (stood_in v)) key =
              ap (λ (s : State). mark_of s key) state in omega arith;
          epoch =
              let low = epoch_low told begin found given u w.turn began free visits in
              let counted : found.changes ≡ epoch_after (stood_in v) = visits.found_kept.epoch ∙ ap epoch_after stood in
              omega arith;
        }

    -- by a book that is above what was spent
    pub takes_pass : (es : List Entry) (turned : Turned found.log es v.turn w.turn) (spent : List (ℕ × ℕ))
        → w.numbers.spent ≡ v.numbers.spent ++ spent
        → (MadeAllLines v w (places (length found.log) (length es)) → IsLevel v → (numbers : List (ℕ × ℕ))
        → AreOf numbers v.numbers.spent
        → IsBacked begin v numbers)
        → Passes begin v w found.log es turned spent
    takes_pass es turned spent is covers = record {
      spent_is = is;
      level = λ level. taken_level;
      backed = λ all level numbers of h. covers all level numbers of;
    }

-- where these places are all that were made behind a view, what was spent and seen before is backed there
abbrev pub CoversSpent : Begin → View → View → Type 0
CoversSpent begin v w = (made : List ℕ) → w.turn.made ≡ v.turn.made ++ made → MadeAllLines v w made → IsLevel v
    → (numbers : List (ℕ × ℕ))
    → AreOf numbers v.numbers.spent → IsBacked begin v numbers

-- A book that was found above all that was spent, by a worker with this view before, whose turn and numbers are those
-- of another.
pub covers : (told : Bool) (begin : Begin) (v x w : View) → BeganWith told begin v.turn.known.opening
    → x.turn.holds ≡ false → x.turn.known ≡ v.turn.known → epoch_seen v.turn ≤ epoch_seen x.turn
    → x.turn.made ≡ v.turn.made → x.numbers ≡ v.numbers → Earlier v.turn.known w.turn.known
    → FindsCovered told x w → CoversSpent begin v w
covers told begin v x w began free known later same numbers earlier h made made_is all level =
    let began_x : BeganWith told begin x.turn.known.opening =
    subst (λ (k : Known). BeganWith told begin k.opening) (sym known) began in
    let turn : w.turn ≡ taking_once (known_of_book h.found) (known_of_book h.given) x.turn = h.visits.takes.turn in
    let count : ℕ = length h.given.log - length h.found.log in
    let made_here : made ≡ places (length h.found.log) count =
    append_cancel_left v.turn.made made (places (length h.found.log) count)
    (sym made_is ∙ ap (λ (t : Turn). t.made) turn ∙ ap (λ (l : List ℕ). l ++ places (length h.found.log) count) same) in
    let low : length (log_of v) ≤ length h.found.log =
    (let l = log_low told begin h.found h.given x.turn w.turn began_x free h.visits in
    let k : length x.turn.known.log ≡ length (log_of v) = ap (λ (z : Known). length z.log) known in omega arith) in
    let log : h.found.log ≡ log_of v =
    found_known v w h.found.log count low h.visits.takes.earlier.log.0 earlier.log.0 earlier.log.1
    (log_is told begin h.found h.given x.turn w.turn began_x free h.visits ∙ h.visits.takes.earlier.log.1)
    (subst (MadeAllLines v w) made_here all) in
    taken_backed told begin h.found h.given x.turn v w began_x free h.visits
    (subst (λ (k : Numbers). IsCovered MOST_KEYS k (known_of_book h.found)) numbers h.covered) known later log level

-- The state of a book is that after its entries: so it is at a stage of a call, if the site had not failed.
abbrev pub Stands : Begin → BookView → Type 0
Stands begin book = book.state ≡ after_all begin.start (entries_of book.log)

after_one : (start : State) (es : List Entry) (e : Entry)
    → after_all start (es ++ e ∷ []) ≡ applied (after_all start es) e.change
after_one start [] e = refl
after_one start (x ∷ es) e = after_one (applied start x.change) es e

-- behind an entry that was made
pub stands_entered : (begin : Begin) (old : BookView) → Stands begin old
    → (new : BookView) (entry : Entry) (position : ℕ)
    → Enters entry old new position → Stands begin new
stands_entered begin old stands new entry position enters =
    let log : entries_of new.log ≡ entries_of old.log ++ entry ∷ [] =
    ap (λ (b : BookView). entries_of b.log) enters.is ∙ lines_entries old.log (entry ∷ []) in
    let state : new.state ≡ applied old.state entry.change = ap (λ (b : BookView). b.state) enters.is in
    state ∙ ap (λ (s : State). applied s entry.change) stands ∙ sym (after_one begin.start (entries_of old.log) entry)
    ∙ ap (after_all begin.start) (sym log)

-- the book that was found
pub stands_found : (told : Bool) (begin : Begin) (found given : BookView) (u : Turn) (v w : View)
    → BeganWith told begin u.known.opening → u.holds ≡ false → Visits told found given u w.turn
    → ¬ Rose found.opened.faults found.site.faults → Stands begin found
stands_found told begin found given u v w began free visits not =
    (whole told begin found given u w.turn began free visits not).0
