-- The releases that a book made at the end of a run, as entries behind those of the lanes.
use Rattle.std.proofs.Common.{◌≡◌, ◌⊎◌, ℕ, suc, ◌+◌, ◌-◌, ◌<◌, ◌≤◌, List, [], ◌∷◌, ◌++◌, length, take, Option, Some}
use Rattle.std.proofs.Common.{None, Result, Ok, Err, refl, sym, ◌∙◌, ap, subst, inl, inr, arith, append-nil}
use Rattle.std.proofs.Common.{append_assoc, length-append, get_or, drop}
use Rattle.std.specs.List.{All, slice_get}
use Rattle.std.specs.Option.{option_map_or, option_and_then}
use Rattle.std.proofs.Math.Seq.{take-append-add}
use Rattle.std.proofs.lemmas.List.{take_at, take-append-drop}
use Rattle.std.proofs.lemmas.Option.{slice_get_within, get_or_from_slice_get}
use Rattle.std.proofs.lemmas.List.Elements.{All-cons, All-nil, All-take}
use Rattle.sdls_base.specs.declared.entry.Entry.{Entry}
use Rattle.sdls_base.specs.declared.entry.Seen.TheVariants.{Word}
use Rattle.sdls_base.specs.declared.entry.Logged.{Logged}
use Rattle.sdls_base.specs.declared.entry.Logged.TheVariants as lines
use Rattle.sdls_outside.specs.Faults.{Rose}
use Rattle.key_book.specs.declared.key_row.KeyRow.{KeyRow}
use Rattle.key_book.specs.KeyBook.{place_of}
use Rattle.unit_state.specs.declared.state.State.{State}
use Rattle.unit_state.specs.State.{KeepsRules, key_row}
use Rattle.unit_state.proofs.Histories.{after_more}
use Rattle.unit_state.specs.Applied.{applied}
use Rattle.unit_state.specs.History.{after_all, after_first}
use Rattle.law_history.specs.Entries.{AreNear}
use Rattle.run_promise.specs.Log.{entries_of, pieces_of}
use Rattle.run_promise.specs.Numbers.{release_of, releases}
use Rattle.run_promise.specs.Account.{EndsWithRelease}
use Rattle.law_history.proofs.Marks.{release_entry}
use Rattle.law_history.proofs.Releasing.{made_release}
use Rattle.law_workers.proofs.Histories.{entries_both}
use Rattle.law_runs.specs.Release.{AreReleases}
use Rattle.law_workers.proofs.Rows.{row_placed}
use Rattle.unit_book.specs.declared.fault.BookFault.{BookFault}
use Rattle.unit_book.specs.declared.fault.BookFault.TheVariants.{SiteFault, Stopped, SessionFull, NoMemory}
use Rattle.run_promise.specs.declared.end.TheConstants.{MOST_ENTRIES}
use Rattle.unit_book.specs.Book.{BookView, IsBarred, IsUnstored, Refuses}
use Rattle.unit_book.specs.LeavesBook.{TellsRise}
use Rattle.unit_book.specs.Numbers.{EnteredInTurn, EndsReleases, Releases}
use Rattle.std.specs.Prelude.{IfErr}

-- ---- what was added

-- why a release was refused: the site failed, or the run has as many entries as it may
abbrev pub IsRefusedRelease : BookView → Type 0
IsRefusedRelease new = Rose new.opened.faults new.site.faults ⊎ (length (entries_of new.log) ≡ MOST_ENTRIES)

pieces_both : (a b : List Logged) → pieces_of (a ++ b) ≡ pieces_of a ++ pieces_of b
pieces_both [] b = refl
pieces_both (lines.Entry entry ∷ a) b = pieces_both a b
pieces_both (lines.Piece piece ∷ a) b =
    ap (λ (l : List ℕ). piece ++ l) (pieces_both a b) ∙ sym (append_assoc piece (pieces_of a) (pieces_of b))

pieces_same : (log : List Logged) (entry : Entry) → pieces_of (log ++ lines.Entry entry ∷ []) ≡ pieces_of log
pieces_same log entry = pieces_both log (lines.Entry entry ∷ []) ∙ append-nil (pieces_of log)

made_pieces : (made : List Entry) (old mid : BookView) → EnteredInTurn made old mid
    → pieces_of mid.log ≡ pieces_of old.log
made_pieces [] old mid is = ap (λ (b : BookView). pieces_of b.log) is
made_pieces (entry ∷ made) old mid (next, position, one, rest) =
    made_pieces made next mid rest ∙ ap (λ (b : BookView). pieces_of b.log) one.1.is ∙ pieces_same old.log entry

made_all : (made : List Entry) (old mid : BookView) → EnteredInTurn made old mid
    → (entries_of mid.log ≡ entries_of old.log ++ made) × (mid.opened ≡ old.opened)
made_all [] old mid is = (
  ap (λ (b : BookView). entries_of b.log) is ∙ sym (append-nil (entries_of old.log)),
  ap (λ (b : BookView). b.opened) is,
)
made_all (entry ∷ made) old mid (next, position, one, rest) =
    let (entries, opened) = made_all made next mid rest in
    let here : entries_of next.log ≡ entries_of old.log ++ entry ∷ [] =
    ap (λ (b : BookView). entries_of b.log) one.1.is ∙ entries_both old.log (lines.Entry entry ∷ []) in (
      entries ∙ ap (λ (l : List Entry). l ++ made) here ∙ append_assoc (entries_of old.log) (entry ∷ []) made,
      opened ∙ ap (λ (b : BookView). b.opened) one.1.is,
    )

take_front : (xs ys : List Entry) → take (length xs) (xs ++ ys) ≡ xs
take_front xs ys = take_at xs ys (length xs) refl

-- so many of the releases that are due were added, and fewer than all only where one was refused
pub record AreAdded (words : List ℕ) (old new : BookView) : Type 0 where
  pub count : ℕ
  pub entries : entries_of new.log ≡ entries_of old.log ++ take count (releases old.state 0 words)
  pub refused : count < length (releases old.state 0 words) → IsRefusedRelease new

ended : (words : List ℕ) (old mid new : BookView) (made rest : List Entry) (result : Result (Unit {0}) BookFault)
    → made ++ rest ≡ releases old.state 0 words → entries_of mid.log ≡ entries_of old.log ++ made
    → EndsReleases rest mid new result
    → IfErr result (TellsRise new) → AreAdded words old new
ended words old mid new made [] (Ok done) all entries is risen =
    let whole : made ≡ releases old.state 0 words = sym (append-nil made) ∙ all in
    record {
      count = length made;
      entries = ap (λ (b : BookView). entries_of b.log) is ∙ entries
          ∙ ap (λ (l : List Entry). entries_of old.log ++ l)
          (sym (ap (take (length made)) (sym all) ∙ take_front made []));
      refused = λ few. absurd (let s = ap length whole in omega arith);
    }
ended words old mid new made [] (Err fault) all entries is risen = absurd is
ended words old mid new made (entry ∷ rest) (Ok done) all entries is risen = absurd is
ended words old mid new made (entry ∷ rest) (Err fault) all entries is risen = go fault is risen
  where
    same : new ≡ mid → entries_of new.log ≡ entries_of old.log ++ take (length made) (releases old.state 0 words)
    same eq = ap (λ (b : BookView). entries_of b.log) eq ∙ entries
        ∙ ap (λ (l : List Entry). entries_of old.log ++ l)
        (sym (ap (take (length made)) (sym all) ∙ take_front made (entry ∷ rest)))

    left : (e : entries_of new.log ≡ entries_of mid.log ++ entry ∷ [])
        → entries_of new.log ≡ entries_of old.log ++ take (length made + 1) (releases old.state 0 words)
    left e =
        let longer : (made ++ entry ∷ []) ++ rest ≡ releases old.state 0 words =
        append_assoc made (entry ∷ []) rest ∙ all in
        let size : length (made ++ entry ∷ []) ≡ length made + 1 = length-append made (entry ∷ []) in
        e ∙ ap (λ (l : List Entry). l ++ entry ∷ []) entries ∙ append_assoc (entries_of old.log) made (entry ∷ [])
        ∙ ap (λ (l : List Entry). entries_of old.log ++ l)
        (sym (ap (λ (n : ℕ). take n (releases old.state 0 words)) (sym size) ∙ ap (take (length (made ++ entry ∷ [])))
        (sym longer) ∙ take_front (made ++ entry ∷ []) rest))

    unstored : (f : BookFault) → IsUnstored entry mid new f → TellsRise new f → AreAdded words old new
    unstored (SiteFault count) (stored, rose, told, eq) tells = record {
      count = length made + 1;
      entries = left (ap (λ (b : BookView). entries_of b.log) eq ∙ entries_both mid.log (lines.Entry entry ∷ []));
      refused = λ few. inl tells.0;
    }
    unstored (Stopped count) h tells = absurd h
    unstored SessionFull h tells = absurd h
    unstored NoMemory h tells = absurd h

    barred : (f : BookFault) → IsBarred mid f → new ≡ mid → AreAdded words old new
    barred (Stopped count) h eq = record {
      count = length made;
      entries = same eq;
      refused = λ few. inl (subst (λ (b : BookView). Rose b.opened.faults b.site.faults) (sym eq) h.0);
    }
    barred SessionFull h eq = record {
      count = length made;
      entries = same eq;
      refused = λ few. inr (ap (λ (b : BookView). length (entries_of b.log)) eq ∙ h.1);
    }
    barred (SiteFault count) h eq = absurd h
    barred NoMemory h eq = absurd h

    go : (f : BookFault) → Refuses entry mid new f → TellsRise new f → AreAdded words old new
    go f (inl (h, eq)) tells = barred f h eq
    go f (inr (can, h)) tells = unstored f h tells

pub are_added : (words : List ℕ) (old new : BookView) (result : Result (Unit {0}) BookFault)
    → Releases words old new result → IfErr result (TellsRise new) → AreAdded words old new
are_added words old new result r risen =
    ended words old r.mid new r.made r.rest result r.all (made_all r.made old r.mid r.are_made).0 r.ends risen

-- ---- as releases of keys, by the words of their rows

-- each word is at least 1, and stands in the list at its row
pub record AreWords (words : List ℕ) (of : ℕ → ℕ) : Type 0 where
  pub some : (i word : ℕ) → slice_get words i ≡ Some word → 1 ≤ word
  pub at : (i word : ℕ) → slice_get words i ≡ Some word → word ≡ of i

abbrev IsOfRow : (ℕ → ℕ) → State → ℕ → ℕ → Type 0
IsOfRow of state key word = (row : ℕ) × (place_of state.keys key ≡ Some row) × (word ≡ of row)

near_rows : (state : State) (words : List ℕ) (of : ℕ → ℕ) → KeepsRules state → AreWords words of
    → AreNear (IsOfRow of state) state.keys 0 words
near_rows state words of rules are i word held there at =
    let low : i < length state.keys = (let l = slice_get_within state.keys (0 + i) held at in omega arith) in
    let here : get_or state.keys i held ≡ held =
    get_or_from_slice_get state.keys i held held (let e : 0 + i ≡ i = omega arith in
    ap (slice_get state.keys) (sym e) ∙ at) in (
      i,
      ap (λ (row : KeyRow). place_of state.keys row.id) (sym here) ∙ row_placed state.keys i held rules.keys.rules
          low,
      are.at i word there,
    )

get_behind : (xs ys : List Entry) (k : ℕ) → slice_get (xs ++ ys) (length xs + k) ≡ slice_get ys k
get_behind [] ys k = let e : 0 + k ≡ k = omega arith in ap (slice_get ys) e
get_behind (x ∷ xs) ys k = let e : suc (length xs) + k ≡ suc (length xs + k) = omega arith in
    ap (slice_get (x ∷ xs ++ ys)) e ∙ get_behind xs ys k

-- behind the entries of the lanes each is a release
pub are_releases : (start : State) (entries : List Entry) (words : List ℕ) (of : ℕ → ℕ) (count : ℕ)
    → KeepsRules (after_all start entries) → AreWords words of
    → AreReleases of start entries (take count (releases (after_all start entries) 0 words))
are_releases start entries words of count rules are p entry high there =
    let at : slice_get (take count (releases (after_all start entries) 0 words)) (p - length entries) ≡ Some entry =
    (let e : p ≡ length entries + (p - length entries) = omega arith in
    sym (get_behind entries (take count (releases (after_all start entries) 0 words)) (p - length entries))
    ∙ ap (slice_get (entries ++ take count (releases (after_all start entries) 0 words))) (sym e) ∙ there) in
    let r = made_release (IsOfRow of (after_all start entries)) (after_all start entries) words
    (take count (releases (after_all start entries) 0 words))
    (drop count (releases (after_all start entries) 0 words)) rules are.some
    (near_rows (after_all start entries) words of rules are)
    (take-append-drop count (releases (after_all start entries) 0 words)) (p - length entries) entry at in
    let state : after_first start (entries ++ take count (releases (after_all start entries) 0 words)) p
    ≡ after_first (after_all start entries) (take count (releases (after_all start entries) 0 words))
    (p - length entries) =
    (let e : p ≡ length entries + (p - length entries) = omega arith in
    ap (λ (n : ℕ). after_all start (take n (entries ++ take count (releases (after_all start entries) 0 words)))) e
    ∙ ap (after_all start) (take-append-add entries (take count (releases (after_all start entries) 0 words))
    (p - length entries))
    ∙ after_more start entries (take (p - length entries) (take count (releases (after_all start entries) 0 words)))) in
    let (row, place, word_is) = r.is_near in
    record {
      held = r.held;
      row = row;
      row_is = place;
      there = subst (λ (s : State). key_row s r.held.id ≡ Some r.held) (sym state) r.there;
      releases = subst (λ (s : State). release_of s (of row) r.held ≡ Some entry) (sym state)
          (subst (λ (w : ℕ).
          release_of (after_first (after_all start entries) (take count (releases (after_all start entries) 0 words))
          (p - length entries)) w r.held ≡ Some entry) word_is r.releases);
    }

-- a release puts nothing
end_pieces : (rest : List Entry) (mid new : BookView) (result : Result (Unit {0}) BookFault)
    → EndsReleases rest mid new result → pieces_of new.log ≡ pieces_of mid.log
end_pieces [] mid new (Ok done) is = ap (λ (b : BookView). pieces_of b.log) is
end_pieces [] mid new (Err fault) is = absurd is
end_pieces (entry ∷ rest) mid new (Ok done) is = absurd is
end_pieces (entry ∷ rest) mid new (Err fault) (inl (h, eq)) = ap (λ (b : BookView). pieces_of b.log) eq
end_pieces (entry ∷ rest) mid new (Err fault) (inr (can, h)) = go fault h
  where
    go : (f : BookFault) → IsUnstored entry mid new f → pieces_of new.log ≡ pieces_of mid.log
    go (SiteFault count) (stored, rose, told, eq) =
        ap (λ (b : BookView). pieces_of b.log) eq ∙ pieces_same mid.log entry
    go (Stopped count) h = absurd h
    go SessionFull h = absurd h
    go NoMemory h = absurd h

pub released_pieces : (words : List ℕ) (old new : BookView) (result : Result (Unit {0}) BookFault)
    → Releases words old new result → pieces_of new.log ≡ pieces_of old.log
released_pieces words old new result r =
    end_pieces r.rest r.mid new result r.ends ∙ made_pieces r.made old r.mid r.are_made

-- the book that the releases left is the one found, or has more entries
ends_quietly : (rest : List Entry) (mid new : BookView) (result : Result (Unit {0}) BookFault)
    → EndsReleases rest mid new result → (new ≡ mid) ⊎ (length (entries_of mid.log) < length (entries_of new.log))
ends_quietly [] mid new (Ok done) is = inl is
ends_quietly [] mid new (Err fault) is = absurd is
ends_quietly (entry ∷ rest) mid new (Ok done) is = absurd is
ends_quietly (entry ∷ rest) mid new (Err fault) (inl (h, eq)) = inl eq
ends_quietly (entry ∷ rest) mid new (Err fault) (inr (can, h)) = go fault h
  where
    go : (f : BookFault) → IsUnstored entry mid new f → (new ≡ mid)
        ⊎ (length (entries_of mid.log) < length (entries_of new.log))
    go (SiteFault count) (stored, rose, told, eq) = inr (
        let a = ap (λ (b : BookView). length (entries_of b.log)) eq in
        let b = ap length (entries_both mid.log (lines.Entry entry ∷ [])) in
        let c = length-append (entries_of mid.log) (entry ∷ []) in omega arith
        )
    go (Stopped count) h = absurd h
    go SessionFull h = absurd h
    go NoMemory h = absurd h

pub released_quietly : (words : List ℕ) (old new : BookView) (result : Result (Unit {0}) BookFault)
    → Releases words old new result → (new.site.faults ≡ old.site.faults)
    ⊎ (length (entries_of old.log) < length (entries_of new.log))
released_quietly words old new result r = go r.made r.are_made (ends_quietly r.rest r.mid new result r.ends)
  where
    go : (made : List Entry) → EnteredInTurn made old r.mid → (new ≡ r.mid)
        ⊎ (length (entries_of r.mid.log) < length (entries_of new.log))
        → (new.site.faults ≡ old.site.faults) ⊎ (length (entries_of old.log) < length (entries_of new.log))
    go [] is (inl same) = inl (ap (λ (b : BookView). b.site.faults) (same ∙ is))
    go [] is (inr more) = inr (let a = ap (λ (b : BookView). length (entries_of b.log)) is in omega arith)
    go (entry ∷ made) is (inl same) = inr (
        let a = ap length (made_all (entry ∷ made) old r.mid is).0 in
        let b = length-append (entries_of old.log) (entry ∷ made) in
        let c = ap (λ (b : BookView). length (entries_of b.log)) same in omega arith
        )
    go (entry ∷ made) is (inr more) = inr (
        let a = ap length (made_all (entry ∷ made) old r.mid is).0 in
        let b = length-append (entries_of old.log) (entry ∷ made) in omega arith
        )

-- ---- the last entry

-- of no record, with the word of a key that was seen
abbrev IsOfRelease : Entry → Type 0
IsOfRelease entry = (entry.index ≡ None) × ((word : ℕ) × (entry.seen ≡ Word word))

releases_seen : (state : State) (place : ℕ) (words : List ℕ) → All IsOfRelease (releases state place words)
releases_seen state place [] = All-nil IsOfRelease
releases_seen state place (word ∷ words) =
    go (slice_get state.keys place) (λ later next. releases_seen later next words)
  where
    made : (held : KeyRow) (o : Option Entry)
        → ((entry : Entry) → o ≡ Some entry → release_of state word held ≡ Some entry)
        → ((later : State) (next : ℕ) → All IsOfRelease (releases later next words))
        → All IsOfRelease
        (option_map_or (λ (entry : Entry). entry ∷ releases (applied state entry.change) (place + 1) words) o
        (releases state (place + 1) words))
    made held None is rest = rest state (place + 1)
    made held (Some entry) is rest =
        let r = release_entry state word held entry (is entry refl) in
        All-cons IsOfRelease entry (releases (applied state entry.change) (place + 1) words)
        (r.index_is, (word, r.seen_is))
        (rest (applied state entry.change) (place + 1))

    go : (o : Option KeyRow) → ((later : State) (next : ℕ) → All IsOfRelease (releases later next words))
        → All IsOfRelease
        (option_map_or (λ (entry : Entry). entry ∷ releases (applied state entry.change) (place + 1) words)
        (option_and_then (release_of state word) o) (releases state (place + 1) words))
    go None rest = rest state (place + 1)
    go (Some held) rest = made held (release_of state word held) (λ entry is. is) rest

ends_with : (front es : List Entry) → 0 < length es → All IsOfRelease es → EndsWithRelease (front ++ es)
ends_with front [] some all = absurd (omega arith)
ends_with front (entry ∷ []) some all =
    let of = all 0 entry (omega arith) in record {
      before = front;
      last = entry;
      entries_are = refl;
      no_record = of.0;
      word = of.1.0;
      saw = of.1.1;
    }
ends_with front (entry ∷ next ∷ es) some all =
    subst EndsWithRelease (append_assoc front (entry ∷ []) (next ∷ es))
    (ends_with (front ++ entry ∷ []) (next ∷ es) (omega arith) (λ k d low. all (suc k) d (omega arith)))

-- where some of the releases were made, the last entry is one
pub ends_released : (front : List Entry) (count : ℕ) (state : State) (words : List ℕ)
    → 0 < length (take count (releases state 0 words))
    → EndsWithRelease (front ++ take count (releases state 0 words))
ends_released front count state words some =
    ends_with front (take count (releases state 0 words)) some
    (All-take IsOfRelease count (releases state 0 words) (releases_seen state 0 words))

-- where the history was found full, a release was due and not made
full_ends : (words : List ℕ) (old new : BookView) (made rest : List Entry) (mid : BookView)
    (result : Result (Unit {0}) BookFault)
    → made ++ rest ≡ releases old.state 0 words → EndsReleases rest mid new result → result ≡ Err SessionFull
    → (entries_of mid.log ≡ entries_of old.log ++ made)
    → (length (entries_of new.log) ≡ MOST_ENTRIES)
    × (length (entries_of new.log) < length (entries_of old.log) + length (releases old.state 0 words))
full_ends words old new made [] mid (Ok done) all is full entries = absurd (let t = full in cc)
full_ends words old new made [] mid (Err fault) all is full entries = absurd is
full_ends words old new made (entry ∷ rest) mid (Ok done) all is full entries = absurd is
full_ends words old new made (entry ∷ rest) mid (Err fault) all is full entries =
    let f : fault ≡ SessionFull = (let t = full in cc) in
    at (subst (λ (g : BookFault). Refuses entry mid new g) f is)
  where
    at : Refuses entry mid new SessionFull
        → (length (entries_of new.log) ≡ MOST_ENTRIES)
        × (length (entries_of new.log) < length (entries_of old.log) + length (releases old.state 0 words))
    at (inl (h, eq)) = (
      ap (λ (b : BookView). length (entries_of b.log)) eq ∙ h.1,
      (let a = ap length all in let b = length-append made (entry ∷ rest) in
          let c = ap (λ (b : BookView). length (entries_of b.log)) eq in
          let d = ap length entries in let e = length-append (entries_of old.log) made in omega arith),
    )
    at (inr (can, h)) = absurd h

pub released_full : (words : List ℕ) (old new : BookView) (result : Result (Unit {0}) BookFault)
    → Releases words old new result → result ≡ Err SessionFull
    → (length (entries_of new.log) ≡ MOST_ENTRIES)
    × (length (entries_of new.log) < length (entries_of old.log) + length (releases old.state 0 words))
released_full words old new result r full =
    full_ends words old new r.made r.rest r.mid result r.all r.ends full (made_all r.made old r.mid r.are_made).0
