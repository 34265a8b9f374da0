-- Each moment of a run whose answers are settled is sound.
use Rattle.std.proofs.Common.{◌≡◌, ◌⊎◌, ℕ, zero, suc, ◌+◌, ◌-◌, ◌<◌, ◌≤◌, min, List, [], ◌∷◌, ◌++◌, length, take, refl}
use Rattle.std.proofs.Common.{sym, ◌∙◌, ap, subst, inl, inr, arith, append_assoc, length-append}
use Rattle.std.proofs.lemmas.Bool.{cases_lt}
use Rattle.std.proofs.lemmas.List.{take-take, length-take, take-append-le}
use Rattle.sdls_base.specs.declared.entry.Entry.{Entry}
use Rattle.sdls_base.specs.declared.entry.Logged.{Logged}
use Rattle.sdls_base.specs.declared.entry.Logged.TheVariants as lines
use Rattle.record_io.specs.Answers.{answer_octets}
use Rattle.run_promise.specs.Log.{entries_of, pieces_of}
use Rattle.run_promise.specs.Fits.{Course}
use Rattle.unit_book.specs.Book.{Serves}
use Rattle.unit_book.proofs.Serving.{serves_shows}
use Rattle.run_promise.specs.Deed.{Deed}
use Rattle.law_workers.proofs.Logs.{entries_low}
use Rattle.run_promise.specs.Sound.{ShowsAfter, deeds_octets, EachBegun, IsCoveredBy, SoundMoment}
use Rattle.law_runs.specs.AtEnd.{StaysCovered}
use Rattle.law_runs.specs.Settled.{AnswerIsSettled, AreSettled}

-- the pieces of a log, from a place on
pieces_front : (log : List Logged) (place : ℕ) → (rest : List ℕ) × (pieces_of log ≡ pieces_of (take place log) ++ rest)
pieces_front [] zero = ([], refl)
pieces_front [] (suc place) = ([], refl)
pieces_front (line ∷ log) zero = (pieces_of (line ∷ log), refl)
pieces_front (lines.Entry e ∷ log) (suc place) = pieces_front log place
pieces_front (lines.Piece o ∷ log) (suc place) =
    let (rest, is) = pieces_front log place in
    (rest, ap (λ (l : List ℕ). o ++ l) is ∙ sym (append_assoc o (pieces_of (take place log)) rest))

pub pieces_low : (log : List Logged) (p q : ℕ) → p ≤ q → length (pieces_of (take p log))
    ≤ length (pieces_of (take q log))
pieces_low [] zero zero h = omega arith
pieces_low [] zero (suc q) h = omega arith
pieces_low [] (suc p) zero h = absurd (omega arith)
pieces_low [] (suc p) (suc q) h = omega arith
pieces_low (x ∷ log) zero q h = omega arith
pieces_low (x ∷ log) (suc p) zero h = absurd (omega arith)
pieces_low (lines.Entry e ∷ log) (suc p) (suc q) h = pieces_low log p q (omega arith)
pieces_low (lines.Piece o ∷ log) (suc p) (suc q) h =
    let k = pieces_low log p q (omega arith) in
    let a = length-append o (pieces_of (take p log)) in let b = length-append o (pieces_of (take q log)) in omega arith

module _ (course : Course) (stored : ℕ) (log : List Logged) (is : course.entries ≡ entries_of log) (place p total : ℕ)
    (most : total ≤ length (pieces_of (take (place + 1) log)))
    (least : min stored (length (entries_of (take place log))) ≤ p)
    (within : p ≤ length course.entries) where
  -- an answer that was begun at the place is covered by what the image shows there
  one_covered : (at : ℕ) (deed : Deed) → AnswerIsSettled course stored log at deed → 0 < total - at
      → ((s : ℕ) → s ≤ p → IsCoveredBy course s deed → IsCoveredBy course p deed) → IsCoveredBy course p deed
  one_covered at deed s begun stays = stays s.entries (low (cases_lt place s.lines)) s.covered
    where
      low : (place < s.lines) ⊎ (s.lines ≤ place) → s.entries ≤ p
      low (inl lt) = let h = pieces_low log (place + 1) s.lines (omega arith) in let b = s.before in
          absurd (omega arith)
      low (inr ge) = let h = entries_low log s.lines place ge in let a = s.low in let b = s.is_stored in omega arith

  pub covered : (at : ℕ) (deeds : List Deed) → AreSettled course stored log at deeds → StaysCovered course deeds
      → EachBegun (IsCoveredBy course p) (total - at) deeds
  covered at [] h stays = tt
  covered at (deed ∷ deeds) h stays =
      let rest = covered (at + length (answer_octets deed.answer)) deeds h.1
      (λ s q a b k d l. stays s q a b (suc k) d (omega arith)) in (
        λ begun. one_covered at deed h.0 begun (λ s a. stays s p a within 0 deed (omega arith)),
        subst (λ (n : ℕ). EachBegun (IsCoveredBy course p) n deeds) (omega arith) rest,
      )

-- A moment of the book while it serves is a sound moment of the run, where the pieces put are the answers and a front
-- of End.
pub moment_sound : (course : Course) (standing : ℕ) (log : List Logged) (deeds : List Deed)
    (ends start before image sunk sunk_since : List ℕ)
    → course.entries ≡ entries_of log → AreSettled course standing log 0 deeds → StaysCovered course deeds
    → pieces_of log ≡ take (length (pieces_of log)) (deeds_octets deeds ++ ends) → sunk ≡ before ++ sunk_since
    → Serves course.begin.start log standing before image sunk → SoundMoment course deeds ends start image sunk_since
moment_sound course standing log deeds ends start before image sunk since is settled stays put sunk_is m =
    let (p, least, shows) = serves_shows course.begin.start log standing before image sunk m in
    let size : length sunk ≡ length before + length since = ap length sunk_is ∙ length-append before since in
    let whole : length (before ++ pieces_of (take (m.place + 1) log))
    ≡ length before + length (pieces_of (take (m.place + 1) log)) =
    length-append before (pieces_of (take (m.place + 1) log)) in
    let most : length since ≤ length (pieces_of (take (m.place + 1) log)) =
    (let cut : length sunk ≡ min (length sunk) (length (before ++ pieces_of (take (m.place + 1) log))) =
    ap length m.sinks.prefix ∙ length-take (length sunk) (before ++ pieces_of (take (m.place + 1) log)) in
    omega arith) in
    let front : since ≡ take (length since) (pieces_of (take (m.place + 1) log)) =
    behind before since (pieces_of (take (m.place + 1) log)) sunk sunk_is m.sinks.prefix in
    let (rest, split) = pieces_front log (m.place + 1) in
    let inside : since ≡ take (length since) (pieces_of log) =
    front ∙ sym (ap (take (length since)) split ∙ take-append-le (length since) (pieces_of (take (m.place + 1) log))
    rest most) in
    let total : length since ≤ length (pieces_of log) =
    (let n = ap length split ∙ length-append (pieces_of (take (m.place + 1) log)) rest in omega arith) in
    record {
      front = inside ∙ (ap (take (length since)) put ∙ take-take (length since) (length (pieces_of log))
          (deeds_octets deeds ++ ends) total);
      image_shows = inr (record {
        p = p;
        shows = subst (λ (es : List Entry). ShowsAfter course.begin.start es p image) (sym is) shows;
        still_covers = λ q low within. subst (λ (n : ℕ). EachBegun (IsCoveredBy course q) n deeds) (omega arith)
            (covered course standing log is m.place q (length since) most (let l = least in
            omega arith) within 0 deeds settled stays);
      });
    }
  where
    take_more : (a c : List ℕ) (k : ℕ) → take (length a + k) (a ++ c) ≡ a ++ take k c
    take_more [] c k = let e : 0 + k ≡ k = omega arith in ap (λ (n : ℕ). take n c) e
    take_more (x ∷ a) c k = let e : suc (length a) + k ≡ suc (length a + k) = omega arith in
        ap (λ (n : ℕ). take n (x ∷ (a ++ c))) e ∙ ap (λ (l : List ℕ). x ∷ l) (take_more a c k)

    drop_both : (a b c : List ℕ) → a ++ b ≡ a ++ c → b ≡ c
    drop_both [] b c e = e
    drop_both (x ∷ a) b c e = drop_both a b c (let f : x ∷ (a ++ b) ≡ x ∷ (a ++ c) = e in cc)

    behind : (a b c sunk : List ℕ) → sunk ≡ a ++ b → sunk ≡ take (length sunk) (a ++ c) → b ≡ take (length b) c
    behind a b c sunk is cut =
        let n : length sunk ≡ length a + length b = ap length is ∙ length-append a b in
        let both : a ++ b ≡ take (length a + length b) (a ++ c) = sym is ∙ (cut ∙ ap (λ (k : ℕ). take k (a ++ c)) n) in
        drop_both a b (take (length b) c) (both ∙ take_more a c (length b))
