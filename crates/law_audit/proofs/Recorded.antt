-- The answers that the runs of a life sank repeat nothing.
use Rattle.std.proofs.Common.{◌≡◌, ◌≢◌, ◌⊎◌, ℕ, ◌-◌, ◌≤◌, ◌==◌, ◌||◌, nat_lt, if◌then◌else◌, Bool, true, false, List}
use Rattle.std.proofs.Common.{[], ◌∷◌, ◌++◌, length, take, map, inl, inr, refl, sym, ap, ◌∙◌, subst, arith}
use Rattle.std.proofs.Common.{append_assoc}
use Rattle.std.specs.Prelude.{IsTrue}
use Rattle.std.specs.List.{All, AllPairs, filter, list_any, slice_index_or}
use Rattle.std.proofs.lemmas.Bool.Decides.{nat_tests}
use Rattle.std.proofs.lemmas.List.{append-nil}
use Rattle.std.proofs.lemmas.List.Elements.{All-append, All-cons, All-nil, All-head, All-tail, All-map, All-weaker}
use Rattle.std.proofs.lemmas.List.Kept.{AllPairs-cons}
use Rattle.record_io.specs.declared.answers.Answer.{Answer}
use Rattle.record_io.specs.declared.code.TheConstants.{END}
use Rattle.record_io.specs.Answers.{IsAnswer, answer_octets, answers_octets}
use Rattle.record_io.specs.Places.{records_of}
use Rattle.record_io.specs.declared.reader.RecordKind.{RecordKind}
use Rattle.record_io.specs.declared.reader.RecordKind.TheVariants.{Protect, Open, Command, Monitor}
use Rattle.run_promise.specs.Answers.{Uses, Accepts, any_codes, codes_of}
use Rattle.run_promise.specs.History.{NearWord}
use Rattle.law_history.proofs.Codes.{fits_code}
use Rattle.run_promise.specs.Fits.{Course, Fits}
use Rattle.run_promise.specs.Deed.{Deed}
use Rattle.run_promise.specs.Sound.{deeds_octets}
use Rattle.run_promise.specs.Life.{AreEnd, Given, LifeRun, IsRun, FollowFrom, IsLife, OnceInLife, AreApart}
use Rattle.run_promise.specs.Life.{answers_begun, given_of, given_in}
use Rattle.pair_audit.specs.Counted.{CountsAnswers, TellsAlike, TellAlike, counted_of}
use Rattle.record_io.specs.AnswerReading.{IsAnswerCode}
use Rattle.pair_audit.specs.Recording.{RunCounts, RunsCount, ReadsRuns, recording, recording_beginning, runs_octets}
use Rattle.pair_audit.specs.Repeats.{AreUnlike, RepeatNothing}
use Rattle.law_audit.specs.Recorded.{SankFew, sunk_by}
use Rattle.pair_audit.proofs.Pairs.{pairs_head, pairs_tail, pairs_none, pairs_append, all_left, all_right, pairs_left}
use Rattle.pair_audit.proofs.Pairs.{pairs_right, pairs_cross}

-- ---- answers that tell alike

uses_alike : (x y : Answer) (key number : ℕ) → TellsAlike x y → Uses x key number → Uses y key number
uses_alike x y key number e (inl p, k, n) = (inl (sym e.code ∙ p), sym e.key ∙ k, sym e.number ∙ n)
uses_alike x y key number e (inr (c, some), k, n) =
    (inr (sym e.code ∙ c, λ z. some (e.key ∙ z)), sym e.key ∙ k, sym e.number ∙ n)

accepts_alike : (x y : Answer) (key number : ℕ) → TellsAlike x y → Accepts x key number → Accepts y key number
accepts_alike x y key number e (c, k, n) = (sym e.code ∙ c, sym e.key ∙ k, sym e.number ∙ n)

unlike_left : (x y z : Answer) → TellsAlike x y → AreUnlike y z → AreUnlike x z
unlike_left x y z e h (inl (key, number, a, b)) = h (inl (key, number, uses_alike x y key number e a, b))
unlike_left x y z e h (inr (key, number, a, b)) = h (inr (key, number, accepts_alike x y key number e a, b))

unlike_right : (x y z : Answer) → TellsAlike x y → AreUnlike z y → AreUnlike z x
unlike_right x y z e h (inl (key, number, a, b)) = h (inl (key, number, a, uses_alike x y key number e b))
unlike_right x y z e h (inr (key, number, a, b)) = h (inr (key, number, a, accepts_alike x y key number e b))

-- an answer that neither uses nor accepts a number
pub record IsIdle (answer : Answer) : Type 0 where
  pub uses : (key number : ℕ) → Uses answer key number → ⊥
  pub accepts : (key number : ℕ) → Accepts answer key number → ⊥

idle_left : (x z : Answer) → IsIdle x → AreUnlike x z
idle_left x z idle (inl (key, number, a, b)) = idle.uses key number a
idle_left x z idle (inr (key, number, a, b)) = idle.accepts key number a

idle_right : (x z : Answer) → IsIdle x → AreUnlike z x
idle_right x z idle (inl (key, number, a, b)) = idle.uses key number b
idle_right x z idle (inr (key, number, a, b)) = idle.accepts key number b

end_idle : (end : Answer) → end.code ≡ END → IsIdle end
end_idle end is = record { uses = λ key number u. used u.0; accepts = λ key number a. let c = a.0 in omega arith }
  where
    used : (end.code ≡ 0) ⊎ ((end.code ≡ 3) × (end.key ≢ 0)) → ⊥
    used (inl c) = omega arith
    used (inr (c, some)) = omega arith

alike_all : (Q : Answer → Type 0) → ((x y : Answer) → TellsAlike x y → Q y → Q x) → (xs ys : List Answer)
    → TellAlike xs ys → All Q ys → All Q xs
alike_all Q back [] [] e h = All-nil Q
alike_all Q back [] (y ∷ ys) e h = absurd e
alike_all Q back (x ∷ xs) [] e h = absurd e
alike_all Q back (x ∷ xs) (y ∷ ys) e h =
    All-cons Q x xs (back x y e.0 (All-head Q y ys h)) (alike_all Q back xs ys e.1 (All-tail Q y ys h))

alike_pairs : (xs ys : List Answer) → TellAlike xs ys → AllPairs AreUnlike ys → AllPairs AreUnlike xs
alike_pairs [] [] e h = pairs_none AreUnlike
alike_pairs [] (y ∷ ys) e h = absurd e
alike_pairs (x ∷ xs) [] e h = absurd e
alike_pairs (x ∷ xs) (y ∷ ys) e h =
    AllPairs-cons AreUnlike x xs
    (alike_all (AreUnlike x) (λ a b t u. unlike_right a b x t u) xs ys e.1
    (λ k d low. unlike_left x y (slice_index_or ys k d) e.0 (pairs_head AreUnlike y ys h k d low)))
    (alike_pairs xs ys e.1 (pairs_tail AreUnlike y ys h))

-- ---- of the answers of a run those that count

abbrev told : List Deed → List Answer
told deeds = map (λ (d : Deed). d.answer) deeds

front_all : (Q : Answer → Type 0) (es : List Answer) (count : ℕ) → All Q es → All Q (counted_of count es)
front_all Q [] count h = All-nil Q
front_all Q (e ∷ es) count h =
    go (nat_lt count 24) (front_all Q es (count - length (answer_octets e)) (All-tail Q e es h))
  where
    go : (b : Bool) → All Q (counted_of (count - length (answer_octets e)) es)
        → All Q (if b then [] else e ∷ counted_of (count - length (answer_octets e)) es)
    go true rest = All-nil Q
    go false rest = All-cons Q e (counted_of (count - length (answer_octets e)) es) (All-head Q e es h) rest

-- the test of a header passes only where an answer was begun
began : (count : ℕ) → nat_lt count 24 ≡ false → nat_lt 0 count ≡ true
began count test = let least : 24 ≤ count = grind (arith, nat_tests) in grind (arith, nat_tests)

counted_all : (Q : Answer → Type 0) (ds : List Deed) (es : List Answer) (count : ℕ)
    → All (λ (d : Deed). Q d.answer) (answers_begun count ds) → All Q es
    → All Q (counted_of count (told ds ++ es))
counted_all Q [] es count h end = front_all Q es count end
counted_all Q (d ∷ ds) es count h end =
    go (nat_lt count 24) refl (λ later. counted_all Q ds es (count - length (answer_octets d.answer)) later end)
  where
    go : (b : Bool) → nat_lt count 24 ≡ b
        → (All (λ (d : Deed). Q d.answer) (answers_begun (count - length (answer_octets d.answer)) ds)
        → All Q (counted_of (count - length (answer_octets d.answer)) (told ds ++ es)))
        → All Q (if b then [] else d.answer ∷ counted_of (count - length (answer_octets d.answer)) (told ds ++ es))
    go true test rest = All-nil Q
    go false test rest =
        let here : All (λ (d : Deed). Q d.answer) (d ∷ answers_begun (count - length (answer_octets d.answer)) ds) =
        subst (λ (b : Bool). All (λ (d : Deed). Q d.answer) (if b
        then d ∷ answers_begun (count - length (answer_octets d.answer)) ds else [])) (began count test) h in
        All-cons Q d.answer (counted_of (count - length (answer_octets d.answer)) (told ds ++ es))
        (All-head (λ (d : Deed). Q d.answer) d (answers_begun (count - length (answer_octets d.answer)) ds) here)
        (rest (All-tail (λ (d : Deed). Q d.answer) d (answers_begun (count - length (answer_octets d.answer)) ds) here))

abbrev DeedsUnlike : Deed → Deed → Type 0
DeedsUnlike one other = AreUnlike one.answer other.answer

front_pairs : (es : List Answer) (count : ℕ) → All IsIdle es → AllPairs AreUnlike (counted_of count es)
front_pairs [] count h = pairs_none AreUnlike
front_pairs (e ∷ es) count h =
    go (nat_lt count 24) (front_pairs es (count - length (answer_octets e)) (All-tail IsIdle e es h))
  where
    go : (b : Bool) → AllPairs AreUnlike (counted_of (count - length (answer_octets e)) es)
        → AllPairs AreUnlike (if b then [] else e ∷ counted_of (count - length (answer_octets e)) es)
    go true rest = pairs_none AreUnlike
    go false rest = AllPairs-cons AreUnlike e (counted_of (count - length (answer_octets e)) es)
        (λ k d low. idle_left e (slice_index_or (counted_of (count - length (answer_octets e)) es) k d)
        (All-head IsIdle e es h)) rest

counted_pairs : (ds : List Deed) (es : List Answer) (count : ℕ) → AllPairs DeedsUnlike (answers_begun count ds)
    → All IsIdle es
    → AllPairs AreUnlike (counted_of count (told ds ++ es))
counted_pairs [] es count h idle = front_pairs es count idle
counted_pairs (d ∷ ds) es count h idle =
    go (nat_lt count 24) refl (λ later. counted_pairs ds es (count - length (answer_octets d.answer)) later idle)
  where
    go : (b : Bool) → nat_lt count 24 ≡ b
        → (AllPairs DeedsUnlike (answers_begun (count - length (answer_octets d.answer)) ds)
        → AllPairs AreUnlike (counted_of (count - length (answer_octets d.answer)) (told ds ++ es)))
        → AllPairs AreUnlike (if b then []
        else d.answer ∷ counted_of (count - length (answer_octets d.answer)) (told ds ++ es))
    go true test rest = pairs_none AreUnlike
    go false test rest =
        let here : AllPairs DeedsUnlike (d ∷ answers_begun (count - length (answer_octets d.answer)) ds) =
        subst (λ (b : Bool).
        AllPairs DeedsUnlike (if b then d ∷ answers_begun (count - length (answer_octets d.answer)) ds else []))
        (began count test) h in
        AllPairs-cons AreUnlike d.answer (counted_of (count - length (answer_octets d.answer)) (told ds ++ es))
        (counted_all (AreUnlike d.answer) ds es (count - length (answer_octets d.answer))
        (pairs_head DeedsUnlike d (answers_begun (count - length (answer_octets d.answer)) ds) here)
        (λ k e low. idle_right (slice_index_or es k e) d.answer (idle k e low)))
        (rest (pairs_tail DeedsUnlike d (answers_begun (count - length (answer_octets d.answer)) ds) here))

-- ---- the octets that a run sank

octets-append : (xs ys : List Answer) → answers_octets (xs ++ ys) ≡ answers_octets xs ++ answers_octets ys
octets-append [] ys = refl
octets-append (x ∷ xs) ys = ap (λ (l : List ℕ). answer_octets x ++ l) (octets-append xs ys)
    ∙ sym (append_assoc (answer_octets x) (answers_octets xs) (answers_octets ys))

-- what is due, as answers: those of the records, and End
pub record IsDue (run : LifeRun) : Type 0 where
  pub es : List Answer
  pub ends : All (λ (e : Answer). e.code ≡ END) es
  pub answers_are : All IsAnswer (told run.deeds ++ es)
  pub sunk_is : run.sunk ≡ take (length run.sunk) (answers_octets (told run.deeds ++ es))

told_all : (deeds : List Deed) → All (λ (d : Deed). IsAnswer d.answer) deeds → All IsAnswer (told deeds)
told_all deeds h = All-map IsAnswer (λ (d : Deed). d.answer) deeds h

due : (run : LifeRun) → IsRun run → IsDue run
due run is_run = by_end is_run.ended
  where
    front : run.sunk ≡ take (length run.sunk) (deeds_octets run.deeds ++ run.ends)
    front = is_run.moment.front

    by_end : AreEnd run.ends → IsDue run
    by_end (inl none) = record {
      es = [];
      ends = All-nil (λ (e : Answer). e.code ≡ END);
      answers_are = subst (All IsAnswer) (sym (append-nil (told run.deeds))) (told_all run.deeds is_run.sound.widths);
      sunk_is = front ∙ ap (λ (l : List ℕ). take (length run.sunk) (deeds_octets run.deeds ++ l)) none
          ∙ ap (take (length run.sunk)) (append-nil (answers_octets (told run.deeds)))
          ∙ ap (λ (l : List Answer). take (length run.sunk) (answers_octets l)) (sym (append-nil (told run.deeds)));
    }
    by_end (inr (end, is, code, octets)) = record {
      es = end ∷ [];
      ends = All-cons (λ (e : Answer). e.code ≡ END) end [] code (All-nil (λ (e : Answer). e.code ≡ END));
      answers_are = All-append IsAnswer (told run.deeds) (end ∷ []) (told_all run.deeds is_run.sound.widths)
          (All-cons IsAnswer end [] is (All-nil IsAnswer));
      sunk_is = front ∙ ap (λ (l : List ℕ). take (length run.sunk) (deeds_octets run.deeds ++ l))
          (octets ∙ sym (append-nil (answer_octets end)))
          ∙ ap (take (length run.sunk)) (sym (octets-append (told run.deeds) (end ∷ [])));
    }

abbrev pub FrontsCount : Type 0
FrontsCount = (answers : List Answer) → All IsAnswer answers → (count : ℕ) (counted : List Answer)
    → CountsAnswers (take count (answers_octets answers)) counted → TellAlike counted (counted_of count answers)

given_back : (course : Course) (P : Given → Type 0) (ds : List Deed) → All P (given_of course ds)
    → All (λ (d : Deed). P (record { course = course; deed = d })) ds
given_back course P [] h = All-nil (λ (d : Deed). P (record { course = course; deed = d }))
given_back course P (d ∷ ds) h =
    All-cons (λ (d : Deed). P (record { course = course; deed = d })) d ds
    (All-head P (record { course = course; deed = d }) (given_of course ds) h)
    (given_back course P ds (All-tail P (record { course = course; deed = d }) (given_of course ds) h))

abbrev GivenUnlike : Given → Given → Type 0
GivenUnlike one other = AreUnlike one.deed.answer other.deed.answer

given_pairs_back : (course : Course) (ds : List Deed) → AllPairs GivenUnlike (given_of course ds)
    → AllPairs DeedsUnlike ds
given_pairs_back course [] h = pairs_none DeedsUnlike
given_pairs_back course (d ∷ ds) h =
    AllPairs-cons DeedsUnlike d ds
    (given_back course (λ (g : Given). AreUnlike d.answer g.deed.answer) ds
    (pairs_head GivenUnlike (record { course = course; deed = d }) (given_of course ds) h))
    (given_pairs_back course ds (pairs_tail GivenUnlike (record { course = course; deed = d }) (given_of course ds) h))

idle_es : (run : LifeRun) (is : IsDue run) → All IsIdle is.es
idle_es run is = All-weaker (λ (e : Answer). e.code ≡ END) IsIdle end_idle is.es is.ends

module _ (fronts : FrontsCount) where
  own_alike : (run : LifeRun) (is : IsDue run) (own : List Answer) → CountsAnswers run.sunk own
      → TellAlike own (counted_of (length run.sunk) (told run.deeds ++ is.es))
  own_alike run is own counts =
      fronts (told run.deeds ++ is.es) is.answers_are (length run.sunk) own
      (subst (λ (l : List ℕ). CountsAnswers l own) is.sunk_is counts)

  own_all : (Q : Answer → Type 0) → ((x y : Answer) → TellsAlike x y → Q y → Q x) → ((x : Answer) → IsIdle x → Q x)
      → (run : LifeRun) → IsDue run
      → (own : List Answer) → CountsAnswers run.sunk own
      → All (λ (g : Given). Q g.deed.answer) (given_of run.course (answers_begun (length run.sunk) run.deeds))
      → All Q own
  own_all Q back idle run is own counts h =
      alike_all Q back own (counted_of (length run.sunk) (told run.deeds ++ is.es)) (own_alike run is own counts)
      (counted_all Q run.deeds is.es (length run.sunk)
      (given_back run.course (λ (g : Given). Q g.deed.answer) (answers_begun (length run.sunk) run.deeds) h)
      (λ k d low. idle (slice_index_or is.es k d) (idle_es run is k d low)))

  own_pairs : (run : LifeRun) → IsDue run → (own : List Answer) → CountsAnswers run.sunk own
      → AllPairs GivenUnlike (given_of run.course (answers_begun (length run.sunk) run.deeds)) → AllPairs AreUnlike own
  own_pairs run is own counts h =
      alike_pairs own (counted_of (length run.sunk) (told run.deeds ++ is.es)) (own_alike run is own counts)
      (counted_pairs run.deeds is.es (length run.sunk)
      (given_pairs_back run.course (answers_begun (length run.sunk) run.deeds) h) (idle_es run is))

  runs_all : (Q : Answer → Type 0) → ((x y : Answer) → TellsAlike x y → Q y → Q x) → ((x : Answer) → IsIdle x → Q x)
      → (runs : List LifeRun)
      → All IsDue runs → (answers : List Answer) → RunsCount (map (λ (run : LifeRun). run.sunk) runs) answers
      → All (λ (g : Given). Q g.deed.answer) (given_in runs) → All Q answers
  runs_all Q back idle [] are answers none h = subst (All Q) (sym none) (All-nil Q)
  runs_all Q back idle (run ∷ runs) are answers (own, later, counts, rest, is) h =
      subst (All Q) (sym is) (All-append Q own later
      (own_all Q back idle run (All-head IsDue run runs are) own counts.counts
      (all_left (λ (g : Given). Q g.deed.answer) (given_of run.course (answers_begun (length run.sunk) run.deeds))
      (given_in runs) h))
      (runs_all Q back idle runs (All-tail IsDue run runs are) later rest
      (all_right (λ (g : Given). Q g.deed.answer) (given_of run.course (answers_begun (length run.sunk) run.deeds))
      (given_in runs) h)))

  pub runs_pairs : (runs : List LifeRun) → All IsDue runs → (answers : List Answer)
      → RunsCount (map (λ (run : LifeRun). run.sunk) runs) answers
      → AllPairs GivenUnlike (given_in runs) → AllPairs AreUnlike answers
  runs_pairs [] are answers none h = subst (AllPairs AreUnlike) (sym none) (pairs_none AreUnlike)
  runs_pairs (run ∷ runs) are answers (own, later, counts, rest, is) h =
      let new : List Given = given_of run.course (answers_begun (length run.sunk) run.deeds) in
      let cross = pairs_cross GivenUnlike (given_of run.course (answers_begun (length run.sunk) run.deeds))
      (given_in runs) h in
      subst (AllPairs AreUnlike) (sym is) (pairs_append AreUnlike own later
      (own_pairs run (All-head IsDue run runs are) own counts.counts
      (pairs_left GivenUnlike (given_of run.course (answers_begun (length run.sunk) run.deeds)) (given_in runs) h))
      (runs_pairs runs (All-tail IsDue run runs are) later rest
      (pairs_right GivenUnlike (given_of run.course (answers_begun (length run.sunk) run.deeds)) (given_in runs) h))
      (own_all (λ (x : Answer). All (AreUnlike x) later)
      (λ x y e all k d low. unlike_left x y (slice_index_or later k d) e (all k d low))
      (λ x idle k d low. idle_left x (slice_index_or later k d) idle)
      run (All-head IsDue run runs are) own counts.counts
      (λ k g low.
      runs_all (AreUnlike (slice_index_or (given_of run.course (answers_begun (length run.sunk) run.deeds)) k
      g).deed.answer)
      (λ x y e u.
      unlike_right x y (slice_index_or (given_of run.course (answers_begun (length run.sunk) run.deeds)) k
      g).deed.answer e u)
      (λ x idle.
      idle_right x (slice_index_or (given_of run.course (answers_begun (length run.sunk) run.deeds)) k
      g).deed.answer idle)
      runs (All-tail IsDue run runs are) later rest (cross k g low))))

-- ---- the runs of a life that were kept

kept_given : (kept : LifeRun → Bool) (P : Given → Type 0) (runs : List LifeRun) → All P (given_in runs)
    → All P (given_in (filter kept runs))
kept_given kept P [] h = h
kept_given kept P (run ∷ runs) h = go (kept run)
    (kept_given kept P runs (all_right P (given_of run.course (answers_begun (length run.sunk) run.deeds))
    (given_in runs) h))
  where
    go : (b : Bool) → All P (given_in (filter kept runs))
        → All P (given_in (if b then run ∷ filter kept runs else filter kept runs))
    go true rest = All-append P (given_of run.course (answers_begun (length run.sunk) run.deeds))
        (given_in (filter kept runs))
        (all_left P (given_of run.course (answers_begun (length run.sunk) run.deeds)) (given_in runs) h) rest
    go false rest = rest

kept_pairs : (kept : LifeRun → Bool) (R : Given → Given → Type 0) (runs : List LifeRun) → AllPairs R (given_in runs)
    → AllPairs R (given_in (filter kept runs))
kept_pairs kept R [] h = h
kept_pairs kept R (run ∷ runs) h = go (kept run)
    (kept_pairs kept R runs (pairs_right R (given_of run.course (answers_begun (length run.sunk) run.deeds))
    (given_in runs) h))
  where
    go : (b : Bool) → AllPairs R (given_in (filter kept runs))
        → AllPairs R (given_in (if b then run ∷ filter kept runs else filter kept runs))
    go true rest = pairs_append R (given_of run.course (answers_begun (length run.sunk) run.deeds))
        (given_in (filter kept runs))
        (pairs_left R (given_of run.course (answers_begun (length run.sunk) run.deeds)) (given_in runs) h) rest
        (λ k g low.
        kept_given kept (R (slice_index_or (given_of run.course (answers_begun (length run.sunk) run.deeds)) k g))
        runs
        (pairs_cross R (given_of run.course (answers_begun (length run.sunk) run.deeds)) (given_in runs) h k g low))
    go false rest = rest

kept_runs : (kept : LifeRun → Bool) (P : LifeRun → Type 0) (runs : List LifeRun) → All P runs → All P (filter kept runs)
kept_runs kept P [] h = h
kept_runs kept P (run ∷ runs) h = go (kept run) (kept_runs kept P runs (All-tail P run runs h))
  where
    go : (b : Bool) → All P (filter kept runs) → All P (if b then run ∷ filter kept runs else filter kept runs)
    go true rest = All-cons P run (filter kept runs) (All-head P run runs h) rest
    go false rest = rest

follow_due : (image : List ℕ) (runs : List LifeRun) → FollowFrom image runs → All IsDue runs
follow_due image [] follow = All-nil IsDue
follow_due image (run ∷ runs) (start, is, follow) =
    All-cons IsDue run runs (due run is) (follow_due run.image runs follow)

apart_unlike : (one other : Given) → AreApart one other → GivenUnlike one other
apart_unlike one other apart (inl (key, number, a, b)) = apart.by_identifier key number a b
apart_unlike one other apart (inr (key, number, a, b)) = apart.accepted key number a b

-- ---- codes

abbrev AreAnswerCodes : List ℕ → Type 0
AreAnswerCodes [] = Unit {0}
AreAnswerCodes (x ∷ xs) = IsAnswerCode x × AreAnswerCodes xs

equal_by : (n m : ℕ) → (n == m) ≡ true → n ≡ m
equal_by n m is = grind (arith, nat_tests)

code_among : (xs : List ℕ) (code : ℕ) → AreAnswerCodes xs → IsTrue (list_any (λ (own : ℕ). own == code) xs)
    → IsAnswerCode code
code_among [] code all is = absurd (cc)
code_among (x ∷ xs) code all is = go (x == code) refl is (code_among xs code all.1)
  where
    go : (b : Bool) → (x == code) ≡ b → IsTrue (b || list_any (λ (own : ℕ). own == code) xs)
        → (IsTrue (list_any (λ (own : ℕ). own == code) xs) → IsAnswerCode code) → IsAnswerCode code
    go true e is later = subst IsAnswerCode (equal_by x code e) all.0
    go false e is later = later is

any_codes_are : AreAnswerCodes any_codes
any_codes_are = (refl, (refl, (refl, tt)))

codes_are : (kind : RecordKind) → AreAnswerCodes (codes_of kind)
codes_are Protect = (refl, (refl, (refl, (refl, (refl, (refl, any_codes_are))))))
codes_are Open = (refl, (refl, (refl, (refl, (refl, (refl, (refl, (refl, (refl, (refl, any_codes_are))))))))))
codes_are Command = (refl, (refl, any_codes_are))
codes_are Monitor = (refl, (refl, (refl, tt)))

abbrev HasCode : Answer → Type 0
HasCode answer = IsAnswerCode answer.code

-- what is known of a run that was kept
pub record IsKept (run : LifeRun) : Type 0 where
  pub due : IsDue run
  pub codes : All (λ (d : Deed). HasCode d.answer) run.deeds
  pub short : SankFew run

deeds_code : (run : LifeRun) → IsRun run → All (λ (d : Deed). HasCode d.answer) run.deeds
deeds_code run is =
    All-weaker (λ (d : Deed). Fits (NearWord run.course.begin.start run.course.entries (records_of run.places))
    run.course d.task d.answer) (λ (d : Deed). HasCode d.answer)
    (λ d fits. code_among (codes_of d.task.kind) d.answer.code (codes_are d.task.kind)
    (fits_code (NearWord run.course.begin.start run.course.entries (records_of run.places)) run.course d.task d.answer
    fits))
    run.deeds is.sound.answers

follow_kept : (image : List ℕ) (runs : List LifeRun) → FollowFrom image runs → All SankFew runs → All IsKept runs
follow_kept image [] follow few = All-nil IsKept
follow_kept image (run ∷ runs) (start, is, follow) few =
    All-cons IsKept run runs (record {
      due = due run is;
      codes = deeds_code run is;
      short = All-head SankFew run runs few;
    })
    (follow_kept run.image runs follow (All-tail SankFew run runs few))

begun_all : (P : Deed → Type 0) (count : ℕ) (ds : List Deed) → All P ds → All P (answers_begun count ds)
begun_all P count [] h = All-nil P
begun_all P count (d ∷ ds) h =
    go (nat_lt 0 count) (begun_all P (count - length (answer_octets d.answer)) ds (All-tail P d ds h))
  where
    go : (b : Bool) → All P (answers_begun (count - length (answer_octets d.answer)) ds)
        → All P (if b then d ∷ answers_begun (count - length (answer_octets d.answer)) ds else [])
    go true rest = All-cons P d (answers_begun (count - length (answer_octets d.answer)) ds) (All-head P d ds h) rest
    go false rest = All-nil P

abbrev pub FrontsShow : Type 0
FrontsShow = (answers : List Answer) → All IsAnswer answers → (count : ℕ)
    → (counted : List Answer) × CountsAnswers (take count (answers_octets answers)) counted

-- ---- the recording is in order

module _ (shows : FrontsShow) (fronts : FrontsCount) where
  own_codes : (run : LifeRun) → IsKept run → (own : List Answer) → CountsAnswers run.sunk own → All HasCode own
  own_codes run is own counts =
      alike_all HasCode (λ x y e code. subst IsAnswerCode (sym e.code) code) own
      (counted_of (length run.sunk) (told run.deeds ++ is.due.es))
      (own_alike fronts run is.due own counts)
      (counted_all HasCode run.deeds is.due.es (length run.sunk)
      (begun_all (λ (d : Deed). HasCode d.answer) (length run.sunk) run.deeds is.codes)
      (All-weaker (λ (e : Answer). e.code ≡ END) HasCode (λ e code. subst IsAnswerCode (sym code) refl) is.due.es
      is.due.ends))

  run_counts : (run : LifeRun) → IsKept run → (own : List Answer) × RunCounts run.sunk own
  run_counts run is =
      let found = shows (told run.deeds ++ is.due.es) is.due.answers_are (length run.sunk) in
      let counts : CountsAnswers run.sunk found.0 =
      subst (λ (l : List ℕ). CountsAnswers l found.0) (sym is.due.sunk_is) found.1 in
      (found.0, record { short = is.short; counts = counts; known = own_codes run is found.0 counts })

  runs_count : (runs : List LifeRun) → All IsKept runs → (answers : List Answer)
      × RunsCount (map (λ (run : LifeRun). run.sunk) runs) answers
  runs_count [] are = ([], refl)
  runs_count (run ∷ runs) are =
      let own = run_counts run (All-head IsKept run runs are) in
      let later = runs_count runs (All-tail IsKept run runs are) in
      (own.0 ++ later.0, (own.0, later.0, own.1, later.1, refl))

  pub in_order : (image : List ℕ) (runs : List LifeRun) (kept : LifeRun → Bool) → IsLife image runs → All SankFew runs
      → (answers : List Answer) × ReadsRuns (recording (sunk_by kept runs)) (sunk_by kept runs) answers []
  in_order image runs kept life few =
      let found = runs_count (filter kept runs) (kept_runs kept IsKept runs (follow_kept image runs life.follow few)) in (
        found.0,
        record {
          spelled = ap (λ (l : List ℕ). recording_beginning ++ l) (sym (append-nil (runs_octets (sunk_by kept runs))));
          runs_are = found.1;
        },
      )

abbrev pub UsedOnce : Type 0
UsedOnce = (image : List ℕ) (runs : List LifeRun) → IsLife image runs → OnceInLife runs

pub repeats_nothing : FrontsCount → UsedOnce
    → (image : List ℕ) (runs : List LifeRun) (kept : LifeRun → Bool) (answers : List Answer) → IsLife image runs
    → RunsCount (sunk_by kept runs) answers → RepeatNothing answers
repeats_nothing fronts once image runs kept answers life counts =
    runs_pairs fronts (filter kept runs) (kept_runs kept IsDue runs (follow_due image runs life.follow)) answers counts
    (kept_pairs kept GivenUnlike runs (λ i j d lt low.
    apart_unlike (slice_index_or (given_in runs) i d) (slice_index_or (given_in runs) j d)
    (once image runs life i j d lt low)))
