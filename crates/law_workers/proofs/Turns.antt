-- Records that one worker served in turn: none, and some behind others.
use Rattle.std.proofs.Common.{◌≡◌, ◌⊎◌, ℕ, zero, suc, ◌+◌, ◌-◌, ◌^◌, ◌<◌, ◌≤◌, min, Bool, IsTrue, List, [], ◌∷◌, ◌++◌}
use Rattle.std.proofs.Common.{length, take, refl, sym, ◌∙◌, ap, subst, inl, inr, arith, append_assoc, append-nil}
use Rattle.std.proofs.Common.{length-append}
use Rattle.std.proofs.lemmas.Bool.{cases_lt}
use Rattle.std.proofs.lemmas.List.{take_all}
use Rattle.sdls_base.specs.Numbers.{tally}
use Rattle.sdls_base.specs.declared.entry.Entry.{Entry}
use Rattle.counter_table.specs.declared.view.Opening.{Opening}
use Rattle.counter_table.specs.declared.view.View.{View}
use Rattle.sdls_outside.specs.Faults.{Rose}
use Rattle.counter_table.specs.Known.{Earlier}
use Rattle.counter_table.specs.Turn.{epoch_seen, stands}
use Rattle.unit_state.specs.History.{after_all, epoch_after}
use Rattle.unit_state.proofs.Histories.{after_more}
use Rattle.run_promise.specs.Call.{Begin}
use Rattle.run_promise.specs.Numbers.{mark_of}
use Rattle.law_workers.specs.Views.{KnowsMore, IsRow, log_of, entries_in}
use Rattle.run_promise.specs.Deed.{Deed}
use Rattle.law_workers.proofs.Histories.{row_kept}
use Rattle.law_workers.proofs.Logs.{stands_both, times_both}
use Rattle.law_workers.proofs.Working.{grown_entries}
use Rattle.run_promise.specs.Words.{Move}
use Rattle.run_promise.specs.OneLane.{ServesAll, failed_after, has_failed}
use Rattle.law_workers.specs.InTurn.{MadeAllLines, IsClean, IsLevel, AllStand, stood_in, AreOf, IsBacked, ServedBetween}
use Rattle.law_workers.specs.InTurn.{ServedInTurn}

either : (a b : ℕ) → 0 < a + b → (0 < a) ⊎ (0 < b)
either zero b h = inr (omega arith)
either (suc a) b h = inl (omega arith)

pub log_low : (v w : View) → KnowsMore v w → length (log_of v) ≤ length (log_of w)
log_low v w grows =
    let s : length (log_of w) ≡ length (log_of v ++ grows.earlier.log.0) = ap length grows.earlier.log.1 in
    let t = length-append (log_of v) grows.earlier.log.0 in omega arith

-- what has risen had risen since
risen_on : (before now later : ℕ) → now ≤ later → Rose before now → Rose before later
risen_on before now later low rose = omega arith

pub clean_on : (v w : View) → Earlier v.turn.known w.turn.known → w.turn.known.opening ≡ v.turn.known.opening
    → IsClean w → IsClean v
clean_on v w earlier opening clean risen =
    clean (subst (λ (o : Opening). Rose o.faults w.turn.known.faults) (sym opening)
    (risen_on v.turn.known.opening.faults v.turn.known.faults w.turn.known.faults earlier.faults risen))

pub clean_before : (v w : View) → KnowsMore v w → IsClean w → IsClean v
clean_before v w grows clean = clean_on v w grows.earlier grows.opening clean

-- ---- the entries that stand

pub rose_or_not : (before now : ℕ) → Rose before now ⊎ (¬ Rose before now)
rose_or_not before now = elim (cases_lt now (min (before + 1) (2 ^ 64 - 1))) [
  | inl less ↦ inr (λ rose. omega arith)
  | inr rose ↦ inl rose
]

-- of the entries of a view those stand that stood: no fewer, and no more once the site had failed
pub stood_is : (v : View) (n : ℕ) → IsLevel v → v.turn.known.standing ≤ n
    → (Rose v.turn.known.opening.faults v.turn.known.faults → n ≡ v.turn.known.standing)
    → take n (entries_in v) ≡ stood_in v
stood_is v n level low risen = elim (rose_or_not v.turn.known.opening.faults v.turn.known.faults) [
  | inl rose ↦ ap (λ (k : ℕ). take k (entries_in v)) (risen rose)
  | inr clean ↦
      let all : length (entries_in v) ≤ v.turn.known.standing = level.all clean in
      take_all n (entries_in v) (omega arith) ∙ sym (take_all v.turn.known.standing (entries_in v) all)
]

pub all_stood : (v : View) → AllStand v → stood_in v ≡ entries_in v
all_stood v all = take_all v.turn.known.standing (entries_in v) all

-- they stay so while no entry is made
module _ (v w : View) (earlier : Earlier v.turn.known w.turn.known)
    (opening : w.turn.known.opening ≡ v.turn.known.opening)
    (same : entries_in w ≡ entries_in v) where
  pub stood_on : IsLevel v → stood_in w ≡ stood_in v
  stood_on level = ap (take w.turn.known.standing) same
      ∙ stood_is v w.turn.known.standing level earlier.standing
      (λ rose. earlier.stood (subst (λ (o : Opening). Rose o.faults v.turn.known.faults) (sym opening) rose))

  pub all_on : AllStand v → AllStand w
  all_on all = let size = ap length same in let low = earlier.standing in omega arith

  pub level_on : epoch_seen v.turn ≤ epoch_seen w.turn → IsLevel v → IsLevel w
  level_on epochs level = record {
    few = let size = ap length same in let low = earlier.standing in let few = level.few in omega arith;
    all = λ clean. all_on (level.all (clean_on v w earlier opening clean));
    epoch = let counted = ap epoch_after (stood_on level) in let low = level.epoch in omega arith;
  }

-- what stands in a longer log begins with what stood
front_more : {X : Type 0} (xs ys : List X) (m n : ℕ) → m ≤ n → (own : List X) × (take n (xs ++ ys) ≡ take m xs ++ own)
front_more {X} [] ys zero n low = (take n ys, refl)
front_more {X} [] ys (suc m) n low = (take n ys, refl)
front_more {X} (x ∷ xs) ys zero n low = (take n (x ∷ (xs ++ ys)), refl)
front_more {X} (x ∷ xs) ys (suc m) zero low = absurd (omega arith)
front_more {X} (x ∷ xs) ys (suc m) (suc n) low = let (own, is) = front_more xs ys m n (omega arith) in
    (own, ap (λ (l : List X). x ∷ l) is)

pub stood_more : (v w : View) → v.turn.known.standing ≤ w.turn.known.standing → (more : List Entry)
    → entries_in w ≡ entries_in v ++ more
    → (own : List Entry) × (stood_in w ≡ stood_in v ++ own)
stood_more v w low more is =
    let (own, same) = front_more (entries_in v) more v.turn.known.standing w.turn.known.standing low in
    (own, ap (take w.turn.known.standing) is ∙ same)

pub row_on : (begin : Begin) (v w : View) → KnowsMore v w → (key row : ℕ) → IsRow begin v key row
    → IsRow begin w key row
row_on begin v w grows key row h =
    let (rest, is) = grown_entries v w grows in
    rw (is, after_more begin.start (entries_in v) rest) (row_kept (after_all begin.start (entries_in v)) rest key row h)

-- of the places behind a log, those before a later one were made by who made those before it
pub made_first : (u v w : View) (m n : List ℕ) → KnowsMore v w
    → ((place : ℕ) → 0 < stands place n → length (log_of v) ≤ place) → MadeAllLines u w (m ++ n)
    → MadeAllLines u v m
made_first u v w m n grows above all place low high =
    let h = all place low (let l = log_low v w grows in omega arith) in
    let s = stands_both place m n in
    elim (either (stands place m) (stands place n) (omega arith)) [
      | inl here ↦ here
      | inr there ↦
          absurd (let a = above place there in omega arith)
    ]

pub made_rest : (u v w : View) (m n : List ℕ) → KnowsMore u v
    → ((place : ℕ) → 0 < stands place m → place < length (log_of v)) → MadeAllLines u w (m ++ n)
    → MadeAllLines v w n
made_rest u v w m n grows below all place low high =
    let h = all place (let l = log_low u v grows in omega arith) high in
    let s = stands_both place m n in
    elim (either (stands place m) (stands place n) (omega arith)) [
      | inl here ↦
          absurd (let b = below place here in omega arith)
      | inr there ↦ there
    ]

pub failed_both : (failed : Bool) (ds es : List Deed) → failed_after failed (ds ++ es)
    ≡ failed_after (failed_after failed ds) es
failed_both failed [] es = refl
failed_both failed (d ∷ ds) es = failed_both (has_failed failed d.answer) ds es

pub serves_both : (begin : Begin) (failed : Bool) (history : List Entry) (ds es : List Deed) (a b : List Move)
    (own more : List Entry)
    → ServesAll begin failed history ds a own → ServesAll begin (failed_after failed ds) (history ++ own) es b more
    → ServesAll begin failed history (ds ++ es) (a ++ b) (own ++ more)
serves_both begin failed history [] es [] b own more h k =
    subst (λ (l : List Entry). ServesAll begin failed history es b (l ++ more)) (sym h)
    (subst (λ (l : List Entry). ServesAll begin failed l es b more) (append-nil history)
    (subst (λ (l : List Entry). ServesAll begin failed (history ++ l) es b more) h k))
serves_both begin failed history [] es (m ∷ a) b own more h k = absurd h
serves_both begin failed history (d ∷ ds) es [] b own more h k = absurd h
serves_both begin failed history (d ∷ ds) es (m ∷ a) b own more (first, rest, is, one, counts, all) k = (
  first,
  rest ++ more,
  ap (λ (l : List Entry). l ++ more) is ∙ append_assoc first rest more,
  one,
  counts,
  serves_both begin (has_failed failed d.answer) (history ++ first) ds es a b rest more all
      (subst (λ (l : List Entry). ServesAll begin (failed_after failed (d ∷ ds)) l es b more)
      (ap (λ (l : List Entry). history ++ l) is ∙ sym (append_assoc history first rest)) k),
)

-- what is backed of a list that has more
pub backed_of : (begin : Begin) (v : View) (s t : List (ℕ × ℕ)) → AreOf s t → IsBacked begin v t → IsBacked begin v s
backed_of begin v s t of h = record {
  marks = λ key row number low is in'. h.marks key row number low is (of row number in');
  epoch = h.epoch;
}

pub of_front : (s t : List (ℕ × ℕ)) → AreOf s (s ++ t)
of_front s t row number in' = let b = times_both row number s t in omega arith

pub of_back : (s t : List (ℕ × ℕ)) → AreOf t (s ++ t)
of_back s t row number in' = let b = times_both row number s t in omega arith

-- what is backed where the same entries stand, of a view that saw no less
pub backed_on : (begin : Begin) (v w : View) (numbers : List (ℕ × ℕ))
    → ((key row : ℕ) → IsRow begin v key row → IsRow begin w key row)
    → stood_in w ≡ stood_in v → epoch_seen v.turn ≤ epoch_seen w.turn → IsBacked begin w numbers
    → IsBacked begin v numbers
backed_on begin v w numbers rows same epochs h = record {
  marks = λ key row number low is in'.
      subst (λ (l : List Entry). number < mark_of (after_all begin.start l) key) same
      (h.marks key row number low (rows key row is) in');
  epoch = let counted = ap epoch_after same in let low = h.epoch in omega arith;
}

-- some behind others
pub between_then : (begin : Begin) (u v w : View) (m n : List ℕ) (s t : List (ℕ × ℕ)) (ds es : List Deed)
    (a b last : List Move) → KnowsMore u v → KnowsMore v w
    → ((place : ℕ) → 0 < stands place m → place < length (log_of v))
    → ((place : ℕ) → 0 < stands place n → length (log_of v) ≤ place)
    → ServedBetween begin u v m s ds a [] → ServedBetween begin v w n t es b last
    → (MadeAllLines v w n → IsLevel v → IsBacked begin w (s ++ t) → IsBacked begin v s)
    → ServedBetween begin u w (m ++ n) (s ++ t) (ds ++ es) (a ++ b) last
between_then begin u v w m n s t ds es a b last low high below above x y back = record {
  spent_is = y.spent_is ∙ (ap (λ (l : List (ℕ × ℕ)). l ++ t) x.spent_is ∙ append_assoc u.numbers.spent s t);
  level = λ level. y.level (x.level level);
  served = λ all level backed.
      let all_rest = made_rest u v w m n low below all in
      let (own, none, all_is, one, left) =
      x.served (made_first u v w m n high above all) level (back all_rest (x.level level) backed) in
      let own_is : stood_in v ≡ stood_in u ++ own =
      all_is ∙ ap (λ (l : List Entry). stood_in u ++ (own ++ l)) (left.0 refl)
      ∙ ap (λ (l : List Entry). stood_in u ++ l) (append-nil own) in
      let (more, rest, more_is, two, behind) =
      y.served all_rest (x.level level) (backed_of begin w t (s ++ t) (of_back s t) backed) in (
        own ++ more,
        rest,
        more_is ∙ (ap (λ (l : List Entry). l ++ (more ++ rest)) own_is ∙ append_assoc (stood_in u) own (more ++ rest))
            ∙ ap (λ (l : List Entry). stood_in u ++ l) (sym (append_assoc own more rest)),
        λ failed tells.
            let (first, told) = one failed tells in
            let (second, last_told) = two (failed_after failed ds) told in (
              serves_both begin failed (stood_in u) ds es a b own more first
                  (subst (λ (l : List Entry). ServesAll begin (failed_after failed ds) l es b more) own_is second),
              λ not. subst IsTrue (sym (failed_both failed ds es)) (last_told not),
            ),
        behind,
      );
}

pub in_turn_then : (begin : Begin) (u v w : View) (m n : List ℕ) (s t : List (ℕ × ℕ)) (ds es : List Deed)
    (a b last : List Move) → KnowsMore u v → KnowsMore v w
    → ((place : ℕ) → 0 < stands place m → place < length (log_of v))
    → ServedInTurn begin u v m s ds a [] → ServedInTurn begin v w n t es b last
    → ServedInTurn begin u w (m ++ n) (s ++ t) (ds ++ es) (a ++ b) last
in_turn_then begin u v w m n s t ds es a b last low high below x y = record {
  above = λ place in'.
      let q = stands_both place m n in
      elim (either (stands place m) (stands place n) (omega arith)) [
        | inl here ↦ x.above place here
        | inr there ↦ let r = y.above place there in let l = log_low u v low in omega arith
      ];
  backed = λ all level numbers of h.
      x.backed (made_first u v w m n high y.above all) level numbers of
      (y.backed (made_rest u v w m n low below all) (x.between.level level) numbers
      (λ row number in'. in_both row number (of row number in')) h);
  between = between_then begin u v w m n s t ds es a b last low high below y.above x.between y.between
      (λ all level h. y.backed all level s in_rest (backed_of begin w s (s ++ t) (of_front s t) h));
} where
  in_both : AreOf u.numbers.spent v.numbers.spent
  in_both row number h =
      let b = times_both row number u.numbers.spent s in
      subst (λ (l : List (ℕ × ℕ)). 0 < tally row number l) (sym x.between.spent_is) (omega arith)

  in_rest : AreOf s v.numbers.spent
  in_rest row number h =
      let b = times_both row number u.numbers.spent s in
      subst (λ (l : List (ℕ × ℕ)). 0 < tally row number l) (sym x.between.spent_is) (omega arith)

-- nothing was done
pub in_turn_nothing : (begin : Begin) (v : View) → ServedInTurn begin v v [] [] [] [] []
in_turn_nothing begin v = record {
  above = λ place in'. absurd (omega arith);
  backed = λ all level numbers of h. h;
  between = record {
    spent_is = sym (append-nil v.numbers.spent);
    level = λ level. level;
    served = λ all level backed. (
      [],
      [],
      sym (append-nil (stood_in v)),
      λ failed tells. (refl, tells),
      (λ none. refl, inl refl),
    );
  };
}
