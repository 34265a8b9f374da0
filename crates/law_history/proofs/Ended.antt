-- Releases behind a legal history.
use Rattle.std.proofs.Common.{◌≡◌, ℕ, zero, suc, ◌+◌, ◌-◌, ◌<◌, ◌≤◌, List, [], ◌∷◌, ◌++◌, length, take, Some, refl, sym}
use Rattle.std.proofs.Common.{◌∙◌, ap, subst, ⊎_elim, arith, length-append}
use Rattle.std.specs.List.{slice_get}
use Rattle.std.proofs.lemmas.Bool.{cases_lt}
use Rattle.std.proofs.lemmas.List.{append-nil, take_all, take_at}
use Rattle.std.proofs.lemmas.Option.{none-some}
use Rattle.sdls_base.specs.declared.entry.Entry.{Entry}
use Rattle.unit_plan.specs.PlanLines.{PlanLines}
use Rattle.unit_state.specs.declared.state.State.{State}
use Rattle.unit_state.specs.Applied.{applied}
use Rattle.unit_state.specs.History.{after_all, after_first}
use Rattle.record_io.specs.declared.item_cursor.Record.{Record}
use Rattle.run_promise.specs.History.{IsLegal, IsRelease, drawers, reserves_of, NearWord, LegalRun}
use Rattle.law_history.proofs.Legal.{legal_wider, release_wider}
use Rattle.law_history.proofs.Marks.{release_entry}
use Rattle.law_history.proofs.GoingOn.{get_front, first_stays, near_more}

-- ---- lists

get_back : {X : Type 0} (xs ys : List X) (k : ℕ) → length xs ≤ k → slice_get (xs ++ ys) k ≡ slice_get ys (k - length xs)
get_back {X} [] ys k high = let same : k ≡ k - 0 = omega arith in ap (λ (n : ℕ). slice_get ys n) same
get_back {X} (x ∷ xs) ys zero high = absurd (omega arith)
get_back {X} (x ∷ xs) ys (suc k) high =
    let same : k - length xs ≡ suc k - length (x ∷ xs) = omega arith in
    get_back xs ys k (omega arith) ∙ ap (λ (n : ℕ). slice_get ys n) same

first_behind : (start : State) (entries more : List Entry) (p : ℕ) → length entries ≤ p
    → after_first start (entries ++ more) p ≡ after_first (after_all start entries) more (p - length entries)
first_behind start [] more p high = let same : p ≡ p - 0 = omega arith in ap (λ (n : ℕ). after_first start more n) same
first_behind start (entry ∷ entries) more zero high = absurd (omega arith)
first_behind start (entry ∷ entries) more (suc p) high =
    let same : p - length entries ≡ suc p - length (entry ∷ entries) = omega arith in
    first_behind (applied start entry.change) entries more p (omega arith)
    ∙ ap (λ (n : ℕ). after_first (after_all start (entry ∷ entries)) more n) same

pub near_later : (start : State) (entries more : List Entry) (records : List Record) (key word : ℕ)
    → NearWord start entries records key word
    → NearWord start (entries ++ more) records key word
near_later start entries more records key word near =
    subst (λ (tasks : List Record). NearWord start (entries ++ more) tasks key word) (append-nil records)
    (near_more start entries more records [] key word near)

-- ---- a run and its releases

module _ (plan : PlanLines) (start : State) (records : List Record) (in_turn : ℕ → ℕ → Type 0)
    (entries more : List Entry)
    (run : LegalRun plan start records in_turn entries) (all : run.ends ≡ length entries)
    (released : (p : ℕ) (entry : Entry) → slice_get more p ≡ Some entry
    → IsRelease (NearWord start entries records) (after_first (after_all start entries) more p) entry) where
  front_legal : (p : ℕ) (entry : Entry) → p < length entries → slice_get (entries ++ more) p ≡ Some entry
      → IsLegal (NearWord start (entries ++ more) records) plan (after_first start (entries ++ more) p) records entry
  front_legal p entry low there =
      let before : p < run.ends = omega arith in
      let low_too : p ≤ length entries = omega arith in
      subst (λ (s : State). IsLegal (NearWord start (entries ++ more) records) plan s records entry)
      (sym (first_stays start entries more p low_too))
      (legal_wider (NearWord start entries records) (NearWord start (entries ++ more) records)
      (near_later start entries more records)
      plan (after_first start entries p) records entry
      (run.each p entry before (sym (get_front entries more p low) ∙ there)))

  back_released : (p : ℕ) (entry : Entry) → length entries ≤ p → slice_get (entries ++ more) p ≡ Some entry
      → IsRelease (NearWord start (entries ++ more) records) (after_first start (entries ++ more) p) entry
  back_released p entry high there =
      subst (λ (s : State). IsRelease (NearWord start (entries ++ more) records) s entry)
      (sym (first_behind start entries more p high))
      (release_wider (NearWord start entries records) (NearWord start (entries ++ more) records)
      (near_later start entries more records)
      (after_first (after_all start entries) more (p - length entries)) entry
      (released (p - length entries) entry (sym (get_back entries more p high) ∙ there)))

  -- an entry of a record is none of the releases
  of_record : (p index : ℕ) (entry : Entry) → slice_get (entries ++ more) p ≡ Some entry → entry.index ≡ Some index
      → p < length entries
  of_record p index entry there own =
      ⊎_elim (λ (low : p < length entries). low)
      (λ (high : length entries ≤ p).
      let release = back_released p entry high there in
      absurd (none-some index (sym (release_entry (after_first start (entries ++ more) p) release.word release.held
      entry release.releases).index_is ∙ own)))
      (cases_lt p (length entries))

  in_front : (p index : ℕ) (entry : Entry) → slice_get (entries ++ more) p ≡ Some entry → entry.index ≡ Some index
      → slice_get entries p ≡ Some entry
  in_front p index entry there own = sym (get_front entries more p (of_record p index entry there own)) ∙ there

  -- a legal run without releases, with releases behind it, is a legal run
  pub run_ended : LegalRun plan start records in_turn (entries ++ more)
  run_ended = record {
    ends = length entries;
    within = (let size = length-append entries more in omega arith);
    each = λ p entry low there. front_legal p entry low there;
    releases = λ p entry high there. back_released p entry high there;
    once = λ p q a b index less one other own_a own_b.
        run.once p q a b index less (in_front p index a one own_a) (in_front q index b other own_b) own_a own_b;
    few_entries = subst (λ (n : ℕ). n ≤ length records + drawers records) all run.few_entries;
    few_reserves =
        (let whole : take run.ends entries ≡ entries =
        ap (λ (n : ℕ). take n entries) all ∙ take_all (length entries) entries (omega arith) in
        let front : take (length entries) (entries ++ more) ≡ entries = take_at entries more (length entries) refl in
        subst (λ (es : List Entry). reserves_of es ≤ drawers records) (whole ∙ sym front) run.few_reserves);
    in_order = λ p q i j a b one other own_a own_b less turn.
        run.in_order p q i j a b (in_front p i a one own_a) (in_front q j b other own_b) own_a own_b less turn;
  }
