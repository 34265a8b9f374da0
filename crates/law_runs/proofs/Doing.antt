-- One segment more of a run, handled and its answers put; and what is known of the run at its end.
use Rattle.std.proofs.Common.{◌≡◌, ◌≢◌, ◌⊎◌, ℕ, ◌+◌, ◌<◌, ◌≤◌, List, [], ◌++◌, length, refl, sym, ◌∙◌, ap, subst, inl}
use Rattle.std.proofs.Common.{inr, arith, append-nil}
use Rattle.std.specs.List.{AllPairs, Contains}
use Rattle.std.proofs.lemmas.Option.{slice_get_within}
use Rattle.sdls_base.specs.declared.entry.Entry.{Entry}
use Rattle.sdls_base.specs.declared.entry.Logged.{Logged}
use Rattle.sdls_outside.specs.Faults.{Rose}
use Rattle.counter_table.specs.declared.view.View.{View}
use Rattle.counter_table.specs.Numbers.{amount}
use Rattle.counter_table.specs.Whole.{IsWhole, RowStands}
use Rattle.record_io.specs.declared.answers.Answer.{Answer}
use Rattle.record_io.specs.declared.item_cursor.Record.{Record}
use Rattle.record_io.specs.Places.{Place, records_of}
use Rattle.run_promise.specs.History.{IsLegalHistory, TurnIn}
use Rattle.run_promise.specs.Call.{Begin}
use Rattle.law_workers.specs.Views.{log_of, entries_in}
use Rattle.run_promise.specs.Deed.{Deed}
use Rattle.law_workers.specs.Deeds.{Does}
use Rattle.law_workers.specs.Order.{Layout, TakeTurns, Lined}
use Rattle.law_runs.specs.AtEnd.{EndsRun}
use Rattle.law_runs.specs.Release.{AreReleases}
use Rattle.law_runs.proofs.Assembled.{history}
use Rattle.run_promise.specs.Account.{deeds_from}
use Rattle.law_runs.specs.Doing.{HasDone, IsFounded}
use Rattle.law_runs.proofs.Placed.{IsBefore, deeds_ascend, indexed_once, lane_at, lane_there, segment_at, segment_there}

-- ---- the layout of the records themselves

abbrev layout_of : List Place → Layout
layout_of places = record { lane_of = lane_at places; segment_of = segment_at places }

lie_there : (places : List Place) → AllPairs IsBefore places
    → (place : Place) → Contains places place → (lane_at places place.task.index ≡ place.task.lane)
    × (segment_at places place.task.index ≡ place.segment)
lie_there places up place (k, low, is) = (
  subst (λ (p : Place). lane_at places p.task.index ≡ p.task.lane) is (lane_there places up k place low),
  subst (λ (p : Place). segment_at places p.task.index ≡ p.segment) is (segment_there places up k place low),
)

turns_taken : (places : List Place) → AllPairs IsBefore places → (i j : ℕ) → TurnIn places i j
    → (lane_at places i ≡ lane_at places j) ⊎ (segment_at places i ≢ segment_at places j)
turns_taken places up i j (one, other, there, beside, is_one, is_other, how) =
    let a = lie_there places up one there in
    let b = lie_there places up other beside in
    let lane_i : lane_at places i ≡ one.task.lane = ap (lane_at places) (sym is_one) ∙ a.0 in
    let lane_j : lane_at places j ≡ other.task.lane = ap (lane_at places) (sym is_other) ∙ b.0 in
    let segment_i : segment_at places i ≡ one.segment = ap (segment_at places) (sym is_one) ∙ a.1 in
    let segment_j : segment_at places j ≡ other.segment = ap (segment_at places) (sym is_other) ∙ b.1 in
    elim how [
      | inl same ↦ inl (lane_i ∙ same ∙ sym lane_j)
      | inr apart ↦ inr (λ e. apart (sym segment_i ∙ e ∙ segment_j))
    ]

pub lined_by : (in_turn by : ℕ → ℕ → Type 0) (log : List Logged) (made other : List ℕ) (n m k : ℕ)
    → ((i j : ℕ) → by i j → in_turn i j)
    → made ≡ other → n ≡ m → Lined in_turn log made n k → Lined by log other m k
lined_by in_turn by log made other n m k weaker same size lined =
    let moved : Lined in_turn log other n k = subst (λ (l : List ℕ). Lined in_turn log l n k) same lined in
    record {
      in_order = λ x y i j a b is_i is_j lt turn. moved.in_order x y i j a b is_i is_j lt (weaker i j turn);
      few_entries = let f = moved.few_entries in omega arith;
      few_pieces = moved.few_pieces;
    }

pub made_here : (begin : Begin) (first now : View) (tasks : List Record) (deeds : List Deed) → first.turn.made ≡ []
    → (d : Does begin first now tasks deeds)
    → now.turn.made ≡ d.gains.made
made_here begin first now tasks deeds none d = d.gained.made ∙ ap (λ (l : List ℕ). l ++ d.gains.made) none

-- ---- the end of a run, or how far it has come

-- what is known of it with these releases behind
pub ends_run : (begin : Begin) (first now : View) (places : List Place) (answers : List Answer) → IsFounded begin first
    → HasDone begin first now places answers
    → IsWhole begin.rows now → AllPairs IsBefore places → (words : ℕ → ℕ)
    → ((row : ℕ) → row < begin.rows → RowStands row (words row) now.numbers)
    → (releases : List Entry) → AreReleases words begin.start (entries_in now) releases → (faults : ℕ)
    → now.turn.known.faults ≤ faults
    → (Rose now.turn.known.opening.faults now.turn.known.faults → releases ≡ [])
    → EndsRun begin first now places (deeds_from places answers) words releases faults
ends_run begin first now places answers founded done whole up words stand releases are faults fewer stopped =
    let (pieces, lined) = done.lined (layout_of places) (lie_there places up) in
    record {
      rows = founded.rows;
      plan_is = founded.plan_is;
      rules = founded.rules;
      left = founded.left;
      opened = founded.opened;
      does = done.does;
      whole = whole;
      pieces = pieces;
      lined = lined_by (TakeTurns (layout_of places)) (TurnIn places) (log_of now) now.turn.made done.does.gains.made
          _ _ pieces (turns_taken places up)
          (made_here begin first now (records_of places) (deeds_from places answers) done.none_made done.does) refl
          lined;
      once = λ index. indexed_once index places up;
      ascend = deeds_ascend places answers up;
      words_are = stand;
      releases_are = are;
      fewer = fewer;
      stopped = stopped;
    }

-- so far it is a legal history, without releases
pub legal_so_far : (begin : Begin) (first now : View) (places : List Place) (answers : List Answer)
    → IsFounded begin first → HasDone begin first now places answers
    → IsWhole begin.rows now → AllPairs IsBefore places
    → IsLegalHistory begin.plan begin.start places (entries_in now ++ [])
legal_so_far begin first now places answers founded done whole up =
    let words : ℕ → ℕ = λ row. 1 + amount row now.numbers.added in
    let e = ends_run begin first now places answers founded done whole up (λ row. 1 + amount row now.numbers.added)
    (λ row low. let (next, stand) = whole.rows row low in
    subst (λ (n : ℕ). RowStands row n now.numbers) stand.grown stand)
    [] (λ p entry high there. absurd (
    let low = slice_get_within (entries_in now ++ []) p entry there in
    let size = ap length (append-nil (entries_in now)) in omega arith))
    now.turn.known.faults (omega arith) (λ rose. refl) in
    history begin first now places (deeds_from places answers) e.opened e.does e.whole e.rows e.plan_is e.rules e.left
    words e.words_are [] e.releases_are
    e.pieces e.lined e.once e.ascend now.turn.known.faults e.fewer e.stopped
