-- Where records whose numbers ascend lie: for `serve`.
use Rattle.std.proofs.Common.{◌≡◌, ℕ, zero, suc, ◌<◌, ◌==◌, eqb, Bool, true, false, List, [], ◌∷◌, length, cond, refl}
use Rattle.std.proofs.Common.{◌∙◌, ap, subst, arith}
use Rattle.std.specs.List.{slice_index_or}
use Rattle.std.proofs.lemmas.Bool.Decides.{nat_tests}
use Rattle.record_io.specs.declared.item_cursor.Record.{Record}
use Rattle.law_workers.specs.Deeds.{Ascend}
use Rattle.law_workers.specs.Order.{Layout, LiesIn}

abbrev lane_in : List Record → ℕ → ℕ
lane_in [] index = 0
lane_in (task ∷ tasks) index = cond (task.index == index) task.lane (lane_in tasks index)

-- each record of one segment with its own lane
abbrev pub own_layout : ℕ → List Record → Layout
own_layout number tasks = record { lane_of = lane_in tasks; segment_of = λ index. number }

lane_there : (tasks : List Record) → Ascend tasks → (k : ℕ) (d : Record) → k < length tasks
    → lane_in tasks (slice_index_or tasks k d).index ≡ (slice_index_or tasks k d).lane
lane_there [] up k d low = absurd (omega arith)
lane_there (task ∷ tasks) up zero d low =
    let t : eqb task.index task.index ≡ true = grind (arith, nat_tests) in
    ap (λ (b : Bool). cond b task.lane (lane_in tasks task.index)) t
lane_there (task ∷ tasks) up (suc k) d low =
    let l : task.index < (slice_index_or tasks k d).index = up zero (suc k) d (omega arith) low in
    let f : eqb task.index (slice_index_or tasks k d).index ≡ false = grind (arith, nat_tests) in
    ap (λ (b : Bool). cond b task.lane (lane_in tasks (slice_index_or tasks k d).index)) f
    ∙ lane_there tasks (λ i j e lt inside. up (suc i) (suc j) e (omega arith) (omega arith)) k d (omega arith)

pub own_lies : (number : ℕ) (tasks : List Record) → Ascend tasks → LiesIn (own_layout number tasks) number tasks
own_lies number tasks up task (k, low, is) =
    (subst (λ (t : Record). lane_in tasks t.index ≡ t.lane) is (lane_there tasks up k task low), refl)
