-- Answers that are noted one by one: for `note_all`.
use Rattle.std.proofs.Common.{◌≡◌, ℕ, zero, suc, ◌<◌, ◌≢◌, ◌&&◌, Bool, false, true, IsTrue, List, [], ◌∷◌, ◌++◌, length}
use Rattle.std.proofs.Common.{take, refl, sym, ◌∙◌, ap, arith}
use Rattle.std.specs.Prelude.{map}
use Rattle.std.proofs.Common.{Some, subst}
use Rattle.std.proofs.lemmas.Option.{same_Some}
use Rattle.std.specs.List.{All, slice_get, slice_index_or}
use Rattle.std.proofs.lemmas.List.Elements.{All-head, All-tail, All-cons, All-nil}
use Rattle.fsr_log.specs.Noted.{Noted}
use Rattle.record_io.specs.declared.answers.Answer.{Answer}
use Rattle.record_io.specs.declared.reader.RecordKind.{RecordKind}
use Rattle.record_io.specs.declared.reader.RecordKind.TheVariants.{Protect, Open, Command, Monitor}
use Rattle.record_io.specs.declared.item_cursor.Record.{Record}
use Rattle.run_promise.specs.Deed.{Deed, deed_of, is_monitored, tells_count}
use Rattle.run_promise.specs.Sound.{AreReported, noted_of}
use Rattle.law_workers.specs.Deeds.{deeds_of}

pub deeds_none : (number : ℕ) (records : List Record) → deeds_of number records [] ≡ []
deeds_none number [] = refl
deeds_none number (task ∷ records) = refl

-- one answer more
pub notes_more : (number : ℕ) (records : List Record) (answers : List Answer) (k : ℕ) (task : Record) (answer : Answer)
    → k < length records → k < length answers
    → task ≡ slice_index_or records k task → answer ≡ slice_index_or answers k answer
    → map noted_of (deeds_of number records (take (suc k) answers))
    ≡ map noted_of (deeds_of number records (take k answers)) ++ noted_of (deed_of number task answer) ∷ []
notes_more number [] answers k task answer low few there is = absurd (omega arith)
notes_more number (r ∷ records) [] k task answer low few there is = absurd (omega arith)
notes_more number (r ∷ records) (a ∷ answers) zero task answer low few there is =
    ap (λ (ds : List Deed). noted_of (deed_of number r a) ∷ map noted_of ds) (deeds_none number records)
    ∙ ap (λ (t : Record). noted_of (deed_of number t a) ∷ []) (sym there)
    ∙ ap (λ (x : Answer). noted_of (deed_of number task x) ∷ []) (sym is)
notes_more number (r ∷ records) (a ∷ answers) (suc k) task answer low few there is =
    ap (λ (l : List Noted). noted_of (deed_of number r a) ∷ l)
    (notes_more number records answers k task answer (omega arith) (omega arith) there is)

-- records that are none of monitoring messages have no answer of the log
pub plain_reported : (before : List Noted) (number : ℕ) (records : List Record) (answers : List Answer)
    → All (λ (task : Record). task.kind ≢ Monitor) records → AreReported before (deeds_of number records answers)
plain_reported before number [] answers plain = tt
plain_reported before number (task ∷ records) [] plain = tt
plain_reported before number (task ∷ records) (answer ∷ answers) plain = (
  λ is. absurd (All-head (λ (task : Record). task.kind ≢ Monitor) task records plain is),
  plain_reported (before ++ noted_of (deed_of number task answer) ∷ []) number records answers
      (All-tail (λ (task : Record). task.kind ≢ Monitor) task records plain),
)

-- and none of their answers tells a count
none_told : (kind : RecordKind) (test : Bool) → kind ≢ Monitor → IsTrue (is_monitored kind && test) → ⊥
none_told Protect test other told = (let t : false ≡ true = told in cc)
none_told Open test other told = (let t : false ≡ true = told in cc)
none_told Command test other told = (let t : false ≡ true = told in cc)
none_told Monitor test other told = other refl

pub plain_counts : (number : ℕ) (records : List Record) (answers : List Answer)
    → All (λ (task : Record). task.kind ≢ Monitor) records
    → All (λ (d : Deed). IsTrue (tells_count d) → ⊥) (deeds_of number records answers)
plain_counts number [] answers plain = All-nil (λ (d : Deed). IsTrue (tells_count d) → ⊥)
plain_counts number (task ∷ records) [] plain = All-nil (λ (d : Deed). IsTrue (tells_count d) → ⊥)
plain_counts number (task ∷ records) (answer ∷ answers) plain =
    All-cons (λ (d : Deed). IsTrue (tells_count d) → ⊥) (deed_of number task answer) (deeds_of number records answers)
    (none_told task.kind _ (All-head (λ (task : Record). task.kind ≢ Monitor) task records plain))
    (plain_counts number records answers (All-tail (λ (task : Record). task.kind ≢ Monitor) task records plain))

pub plain_at : (records : List Record) → All (λ (task : Record). task.kind ≢ Monitor) records → (k : ℕ) (task : Record)
    → slice_get records k ≡ Some task → task.kind ≢ Monitor
plain_at [] plain k task there = absurd (let n = there in cc)
plain_at (r ∷ records) plain zero task there =
    subst (λ (t : Record). t.kind ≢ Monitor) (same_Some r task there)
    (All-head (λ (task : Record). task.kind ≢ Monitor) r records plain)
plain_at (r ∷ records) plain (suc k) task there =
    plain_at records (All-tail (λ (task : Record). task.kind ≢ Monitor) r records plain) k task there
