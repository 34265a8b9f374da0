-- What a look after a join tells of the two workers.
use Rattle.std.proofs.Common.{◌≡◌, max, Bool, ◌||◌, true, false, length, ◌∙◌, ap, subst, arith, if◌then◌else◌}
use Rattle.counter_table.specs.declared.view.Known.{Known}
use Rattle.counter_table.specs.declared.view.Turn.{Turn}
use Rattle.counter_table.specs.Known.{later}
use Rattle.counter_table.specs.Turn.{merged}
use Rattle.counter_table.specs.Whole.{Look, Meet}
use Rattle.counter_table.proofs.Knowing.{earlier_between, longer_length, stands-append}

pub meets : (v w z : Turn) → z ≡ merged v w → v.holds ≡ false → v.filled ≡ true → Look z → Meet v w
meets v w z is free filled looks' =
    let looks : Look (merged v w) = subst Look is looks' in
    let known : (merged v w).known ≡ later v.known.opening v.known w.known =
    ap (λ (h : Bool). if h then v.known
    else later (if v.filled then v.known.opening else w.known.opening) v.known w.known) free
    ∙ ap (λ (f : Bool). later (if f then v.known.opening else w.known.opening) v.known w.known) filled in
    let sizes = longer_length v.known.log w.known.log in
    let log : length (merged v w).known.log ≡ length (later v.known.opening v.known w.known).log =
    ap (λ (k : Known). length k.log) known in
    let changes : (merged v w).known.changes ≡ max v.known.changes w.known.changes =
    ap (λ (k : Known). k.changes) known in
    let faults : (merged v w).known.faults ≡ max v.known.faults w.known.faults = ap (λ (k : Known). k.faults) known in
    let standing : (merged v w).known.standing ≡ max v.known.standing w.known.standing =
    ap (λ (k : Known). k.standing) known in
    let put_faults : (merged v w).known.put_faults ≡ max v.known.put_faults w.known.put_faults =
    ap (λ (k : Known). k.put_faults) known in
    let full : (merged v w).filled ≡ true = ap (λ (f : Bool). f || w.filled) filled in
    let opening = looks.opening full in
    record {
      earlier = earlier_between v.known (merged v w).known looks.book looks.one looks.known opening (omega arith)
          (omega arith) (omega arith) (omega arith) (omega arith);
      other_earlier = earlier_between w.known (merged v w).known looks.book looks.other looks.known opening
          (omega arith) (omega arith) (omega arith) (omega arith) (omega arith);
      made = λ place. let m = looks.made place in let a = stands-append place v.made w.made in omega arith;
    }
