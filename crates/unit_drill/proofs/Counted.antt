-- What is counted of answers is no more than there are: for the clauses `few` of the counts.
use Rattle.std.proofs.Common.{ℕ, ◌≤◌, ◌-◌, Bool, List, length, arith}
use Rattle.std.specs.List.{count_by, zip}
use Rattle.std.proofs.lemmas.List.Sums.{count_by-le-length}
use Rattle.std.proofs.lemmas.Slice.Zip.{length-zip}
use Rattle.record_io.specs.declared.answers.Answer.{Answer}
use Rattle.record_io.specs.declared.item_cursor.Record.{Record}
use Rattle.unit_drill.specs.Counting.{count_accepted, count_given, gives_field}

pub few_counted : (p : Answer → Bool) (answers : List Answer) → count_by p answers ≤ length answers
few_counted p answers = count_by-le-length p answers

pub few_accepted : (ahead : ℕ) (tasks : List Record) (answers : List Answer)
    → count_accepted ahead tasks answers ≤ length answers
few_accepted ahead tasks answers =
    let few = count_by-le-length (λ (p : Record × Answer). gives_field (p.0.index - ahead) p.1) (zip tasks answers) in
    let many = length-zip tasks answers in
    omega arith

pub few_given : (numbers : List ℕ) (answers : List Answer) → count_given numbers answers ≤ length answers
few_given numbers answers =
    let few = count_by-le-length (λ (p : ℕ × Answer). gives_field p.0 p.1) (zip numbers answers) in
    let many = length-zip numbers answers in
    omega arith
