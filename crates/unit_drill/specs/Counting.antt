-- What is counted of the answers of a drill (profile).
use Rattle.std.specs.Prelude.{ℕ, ◌+◌, ◌-◌, ◌==◌, ◌&&◌, Bool, List}
use Rattle.std.specs.List.{count_by, zip}
use Rattle.std.specs.Str.{bytes_eq}
use Rattle.record_io.specs.declared.answers.Answer.{Answer}
use Rattle.record_io.specs.declared.code.TheConstants.{ACCEPTED}
use Rattle.record_io.specs.declared.item_cursor.Record.{Record}
use Rattle.unit_drill.specs.declared.counts.Counts.{Counts}
use Rattle.unit_drill.specs.Frames.{data_field}

abbrev pub count_code : ℕ → List Answer → ℕ
count_code code answers = count_by (λ (answer : Answer). answer.code == code) answers

-- the frame is accepted, and its data field is that with which the frame of this number was made
abbrev pub gives_field : ℕ → Answer → Bool
gives_field number answer = (answer.code == ACCEPTED) && bytes_eq answer.body (data_field number)

abbrev pub count_fields : ℕ → List Answer → ℕ
count_fields number answers = count_by (gives_field number) answers

-- the answers that give the data fields of their frames, whose records run ahead of the numbers of the frames by so
-- many
abbrev pub count_accepted : ℕ → List Record → List Answer → ℕ
count_accepted ahead tasks answers =
    count_by (λ (p : Record × Answer). gives_field (p.0.index - ahead) p.1) (zip tasks answers)

-- the answers that give the data fields of these frames, each of the frame at its place
abbrev pub count_given : List ℕ → List Answer → ℕ
count_given numbers answers = count_by (λ (p : ℕ × Answer). gives_field p.0 p.1) (zip numbers answers)

abbrev pub no_counts : Counts
no_counts = record { protected = 0; lost = 0; accepted = 0; rejected = 0 }

abbrev pub sum_of : Counts → Counts → Counts
sum_of one other = record {
  protected = one.protected + other.protected;
  lost = one.lost + other.lost;
  accepted = one.accepted + other.accepted;
  rejected = one.rejected + other.rejected;
}
