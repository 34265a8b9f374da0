-- Runs of a recording, for the functions of `walk`.
use Rattle.std.proofs.Common.{◌≡◌, ◌≢◌, ◌⊎◌, ℕ, ◌+◌, ◌-◌, ◌<◌, ◌≤◌, ◌^◌, Bool, IsTrue, List, [], ◌∷◌, ◌++◌, length}
use Rattle.std.proofs.Common.{take, drop, Option, None, inl, inr, refl, sym, ap, ◌∙◌, arith, append_assoc}
use Rattle.std.proofs.Common.{length-append}
use Rattle.std.specs.Int.{w32, to_be_bytes}
use Rattle.std.proofs.Math.Seq.{take-append-add}
use Rattle.std.proofs.lemmas.Bool.{cases_lt}
use Rattle.std.proofs.lemmas.List.{append-nil, drop_all, take-append-drop, take-append-le, take_all, length-drop}
use Rattle.std.proofs.lemmas.List.{length-take-le}
use Rattle.std.proofs.lemmas.Nat.{from_be_bytes-to_be_bytes_4}
use Rattle.sdls_base.specs.Places.{double_word_at}
use Rattle.sdls_base.proofs.PlaceFacts.{AreOctets, double_word_field}
use Rattle.record_io.specs.declared.answers.Answer.{Answer}
use Rattle.record_io.specs.Answers.{answers_octets}
use Rattle.record_io.specs.Input.{MOST_OCTETS}
use Rattle.record_io.specs.Steps.{still_counted}
use Rattle.pair_audit.specs.declared.audit.Audit.{Audit}
use Rattle.pair_audit.specs.declared.audit.Repeat.{Repeat}
use Rattle.pair_audit.specs.declared.walk.AuditEnd.{AuditEnd}
use Rattle.pair_audit.specs.declared.walk.AuditEnd.TheVariants.{BreaksAt}
use Rattle.pair_audit.specs.declared.walk.NextRun.TheVariants as nexts
use Rattle.pair_audit.specs.declared.walk.RunFound.TheVariants as ends
use Rattle.pair_audit.specs.Audit.{KnowsAudit}
use Rattle.pair_audit.specs.Recording.{AuditFound, AuditSays, HasUnknown, LacksRun, ReadsRuns, RunCounts, RunsCount}
use Rattle.pair_audit.specs.Recording.{recording, recording_beginning, run_octets, runs_octets}
use Rattle.pair_audit.specs.Repeats.{AreUnlike}
use Rattle.pair_audit.specs.Taking.{Taking}
use Rattle.pair_audit.specs.Walk.{BreaksFrom, IsOutcome, NextSaid, ReadSoFar, RunSaid, TakesRun, UnknownAt}
use Rattle.pair_audit.proofs.Pairs.{pairs_none}
use Rattle.pair_audit.proofs.Takings.{taking_counted, taking_ended, taking_then}

size_run : (sunk behind : List ℕ) → length (run_octets sunk ++ behind) ≡ 4 + (length sunk + length behind)
size_run sunk behind =
    length-append (run_octets sunk) behind ∙ ap (λ (n : ℕ). n + length behind)
    (length-append (to_be_bytes w32 (length sunk)) sunk) ∙ omega arith

pub lacks_length : (octets : List ℕ) → length octets < 4 → LacksRun octets
lacks_length octets few sunk behind short e = let size = ap length e ∙ size_run sunk behind in omega arith

pub lacks_octets : (octets : List ℕ) → 4 ≤ length octets → length (drop 4 octets) < double_word_at 0 octets
    → LacksRun octets
lacks_octets octets some few sunk behind short e =
    let size = ap length e ∙ size_run sunk behind in
    let left = length-drop 4 octets in
    let count : double_word_at 0 octets ≡ length sunk =
    ap (double_word_at 0) e ∙ from_be_bytes-to_be_bytes_4 (length sunk) short in
    omega arith

pub has_unknown : (octets sunk behind : List ℕ) (place : ℕ) → length sunk < 2 ^ 32 → octets ≡ run_octets sunk ++ behind
    → UnknownAt sunk place
    → HasUnknown octets (4 + place)
has_unknown octets sunk behind place short spelled unknown =
    let size : length (take place sunk) ≡ place = length-take-le place sunk unknown.within in
    record {
      sunk = sunk;
      behind = behind;
      answers = unknown.answers;
      header = unknown.in_front.header;
      more = unknown.in_front.more;
      short = short;
      spelled = spelled;
      are = unknown.are;
      known = unknown.known;
      front = sym (take-append-drop place sunk) ∙ ap (λ (l : List ℕ). l ++ drop place sunk) unknown.front
          ∙ ap (λ (l : List ℕ). answers_octets unknown.answers ++ l) unknown.in_front.spelled;
      widths = unknown.in_front.widths;
      unknown = unknown.in_front.unknown;
      at_is = let front = ap length unknown.front in omega arith;
    }

-- ---- the next run

-- the octets of a length
pub spelled_length : (header : List ℕ) → AreOctets header → length header ≡ 4
    → header ≡ to_be_bytes w32 (double_word_at 0 header)
spelled_length header are size =
    double_word_field 0 header are (omega arith)
    ∙ ap (λ (l : List ℕ). to_be_bytes w32 (double_word_at 0 header) ++ l) (drop_all 4 header (omega arith))
    ∙ append-nil (to_be_bytes w32 (double_word_at 0 header))

pub record LengthTaken (told : Bool) (taken len : ℕ) (header first middle : List ℕ) : Type 0 where
  pub spelled : header ≡ to_be_bytes w32 len
  pub short : len < 2 ^ 32
  pub taking : Taking told taken 4 header first middle

spelled_run : (told : Bool) (taken len : ℕ) (header sunk first middle : List ℕ)
    → LengthTaken told taken len header first middle → length sunk ≡ len
    → header ++ sunk ≡ run_octets sunk
spelled_run told taken len header sunk first middle head all =
    ap (λ (l : List ℕ). l ++ sunk) head.spelled ∙ ap (λ (n : ℕ). to_be_bytes w32 n ++ sunk) (sym all)

size_of : (told : Bool) (taken len : ℕ) (header first middle : List ℕ) → LengthTaken told taken len header first middle
    → length header ≡ 4
size_of told taken len header first middle head = ap length head.spelled

both_taken : (told : Bool) (taken len : ℕ) (header sunk first middle last : List ℕ)
    → LengthTaken told taken len header first middle
    → Taking told (taken + 4) len sunk middle last → Taking told taken (4 + len) (header ++ sunk) first last
both_taken told taken len header sunk first middle last head more =
    taking_then told taken 4 len header sunk first middle last head.taking
    (size_of told taken len header first middle head) more

pub run_taken : (told : Bool) (taken len : ℕ) (header sunk first middle last : List ℕ) (old new : Audit)
    (before later : Option Repeat)
    → LengthTaken told taken len header first middle → Taking told (taken + 4) len sunk middle last
    → RunSaid len old new before sunk (ends.Whole later)
    → NextSaid told taken old new before first last (nexts.Taken (4 + len) later)
run_taken told taken len header sunk first middle last old new before later head more
    (all, (own, counts, known, few, takes)) =
    let size = length-append header sunk in
    let header_size = size_of told taken len header first middle head in
    let short = head.short in (
      header ++ sunk,
      both_taken told taken len header sunk first middle last head more,
      omega arith,
      record {
        sunk = sunk;
        own = own;
        spelled = spelled_run told taken len header sunk first middle head all;
        counts = record { short = omega arith; counts = counts; known = known };
        few = few;
        takes = takes;
      },
    )

some_octets : (octets more : List ℕ) → 0 < length octets → octets ++ more ≢ []
some_octets octets more some none =
    let size = ap length none in
    let whole = length-append octets more in
    omega arith

pub run_breaks : (told : Bool) (taken len place : ℕ) (header sunk first middle last : List ℕ) (old new : Audit)
    (before : Option Repeat)
    → LengthTaken told taken len header first middle → Taking told (taken + 4) len sunk middle last
    → RunSaid len old new before sunk (ends.Unknown place)
    → BreaksFrom told taken first (4 + place)
run_breaks told taken len place header sunk first middle last old new before head more (all, unknown) =
    let taking = both_taken told taken len header sunk first middle last head more in
    let size = length-append header sunk in
    let header_size = size_of told taken len header first middle head in
    let counted = taking.counted in
    let within = unknown.within in
    let short = head.short in
    let behind = still_counted (taken + length (header ++ sunk)) last in
    record {
      rest = (header ++ sunk) ++ behind;
      rest_is = taking_counted told taken (4 + len) (header ++ sunk) first last taking;
      some = some_octets (header ++ sunk) behind (omega arith);
      within = omega arith;
      fault = inr (has_unknown ((header ++ sunk) ++ behind) sunk behind place (omega arith)
          (ap (λ (l : List ℕ). l ++ behind) (spelled_run told taken len header sunk first middle head all)) unknown);
    }

pub run_cut : (told : Bool) (taken len : ℕ) (header part first middle last : List ℕ)
    → LengthTaken told taken len header first middle
    → Taking told (taken + 4) len part middle last → length part < len → BreaksFrom told taken first 0
run_cut told taken len header part first middle last head more less =
    let taking = both_taken told taken len header part first middle last head more in
    let size = length-append header part in
    let header_size = size_of told taken len header first middle head in
    let counted = taking.counted in
    let short = head.short in
    let left = length-drop 4 (header ++ part) in
    let count : double_word_at 0 (header ++ part) ≡ len =
    ap (λ (l : List ℕ). double_word_at 0 (l ++ part)) head.spelled
    ∙ from_be_bytes-to_be_bytes_4 len short in
    record {
      rest = header ++ part;
      rest_is = taking_ended told taken (4 + len) (header ++ part) first last taking (omega arith);
      some = some_octets header part (omega arith);
      within = omega arith;
      fault = inl (lacks_octets (header ++ part) (omega arith) (omega arith), refl);
    }

-- less than a length is left
pub length_cut : (told : Bool) (taken : ℕ) (part first last : List ℕ) → Taking told taken 4 part first last
    → length part < 4 → 0 < length part
    → BreaksFrom told taken first 0
length_cut told taken part first last taking less some =
    let counted = taking.counted in
    record {
      rest = part;
      rest_is = taking_ended told taken 4 part first last taking less;
      some = λ none. let size = ap length none in omega arith;
      within = omega arith;
      fault = inl (lacks_length part less, refl);
    }

-- ---- runs read one after the other

runs_push : (runs : List (List ℕ)) (sunk : List ℕ) → runs_octets (runs ++ sunk ∷ []) ≡ runs_octets runs
    ++ run_octets sunk
runs_push [] sunk = append-nil (run_octets sunk)
runs_push (run ∷ runs) sunk =
    ap (λ (l : List ℕ). run_octets run ++ l) (runs_push runs sunk)
    ∙ sym (append_assoc (run_octets run) (runs_octets runs) (run_octets sunk))

count-runs : (runs : List (List ℕ)) (answers : List Answer) (sunk : List ℕ) (own : List Answer) → RunsCount runs answers
    → RunCounts sunk own
    → RunsCount (runs ++ sunk ∷ []) (answers ++ own)
count-runs [] answers sunk own none counts =
    (own, [], counts, refl, ap (λ (l : List Answer). l ++ own) none ∙ sym (append-nil own))
count-runs (run ∷ runs) answers sunk own (first, later, is, rest, whole) counts = (
  first,
  later ++ own,
  is,
  count-runs runs later sunk own rest counts,
  ap (λ (l : List Answer). l ++ own) whole
      ∙ append_assoc first later own,
)

pub read_nothing : (told : Bool) (audit : Audit) (left : List ℕ) → KnowsAudit [] audit
    → ReadSoFar told 8 0 audit None (recording_beginning ++ left) left
read_nothing told audit left knows = record {
  runs = [];
  answers = [];
  moved = λ is. refl;
  taken_is = refl;
  runs_are = refl;
  few = omega arith;
  count_is = refl;
  count_few = omega arith;
  knows = knows;
  outcome = pairs_none AreUnlike;
}

pub read_more : (told : Bool) (taken count step : ℕ) (old new : Audit) (first later : Option Repeat)
    (start middle last octets : List ℕ)
    → ReadSoFar told taken count old first start middle → Taking told taken step octets middle last
    → length octets ≡ step
    → TakesRun old new first later octets → ReadSoFar told (taken + step) (count + 1) new later start last
read_more told taken count step old new first later start middle last octets so_far taking all run =
    let own_few = run.few in
    let few = so_far.few in
    let count_few = so_far.count_few in
    let count_is = so_far.count_is in
    let taken_is = so_far.taken_is in
    let answers = length-append so_far.answers run.own in
    let runs = length-append so_far.runs (run.sunk ∷ []) in
    let run_size : length octets ≡ 4 + length run.sunk =
    ap length run.spelled ∙ length-append (to_be_bytes w32 (length run.sunk)) run.sunk in
    let spelled : recording (so_far.runs ++ run.sunk ∷ []) ≡ recording so_far.runs ++ octets =
    ap (λ (l : List ℕ). recording_beginning ++ l) (runs_push so_far.runs run.sunk)
    ∙ sym (append_assoc recording_beginning (runs_octets so_far.runs) (run_octets run.sunk))
    ∙ ap (λ (l : List ℕ). recording so_far.runs ++ l) (sym run.spelled) in
    let size : length (recording (so_far.runs ++ run.sunk ∷ [])) ≡ length (recording so_far.runs) + length octets =
    ap length spelled ∙ length-append (recording so_far.runs) octets in
    record {
      runs = so_far.runs ++ run.sunk ∷ [];
      answers = so_far.answers ++ run.own;
      moved = λ is. so_far.moved is ∙ ap (λ (l : List ℕ). recording so_far.runs ++ l) (taking.moved is)
          ∙ sym (append_assoc (recording so_far.runs) octets last) ∙ ap (λ (l : List ℕ). l ++ last) (sym spelled);
      taken_is = omega arith;
      runs_are = count-runs so_far.runs so_far.answers run.sunk run.own so_far.runs_are run.counts;
      few = omega arith;
      count_is = omega arith;
      count_few = omega arith;
      knows = run.takes.knows so_far.answers so_far.knows;
      outcome = run.takes.outcome so_far.answers so_far.knows so_far.outcome;
    }

-- the input of which the recording of these runs was read, with what counts behind it
input_is : (told : Bool) (taken count : ℕ) (audit : Audit) (first : Option Repeat) (start last rest : List ℕ)
    → taken ≤ MOST_OCTETS
    → (so_far : ReadSoFar told taken count audit first start last) → (IsTrue told → still_counted taken last ≡ rest)
    → IsTrue told
    → recording so_far.runs ++ rest ≡ take MOST_OCTETS start
input_is told taken count audit first start last rest few so_far rest_is is =
    let taken_is = so_far.taken_is in
    let size : MOST_OCTETS ≡ length (recording so_far.runs) + (MOST_OCTETS - taken) = omega arith in
    ap (λ (l : List ℕ). recording so_far.runs ++ l) (sym (rest_is is))
    ∙ sym (take-append-add (recording so_far.runs) last (MOST_OCTETS - taken))
    ∙ ap (λ (n : ℕ). take n (recording so_far.runs ++ last)) (sym size)
    ∙ ap (take MOST_OCTETS) (sym (so_far.moved is))

reads_on : (told : Bool) (taken count : ℕ) (audit : Audit) (first : Option Repeat) (start last rest : List ℕ)
    → (so_far : ReadSoFar told taken count audit first start last)
    → ReadsRuns (recording so_far.runs ++ rest) so_far.runs so_far.answers rest
reads_on told taken count audit first start last rest so_far =
    record { spelled = append_assoc recording_beginning (runs_octets so_far.runs) rest; runs_are = so_far.runs_are }

pub malformed_at : (told : Bool) (taken count place : ℕ) (audit : Audit) (first : Option Repeat) (start last : List ℕ)
    → taken ≤ MOST_OCTETS
    → ReadSoFar told taken count audit first start last → BreaksFrom told taken last place
    → AuditFound (λ input. IsTrue told → input ≡ take MOST_OCTETS start) (BreaksAt (taken + place))
malformed_at told taken count place audit first start last few so_far breaks =
    let size = length-append (recording so_far.runs) breaks.rest in
    let taken_is = so_far.taken_is in
    let offset : taken ≡ length (recording so_far.runs ++ breaks.rest) - length breaks.rest = omega arith in (
      recording so_far.runs ++ breaks.rest,
      input_is told taken count audit first start last breaks.rest few so_far breaks.rest_is,
      inr (
        so_far.runs,
        so_far.answers,
        breaks.rest,
        reads_on told taken count audit first start last breaks.rest
            so_far,
        breaks.some,
        by_fault offset breaks.fault,
      ),
    )
  where
    by_fault : taken ≡ length (recording so_far.runs ++ breaks.rest) - length breaks.rest
        → ((LacksRun breaks.rest × (place ≡ 0)) ⊎ HasUnknown breaks.rest place)
        → ((LacksRun breaks.rest × (taken + place ≡ length (recording so_far.runs ++ breaks.rest) - length breaks.rest))
        ⊎ ((other : ℕ) × HasUnknown breaks.rest other
        × (taken + place ≡ length (recording so_far.runs ++ breaks.rest) - length breaks.rest + other)))
    by_fault offset (inl (lacks, zero_is)) = inl (lacks, omega arith)
    by_fault offset (inr unknown) = inr (place, unknown, ap (λ (n : ℕ). n + place) offset)

-- nothing that counts is left behind the last run
pub found_whole : (told : Bool) (taken count : ℕ) (audit : Audit) (first : Option Repeat) (start last : List ℕ)
    (end : AuditEnd) → taken ≤ MOST_OCTETS
    → ReadSoFar told taken count audit first start last → (IsTrue told → still_counted taken last ≡ [])
    → ((input : List ℕ) (read : List (List ℕ)) (fed : List Answer) → ReadsRuns input read fed [] → KnowsAudit fed audit
    → IsOutcome fed first
    → count ≡ length read → AuditSays input end)
    → AuditFound (λ input. IsTrue told → input ≡ take MOST_OCTETS start) end
found_whole told taken count audit first start last end few so_far none says = (
  recording so_far.runs ++ [],
  input_is told taken count audit first start last [] few so_far none,
  says (recording so_far.runs ++ []) so_far.runs so_far.answers
      (reads_on told taken count audit first start last [] so_far) so_far.knows so_far.outcome so_far.count_is,
)

-- ---- the beginning

pub begins_otherwise : (told : Bool) (octets first last : List ℕ) → Taking told 0 8 octets first last
    → ¬ (octets ≡ recording_beginning)
    → AuditFound (λ input. IsTrue told → input ≡ take MOST_OCTETS first) (BreaksAt 0)
begins_otherwise told octets first last taking other = by_size (cases_lt (length octets) 8)
  where
    by_size : (length octets < 8) ⊎ (8 ≤ length octets)
        → AuditFound (λ input. IsTrue told → input ≡ take MOST_OCTETS first) (BreaksAt 0)
    by_size (inl less) = (
      octets,
      (λ is. sym (taking_ended told 0 8 octets first last taking less is)),
      inl (
        (λ (rest, begins). let size = ap length begins in let whole =
            length-append recording_beginning rest in omega arith),
        refl,
      ),
    )
    by_size (inr all) =
        let within = taking.within in
        let behind = still_counted (0 + length octets) last in (
          octets ++ behind,
          (λ is. sym (taking_counted told 0 8 octets first last taking is)),
          inl (
            (λ (rest, begins). other (sym (front_is octets behind (omega arith)) ∙ ap (take 8) begins
                ∙ front_is recording_beginning rest refl)),
            refl,
          ),
        )
      where
        front_is : (front more : List ℕ) → length front ≡ 8 → take 8 (front ++ more) ≡ front
        front_is front more size = take-append-le 8 front more (omega arith) ∙ take_all 8 front (omega arith)
