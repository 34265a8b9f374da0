-- The bodies of records that are read in a run, for `read_run`.
use Rattle.std.proofs.Common.{◌≡◌, ℕ, ◌+◌, ◌-◌, ◌*◌, ◌<◌, ◌≤◌, ◌++◌, ◌∙◌, List, length, take, drop, Some, refl, sym, ap}
use Rattle.std.proofs.Common.{arith}
use Rattle.std.proofs.lemmas.List.{drop-append-le, drop-drop, drop-take, length-drop, length-take-le, take-append-le}
use Rattle.std.proofs.lemmas.List.{take-take}
use Rattle.std.specs.List.{slice_get}
use Rattle.disk_journal.specs.declared.layout.TheConstants.{SLOT_LENGTH}
use Rattle.sdls_base.specs.declared.TheConstants.{BODY_LENGTH}
use Rattle.sdls_outside.specs.Moments.{Trace}
use Rattle.disk_journal.specs.Banks.{bank_at, slot_at}
use Rattle.disk_journal.specs.Image.{records}
use Rattle.disk_journal.specs.Journal.{IsOpen, JournalView}
use Rattle.disk_journal.specs.Runs.{body_in}
use Rattle.disk_journal.proofs.Reading.{body_read, body_within}

-- a body among the octets that were read, whatever stands behind them
body_among : (image slots rest : List ℕ) (at n k : ℕ) → slots ≡ take n (drop at image)
    → SLOT_LENGTH * k + SLOT_LENGTH ≤ n → at + n ≤ length image
    → body_in (slots ++ rest) k ≡ take BODY_LENGTH (drop (at + SLOT_LENGTH * k + 1) image)
body_among image slots rest at n k read fits within =
    let m : ℕ = SLOT_LENGTH * k + 1 in
    let behind = drop at image in
    let size : length slots ≡ n =
    ap (λ (s : List ℕ). length s) read ∙ length-take-le n behind (omega (arith, length-drop at image)) in
    let left : length (drop m slots) ≡ n - m = length-drop m slots ∙ ap (λ (l : ℕ). l - m) size in
    let split : m + (n - m) ≡ n = omega arith in
    let place : at + m ≡ at + SLOT_LENGTH * k + 1 = omega arith in
    ap (take BODY_LENGTH) (drop-append-le m slots rest (omega (arith, size)))
    ∙ take-append-le BODY_LENGTH (drop m slots) rest (omega (arith, left))
    ∙ ap (λ (s : List ℕ). take BODY_LENGTH (drop m s)) (read ∙ ap (λ (l : ℕ). take l behind) (sym split))
    ∙ ap (take BODY_LENGTH) (drop-take m (n - m) behind)
    ∙ take-take BODY_LENGTH (n - m) (drop m behind) (omega arith)
    ∙ ap (take BODY_LENGTH) (drop-drop m at image ∙ ap (λ (l : ℕ). drop l image) place)

-- the body of each record of the run
pub body_of_run : (old : Trace) (journal : JournalView) (slots rest : List ℕ) (first i n at : ℕ) → IsOpen old journal
    → first ≤ i → i < journal.used
    → at ≡ slot_at journal.layout (bank_at journal.layout journal.bank) first → slots ≡ take n (drop at old.now.image)
    → SLOT_LENGTH * (i - first) + SLOT_LENGTH ≤ n → at + n ≤ length old.now.image
    → slice_get (records old.now.image) i ≡ Some (body_in (slots ++ rest) (i - first))
body_of_run old journal slots rest first i n at opened low below place read fits within =
    let here : at + SLOT_LENGTH * (i - first) + 1 ≡ slot_at journal.layout
    (bank_at journal.layout journal.bank) i + 1 = omega (arith, place, low) in
    body_read old journal i (slot_at journal.layout (bank_at journal.layout journal.bank) i)
    (body_in (slots ++ rest) (i - first)) opened below refl
    (body_among old.now.image slots rest at n (i - first) read fits within
    ∙ ap (λ (l : ℕ). take BODY_LENGTH (drop l old.now.image)) here)

-- a run lies within the image
pub run_within : (old : Trace) (journal : JournalView) (index count at : ℕ) → IsOpen old journal → 1 ≤ count
    → index + count ≤ journal.used
    → at ≡ slot_at journal.layout (bank_at journal.layout journal.bank) index
    → at + SLOT_LENGTH * count ≤ length old.now.image
run_within old journal index count at opened some below place =
    let last : ℕ = index + (count - 1) in
    let within = body_within old journal last (slot_at journal.layout (bank_at journal.layout journal.bank) last) opened
    (omega arith) refl in
    omega (arith, within, place)
