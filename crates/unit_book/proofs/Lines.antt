-- A log that grows by a line.
use Rattle.std.proofs.Common.{◌≡◌, ℕ, zero, suc, ◌+◌, ◌≤◌, min, List, [], ◌∷◌, ◌++◌, length, take, refl, sym, ◌∙◌, ap}
use Rattle.std.proofs.Common.{arith, length-append}
use Rattle.std.proofs.lemmas.List.{take_all, take_at, take-append-le, length-take, append_assoc}
use Rattle.sdls_base.specs.declared.entry.Entry.{Entry}
use Rattle.sdls_base.specs.declared.entry.Logged.{Logged}
use Rattle.sdls_base.specs.declared.entry.Logged.TheVariants as logged
use Rattle.sdls_outside.specs.Moments.{Between}
use Rattle.run_promise.specs.Log.{entries_of, pieces_of}

pub pieces_more : (log : List Logged) (line : Logged) → pieces_of (log ++ line ∷ []) ≡ pieces_of log
    ++ pieces_of (line ∷ [])
pieces_more [] line = refl
pieces_more (logged.Entry entry ∷ log) line = pieces_more log line
pieces_more (logged.Piece octets ∷ log) line =
    ap (λ (rest : List ℕ). octets ++ rest) (pieces_more log line)
    ∙ sym (append_assoc octets (pieces_of log) (pieces_of (line ∷ [])))

pub entries_more : (log : List Logged) (line : Logged) → entries_of (log ++ line ∷ []) ≡ entries_of log
    ++ entries_of (line ∷ [])
entries_more [] line = refl
entries_more (logged.Entry entry ∷ log) line = ap (λ (rest : List Entry). entry ∷ rest) (entries_more log line)
entries_more (logged.Piece octets ∷ log) line = entries_more log line

-- what stands before a place stays, and what stands at it can only grow
pub take_more : (k : ℕ) (log : List Logged) (line : Logged)
    → (rest : List ℕ) × (pieces_of (take k (log ++ line ∷ [])) ≡ pieces_of (take k log) ++ rest)
take_more zero log line = ([], refl)
take_more (suc k) [] line = (pieces_of (take (suc k) (line ∷ [])), refl)
take_more (suc k) (logged.Entry entry ∷ log) line = take_more k log line
take_more (suc k) (logged.Piece octets ∷ log) line =
    let (rest, same) = take_more k log line in
    (rest, ap (λ (more : List ℕ). octets ++ more) same ∙ sym (append_assoc octets (pieces_of (take k log)) rest))

pub entries_take_more : (k : ℕ) (log : List Logged) (line : Logged)
    → (rest : List Entry) × (entries_of (take k (log ++ line ∷ [])) ≡ entries_of (take k log) ++ rest)
entries_take_more zero log line = ([], refl)
entries_take_more (suc k) [] line = (entries_of (take (suc k) (line ∷ [])), refl)
entries_take_more (suc k) (logged.Entry entry ∷ log) line =
    let (rest, same) = entries_take_more k log line in
    (rest, ap (λ (more : List Entry). entry ∷ more) same)
entries_take_more (suc k) (logged.Piece octets ∷ log) line = entries_take_more k log line

-- the entries of a log, from a place on
pub entries_front : (k : ℕ) (log : List Logged)
    → (rest : List Entry) × (entries_of log ≡ entries_of (take k log) ++ rest)
entries_front zero log = (entries_of log, refl)
entries_front (suc k) [] = ([], refl)
entries_front (suc k) (logged.Entry entry ∷ log) =
    let (rest, same) = entries_front k log in
    (rest, ap (λ (more : List Entry). entry ∷ more) same)
entries_front (suc k) (logged.Piece octets ∷ log) = entries_front k log

pub entries_short : (k : ℕ) (log : List Logged) → length (entries_of (take k log)) ≤ length (entries_of log)
entries_short zero log = omega arith
entries_short (suc k) [] = omega arith
entries_short (suc k) (logged.Entry entry ∷ log) =
    let short : length (entries_of (take k log)) ≤ length (entries_of log) = entries_short k log in omega arith
entries_short (suc k) (logged.Piece octets ∷ log) = entries_short k log

-- a front of some octets is one of more octets
pub between_more : (old new more sunk : List ℕ) → Between old new sunk → Between old (new ++ more) sunk
between_more old new more sunk between =
    let size : length sunk ≡ min (length sunk) (length new) =
    ap (λ (octets : List ℕ). length octets) between.prefix ∙ length-take (length sunk) new in
    let low : length sunk ≤ length new = omega arith in
    record {
      least = between.least;
      prefix = between.prefix ∙ sym (take-append-le (length sunk) new more low);
    }

pub take_end : (log : List Logged) (line : Logged) → take (length log) (log ++ line ∷ []) ≡ log
take_end log line = take_at log (line ∷ []) (length log) refl

pub take_whole : (log : List Logged) (line : Logged) → take (length log + 1) (log ++ line ∷ []) ≡ log ++ line ∷ []
take_whole log line =
    let size : length (log ++ line ∷ []) ≡ length log + 1 = length-append log (line ∷ []) in
    take_all (length log + 1) (log ++ line ∷ []) (omega arith)
