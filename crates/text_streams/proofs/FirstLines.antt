-- The first line of a text, for `next_line`.
use Rattle.std.proofs.Common.{◌≡◌, ◌≢◌, ℕ, ◌+◌, ◌<◌, ◌≤◌, Bool, true, false, List, [], ◌∷◌, ◌++◌, length, refl, sym, ap}
use Rattle.std.proofs.Common.{◌∙◌, arith, append_assoc}
use Rattle.std.specs.Prelude.{◌==◌, if◌then◌else◌, codes}
use Rattle.std.specs.List.{onto_first}
use Rattle.std.proofs.lemmas.Bool.Decides.{nat_tests}
use Rattle.std.proofs.lemmas.List.{append-nil}
use Rattle.unit_plan.specs.Lines.{lines_of}
use Rattle.text_streams.proofs.PlainWords.{before_mark, both, from_both, lacks, part_then}
use Rattle.text_streams.specs.declared.streams.TheConstants.{MOST_LINE}
use Rattle.text_streams.specs.declared.streams.NextLine.{NextLine}
use Rattle.text_streams.specs.declared.streams.NextLine.TheVariants as next
use Rattle.text_streams.specs.TextLine.{BeginsLong, IsLast, TakesLine}

-- ---- no line feed so far

is_no_feed : (octet : ℕ) → octet ≢ 10 → (octet == 10) ≡ false
is_no_feed octet apart = grind (arith, nat_tests)

lacks_more : (part : List ℕ) (octet : ℕ) → lacks 10 part ≡ true → (octet == 10) ≡ false
    → lacks 10 (part ++ octet ∷ []) ≡ true
lacks_more [] octet plain apart = from_both (octet == 10) true apart refl
lacks_more (x ∷ xs) octet plain apart =
    let each = both (x == 10) (lacks 10 xs) plain in
    from_both (x == 10) (lacks 10 (xs ++ octet ∷ [])) each.0 (lacks_more xs octet each.1 apart)

pub still_lacks : (part new : List ℕ) (octet : ℕ) → lacks 10 part ≡ true → octet ≢ 10 → new ≡ part ++ octet ∷ []
    → lacks 10 new ≡ true
still_lacks part new octet plain apart is = rw is (lacks_more part octet plain (is_no_feed octet apart))

pub one_taken : (left part new left_now left_new : List ℕ) (octet : ℕ) → left ≡ part ++ left_now
    → left_now ≡ octet ∷ left_new
    → new ≡ part ++ octet ∷ [] → left ≡ new ++ left_new
one_taken left part new left_now left_new octet are taken pushed =
    are ∙ ap (λ left. part ++ left) taken ∙ sym (append_assoc part (octet ∷ []) left_new)
    ∙ ap (λ part. part ++ left_new) (sym pushed)

pub fed : (left part left_now rest : List ℕ) (octet : ℕ) → lacks 10 part ≡ true → left ≡ part ++ left_now
    → left_now ≡ octet ∷ rest
    → octet ≡ 10 → (lines_of left ≡ part ∷ lines_of rest) × (left ≡ part ++ (codes "\n" ++ rest))
fed left part left_now rest octet plain are taken is =
    let whole = are ∙ ap (λ left. part ++ left) (taken ∙ ap (λ octet. octet ∷ rest) is) in
    (ap lines_of whole ∙ part_then 10 part rest [] plain, whole)

before_last : (b : Bool) (x : ℕ) → b ≡ false → (if b then [] ∷ [] else onto_first x []) ≡ (x ∷ []) ∷ []
before_last true x apart = absurd cc
before_last false x apart = refl

line_last : (x : ℕ) (xs : List ℕ) → lacks 10 (x ∷ xs) ≡ true → lines_of (x ∷ xs) ≡ (x ∷ xs) ∷ []
line_last x [] plain = before_last (x == 10) x (both (x == 10) true plain).0
line_last x (y ∷ xs) plain =
    let each = both (x == 10) (lacks 10 (y ∷ xs)) plain in
    before_mark (x == 10) x (y ∷ xs) (lines_of (y ∷ xs)) [] each.0 (line_last y xs each.1)

ended : (left part rest : List ℕ) → 0 < length part → lacks 10 part ≡ true → left ≡ part ++ rest → rest ≡ []
    → lines_of left ≡ part ∷ lines_of rest
ended left [] rest some plain is none = absurd (omega arith)
ended left (x ∷ xs) rest some plain is none =
    rw none (ap lines_of (is ∙ ap (λ rest. (x ∷ xs) ++ rest) none ∙ append-nil (x ∷ xs)) ∙ line_last x xs plain)

pub last_taken : (next : NextLine) (left part left_now left_new : List ℕ) → lacks 10 part ≡ true
    → left ≡ part ++ left_now
    → left_now ≡ [] → left_new ≡ [] → IsLast part next → TakesLine left left_new next
last_taken (next.Line text) left part left_now left_new plain are none none_new last = absurd last
last_taken (next.Last text) left part left_now left_new plain are none none_new last = (
  ended left part left_new last.1 plain (are ∙ ap (λ rest. part ++ rest) (none ∙ sym none_new)) none_new
      ∙ ap (λ line. line ∷ lines_of left_new) (sym last.0),
  are ∙ ap (λ rest. part ++ rest) none ∙ append-nil part ∙ sym last.0,
)
last_taken next.End left part left_now left_new plain are none none_new last =
    are ∙ ap (λ part. part ++ left_now) last ∙ none
last_taken next.Long left part left_now left_new plain are none none_new last = absurd last
last_taken next.SourceFault left part left_now left_new plain are none none_new last = absurd last

-- ---- a line that is too long

record Begins (n : ℕ) (lines : List (List ℕ)) : Type 0 where
  line : List ℕ
  more : List (List ℕ)
  are : lines ≡ line ∷ more
  long : n ≤ length line

begins_one : (b : Bool) (x : ℕ) (lines : List (List ℕ)) → b ≡ false
    → Begins 1 (if b then [] ∷ lines else onto_first x lines)
begins_one true x lines apart = absurd cc
begins_one false x [] apart = record { line = x ∷ []; more = []; are = refl; long = omega arith }
begins_one false x (line ∷ lines) apart = record { line = x ∷ line; more = lines; are = refl; long = omega arith }

begins_more : (b : Bool) (x n : ℕ) (lines : List (List ℕ)) → b ≡ false → Begins n lines
    → Begins (n + 1) (if b then [] ∷ lines else onto_first x lines)
begins_more true x n lines apart begins = absurd cc
begins_more false x n lines apart begins = let long = begins.long in record {
  line = x ∷ begins.line;
  more = begins.more;
  are = ap (onto_first x) begins.are;
  long = omega (arith, long);
}

begins_fewer : (n m : ℕ) (lines : List (List ℕ)) → m ≤ n → Begins n lines → Begins m lines
begins_fewer n m lines fewer begins = let long = begins.long in
    record { line = begins.line; more = begins.more; are = begins.are; long = omega (arith, long, fewer) }

begins : (x : ℕ) (xs rest : List ℕ) → lacks 10 (x ∷ xs) ≡ true → Begins (length (x ∷ xs)) (lines_of ((x ∷ xs) ++ rest))
begins x [] rest plain = begins_one (x == 10) x (lines_of rest) (both (x == 10) true plain).0
begins x (y ∷ xs) rest plain =
    let each = both (x == 10) (lacks 10 (y ∷ xs)) plain in
    begins_fewer (length (y ∷ xs) + 1) (length (x ∷ y ∷ xs)) _ (omega arith)
    (begins_more (x == 10) x (length (y ∷ xs)) (lines_of ((y ∷ xs) ++ rest)) each.0 (begins y xs rest each.1))

pub too_long : (left part rest : List ℕ) → MOST_LINE < length part → lacks 10 part ≡ true → left ≡ part ++ rest
    → BeginsLong left
too_long left [] rest long plain is = absurd (omega arith)
too_long left (x ∷ xs) rest long plain is =
    let first = begins x xs rest plain in let most = first.long in
    record { line = first.line; more = first.more; lines_are = ap lines_of is ∙ first.are; long = omega arith }
