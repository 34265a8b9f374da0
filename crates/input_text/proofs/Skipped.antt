-- A line that is skipped says nothing, for `read_line`.
use Rattle.std.proofs.Common.{◌≡◌, ℕ, true, List, [], ◌∷◌, refl, sym, ◌∙◌, arith, inl, inr}
use Rattle.std.specs.List.{onto_first}
use Rattle.std.specs.Prelude.{◌==◌}
use Rattle.std.proofs.lemmas.Bool.{cases_eq, ne_eqb}
use Rattle.std.proofs.lemmas.Bool.Decides.{nat_tests}
use Rattle.input_text.specs.declared.line.Line.{Line}
use Rattle.input_text.specs.declared.line.Line.TheVariants.{Fence, Protect, Open, Command, Message, Monitor}
use Rattle.input_text.proofs.AskedWords.{some_line}
use Rattle.input_text.specs.Plain.{is_skipped, line_said, said_words}
use Rattle.input_text.specs.Line.{SaysLine, line_words}

begun : (words : List (List ℕ)) → said_words (onto_first 35 words) ≡ []
begun [] = refl
begun (word ∷ words) = refl

comment : (x : ℕ) (xs : List ℕ) → x ≡ 35 → line_said (x ∷ xs) ≡ []
comment x xs is = rw is (begun _)

space : (x : ℕ) (xs : List ℕ) → x ≡ 32 → line_said (x ∷ xs) ≡ line_said xs
space x xs is = rw is refl

equal : (x y : ℕ) → (x == y) ≡ true → x ≡ y
equal x y is = grind (arith, nat_tests)

pub skipped_none : (text : List ℕ) → is_skipped text ≡ true → line_said text ≡ []
skipped_none [] is = refl
skipped_none (x ∷ xs) is = elim (cases_eq x 32) [
  | inl same ↦ space x xs same ∙ skipped_none xs (rw same at is)
  | inr apart ↦ comment x xs (equal x 35 (rw (ne_eqb x 32 apart) at is))
]

some_words : (line : Line) → line_words line ≡ [] → ⊥
unfolding line_words
some_words Fence none = absurd cc
some_words (Protect lane link octets) none = absurd cc
some_words (Open lane link octets) none = absurd cc
some_words (Command lane command) none = absurd cc
some_words (Message lane octets) none = absurd cc
some_words (Monitor lane link asked) none = some_line lane link asked none

pub skipped_says_nothing : (text : List ℕ) (line : Line) → is_skipped text ≡ true → SaysLine text line → ⊥
skipped_says_nothing text line is says = some_words line (sym says.words ∙ skipped_none text is)
