-- Octets show answers in one way, for the laws `answers_shown_once` and `answers_are_shown`.
use Rattle.std.proofs.Common.{◌≡◌, ℕ, ◌+◌, ◌<◌, List, [], ◌∷◌, ◌++◌, length, take, drop, get_or, Option, Some, None}
use Rattle.std.proofs.Common.{refl, sym, ◌∙◌, ap, arith, append_assoc, length-append}
use Rattle.std.specs.List.{All}
use Rattle.std.proofs.lemmas.List.Elements.{All-head, All-tail}
use Rattle.std.specs.Int.{w16, w32, w64, from_be_bytes}
use Rattle.std.proofs.Math.Seq.{take-append-add}
use Rattle.std.proofs.lemmas.List.{append-nil, length-take-le}
use Rattle.std.proofs.lemmas.Nat.{from_be_bytes-to_be_bytes_2, from_be_bytes-to_be_bytes_4, from_be_bytes-to_be_bytes_8}
use Rattle.sdls_base.proofs.Endings.{take_front, drop_front}
use Rattle.record_io.specs.declared.answers.Answer.{Answer}
use Rattle.record_io.specs.Answers.{Header, header_octets, header_of, answer_octets, answers_octets, HasWidths}
use Rattle.record_io.specs.Answers.{IsAnswer, Cut, EndsWith, ShowsAnswers}

length-header : (h : Header) → length (header_octets h) ≡ 24
length-header h = refl

same_header : (h k : Header) → h.code ≡ k.code → h.detail ≡ k.detail → h.key ≡ k.key → h.octets ≡ k.octets
    → h.position ≡ k.position
    → h.number ≡ k.number → h ≡ k
same_header h k e f g i j l =
    ap (λ (n : ℕ). record {
      code = n;
      detail = h.detail;
      key = h.key;
      octets = h.octets;
      position = h.position;
      number = h.number;
    }) e
    ∙ ap (λ (n : ℕ). record {
      code = k.code;
      detail = n;
      key = h.key;
      octets = h.octets;
      position = h.position;
      number = h.number;
    }) f
    ∙ ap (λ (n : ℕ). record {
      code = k.code;
      detail = k.detail;
      key = n;
      octets = h.octets;
      position = h.position;
      number = h.number;
    }) g
    ∙ ap (λ (n : ℕ). record {
      code = k.code;
      detail = k.detail;
      key = k.key;
      octets = n;
      position = h.position;
      number = h.number;
    }) i
    ∙ ap (λ (n : ℕ). record {
      code = k.code;
      detail = k.detail;
      key = k.key;
      octets = k.octets;
      position = n;
      number = h.number;
    }) j
    ∙ ap (λ (n : ℕ). record {
      code = k.code;
      detail = k.detail;
      key = k.key;
      octets = k.octets;
      position = k.position;
      number = n;
    }) l

-- a header in front of octets is one
one_header : (h k : Header) (a b : List ℕ) → HasWidths h → HasWidths k → header_octets h ++ a ≡ header_octets k ++ b
    → (h ≡ k) × (a ≡ b)
one_header h k a b fits_h fits_k e =
    let same : header_octets h ≡ header_octets k =
    sym (take_front (header_octets h) a 24 refl) ∙ ap (λ l. take 24 l) e ∙ take_front (header_octets k) b 24 refl in (
      same_header h k (ap (λ l. get_or l 0 0) same) (ap (λ l. get_or l 1 0) same)
          (sym (from_be_bytes-to_be_bytes_2 h.key fits_h.key) ∙ ap (λ l. from_be_bytes w16 (take 2 (drop 2 l))) same
          ∙ from_be_bytes-to_be_bytes_2 k.key fits_k.key)
          (sym (from_be_bytes-to_be_bytes_4 h.octets fits_h.octets) ∙ ap (λ l. from_be_bytes w32 (take 4 (drop 4 l)))
          same ∙ from_be_bytes-to_be_bytes_4 k.octets fits_k.octets)
          (sym (from_be_bytes-to_be_bytes_8 h.position fits_h.position)
          ∙ ap (λ l. from_be_bytes w64 (take 8 (drop 8 l))) same ∙ from_be_bytes-to_be_bytes_8 k.position
          fits_k.position)
          (sym (from_be_bytes-to_be_bytes_8 h.number fits_h.number) ∙ ap (λ l. from_be_bytes w64 (take 8 (drop 16 l)))
          same ∙ from_be_bytes-to_be_bytes_8 k.number fits_k.number),
      sym (drop_front (header_octets h) a 24 refl) ∙ ap (λ l. drop 24 l) e ∙ drop_front (header_octets k) b 24 refl,
    )

answer_from : Header → List ℕ → Answer
answer_from h body = record {
  code = h.code;
  detail = h.detail;
  key = h.key;
  position = h.position;
  number = h.number;
  body = body;
}

split : (x : Answer) (a : List ℕ) → answer_octets x ++ a ≡ header_octets (header_of x) ++ (x.body ++ a)
unfolding answer_octets
split x a = append_assoc (header_octets (header_of x)) x.body a

-- an answer in front of octets is one
one_answer : (x y : Answer) (a b : List ℕ) → IsAnswer x → IsAnswer y → answer_octets x ++ a ≡ answer_octets y ++ b
    → (x ≡ y) × (a ≡ b)
unfolding answer_from
one_answer x y a b is_x is_y e =
    let first = one_header (header_of x) (header_of y) (x.body ++ a) (y.body ++ b) is_x is_y
    (sym (split x a) ∙ e ∙ split y b) in
    let sizes : length x.body ≡ length y.body = ap (λ (h : Header). h.octets) first.0 in
    let bodies : x.body ≡ y.body =
    sym (take_front x.body a (length x.body) refl) ∙ ap (λ l. take (length x.body) l) first.1
    ∙ take_front y.body b (length x.body) sizes in (
      ap (λ (h : Header). answer_from h x.body) first.0 ∙ ap (λ (l : List ℕ). answer_from (header_of y) l) bodies,
      sym (drop_front x.body a (length x.body) refl) ∙ ap (λ l. drop (length x.body) l) first.1
          ∙ drop_front y.body b (length x.body) sizes,
    )

-- what ends the answers is no whole answer
no_answer : (x : Answer) (rest behind : List ℕ) (last : Option Cut) → IsAnswer x → EndsWith behind last
    → behind ≡ answer_octets x ++ rest → ⊥
no_answer x rest behind None is ends e =
    omega (
      arith,
      ends,
      ap length (e ∙ split x rest),
      length-append (header_octets (header_of x)) (x.body ++ rest),
      length-header (header_of x),
    )
no_answer x rest behind (Some cut) is ends e =
    let first = one_header cut.header (header_of x) cut.front (x.body ++ rest) ends.0.widths is
    (sym ends.1 ∙ e ∙ split x rest) in
    omega (arith, ends.0.short, ap (λ (h : Header). h.octets) first.0, ap length first.1, length-append x.body rest)

one_cut : (a b : List ℕ) (c d : Option Cut) → a ≡ b → EndsWith a c → EndsWith b d → c ≡ d
one_cut a b None None e x y = refl
one_cut a b None (Some cut) e x y =
    absurd (omega (
      arith,
      x,
      ap length (e ∙ y.1),
      length-append (header_octets cut.header) cut.front,
      length-header cut.header,
    ))
one_cut a b (Some cut) None e x y =
    absurd (omega (
      arith,
      y,
      ap length (sym e ∙ x.1),
      length-append (header_octets cut.header) cut.front,
      length-header cut.header,
    ))
one_cut a b (Some cut) (Some other) e x y =
    let first = one_header cut.header other.header cut.front other.front x.0.widths y.0.widths (sym x.1 ∙ e ∙ y.1) in
    ap (λ (h : Header). Some (record { header = h; front = cut.front })) first.0
    ∙ ap (λ (l : List ℕ). Some (record { header = other.header; front = l })) first.1

one_list : (xs ys : List Answer) (a b : List ℕ) (c d : Option Cut) → All IsAnswer xs → All IsAnswer ys → EndsWith a c
    → EndsWith b d
    → answers_octets xs ++ a ≡ answers_octets ys ++ b → (xs ≡ ys) × (c ≡ d)
one_list [] [] a b c d is_xs is_ys x y e = (refl, one_cut a b c d e x y)
one_list [] (z ∷ ys) a b c d is_xs is_ys x y e =
    absurd (no_answer z (answers_octets ys ++ b) a c (All-head IsAnswer z ys is_ys) x
    (e ∙ append_assoc (answer_octets z) (answers_octets ys) b))
one_list (z ∷ xs) [] a b c d is_xs is_ys x y e =
    absurd (no_answer z (answers_octets xs ++ a) b d (All-head IsAnswer z xs is_xs) y
    (sym e ∙ append_assoc (answer_octets z) (answers_octets xs) a))
one_list (v ∷ xs) (w ∷ ys) a b c d is_xs is_ys x y e =
    let first = one_answer v w (answers_octets xs ++ a) (answers_octets ys ++ b) (All-head IsAnswer v xs is_xs)
    (All-head IsAnswer w ys is_ys)
    (sym (append_assoc (answer_octets v) (answers_octets xs) a) ∙ e ∙ append_assoc (answer_octets w) (answers_octets ys)
    b) in
    let rest = one_list xs ys a b c d (All-tail IsAnswer v xs is_xs) (All-tail IsAnswer w ys is_ys) x y first.1 in
    (ap (λ (z : Answer). z ∷ xs) first.0 ∙ ap (λ (l : List Answer). w ∷ l) rest.0, rest.1)

pub shown_once : (octets : List ℕ) (xs ys : List Answer) (c d : Option Cut) → ShowsAnswers octets xs c
    → ShowsAnswers octets ys d → (xs ≡ ys) × (c ≡ d)
shown_once octets xs ys c d x y =
    one_list xs ys x.behind y.behind c d x.answers_are y.answers_are x.ends y.ends (sym x.spelled ∙ y.spelled)

pub whole_shown : (answers : List Answer) → All IsAnswer answers → ShowsAnswers (answers_octets answers) answers None
whole_shown answers are = record {
  answers_are = are;
  behind = [];
  spelled = sym (append-nil (answers_octets answers));
  ends = omega arith;
}

pub cut_shown : (answers : List Answer) (last : Answer) (n : ℕ) → All IsAnswer answers → IsAnswer last
    → n < length last.body
    → ShowsAnswers (answers_octets answers ++ take (24 + n) (answer_octets last)) answers
    (Some (record { header = header_of last; front = take n last.body }))
unfolding answer_octets
cut_shown answers last n are is within = record {
  answers_are = are;
  behind = take (24 + n) (answer_octets last);
  spelled = refl;
  ends = (
    record { widths = is; short = omega (arith, length-take-le n last.body (omega arith)) },
    take-append-add (header_octets (header_of last)) last.body n,
  );
}
