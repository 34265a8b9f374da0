-- One record more: for the loops of `protect_tasks` and `open_tasks`.
use Rattle.std.proofs.Common.{◌≡◌, ◌≢◌, ℕ, ◌+◌, ◌-◌, ◌<◌, ◌≤◌, ◌==◌, Bool, true, false, cond, List, [], ◌∷◌, ◌++◌}
use Rattle.std.proofs.Common.{length, take, get_or, refl, sym, ◌∙◌, ap, arith}
use Rattle.std.proofs.lemmas.Bool.Decides.{nat_tests}
use Rattle.std.proofs.lemmas.List.{take_more, length-take}
use Rattle.std.proofs.lemmas.List.FromFn.{map-range_with_len_more}
use Rattle.record_io.specs.declared.answers.Answer.{Answer}
use Rattle.record_io.specs.declared.code.TheConstants.{PROTECTED}
use Rattle.record_io.specs.declared.item_cursor.Record.{Record}
use Rattle.unit_drill.specs.Frames.{open_task, open_tasks, protect_task, protect_tasks}

pub none_yet : (first number : ℕ) → number ≡ first → protect_tasks first (number - first) ≡ []
none_yet first number same = ap (protect_tasks first) (let e : number - first ≡ 0 = omega arith in e)

pub protect_more : (first number : ℕ) (tasks : List Record) (task : Record) → first ≤ number
    → tasks ≡ protect_tasks first (number - first)
    → task ≡ protect_task number → tasks ++ task ∷ [] ≡ protect_tasks first (number + 1 - first)
protect_more first number tasks task low are is =
    let more : number + 1 - first ≡ (number - first) + 1 = omega arith in
    let last = map-range_with_len_more protect_task first (number - first) number (omega arith) in
    ap (λ (l : List Record). l ++ task ∷ []) are
    ∙ (ap (λ (t : Record). protect_tasks first (number - first) ++ t ∷ []) is
    ∙ (sym last ∙ ap (protect_tasks first) (sym more)))

cond_append : (b : Bool) (task : Record) (us ws vs : List Record) → us ≡ ws ++ vs
    → cond b (task ∷ us) us ≡ cond b (task ∷ ws) ws ++ vs
cond_append true task us ws vs is = ap (λ (l : List Record). task ∷ l) is
cond_append false task us ws vs is = is

open_append : (ahead first at : ℕ) (xs : List Answer) (answer : Answer) → at ≡ first + length xs
    → open_tasks ahead first (xs ++ answer ∷ []) ≡ open_tasks ahead first xs ++ open_tasks ahead at (answer ∷ [])
open_append ahead first at [] answer is =
    ap (λ (n : ℕ). open_tasks ahead n (answer ∷ [])) (let e : first ≡ at = omega arith in e)
open_append ahead first at (x ∷ xs) answer is =
    cond_append (x.code == PROTECTED) (open_task (first + ahead) first x.body)
    (open_tasks ahead (first + 1) (xs ++ answer ∷ []))
    (open_tasks ahead (first + 1) xs) (open_tasks ahead at (answer ∷ []))
    (open_append ahead (first + 1) at xs answer (omega arith))

at_place : (ahead first place : ℕ) (answers : List Answer) (answer : Answer) → place < length answers
    → answer ≡ get_or answers place answer
    → open_tasks ahead first (take (place + 1) answers)
    ≡ open_tasks ahead first (take place answers) ++ open_tasks ahead (first + place) (answer ∷ [])
at_place ahead first place answers answer low is =
    let sized : length (take place answers) ≡ place = grind (arith, length-take) in
    ap (open_tasks ahead first) (take_more answers place answer low ∙ ap (λ (a : Answer). take place answers ++ a ∷ [])
    (sym is))
    ∙ open_append ahead first (first + place) (take place answers) answer (omega arith)

pub open_more : (ahead first place : ℕ) (answers : List Answer) (answer : Answer) (tasks : List Record) (task : Record)
    → place < length answers
    → answer ≡ get_or answers place answer → tasks ≡ open_tasks ahead first (take place answers)
    → answer.code ≡ PROTECTED
    → task ≡ open_task (first + place + ahead) (first + place) answer.body
    → tasks ++ task ∷ [] ≡ open_tasks ahead first (take (place + 1) answers)
open_more ahead first place answers answer tasks task low there are code is =
    let test : (answer.code == PROTECTED) ≡ true = grind (arith, nat_tests) in
    let one : open_tasks ahead (first + place) (answer ∷ []) ≡ task ∷ [] =
    ap (λ (b : Bool). cond b (open_task (first + place + ahead) (first + place) answer.body ∷ []) []) test
    ∙ ap (λ (t : Record). t ∷ []) (sym is) in
    ap (λ (l : List Record). l ++ task ∷ []) are
    ∙ (ap (λ (l : List Record). open_tasks ahead first (take place answers) ++ l) (sym one)
    ∙ sym (at_place ahead first place answers answer low there))

append_none : (xs : List Record) → xs ≡ xs ++ []
append_none [] = refl
append_none (x ∷ xs) = ap (λ (l : List Record). x ∷ l) (append_none xs)

pub open_skips : (ahead first place : ℕ) (answers : List Answer) (answer : Answer) (tasks : List Record)
    → place < length answers
    → answer ≡ get_or answers place answer → tasks ≡ open_tasks ahead first (take place answers)
    → answer.code ≢ PROTECTED
    → tasks ≡ open_tasks ahead first (take (place + 1) answers)
open_skips ahead first place answers answer tasks low there are code =
    let test : (answer.code == PROTECTED) ≡ false = grind (arith, nat_tests) in
    let none : open_tasks ahead (first + place) (answer ∷ []) ≡ [] =
    ap (λ (b : Bool). cond b (open_task (first + place + ahead) (first + place) answer.body ∷ []) []) test in
    are ∙ (append_none (open_tasks ahead first (take place answers))
    ∙ (ap (λ (l : List Record). open_tasks ahead first (take place answers) ++ l) (sym none)
    ∙ sym (at_place ahead first place answers answer low there)))
