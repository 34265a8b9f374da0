use Rattle.std.proofs.Common.{◌≡◌, ◌≤◌, ◌∷◌, [], ◌++◌, map, ap, ◌∙◌, arith, rules, length-append}
use Rattle.std.specs.Fmt.{decimal}
use Rattle.input_text.proofs.NumberLists.{taken_first, taken_next, first_of, only_taken, one_wanted}
use Rattle.input_text.proofs.commands.channel_numbers.Goals as goal

pub returns-in_err-first-clause-only : goal.returns-in_err-first-clause-only
returns-in_err-first-clause-only c listed each least most spelled =
    let first = first_of (λ channel. channel ≤ 63) listed (omega (arith, least)) each in
    let memory = c.in_err-first.ensures.only first.0 (map decimal first.1) first.2
    (spelled ∙ ap (map decimal) first.3) in
    search rules

pub words-init : goal.words-init
words-init c =
    let items : c.push.new.self.items ≡ c.in_ok-first.first ∷ [] =
    c.in_ok-push.ensures.items ∙ ap (λ taken. taken ++ c.in_ok-first.first ∷ []) c.new-numbers.ensures.items in
    rw items (
      taken_first (λ channel. channel ≤ 63) _ _ c.in_ok-first.first c.in_ok-first.ensures.read.0
          c.in_ok-first.ensures.read.1
          (λ m behind holds is. c.in_ok-first.ensures.only m behind holds is),
      omega arith,
      omega arith,
    )

pub words-preserved : goal.words-preserved
words-preserved c =
    let items : c.push-in-words.new.self.items ≡ c.words.numbers.items ++ c.in_ok-number.number ∷ [] =
    c.in_ok-push-2.ensures.items in
    let longer = length-append c.words.numbers.items (c.in_ok-number.number ∷ []) in
    rw items (
      taken_next (λ channel. channel ≤ 63) _ _ _ _ _ _ c.words.invariant.0 c.in-Some.ensures
          c.in_ok-number.ensures.read.1 c.in_ok-number.ensures.read.0
          (λ m holds is. c.in_ok-number.ensures.only m holds is),
      search (rules, longer),
      search (rules, longer),
    )

pub returns-in_default-clause-only : goal.returns-in_default-clause-only
returns-in_default-clause-only c listed each least most spelled =
    c.new.ensures ∙ only_taken (λ channel. channel ≤ 63) _ _ _ c.words.invariant.0 c.in_default.ensures.0 listed each
    spelled

pub returns-in_err-number-clause-only : goal.returns-in_err-number-clause-only
returns-in_err-number-clause-only c listed each least most spelled =
    let wanted = one_wanted (λ channel. channel ≤ 63) _ _ _ _ _ c.words.invariant.0 c.in-Some.ensures listed each
    spelled in
    let memory = c.in_err-number.ensures.only wanted.number wanted.holds wanted.spelled in
    search rules

pub returns-clause-only : goal.returns-clause-only
returns-clause-only c listed each least most spelled =
    c.new-2.ensures ∙ only_taken (λ channel. channel ≤ 63) _ _ _ c.words.invariant.0 c.in_ok-end.ensures.read listed
    each spelled
