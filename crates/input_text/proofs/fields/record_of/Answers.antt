use Rattle.std.proofs.Common.{Some, ap, ◌∙◌, rules, inl, inr}
use Rattle.input_text.proofs.Texts.{octets_word_of}
use Rattle.input_text.proofs.fields.record_of.Goals as goal
use Rattle.input_text.proofs.fields.record_of.Goals.{then-is_empty-via-then-is_empty}
use Rattle.input_text.proofs.fields.record_of.Goals.{then-is_empty-via-else-is_empty+then-len-from}

pub returns-then-eq-clause-only : goal.returns-then-eq-clause-only
returns-then-eq-clause-only c octets are is =
    elim (octets_word_of octets _ is) [
      | inl none ↦ let e = none.1 in search rules
      | inr some ↦ absurd (let e = some.2 in search rules)
    ]

pub returns-in_default-clause-only : goal.returns-in_default-clause-only
returns-in_default-clause-only c octets are is =
    elim (octets_word_of octets _ is) [
      | inl none ↦ absurd (let e = none.0 in search rules)
      | inr some ↦
          let found = c.in_ok-octets.ensures.only octets are.each some.0 in
          absurd (rw c.in_default.is at found)
    ]

pub returns-then-is_empty-clause-only : goal.returns-then-is_empty-clause-only
returns-then-is_empty-clause-only c octets are is =
    elim (octets_word_of octets _ is) [
      | inl none ↦ absurd (let e = none.0 in search rules)
      | inr some ↦
          let found = rw c.in-Some.is at c.in_ok-octets.ensures.only octets are.each some.0 in
          let few = are.few in
          elim c.then-is_empty.branch [
            | then-is_empty-via-then-is_empty w ↦
                absurd (let empty = w.if-is_empty.true in let more = some.1 in search rules)
            | then-is_empty-via-else-is_empty+then-len-from w ↦ absurd (let long = w.if-len-from.true in search rules)
          ]
    ]

pub returns-clause-only : goal.returns-clause-only
returns-clause-only c octets are is =
    elim (octets_word_of octets _ is) [
      | inl none ↦ absurd (let e = none.0 in search rules)
      | inr some ↦
          let found = rw c.in-Some.is at c.in_ok-octets.ensures.only octets are.each some.0 in
          ap Some (c.new-2.ensures ∙ found)
    ]
