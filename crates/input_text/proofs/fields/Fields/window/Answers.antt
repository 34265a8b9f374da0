use Rattle.std.proofs.Common.{◌≤◌, ◌∷◌, ◌++◌, codes, decimal, sym, ap, ◌∙◌, arith, rules}
use Rattle.sdls_base.specs.Bounds.{IsWidth}
use Rattle.replay_window.specs.declared.TheConstants.{MOST_BACK}
use Rattle.replay_window.specs.WindowField.{back_of, width_of}
use Rattle.replay_window.proofs.Fields.{width_field, IsWindowField-field}
use Rattle.input_text.specs.Command.{back_words}
use Rattle.input_text.proofs.Texts.{tail_is}
use Rattle.input_text.proofs.Windows.{behind_back, field_is, width_words, field_words, without_back}
use Rattle.input_text.proofs.fields.Fields.window.Goals as goal

pub returns-in_err-width-clause-only : goal.returns-in_err-width-clause-only
returns-in_err-width-clause-only c window rest is none spelled =
    let memory = c.in_err-width.ensures.only (width_of window) (back_words (back_of window) ++ rest) is.width.least
    is.width.most spelled in
    search rules

pub returns-then-not-takes_back-clause-read : goal.returns-then-not-takes_back-clause-read
returns-then-not-takes_back-clause-read c =
    let read = c.in_ok-width.ensures.read in
    let bounds : IsWidth c.in_ok-width.width = record { least = read.1; most = read.2 } in
    let left = c.takes_back.ensures.left (search rules) in (
      read.0 ∙ (ap (λ rest. decimal c.in_ok-width.width ∷ rest) (sym left)
          ∙ sym (width_words c.in_ok-width.width _ bounds)),
      width_field c.in_ok-width.width bounds,
    )

pub returns-then-not-takes_back-clause-only : goal.returns-then-not-takes_back-clause-only
returns-then-not-takes_back-clause-only c window rest is none spelled =
    let behind = back_words (back_of window) ++ rest in
    let same = c.in_ok-width.ensures.only (width_of window) behind is.width.least is.width.most spelled in
    let left = tail_is _ _ _ _ _ c.in_ok-width.ensures.read.0 spelled in
    without_back window c.in_ok-width.width _ rest same left (λ words taken. let back =
    c.takes_back.ensures.only words taken in search rules)

pub returns-in_err-back-clause-only : goal.returns-in_err-back-clause-only
returns-in_err-back-clause-only c window rest is none spelled =
    let left = tail_is _ _ _ _ _ c.in_ok-width.ensures.read.0 spelled in
    let late = behind_back window _ _ rest left none (c.takes_back.ensures.taken (search rules)) in
    let most = is.back in
    let memory = c.in_err-back.ensures.only (back_of window) rest late.0 (search rules) late.1 in
    search rules

pub returns-clause-read : goal.returns-clause-read
returns-clause-read c =
    let first = c.in_ok-width.ensures.read in
    let second = c.in_ok-back.ensures.read in
    let taken = c.takes_back.ensures.taken (search rules) in
    let bounds : IsWidth c.in_ok-width.width = record { least = first.1; most = first.2 } in
    let low : c.in_ok-back.back ≤ MOST_BACK = search rules in
    rw c.window_field.ensures (
      first.0
          ∙ (ap (λ rest. decimal c.in_ok-width.width ∷ rest) (taken ∙ ap (λ rest. codes "back" ∷ rest) second.0)
          ∙ sym (field_words c.in_ok-back.back c.in_ok-width.width _ (omega (arith, second.1))
          (omega (arith, first.2)))),
      IsWindowField-field c.in_ok-back.back c.in_ok-width.width low bounds,
    )

pub returns-clause-only : goal.returns-clause-only
returns-clause-only c window rest is none spelled =
    let behind = back_words (back_of window) ++ rest in
    let same = c.in_ok-width.ensures.only (width_of window) behind is.width.least is.width.most spelled in
    let left = tail_is _ _ _ _ _ c.in_ok-width.ensures.read.0 spelled in
    let late = behind_back window _ _ rest left none (c.takes_back.ensures.taken (search rules)) in
    let most = is.back in
    let back = c.in_ok-back.ensures.only (back_of window) rest late.0 (search rules) late.1 in
    c.window_field.ensures ∙ field_is window _ _ back same
