use Rattle.std.proofs.Common.{[], sym, ◌∙◌, rules, append-nil}
use Rattle.input_text.specs.Command.{window_words}
use Rattle.input_text.proofs.Windows.{left_is, none_has_no_back}
use Rattle.input_text.proofs.fields.Fields.last_window.Goals as goal

pub returns-in_err-window-clause-only : goal.returns-in_err-window-clause-only
returns-in_err-window-clause-only c window is spelled =
    let whole = spelled ∙ sym (append-nil (window_words window)) in
    let memory = c.in_err-window.ensures.only window [] is none_has_no_back whole in
    search rules

pub returns-in_err-end-clause-only : goal.returns-in_err-end-clause-only
returns-in_err-end-clause-only c window is spelled =
    let whole = spelled ∙ sym (append-nil (window_words window)) in
    let same = c.in_ok-window.ensures.only window [] is none_has_no_back whole in
    absurd (cc (c.in_err-end.ensures.only (left_is _ _ _ _ _ c.in_ok-window.ensures.read.0 same whole)))

pub returns-clause-only : goal.returns-clause-only
returns-clause-only c window is spelled =
    c.in_ok-window.ensures.only window [] is none_has_no_back (spelled ∙ sym (append-nil (window_words window)))
