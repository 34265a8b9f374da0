use Rattle.std.proofs.Common.{map, refl, rules}
use Rattle.std.specs.Fmt.{decimal}
use Rattle.input_text.proofs.Windows.{channels_have_no_back, left_is}
use Rattle.input_text.proofs.commands.window_and_channels.Goals as goal

pub returns-in_err-window-clause-only : goal.returns-in_err-window-clause-only
returns-in_err-window-clause-only c window covered bounds are small is =
    let memory = c.in_err-window.ensures.only window (map decimal covered) bounds (channels_have_no_back covered small)
    is in
    search rules

pub returns-in_err-channels-clause-only : goal.returns-in_err-channels-clause-only
returns-in_err-channels-clause-only c window covered bounds are small is =
    let same = c.in_ok-window.ensures.only window (map decimal covered) bounds (channels_have_no_back covered small)
    is in
    let behind = left_is _ _ _ _ _ c.in_ok-window.ensures.read.0 same is in
    let memory = c.in_err-channels.ensures.only covered are small behind in
    search rules

pub returns-clause-only : goal.returns-clause-only
returns-clause-only c window covered bounds are small is =
    let same = c.in_ok-window.ensures.only window (map decimal covered) bounds (channels_have_no_back covered small)
    is in
    let behind = left_is _ _ _ _ _ c.in_ok-window.ensures.read.0 same is in
    let others = c.in_ok-channels.ensures.only covered are small behind in
    rw (same, others) refl
