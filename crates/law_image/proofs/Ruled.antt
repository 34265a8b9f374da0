-- The state that an image shows keeps the rules of states, and a restart leaves it: for `shown_keeps_rules`.
use Rattle.std.proofs.Common.{◌≡◌, ℕ, List, [], ◌∷◌, sym, ◌∙◌, ap, subst}
use Rattle.unit_state.specs.declared.state.State.{State}
use Rattle.unit_state.specs.Applied.{applied}
use Rattle.unit_state.specs.Restart.{restarted}
use Rattle.unit_state.specs.State.{KeepsRules}
use Rattle.unit_state.proofs.RulesKept.{rules_kept}
use Rattle.unit_state.proofs.StateLaws.{restarted_twice}
use Rattle.unit_image.specs.Shows.{LeadTo}
use Rattle.disk_journal.specs.Image.{Held}
use Rattle.unit_image.specs.Shows.{SaysState, Shows}
use Rattle.unit_image.proofs.Restarted.{restarted_rules}

led_rules : (state last : State) (bodies : List (List ℕ)) → KeepsRules state → LeadTo state bodies last
    → KeepsRules last
led_rules state last [] ok led = subst KeepsRules (sym led) ok
led_rules state last (body ∷ bodies) ok (change, is_record, allowed, rest) =
    led_rules (applied state change) last bodies (rules_kept state change ok allowed) rest

pub said_rules : (what : Held) (state : State) → SaysState what state → KeepsRules state
said_rules what state says =
    let first = says.begins.content.spelled.rules in
    subst KeepsRules (sym says.left)
    (restarted_rules says.last (led_rules says.first says.last what.records first says.led))

pub shown_rules : (image : List ℕ) (state : State) → Shows image state → KeepsRules state
shown_rules image state shows = said_rules shows.what state shows.says

pub shown_left : (image : List ℕ) (state : State) → Shows image state → restarted state ≡ state
shown_left image state shows =
    let left : state ≡ restarted shows.says.last = shows.says.left in
    ap restarted left ∙ restarted_twice shows.says.last ∙ sym left
