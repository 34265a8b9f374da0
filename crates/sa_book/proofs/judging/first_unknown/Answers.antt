use Rattle.std.proofs.Common.{◌≡◌, ℕ, Bool, not, nat_eq, Some, get_or, sym, ◌∙◌}
use Rattle.std.specs.List.{list_any, position}
use Rattle.std.proofs.lemmas.List.Quantifiers.{position-Some}
use Rattle.sdls_base.proofs.Searches.{find_placed, find_nowhere}
use Rattle.sa_book.proofs.Changes.{named_channel}
use Rattle.sa_book.proofs.judging.first_unknown.Goals as goal

pub returns-in_err-i : goal.returns-in_err-i
returns-in_err-i c =
    rw c.from_residual.ensures
    (sym (find_nowhere (λ channel. not (list_any (λ other. nat_eq other channel) c.args.known.now))
    c.args.channels.now (sym c.in_err-i.ensures)))

pub returns : goal.returns
returns c =
    let p : ℕ → Bool = λ channel. not (list_any (λ other. nat_eq other channel) c.args.known.now) in
    let place : position p c.args.channels.now ≡ Some c.in_ok-i.i = sym c.in_ok-i.ensures in
    let within = (position-Some p c.args.channels.now c.in_ok-i.i 0 place).0 in
    named_channel c.new.result (get_or c.args.channels.now c.in_ok-i.i 0) c.new.ensures
    (c.requires c.in_ok-i.i 0 within)
    ∙ sym (find_placed p c.args.channels.now c.in_ok-i.i 0 place)
