use Rattle.std.proofs.Common.{ℕ, sym, ap, ◌∙◌, subst}
use Rattle.sdls_base.specs.declared.entry.Change.TheVariants.{Accepted}
use Rattle.unit_state.specs.Allows.{Allows}
use Rattle.frame_checks.specs.declared.opening_frames.OpenReply.{OpenReply}
use Rattle.frame_checks.specs.Accepting.{MayBeAccepted, OnAccepted}
use Rattle.run_promise.specs.History.{frame_change}
use Rattle.run_promise.proofs.Accepted.{accept_allowed, nothing_changed}
use Rattle.unit_book.proofs.book.Book.frame_change.Goals as goal

pub returns-in-Accepted-clause-change : goal.returns-in-Accepted-clause-change
returns-in-Accepted-clause-change g c =
    ap (λ (floor : ℕ). Accepted c.in-Accepted.spi c.in-Accepted.key c.in-Accepted.number floor)
    c.raised_floor.ensures.floor
    ∙ sym (ap (frame_change c.args.self.now.plan c.args.self.now.state) c.in-Accepted.is)

pub returns-in-Accepted-clause-allowed : goal.returns-in-Accepted-clause-allowed
returns-in-Accepted-clause-allowed g c =
    subst (λ (floor : ℕ). Allows c.args.self.now.state
    (Accepted c.in-Accepted.spi c.in-Accepted.key c.in-Accepted.number floor))
    (sym c.raised_floor.ensures.floor)
    (accept_allowed c.args.self.now.plan c.args.self.now.state c.in-Accepted.spi c.in-Accepted.key c.in-Accepted.number
    c.requires.rules
    (subst (λ (reply : OpenReply). OnAccepted reply (MayBeAccepted c.args.self.now.state)) c.in-Accepted.is
    c.requires.accepted) c.raised_floor.ensures.accept)

pub returns-in_default : goal.returns-in_default
returns-in_default g c = record {
  change = nothing_changed c.args.self.now.plan c.args.self.now.state c.args.reply.now c.in_default.not-Accepted;
  allowed = tt;
  light = tt;
  numbers = tt;
}
