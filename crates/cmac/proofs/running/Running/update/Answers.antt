use Rattle.std.proofs.Common.{◌≡◌, List, ℕ, take, sym, subst, ap, ◌∙◌, ◌-◌, ◌++◌, length, drop, arith}
use Rattle.std.proofs.lemmas.List.{append_assoc, length-take-le, take-append-drop, take_rest}
use Rattle.cmac.specs.Running.{Kept, Holds}
use Rattle.cmac.proofs.ChainFacts.{holds_more}
use Rattle.cmac.proofs.running.Running.update.Goals as goal

pub returns-then-piece-room-clause-more : goal.returns-then-piece-room-clause-more
returns-then-piece-room-clause-more c = λ m holds.
    let s = c.self.inside in
    let count : length c.args.self.now.rest ≡ s.used =
    sym (ap (λ (k : Kept). length k.rest) c.self.view_is) ∙ length-take-le s.used s.held
    (omega (arith, c.self.told.1, c.self.invariant)) in
    subst (λ (k : Kept). Holds k (m ++ c.args.piece.now)) (sym c.hold.ensures)
    (holds_more c.args.self.now m c.args.piece.now holds (omega (arith, c.if-piece-room.true, c.self.invariant)))

pub returns-clause-more : goal.returns-clause-more
returns-clause-more c = λ m holds.
    let s = c.self.inside in
    let piece : List ℕ = c.args.piece.now in
    let room : ℕ = 16 - s.used in
    let count : length c.args.self.now.rest ≡ s.used =
    sym (ap (λ (k : Kept). length k.rest) c.self.view_is) ∙ length-take-le s.used s.held
    (omega (arith, c.self.told.1, c.self.invariant)) in
    let fill : length (take room piece) ≡ room = length-take-le room piece (omega (arith, c.if-piece-room.false)) in
    let filled : Holds c.hold-2.new.self (m ++ take room piece) =
    subst (λ (k : Kept). Holds k (m ++ take room piece)) (sym c.hold-2.ensures)
    (holds_more c.args.self.now m (take room piece) holds (omega (arith, c.self.invariant))) in
    subst (Holds c.chain.new.self)
    (ap (λ (l : List ℕ). (m ++ take room piece) ++ l) (take_rest piece room)
    ∙ append_assoc m (take room piece) (drop room piece) ∙ ap (λ (l : List ℕ). m ++ l) (take-append-drop room piece))
    (c.chain.ensures.more (m ++ take room piece) filled)
