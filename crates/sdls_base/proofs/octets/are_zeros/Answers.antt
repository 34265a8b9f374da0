use Rattle.std.proofs.Common.{◌≡◌, ◌∙◌, sym, rules}
use Rattle.std.proofs.lemmas.Bool.{eq-eqb, eqb-true}
use Rattle.std.specs.Int.Bits.{bit_or}
use Rattle.std.specs.List.{fold}
use Rattle.sdls_base.proofs.Joined.{joined_zeros, zeros_joined}
use Rattle.sdls_base.proofs.octets.are_zeros.Goals as goal

pub returns : goal.returns
returns c =
    let joined : c.fold.result ≡ fold bit_or 0 c.args.octets.now = search rules in (
      λ none. zeros_joined 0 c.args.octets.now (sym joined ∙ eqb-true c.fold.result 0 none),
      λ are. eq-eqb c.fold.result 0 (joined ∙ joined_zeros c.args.octets.now are),
    )
