use Rattle.std.proofs.Common.{ap, bit_xor, map, ◌∙◌}
use Rattle.std.proofs.lemmas.Simd.{map-map, zip2_of_maps}
use Rattle.aes_block.specs.Basis.{first_place, look, second_place}
use Rattle.aes_block.specs.declared.substitution.TheConstants.{ONE_OVER, A_OVER}
use Rattle.aes_block.proofs.BasisFacts.{lower_bits, lower_fits, upper_bits, upper_fits, both_are, both_fit, first_inner}
use Rattle.aes_block.proofs.BasisFacts.{first_inner_fits, second_inner, second_inner_fits, first_places, first_fits}
use Rattle.aes_block.proofs.BasisFacts.{second_places, second_fits}
use Rattle.aes_block.proofs.substitution.summed.Goals as goal

pub look_up-over_k-requires : goal.look_up-over_k-requires
look_up-over_k-requires c = lower_fits c.args.numbers c.fits-numbers.1 _ (lower_bits c.args.numbers c.fits-numbers.0)

pub look_up-requires : goal.look_up-requires
look_up-requires c = upper_fits c.args.numbers c.fits-numbers.1 _ (upper_bits c.args.numbers c.fits-numbers.0)

pub look_up-requires-2 : goal.look_up-requires-2
look_up-requires-2 c =
    first_inner_fits c.args.numbers c.fits-numbers.1 _
    (first_inner c.args.numbers c.fits-numbers.0 c.look_up-over_k.result c.look_up-over_k.ensures c.look_up.result
    c.look_up.ensures)

pub look_up-requires-3 : goal.look_up-requires-3
look_up-requires-3 c = both_fit c.args.numbers c.fits-numbers.1 _ (both_are c.args.numbers c.fits-numbers.0)

pub look_up-requires-4 : goal.look_up-requires-4
look_up-requires-4 c =
    second_inner_fits c.args.numbers c.fits-numbers.1 _
    (second_inner c.args.numbers c.fits-numbers.0 c.look_up-over_k.result c.look_up-over_k.ensures c.look_up-3.result
    c.look_up-3.ensures)

pub look_up-requires-5 : goal.look_up-requires-5
look_up-requires-5 c =
    first_fits c.args.numbers c.fits-numbers.1 _
    (first_places c.args.numbers c.fits-numbers.0 c.look_up-over_k.result c.look_up-over_k.ensures c.look_up.result
    c.look_up-2.result c.look_up.ensures c.look_up-2.ensures)

pub look_up-requires-6 : goal.look_up-requires-6
look_up-requires-6 c =
    second_fits c.args.numbers c.fits-numbers.1 _
    (second_places c.args.numbers c.fits-numbers.0 c.look_up-over_k.result c.look_up-over_k.ensures c.look_up-3.result
    c.look_up-4.result c.look_up-3.ensures c.look_up-4.ensures)

pub returns : goal.returns
returns c =
    let v = c.args.numbers in
    zip2_of_maps bit_xor (λ y. look c.args.first (first_place ONE_OVER A_OVER y)) (λ y. look c.args.second
    (second_place ONE_OVER A_OVER y)) v
    (c.look_up-5.ensures
    ∙ ap (map (look c.args.first))
    (first_places v c.fits-numbers.0 c.look_up-over_k.result c.look_up-over_k.ensures c.look_up.result
    c.look_up-2.result
    c.look_up.ensures c.look_up-2.ensures)
    ∙ map-map (look c.args.first) (first_place ONE_OVER A_OVER) v)
    (c.look_up-6.ensures
    ∙ ap (map (look c.args.second))
    (second_places v c.fits-numbers.0 c.look_up-over_k.result c.look_up-over_k.ensures c.look_up-3.result
    c.look_up-4.result
    c.look_up-3.ensures c.look_up-4.ensures)
    ∙ map-map (look c.args.second) (second_place ONE_OVER A_OVER) v)
