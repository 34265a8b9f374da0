use Rattle.std.proofs.Common.{◌≡◌, ◌++◌, ◌∷◌, [], arith, ◌∙◌, ap}
use Rattle.ep_codec.specs.FieldList.{keys_in}
use Rattle.ep_codec.proofs.Lists.{behind, word_of, behind_two, keys_faults, keys_read}
use Rattle.ep_codec.proofs.fields.keys.Goals as goal

pub loop-rest-preserved : goal.loop-rest-preserved
loop-rest-preserved c =
    let rest = c.loop-rest.rest.now in
    let pushed : c.push.new.self.items ≡ c.loop-rest.keys.items ++ word_of rest ∷ [] =
    rw (c.in_ok-push.ensures.items, c.in_ok-key_of.ensures.1, c.from_be_bytes.ensures) in
    record {
      place = omega (arith, behind_two rest c.in-len2-up.len_at_least);
      faults = keys_faults c.loop-rest.next rest c.in-len2-up.len_at_least
          (rw c.from_be_bytes.ensures at c.in_ok-key_of.ensures.0) ∙ c.loop-rest.invariant.faults;
      read = ap (λ items. items ++ keys_in (behind 2 rest)) pushed ∙ keys_read c.loop-rest.keys.items rest
          c.in-len2-up.len_at_least ∙ c.loop-rest.invariant.read;
    }
