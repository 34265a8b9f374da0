use Rattle.std.proofs.Common.{◌≡◌, ◌++◌, ◌∷◌, [], get_or, arith, ◌∙◌, ap}
use Rattle.sdls_base.specs.Code.{key_state_of}
use Rattle.ep_codec.specs.FieldList.{rows_in}
use Rattle.ep_codec.proofs.Lists.{behind, word_of, behind_three, rows_faults, rows_read}
use Rattle.ep_codec.proofs.fields.rows.Goals as goal

pub loop-rest-preserved : goal.loop-rest-preserved
loop-rest-preserved c =
    let rest = c.loop-rest.rest.now in
    let pushed : c.push.new.self.items ≡ c.loop-rest.rows.items ++ (word_of rest, key_state_of (get_or rest 2 0)) ∷ [] =
    rw (c.in_ok-push.ensures.items, c.in_ok-key.ensures.1, c.in_ok-state.ensures.1, c.from_be_bytes.ensures) in
    record {
      place = omega (arith, behind_three rest c.in-len3-up.len_at_least);
      faults = rows_faults c.loop-rest.next rest c.in-len3-up.len_at_least
          (rw c.from_be_bytes.ensures at c.in_ok-key.ensures.0) c.in_ok-state.ensures.0 ∙ c.loop-rest.invariant.faults;
      read = ap (λ items. items ++ rows_in (behind 3 rest)) pushed ∙ rows_read c.loop-rest.rows.items rest
          c.in-len3-up.len_at_least ∙ c.loop-rest.invariant.read;
    }
