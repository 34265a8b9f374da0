use Rattle.std.proofs.Common.{◌≡◌, suc, ◌+◌, ◌-◌, ◌∷◌, ◌++◌, [], ap, ◌∙◌, arith}
use Rattle.sdls_base.specs.Places.{word_at}
use Rattle.book_record.specs.Reading.{keys_in, AreKeys}
use Rattle.book_record.proofs.Lists.{keys_read, keys_may}
use Rattle.book_record.proofs.reading.keys.Goals as goal

pub loop-preserved : goal.loop-preserved
loop-preserved c =
    let body = c.args.body.now in
    let at = c.loop.at in
    let left = c.args.count - c.loop.counter in
    let after = c.args.count - (c.loop.counter + 1) in
    let one : left ≡ suc after = omega (arith, c.loop-test.true) in
    let pushed : c.push.new.self.items ≡ c.loop.keys.items ++ word_at at body ∷ [] =
    rw (c.in_ok-push.ensures.items, c.in_ok-key.ensures.1) in
    record {
      place = omega (arith, c.loop.invariant.place);
      may = keys_may left after at body (AreKeys c.args.count 5 body) one c.in_ok-key.ensures.0 c.loop.invariant.may;
      read = ap (λ keys. keys ++ keys_in after (at + 2) body) pushed ∙ keys_read c.loop.keys.items left after at body
          one ∙ c.loop.invariant.read;
    }
