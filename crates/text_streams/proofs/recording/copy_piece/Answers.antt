use Rattle.std.proofs.Common.{◌≡◌, ◌++◌, length, take, ap, ◌∙◌, arith, rules}
use Rattle.std.proofs.lemmas.List.{take_all}
use Rattle.sdls_outside.proofs.Delivering.{delivers_put}
use Rattle.text_streams.proofs.Writing.{only_put}
use Rattle.text_streams.proofs.recording.copy_piece.Goals as goal

pub returns-in-Ok-put-clause-copied : goal.returns-in-Ok-put-clause-copied
returns-in-Ok-put-clause-copied g c =
    let room = c.collect.new.buffer in
    let sized : length room ≡ length c.args.room.now = search rules in
    let all : take c.in-Ok.count room ≡ room =
    take_all c.in-Ok.count room (let enough = c.if-count-room.false in omega arith) in (
      room,
      sized,
      record {
        moved = λ told. (c.in-Ok.ensures.collected told).moved ∙ ap (λ l. l ++ g.S.Source.left c.collect.new.source)
            all;
        sinks = λ told.
            rw c.in-Ok-put.is at (delivers_put room c.put.result (g.O.Site.trace c.args.sink.now)
            (g.O.Site.trace c.put.new.self)
            (c.put.ensures.put told));
      },
    )

pub returns-in-Ok-put-clause-sinks : goal.returns-in-Ok-put-clause-sinks
returns-in-Ok-put-clause-sinks g c = λ told. only_put _ c.put.result _ _ (c.put.ensures.put told)

pub returns-in-Err-clause-sinks : goal.returns-in-Err-clause-sinks
returns-in-Err-clause-sinks g c = λ told. only_put _ c.put.result _ _ (c.put.ensures.put told)
