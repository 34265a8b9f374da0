use Rattle.std.proofs.Common.{◌≡◌, ℕ, ◌<◌, ◌^◌, ◌++◌, List, length, ap, sym, subst, ◌∙◌, append-nil, rules}
use Rattle.std.specs.Int.{w32, to_be_bytes}
use Rattle.sdls_outside.specs.Output.{Sinks}
use Rattle.text_streams.specs.Recording.{IsWritten}
use Rattle.sdls_outside.proofs.Delivering.{delivers_put, sinks_then, sinks_trans}
use Rattle.text_streams.proofs.Writing.{if_ended, only_put}
use Rattle.text_streams.proofs.recording.put_run.Goals as goal

pub returns-in-Err-clause-sinks : goal.returns-in-Err-clause-sinks
returns-in-Err-clause-sinks g c = λ told. only_put _ c.put.result _ _ (c.put.ensures.put told)

pub returns-in_err-copy-clause-sinks : goal.returns-in_err-copy-clause-sinks
returns-in_err-copy-clause-sinks g c = λ told.
    sinks_trans _ _ _ (only_put _ c.put.result _ _ (c.put.ensures.put told)) (c.copy.ensures.sinks told)

pub returns-clause-written : goal.returns-clause-written
returns-clause-written g c =
    let copied = c.in_ok-copy.ensures.copied in
    let short_is : c.in-Ok.short ≡ c.args.len = search rules in
    let text_is : c.to_be_bytes.result ≡ to_be_bytes w32 (length copied.0) =
    c.to_be_bytes.ensures ∙ ap (to_be_bytes w32) (short_is ∙ sym copied.1) in
    let short : c.args.len < 2 ^ 32 = search rules in
    if_ended c.end.result g.S.Source.told (g.S.Source.left c.copy.new.source)
    (IsWritten g.S.Source.told g.O.Site.told c.args.len (g.S.Source.left c.args.source.now)
    (g.O.Site.trace c.args.sink.now) (g.O.Site.trace c.copy.new.sink))
    c.end.ensures.ended
    (λ none. record {
      octets = copied.0;
      are = λ told. copied.2.moved told ∙ ap (λ l. copied.0 ++ l) (none told) ∙ append-nil copied.0;
      size = copied.1;
      short = short;
      sinks = λ told. sinks_then (to_be_bytes w32 (length copied.0)) copied.0 _ _ _
          (subst (λ (text : List ℕ). Sinks text (g.O.Site.trace c.args.sink.now) (g.O.Site.trace c.put.new.self))
          text_is
          (rw c.in-Ok-put.is at (delivers_put c.to_be_bytes.result c.put.result (g.O.Site.trace c.args.sink.now)
          (g.O.Site.trace c.put.new.self)
          (c.put.ensures.put told))))
          (copied.2.sinks told);
    })

pub returns-clause-sinks : goal.returns-clause-sinks
returns-clause-sinks g c = λ told.
    sinks_trans _ _ _ (only_put _ c.put.result _ _ (c.put.ensures.put told)) (c.copy.ensures.sinks told)
