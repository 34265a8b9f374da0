use Rattle.std.proofs.Common.{◌++◌, ◌∙◌, ap, sym, subst, take, IsTrue, ℕ}
use Rattle.std.specs.List.{flat_map}
use Rattle.std.proofs.lemmas.List.{flat_map_more, take_more}
use Rattle.std.proofs.lemmas.List.Elements.{All-more, All-from_recursion, recursion_from_All}
use Rattle.sdls_base.specs.declared.states.KeyState.{KeyState}
use Rattle.ep_codec.specs.Field.{is_key}
use Rattle.ep_codec.specs.ReplyPdu.{row_octets}
use Rattle.ep_codec.proofs.reply_writing.put_rows.Goals as goal

pub loop-row-preserved : goal.loop-row-preserved
loop-row-preserved c =
    let front = c.args.out.now.items in let rows = c.args.rows.now in
    let i = c.loop-row.row-index in let row = c.row-item.result in
    let within = c.loop-row-test.true in let put = c.in_ok-put_row.ensures in
    record {
      octets = put.octets
          ∙ ap (λ octets. octets ++ row_octets row) c.loop-row.invariant.octets
          ∙ ap (λ one. (front ++ flat_map row_octets (take i rows)) ++ row_octets one) c.row-item.is
          ∙ flat_map_more row_octets front (take i rows) _
          ∙ ap (λ some. front ++ flat_map row_octets some) (sym (take_more rows i row within));
      types =
          let AreKeys : ℕ × KeyState → Type 0 = λ one. IsTrue (is_key one.0) in
          recursion_from_All AreKeys _ (All-more AreKeys rows i row within
          (All-from_recursion AreKeys _ c.loop-row.invariant.types) (subst AreKeys c.row-item.is put.types));
    }
