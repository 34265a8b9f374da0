use Rattle.std.proofs.Common.{◌++◌, codes, refl}
use Rattle.answer_text.specs.Part.{part_text, parts_text}
use Rattle.answer_text.specs.Part.Part.{named}
use Rattle.answer_text.specs.Reply.{reply_name, reply_values}
use Rattle.answer_text.specs.Line.{done_parts, drawn}
use Rattle.answer_text.proofs.Behind.{two_put, done_text}
use Rattle.answer_text.proofs.values.put_done.Goals as goal

pub returns : goal.returns
returns c =
    let form = c.args.form in
    let name = parts_text form (reply_name c.args.reply.now) in
    let entry = part_text form (named (codes "entry") c.args.answer.now.position) in
    let seen = parts_text form (drawn c.args.answer.now) in
    let values = parts_text form (reply_values c.args.reply.now) in
    let named_text = c.put_reply_name.new.text.items in
    let entry_text = c.put_named.new.text.items in
    let seen_text = c.put_drawn_of.new.text.items in
    let text = c.put_reply_values.new.text.items in
    let last = two_put entry_text seen values seen_text text (seen ++ values) c.in_ok-put_drawn_of.ensures
    c.in_ok-put_reply_values.ensures refl in
    let behind = two_put named_text entry (seen ++ values) entry_text text (entry ++ (seen ++ values))
    c.in_ok-put_named.ensures last refl in
    two_put c.args.text.now.items name (entry ++ (seen ++ values)) named_text text
    (parts_text form (done_parts c.args.answer.now c.args.reply.now))
    c.in_ok-put_reply_name.ensures behind (done_text form c.args.answer.now c.args.reply.now)
