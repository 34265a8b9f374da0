use Rattle.status_text.proofs.Ascending.{keys_of_found}
use Rattle.status_text.proofs.text.put_keys.Goals as goal

pub returns : goal.returns
returns c =
    keys_of_found c.put_key_lines.result c.args.text.now.items c.put_key_lines.new.text.items c.args.rows.now
    c.in_ok-found.found.items c.as_slice.result.now c.requires
    c.in_ok-found.ensures.same c.in_ok-found.ensures.ascending c.as_slice.ensures.value c.put_key_lines.ensures.put
    c.put_key_lines.ensures.numbered
