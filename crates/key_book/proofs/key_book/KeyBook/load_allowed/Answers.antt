use Rattle.std.proofs.Common.{◌≡◌, None}
use Rattle.key_book.specs.KeyRefusal.{load_refusal}
use Rattle.key_book.proofs.Rows.{IsKeyBook-loaded}
use Rattle.key_book.proofs.key_book.KeyBook.load_allowed.Goals as goal

pub invariant_of-self-2 : goal.invariant_of-self-2
invariant_of-self-2 c =
    let free : load_refusal c.self.inside.table.rows.items c.args.items.now ≡ None =
    cc (c.requires.allowed, c.self.view_is) in (
      rw c.in_ok-append.ensures.appended (IsKeyBook-loaded _ _ c.self.invariant.0 c.requires.lengths free),
      c.in_ok-append.ensures.indexed,
    )
