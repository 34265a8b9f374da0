use Rattle.std.proofs.Common.{◌≡◌, true, false, is_some, Some, None, sym, ◌∙◌}
use Rattle.sa_book.specs.SaBook.{place_of}
use Rattle.sa_book.specs.SaRefusal.{first_unknown}
use Rattle.sa_book.proofs.Changes.{create_refusal-taken, create_refusal-unknown, create_refusal-full}
use Rattle.sa_book.proofs.Changes.{create_refusal-none}
use Rattle.sa_book.proofs.judging.judge_create.Goals as goal

pub returns-then-is_some : goal.returns-then-is_some
returns-then-is_some c =
    let taken : is_some (place_of c.args.rows.now c.args.new.now.spi) ≡ true = cc in
    sym (create_refusal-taken c.args.rows.now c.args.new.now c.args.known.now taken)

pub returns-in-Some : goal.returns-in-Some
returns-in-Some c =
    let free : is_some (place_of c.args.rows.now c.args.new.now.spi) ≡ false = cc in
    let unknown : first_unknown c.args.new.now.channels c.args.known.now ≡ Some c.in-Some.channel =
    sym (rw c.as_slice.ensures at c.in-Some.ensures) in
    sym (create_refusal-unknown c.args.rows.now c.args.new.now c.args.known.now c.in-Some.channel free unknown)

pub returns-then-rows-ge-MOST_ASSOCIATIONS : goal.returns-then-rows-ge-MOST_ASSOCIATIONS
returns-then-rows-ge-MOST_ASSOCIATIONS c =
    let free : is_some (place_of c.args.rows.now c.args.new.now.spi) ≡ false = cc in
    let all_known : first_unknown c.args.new.now.channels c.args.known.now ≡ None =
    sym (rw c.as_slice.ensures at c.first_unknown.ensures) ∙ c.in_default.is in
    sym (create_refusal-full c.args.rows.now c.args.new.now c.args.known.now free all_known
    c.if-rows-ge-MOST_ASSOCIATIONS.true)

pub returns : goal.returns
returns c =
    let free : is_some (place_of c.args.rows.now c.args.new.now.spi) ≡ false = cc in
    let all_known : first_unknown c.args.new.now.channels c.args.known.now ≡ None =
    sym (rw c.as_slice.ensures at c.first_unknown.ensures) ∙ c.in_default.is in
    sym (create_refusal-none c.args.rows.now c.args.new.now c.args.known.now free all_known
    c.if-rows-ge-MOST_ASSOCIATIONS.false)
