use Rattle.std.proofs.Common.{ℕ, ◌≤◌, List, ◌++◌, length, sym, ap, ◌∙◌, take_all, arith}
use Rattle.book_record.specs.Padded.{padded}
use Rattle.unit_image.specs.Content.{key_rows, sa_rows, key_room_of, sa_room_of, content_of}
use Rattle.unit_image.proofs.Contents.{whole_length}
use Rattle.unit_image.proofs.content.write_version.Goals as goal

pub returns-clause-written : goal.returns-clause-written
unfolding content_of
returns-clause-written c =
    let version = c.args.version in
    let keys = padded (key_room_of version) (key_rows c.args.state.now.keys) in
    let associations = padded (sa_room_of version) (sa_rows c.args.state.now.associations) in
    let whole : length c.put_associations.new.out ≤ c.put_associations.result =
    omega (
      arith,
      c.requires.sized,
      whole_length version,
      c.put_associations.ensures.place,
      c.put_keys-associations_at.ensures.place,
      c.put_counts-keys_at.ensures.place,
    ) in
    sym (take_all c.put_associations.result c.put_associations.new.out whole)
    ∙ c.put_associations.ensures.written
    ∙ ap (λ (s : List ℕ). s ++ associations) c.put_keys-associations_at.ensures.written
    ∙ ap (λ (s : List ℕ). (s ++ keys) ++ associations) c.put_counts-keys_at.ensures.written
