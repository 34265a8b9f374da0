use Rattle.gcm.proofs.RowFacts.{place_gone, place_kept, row_is}
use Rattle.gcm.proofs.table.row.Goals as goal

pub look_up-with_1-requires : goal.look_up-with_1-requires
look_up-with_1-requires c =
    let z = place_kept c.args.place c.requires in
    let o = place_gone c.args.place c.requires in
    (o, (o, (o, (o, (o, (o, (o, (o, (z, (z, (z, (z, (z, (z, (z, (z, tt))))))))))))))))

pub look_up-with_x-requires : goal.look_up-with_x-requires
look_up-with_x-requires c =
    let z = place_kept c.args.place c.requires in
    let o = place_gone c.args.place c.requires in
    (o, (o, (o, (o, (z, (z, (z, (z, (o, (o, (o, (o, (z, (z, (z, (z, tt))))))))))))))))

pub look_up-with_x2-requires : goal.look_up-with_x2-requires
look_up-with_x2-requires c =
    let z = place_kept c.args.place c.requires in
    let o = place_gone c.args.place c.requires in
    (o, (o, (z, (z, (o, (o, (z, (z, (o, (o, (z, (z, (o, (o, (z, (z, tt))))))))))))))))

pub look_up-with_x3-requires : goal.look_up-with_x3-requires
look_up-with_x3-requires c =
    let z = place_kept c.args.place c.requires in
    let o = place_gone c.args.place c.requires in
    (o, (z, (o, (z, (o, (z, (o, (z, (o, (z, (o, (z, (o, (z, (o, (z, tt))))))))))))))))

pub returns : goal.returns
returns c = λ v i0 i1 i2 i3.
    row_is v c.args.place c.args.v0 c.args.v1 c.args.v2 c.args.v3 c.look_up-with_1.result c.look_up-with_x.result
    c.look_up-with_x2.result c.look_up-with_x3.result c.requires i0 i1 i2 i3 c.look_up-with_1.ensures
    c.look_up-with_x.ensures c.look_up-with_x2.ensures c.look_up-with_x3.ensures
