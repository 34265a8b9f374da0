use Rattle.std.proofs.Common.{◌≡◌, List, refl, sym, ap, ◌∙◌, subst, length}
use Rattle.std.proofs.lemmas.Result.{err_from_is_err_and}
use Rattle.key_book.specs.declared.key_row.KeyRow.{KeyRow}
use Rattle.unit_state.specs.declared.state.State.{State}
use Rattle.unit_state.specs.State.{KeepsRules}
use Rattle.unit_image.specs.Rows.{state_of}
use Rattle.unit_image.specs.ContentReading.{AreKeyRows, AreSaRows, associations_in, IsContent}
use Rattle.unit_image.proofs.Contents.{content_says, keys_are, keys_read, sas_are, sas_read, read_content, made}
use Rattle.unit_image.proofs.Contents.{not_made}
use Rattle.unit_image.proofs.RowsRead.{whole_cause}
use Rattle.unit_image.proofs.content.read_content.Goals as goal

pub returns-then-not-has_room-clause-fault : goal.returns-then-not-has_room-clause-fault
returns-then-not-has_room-clause-fault c =
    λ state channels device is.
    let told = c.has_room.ensures.1 (content_says c.args.version state c.args.content.now is).room in
    let not = c.if-not-has_room.true in
    absurd cc

pub returns-in_err-keys-clause-fault : goal.returns-in_err-keys-clause-fault
returns-in_err-keys-clause-fault c =
    let p = err_from_is_err_and c.from_residual.result c.from_residual.ensures.1 in
    rw (p.1, p.2) (whole_cause c.in_err-keys.field-0.0
    (λ none state channels device is.
    none state.keys is.rules.keys
    (subst (AreKeyRows state.keys) (sym c.keys_in.ensures.octets)
    (keys_are c.args.version state c.args.content.now is)))
    c.in_err-keys.ensures.fault)

pub returns-in_err-associations-clause-fault : goal.returns-in_err-associations-clause-fault
returns-in_err-associations-clause-fault c =
    let p = err_from_is_err_and c.from_residual-in_err-associations.result
    c.from_residual-in_err-associations.ensures.1 in
    let keys = c.in_ok-keys.keys in
    let are = subst (AreKeyRows keys) c.keys_in.ensures.octets c.in_ok-keys.ensures.found in
    rw (p.1, p.2) (whole_cause c.in_err-associations.field-0.0
    (λ none state channels device is.
    let own = sas_are c.args.version state c.args.content.now is in
    let same = keys_read c.args.version state c.args.content.now is keys are in
    none state.associations
    (subst (λ (rows : List KeyRow). AreSaRows rows state.associations c.associations_in.result.now) (sym same)
    (record { each = own.each; spelled = c.associations_in.ensures.octets ∙ own.spelled })))
    c.in_err-associations.ensures.fault)

pub returns-clause-found : goal.returns-clause-found
returns-clause-found c =
    let content = c.args.content.now in
    let keys = c.in_ok-keys.keys in
    let associations = c.in_ok-associations.associations.items in
    let value = state_of keys associations c.args.channels c.args.device in
    let are = subst (AreKeyRows keys) c.keys_in.ensures.octets c.in_ok-keys.ensures.found in
    let also =
    subst (AreSaRows keys associations) c.associations_in.ensures.octets c.in_ok-associations.ensures.found in
    let key_size = ap length (sym c.keys_in.ensures.octets) ∙ c.keys_in.ensures.rows in
    let sa_size = ap length (sym c.associations_in.ensures.octets) ∙ c.associations_in.ensures.rows in
    let room = c.has_room.ensures.0 c.if-not-has_room.false in
    made KeepsRules (λ (state : State). IsContent c.args.version state content × (state.channels ≡ c.args.channels)
    × (state.device ≡ c.args.device))
    c.state_of_rows.result value c.state_of_rows.ensures
    (λ rules. (
      read_content c.args.version keys associations c.args.channels c.args.device content c.requires
          (λ i. (c.type_inv.content i).fits) room are also key_size sa_size rules,
      refl,
      refl,
    ))

pub returns-clause-fault : goal.returns-clause-fault
returns-clause-fault c =
    let content = c.args.content.now in
    let keys = c.in_ok-keys.keys in
    let associations = c.in_ok-associations.associations.items in
    let value = state_of keys associations c.args.channels c.args.device in
    let are = subst (AreKeyRows keys) c.keys_in.ensures.octets c.in_ok-keys.ensures.found in
    let also =
    subst (AreSaRows keys associations) c.associations_in.ensures.octets c.in_ok-associations.ensures.found in
    not_made KeepsRules c.state_of_rows.result value
    ((state : State) → state.channels ≡ c.args.channels → state.device ≡ c.args.device
    → ¬ IsContent c.args.version state content) c.state_of_rows.ensures
    (λ broken state channels device is.
    let own = keys_read c.args.version state content is keys are in
    let held = sas_read c.args.version state content is associations
    (subst (λ (rows : List KeyRow). AreSaRows rows associations (associations_in c.args.version content)) own
    also) in
    let same : state ≡ value = λ i. state_of ((sym own) i) ((sym held) i) (channels i) (device i) in
    broken (subst KeepsRules same is.rules))
