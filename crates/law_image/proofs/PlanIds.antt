-- The identifiers that a plan gives are of their types, for `beginning_shows`.
use Rattle.std.proofs.Common.{◌≡◌, ◌⊎◌, ℕ, ◌+◌, Bool, true, false, not, nat_lt, ◌==◌, List, [], ◌∷◌, length, codes}
use Rattle.std.proofs.Common.{Option, Some, None, Ok, refl, ap, subst, inl, inr, if◌then◌else◌}
use Rattle.std.specs.List.{All}
use Rattle.std.specs.Str.{bytes_eq}
use Rattle.std.proofs.lemmas.List.Elements.{All-append, All-cons, All-nil}
use Rattle.book_record.specs.Record.{IsKey}
use Rattle.unit_plan.specs.AssociationLine.{association_said}
use Rattle.unit_plan.specs.ChannelLine.{channel_said}
use Rattle.unit_plan.specs.KeyLine.{key_said}
use Rattle.unit_plan.specs.LineForm.{association_of, bounded, device_said, version_said}
use Rattle.unit_plan.specs.Lines.{lines_of, words_of}
use Rattle.unit_plan.specs.LinkLine.{link_said}
use Rattle.unit_plan.specs.Plan.{accept_taken, admitted, plan_after, association_added, association_taken, block_taken}
use Rattle.unit_plan.specs.Plan.{channel_admitted, channel_taken, device_taken, in_order, is_skipped, key_admitted}
use Rattle.unit_plan.specs.Plan.{key_taken, line_taken, link_admitted, link_taken, number_in_order, plan_of}
use Rattle.unit_plan.specs.Plan.{slots_taken, taken, version_taken}
use Rattle.unit_plan.specs.PlanError.{check, fault, require}
use Rattle.unit_plan.specs.PlanLines.{PlanLines, has_key, no_lines}
use Rattle.unit_plan.specs.declared.plan.PlanKey.{PlanKey}
use Rattle.unit_plan.specs.declared.plan_error.PlanCause.{PlanCause}
use Rattle.unit_plan.specs.declared.plan_error.PlanCause.TheVariants.{Form, Long, Order, Range, Twice}
use Rattle.law_image.proofs.Planned.{behind, no_fault, same_ok}
use Rattle.law_image.proofs.Said.{bounded_within}
use Rattle.law_image.proofs.SaidIds.{NamesRows, association_named, key_within}

abbrev pub NamesKey : PlanKey → Type 0
NamesKey key = IsKey key.item.id

pub record HasIds (plan : PlanLines) : Type 0 where
  pub keys : All NamesKey plan.keys
  pub associations : All NamesRows plan.associations

required : {A : Type 0} (line : ℕ) (cause : PlanCause) (o : Option A) (x : A) → require line cause o ≡ Ok x → o ≡ Some x
required line cause (Some y) x h = ap Some (same_ok y x h)
required line cause None x h = absurd (no_fault _ x h)

-- ---- one line

version_ids : (line : ℕ) (plan next : PlanLines) (words : List (List ℕ)) → HasIds plan
    → version_taken line plan words ≡ Ok next → HasIds next
unfolding version_taken
version_ids line plan next words ok h =
    let said = behind (require line Form (version_said words)) _ next h in
    let ordered = behind (in_order line plan 0) _ next said.2 in
    subst HasIds (same_ok _ next ordered.2) (record { keys = ok.keys; associations = ok.associations })

device_ids : (line : ℕ) (plan next : PlanLines) (words : List (List ℕ)) → HasIds plan
    → device_taken line plan words ≡ Ok next → HasIds next
unfolding device_taken
device_ids line plan next words ok h =
    let device = behind (require line Form (device_said words)) _ next h in
    let ordered = behind (in_order line plan 1) _ next device.2 in
    subst HasIds (same_ok _ next ordered.2) (record { keys = ok.keys; associations = ok.associations })

slots_ids : (line : ℕ) (plan next : PlanLines) (words : List (List ℕ)) → HasIds plan
    → slots_taken line plan words ≡ Ok next → HasIds next
unfolding slots_taken
slots_ids line plan next words ok h =
    let n = behind (number_in_order line plan 2 16 65536 words) _ next h in
    subst HasIds (same_ok _ next n.2) (record { keys = ok.keys; associations = ok.associations })

block_ids : (line : ℕ) (plan next : PlanLines) (words : List (List ℕ)) → HasIds plan
    → block_taken line plan words ≡ Ok next → HasIds next
unfolding block_taken
block_ids line plan next words ok h =
    let n = behind (number_in_order line plan 3 1 65536 words) _ next h in
    subst HasIds (same_ok _ next n.2) (record { keys = ok.keys; associations = ok.associations })

accept_ids : (line : ℕ) (plan next : PlanLines) (words : List (List ℕ)) → HasIds plan
    → accept_taken line plan words ≡ Ok next → HasIds next
unfolding accept_taken
accept_ids line plan next words ok h =
    let n = behind (number_in_order line plan 4 1 65536 words) _ next h in
    subst HasIds (same_ok _ next n.2) (record { keys = ok.keys; associations = ok.associations })

link_ids : (line : ℕ) (plan next : PlanLines) (words : List (List ℕ)) → HasIds plan
    → link_taken line plan words ≡ Ok next → HasIds next
unfolding link_taken
link_ids line plan next words ok h =
    let said = behind (require line Form (link_said words)) _ next h in
    let known = behind (link_admitted line plan said.0.0 said.0.1) _ next said.2 in
    subst HasIds (same_ok _ next known.2) (record { keys = ok.keys; associations = ok.associations })

channel_ids : (line : ℕ) (plan next : PlanLines) (words : List (List ℕ)) → HasIds plan
    → channel_taken line plan words ≡ Ok next → HasIds next
unfolding channel_taken
channel_ids line plan next words ok h =
    let said = behind (require line Form (channel_said words)) _ next h in
    let id = behind (channel_admitted line plan said.0.0 said.0.1) _ next said.2 in
    subst HasIds (same_ok _ next id.2) (record { keys = ok.keys; associations = ok.associations })

-- a key that is admitted has an identifier of its type
admitted_key : (line : ℕ) (plan : PlanLines) (number id : ℕ) → key_admitted line plan number ≡ Ok id → IsKey id
admitted_key line plan number id h =
    let ordered = behind (in_order line plan 5) _ id h in
    let bound = behind (require line Range (bounded 1 65535 number)) _ id ordered.2 in
    let once = behind (check line Twice (not (has_key plan.keys bound.0))) _ id bound.2 in
    let within = bounded_within 1 65535 number bound.0 (required line Range (bounded 1 65535 number) bound.0 bound.1) in
    subst IsKey (same_ok bound.0 id once.2) (key_within bound.0 within.0 within.1)

key_ids : (line : ℕ) (plan next : PlanLines) (words : List (List ℕ)) → HasIds plan → key_taken line plan words ≡ Ok next
    → HasIds next
unfolding key_taken
key_ids line plan next words ok h =
    let said = behind (require line Form (key_said words)) _ next h in
    let id = behind (key_admitted line plan said.0.id) _ next said.2 in
    let named = admitted_key line plan said.0.id id.0 id.1 in
    subst HasIds (same_ok _ next id.2) (record {
      keys = All-append NamesKey plan.keys _ ok.keys (All-cons NamesKey _ [] named (All-nil NamesKey));
      associations = ok.associations;
    })

association_ids : (line : ℕ) (plan next : PlanLines) (words : List (List ℕ)) → HasIds plan
    → association_taken line plan words ≡ Ok next → HasIds next
unfolding association_taken association_added
association_ids line plan next words ok h =
    let said = behind (require line Form (association_said words)) _ next h in
    let ordered = behind (in_order line plan 5) _ next said.2 in
    let found = behind (require line Range (association_of line said.0)) _ next ordered.2 in
    let known = behind (admitted plan found.0) _ next found.2 in
    let named =
    association_named line said.0 found.0 (required line Range (association_of line said.0) found.0 found.1) in
    subst HasIds (same_ok _ next known.2) (record {
      keys = ok.keys;
      associations = All-append NamesRows plan.associations (found.0 ∷ []) ok.associations
          (All-cons NamesRows found.0 [] named (All-nil NamesRows));
    })

either : (b : Bool) → (b ≡ true) ⊎ (b ≡ false)
either true = inl refl
either false = inr refl

words_ids : (line : ℕ) (plan next : PlanLines) (words : List (List ℕ)) → HasIds plan → taken line plan words ≡ Ok next
    → HasIds next
unfolding taken
words_ids line plan next [] ok h = absurd (no_fault _ next h)
words_ids line plan next (word ∷ words) ok h =
    elim (either (bytes_eq word (codes "sdls"))) [
      | inl is ↦ version_ids line plan next words ok (rw is at h)
      | inr o0 ↦
          elim (either (bytes_eq word (codes "device"))) [
            | inl is ↦ device_ids line plan next words ok (rw (o0, is) at h)
            | inr o1 ↦
                elim (either (bytes_eq word (codes "slots"))) [
                  | inl is ↦ slots_ids line plan next words ok (rw (o0, o1, is) at h)
                  | inr o2 ↦
                      elim (either (bytes_eq word (codes "block"))) [
                        | inl is ↦ block_ids line plan next words ok (rw (o0, o1, o2, is) at h)
                        | inr o3 ↦
                            elim (either (bytes_eq word (codes "accept"))) [
                              | inl is ↦ accept_ids line plan next words ok (rw (o0, o1, o2, o3, is) at h)
                              | inr o4 ↦
                                  elim (either (bytes_eq word (codes "link"))) [
                                    | inl is ↦ link_ids line plan next words ok (rw (o0, o1, o2, o3, o4, is) at h)
                                    | inr o5 ↦
                                        elim (either (bytes_eq word (codes "channel"))) [
                                          | inl is ↦ channel_ids line plan next words ok
                                              (rw (o0, o1, o2, o3, o4, o5, is) at h)
                                          | inr o6 ↦
                                              elim (either (bytes_eq word (codes "key"))) [
                                                | inl is ↦ key_ids line plan next words ok
                                                    (rw (o0, o1, o2, o3, o4, o5, o6, is) at h)
                                                | inr o7 ↦
                                                    elim (either (bytes_eq word (codes "sa"))) [
                                                      | inl is ↦ association_ids line plan next words ok
                                                          (rw (o0, o1, o2, o3, o4, o5, o6, o7, is) at h)
                                                      | inr o8 ↦
                                                          absurd (no_fault _ next
                                                          (rw (o0, o1, o2, o3, o4, o5, o6, o7, o8) at h))
                                                    ]
                                              ]
                                        ]
                                  ]
                            ]
                      ]
                ]
          ]
    ]

line_ids : (line : ℕ) (plan next : PlanLines) (text : List ℕ) → HasIds plan → line_taken line plan text ≡ Ok next
    → HasIds next
line_ids line plan next text ok h = go (is_skipped text) h
  where
    go : (b : Bool) → (if b then Ok plan else taken line plan (words_of text)) ≡ Ok next → HasIds next
    go true h = subst HasIds (same_ok plan next h) ok
    go false h = words_ids line plan next (words_of text) ok h

-- ---- all lines

lines_ids : (line : ℕ) (plan next : PlanLines) (lines : List (List ℕ)) → HasIds plan → plan_after line plan lines
    ≡ Ok next
    → HasIds next
lines_ids line plan next [] ok h =
    let ended = behind (check line Order (plan.heads == 5)) _ next h in subst HasIds (same_ok plan next ended.2) ok
lines_ids line plan next (text ∷ lines) ok h =
    let mid = behind (line_taken line plan text) _ next h in
    lines_ids (line + 1) mid.0 next lines (line_ids line plan mid.0 text ok mid.1) mid.2

pub plan_ids : (text : List ℕ) (plan : PlanLines) → plan_of text ≡ Ok plan → HasIds plan
plan_ids text plan h = go (nat_lt 65536 (length text)) h
  where
    go : (b : Bool) → (if b then fault 1 Long else plan_after 1 no_lines (lines_of text)) ≡ Ok plan → HasIds plan
    go true h = absurd (no_fault _ plan h)
    go false h =
        lines_ids 1 no_lines plan (lines_of text) (record { keys = All-nil NamesKey; associations = All-nil NamesRows })
        h
