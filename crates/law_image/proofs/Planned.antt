-- The plan that a text says keeps the rules of plans.
use Rattle.std.proofs.Common.{◌≡◌, ◌⊎◌, ℕ, ◌+◌, Bool, true, false, nat_le, nat_lt, ◌==◌, List, [], ◌∷◌, length, codes}
use Rattle.std.proofs.Common.{Option, Some, None, Result, Ok, Err, refl, ap, subst, inl, inr, arith, if◌then◌else◌}
use Rattle.std.specs.Result.{result_unwrap_or}
use Rattle.std.specs.Str.{bytes_eq}
use Rattle.std.proofs.lemmas.Bool.{and_parts}
use Rattle.std.proofs.lemmas.List.Elements.{All-append, All-cons, All-nil}
use Rattle.sdls_base.specs.Bounds.{IsKeyLength}
use Rattle.sdls_base.specs.declared.link.Link.{Link}
use Rattle.sdls_base.specs.Link.{IsLink}
use Rattle.unit_plan.specs.declared.plan.PlanKey.{PlanKey}
use Rattle.unit_plan.specs.declared.plan_error.PlanCause.{PlanCause}
use Rattle.unit_plan.specs.declared.plan_error.PlanCause.TheVariants.{Form, Long, Order, Range}
use Rattle.unit_plan.specs.declared.plan_error.PlanFault.{PlanFault}
use Rattle.unit_plan.specs.AssociationLine.{association_said}
use Rattle.unit_plan.specs.ChannelLine.{channel_said}
use Rattle.unit_plan.specs.KeyLine.{key_said}
use Rattle.unit_plan.specs.LineForm.{association_of, bounded, device_said, number_said, version_said}
use Rattle.unit_plan.specs.Lines.{lines_of, words_of}
use Rattle.unit_plan.specs.LinkLine.{is_layout, is_link, link_said}
use Rattle.unit_plan.specs.Plan.{accept_taken, admitted, plan_after, number_in_order, link_admitted, channel_admitted}
use Rattle.unit_plan.specs.Plan.{key_admitted, association_added, association_taken, block_taken, channel_taken}
use Rattle.unit_plan.specs.Plan.{device_taken, in_order, is_skipped, key_taken, line_taken, link_taken, plan_of}
use Rattle.unit_plan.specs.Plan.{slots_taken, taken, version_taken}
use Rattle.unit_plan.specs.PlanError.{◌>>=◌, check, fault, require}
use Rattle.unit_plan.specs.PlanLines.{PlanLines, no_lines}
use Rattle.unit_plan.specs.PlanRules.{IsAssociation, IsPlan}
use Rattle.law_image.proofs.Said.{association_within, bounded_within, key_long, layout_within, link_low}

abbrev pub ok_of : {A : Type 0} → A → Result A PlanFault
ok_of x = Ok x

pub same_ok : {A : Type 0} (x y : A) → ok_of x ≡ Ok y → x ≡ y
same_ok {A} x y h = ap (λ (r : Result A PlanFault). result_unwrap_or r x) h

pub no_fault : {A : Type 0} (fault : PlanFault) (x : A) → ◌≡◌ {A = Result A PlanFault} (Err fault) (Ok x) → ⊥
no_fault fault x h = cc h

-- a step behind another
pub behind : {A B : Type 0} (r : Result A PlanFault) (f : A → Result B PlanFault) (y : B) → (r >>= f) ≡ Ok y
    → (x : A) × (r ≡ Ok x) × (f x ≡ Ok y)
behind (Ok x) f y h = (x, refl, h)
behind (Err fault) f y h = absurd (no_fault fault y h)

required : {A : Type 0} (line : ℕ) (cause : PlanCause) (o : Option A) (x : A) → require line cause o ≡ Ok x → o ≡ Some x
required line cause (Some y) x h = ap Some (same_ok y x h)
required line cause None x h = absurd (no_fault _ x h)

passed : (line : ℕ) (cause : PlanCause) (b : Bool) (u : Unit {0}) → check line cause b ≡ Ok u → b ≡ true
passed line cause true u h = refl
passed line cause false u h = absurd (no_fault _ u h)

-- ---- one line

version_kept : (line : ℕ) (plan next : PlanLines) (words : List (List ℕ)) → IsPlan plan
    → version_taken line plan words ≡ Ok next → IsPlan next
unfolding version_taken
version_kept line plan next words ok h =
    let said = behind (require line Form (version_said words)) _ next h in
    let ordered = behind (in_order line plan 0) _ next said.2 in
    subst IsPlan (same_ok _ next ordered.2) (record {
      slots = ok.slots;
      block = ok.block;
      accept = ok.accept;
      links = ok.links;
      keys = ok.keys;
      associations = ok.associations;
    })

device_kept : (line : ℕ) (plan next : PlanLines) (words : List (List ℕ)) → IsPlan plan
    → device_taken line plan words ≡ Ok next → IsPlan next
unfolding device_taken
device_kept line plan next words ok h =
    let device = behind (require line Form (device_said words)) _ next h in
    let ordered = behind (in_order line plan 1) _ next device.2 in
    subst IsPlan (same_ok _ next ordered.2) (record {
      slots = ok.slots;
      block = ok.block;
      accept = ok.accept;
      links = ok.links;
      keys = ok.keys;
      associations = ok.associations;
    })

slots_kept : (line : ℕ) (plan next : PlanLines) (words : List (List ℕ)) → IsPlan plan
    → slots_taken line plan words ≡ Ok next → IsPlan next
unfolding slots_taken
slots_kept line plan next words ok h =
    let n = behind (number_in_order line plan 2 16 65536 words) _ next h in
    let said = behind (require line Form (number_said words)) _ n.0 n.1 in
    let ordered = behind (in_order line plan 2) _ n.0 said.2 in
    let bounds = bounded_within 16 65536 said.0 n.0 (required line Range (bounded 16 65536 said.0) n.0 ordered.2) in
    subst IsPlan (same_ok _ next n.2) (record {
      slots = (bounds.0, bounds.1);
      block = ok.block;
      accept = ok.accept;
      links = ok.links;
      keys = ok.keys;
      associations = ok.associations;
    })

block_kept : (line : ℕ) (plan next : PlanLines) (words : List (List ℕ)) → IsPlan plan
    → block_taken line plan words ≡ Ok next → IsPlan next
unfolding block_taken
block_kept line plan next words ok h =
    let n = behind (number_in_order line plan 3 1 65536 words) _ next h in
    let said = behind (require line Form (number_said words)) _ n.0 n.1 in
    let ordered = behind (in_order line plan 3) _ n.0 said.2 in
    let bounds = bounded_within 1 65536 said.0 n.0 (required line Range (bounded 1 65536 said.0) n.0 ordered.2) in
    subst IsPlan (same_ok _ next n.2) (record {
      slots = ok.slots;
      block = (bounds.0, bounds.1);
      accept = ok.accept;
      links = ok.links;
      keys = ok.keys;
      associations = ok.associations;
    })

accept_kept : (line : ℕ) (plan next : PlanLines) (words : List (List ℕ)) → IsPlan plan
    → accept_taken line plan words ≡ Ok next → IsPlan next
unfolding accept_taken
accept_kept line plan next words ok h =
    let n = behind (number_in_order line plan 4 1 65536 words) _ next h in
    let said = behind (require line Form (number_said words)) _ n.0 n.1 in
    let ordered = behind (in_order line plan 4) _ n.0 said.2 in
    let bounds = bounded_within 1 65536 said.0 n.0 (required line Range (bounded 1 65536 said.0) n.0 ordered.2) in
    subst IsPlan (same_ok _ next n.2) (record {
      slots = ok.slots;
      block = ok.block;
      accept = (bounds.0, bounds.1);
      links = ok.links;
      keys = ok.keys;
      associations = ok.associations;
    })

link_kept : (line : ℕ) (plan next : PlanLines) (words : List (List ℕ)) → IsPlan plan
    → link_taken line plan words ≡ Ok next → IsPlan next
unfolding link_taken
link_kept line plan next words ok h =
    let said = behind (require line Form (link_said words)) _ next h in
    let known = behind (link_admitted line plan said.0.0 said.0.1) _ next said.2 in
    let ordered = behind (in_order line plan 5) _ known.0 known.1 in
    let bounds = behind (check line Range (is_link said.0.0 said.0.1)) _ known.0 ordered.2 in
    let parts = and_parts (nat_le said.0.0 15) (is_layout said.0.1.layout)
    (passed line Range (is_link said.0.0 said.0.1) bounds.0 bounds.1) in
    let link : IsLink said.0.1 = record {
      layout = layout_within said.0.1.layout parts.1;
      mask = link_low words said.0 (required line Form (link_said words) said.0 said.1);
    } in
    subst IsPlan (same_ok _ next known.2) (record {
      slots = ok.slots;
      block = ok.block;
      accept = ok.accept;
      links = All-append (λ (entry : ℕ × Link). IsLink entry.1) plan.links (said.0 ∷ []) ok.links
          (All-cons (λ (entry : ℕ × Link). IsLink entry.1) said.0 [] link
          (All-nil (λ (entry : ℕ × Link). IsLink entry.1)));
      keys = ok.keys;
      associations = ok.associations;
    })

channel_kept : (line : ℕ) (plan next : PlanLines) (words : List (List ℕ)) → IsPlan plan
    → channel_taken line plan words ≡ Ok next → IsPlan next
unfolding channel_taken
channel_kept line plan next words ok h =
    let said = behind (require line Form (channel_said words)) _ next h in
    let id = behind (channel_admitted line plan said.0.0 said.0.1) _ next said.2 in
    subst IsPlan (same_ok _ next id.2) (record {
      slots = ok.slots;
      block = ok.block;
      accept = ok.accept;
      links = ok.links;
      keys = ok.keys;
      associations = ok.associations;
    })

abbrev IsLong : PlanKey → Type 0
IsLong key = IsKeyLength (length key.item.bytes)

key_kept : (line : ℕ) (plan next : PlanLines) (words : List (List ℕ)) → IsPlan plan
    → key_taken line plan words ≡ Ok next → IsPlan next
unfolding key_taken
key_kept line plan next words ok h =
    let said = behind (require line Form (key_said words)) _ next h in
    let id = behind (key_admitted line plan said.0.id) _ next said.2 in
    let long = key_long words said.0 (required line Form (key_said words) said.0 said.1) in
    subst IsPlan (same_ok _ next id.2) (record {
      slots = ok.slots;
      block = ok.block;
      accept = ok.accept;
      links = ok.links;
      keys = All-append IsLong plan.keys _ ok.keys (All-cons IsLong _ [] long (All-nil IsLong));
      associations = ok.associations;
    })

association_kept : (line : ℕ) (plan next : PlanLines) (words : List (List ℕ)) → IsPlan plan
    → association_taken line plan words ≡ Ok next → IsPlan next
unfolding association_taken association_added
association_kept line plan next words ok h =
    let said = behind (require line Form (association_said words)) _ next h in
    let ordered = behind (in_order line plan 5) _ next said.2 in
    let found = behind (require line Range (association_of line said.0)) _ next ordered.2 in
    let known = behind (admitted plan found.0) _ next found.2 in
    let within =
    association_within line said.0 found.0 (required line Range (association_of line said.0) found.0 found.1) in
    subst IsPlan (same_ok _ next known.2) (record {
      slots = ok.slots;
      block = ok.block;
      accept = ok.accept;
      links = ok.links;
      keys = ok.keys;
      associations = All-append IsAssociation plan.associations (found.0 ∷ []) ok.associations
          (All-cons IsAssociation found.0 [] within (All-nil IsAssociation));
    })

either : (b : Bool) → (b ≡ true) ⊎ (b ≡ false)
either true = inl refl
either false = inr refl

words_kept : (line : ℕ) (plan next : PlanLines) (words : List (List ℕ)) → IsPlan plan → taken line plan words ≡ Ok next
    → IsPlan next
unfolding taken
words_kept line plan next [] ok h = absurd (no_fault _ next h)
words_kept line plan next (word ∷ words) ok h =
    elim (either (bytes_eq word (codes "sdls"))) [
      | inl is ↦ version_kept line plan next words ok (rw is at h)
      | inr o0 ↦
          elim (either (bytes_eq word (codes "device"))) [
            | inl is ↦ device_kept line plan next words ok (rw (o0, is) at h)
            | inr o1 ↦
                elim (either (bytes_eq word (codes "slots"))) [
                  | inl is ↦ slots_kept line plan next words ok (rw (o0, o1, is) at h)
                  | inr o2 ↦
                      elim (either (bytes_eq word (codes "block"))) [
                        | inl is ↦ block_kept line plan next words ok (rw (o0, o1, o2, is) at h)
                        | inr o3 ↦
                            elim (either (bytes_eq word (codes "accept"))) [
                              | inl is ↦ accept_kept line plan next words ok (rw (o0, o1, o2, o3, is) at h)
                              | inr o4 ↦
                                  elim (either (bytes_eq word (codes "link"))) [
                                    | inl is ↦ link_kept line plan next words ok (rw (o0, o1, o2, o3, o4, is) at h)
                                    | inr o5 ↦
                                        elim (either (bytes_eq word (codes "channel"))) [
                                          | inl is ↦ channel_kept line plan next words ok
                                              (rw (o0, o1, o2, o3, o4, o5, is) at h)
                                          | inr o6 ↦
                                              elim (either (bytes_eq word (codes "key"))) [
                                                | inl is ↦ key_kept line plan next words ok
                                                    (rw (o0, o1, o2, o3, o4, o5, o6, is) at h)
                                                | inr o7 ↦
                                                    elim (either (bytes_eq word (codes "sa"))) [
                                                      | inl is ↦ association_kept line plan next words ok
                                                          (rw (o0, o1, o2, o3, o4, o5, o6, o7, is) at h)
                                                      | inr o8 ↦
                                                          absurd (no_fault _ next
                                                          (rw (o0, o1, o2, o3, o4, o5, o6, o7, o8) at h))
                                                    ]
                                              ]
                                        ]
                                  ]
                            ]
                      ]
                ]
          ]
    ]

line_kept : (line : ℕ) (plan next : PlanLines) (text : List ℕ) → IsPlan plan → line_taken line plan text ≡ Ok next
    → IsPlan next
line_kept line plan next text ok h = go (is_skipped text) h
  where
    go : (b : Bool) → (if b then Ok plan else taken line plan (words_of text)) ≡ Ok next → IsPlan next
    go true h = subst IsPlan (same_ok plan next h) ok
    go false h = words_kept line plan next (words_of text) ok h

-- ---- all lines

lines_kept : (line : ℕ) (plan next : PlanLines) (lines : List (List ℕ)) → IsPlan plan → plan_after line plan lines
    ≡ Ok next
    → IsPlan next
lines_kept line plan next [] ok h =
    let ended = behind (check line Order (plan.heads == 5)) _ next h in subst IsPlan (same_ok plan next ended.2) ok
lines_kept line plan next (text ∷ lines) ok h =
    let mid = behind (line_taken line plan text) _ next h in
    lines_kept (line + 1) mid.0 next lines (line_kept line plan mid.0 text ok mid.1) mid.2

first_plan : IsPlan no_lines
first_plan = record {
  slots = (omega arith, omega arith);
  block = (omega arith, omega arith);
  accept = (omega arith, omega arith);
  links = All-nil (λ (entry : ℕ × Link). IsLink entry.1);
  keys = All-nil IsLong;
  associations = All-nil IsAssociation;
}

pub plan_rules : (text : List ℕ) (plan : PlanLines) → plan_of text ≡ Ok plan → IsPlan plan
plan_rules text plan h = go (nat_lt 65536 (length text)) h
  where
    go : (b : Bool) → (if b then fault 1 Long else plan_after 1 no_lines (lines_of text)) ≡ Ok plan → IsPlan plan
    go true h = absurd (no_fault _ plan h)
    go false h = lines_kept 1 no_lines plan (lines_of text) first_plan h
