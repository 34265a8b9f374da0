-- Whether a body is the record of a change that a state allows, for `refused_exactly`.
use Rattle.std.proofs.Common.{◌≡◌, ◌⊎◌, inl, inr, ℕ, List, Option, None, Some, Bool, true, false, refl, sym, ◌∙◌, subst}
use Rattle.std.specs.Str.{bytes_eq}
use Rattle.std.proofs.lemmas.Slice.Eq.{bytes_eq-Decides}
use Rattle.std.proofs.lemmas.Bool.{false≢true}
use Rattle.sdls_base.specs.declared.entry.Change.{Change}
use Rattle.unit_state.specs.declared.state.State.{State}
use Rattle.unit_state.specs.Allows.{Allows}
use Rattle.book_record.specs.Reading.{change_of}
use Rattle.book_record.specs.Record.{IsRecord, record_octets}
use Rattle.law_image.proofs.Deciding.{Decided, decided_and, decided_as}
use Rattle.law_image.proofs.Allowing.{allowed_with, has_record}

same_octets : (xs ys : List ℕ) → Decided (xs ≡ ys)
same_octets xs ys = go (bytes_eq xs ys) refl
  where
    go : (test : Bool) → bytes_eq xs ys ≡ test → Decided (xs ≡ ys)
    go true is = inl ((bytes_eq-Decides xs ys).0 is)
    go false is = inr (λ same. false≢true (sym is ∙ (bytes_eq-Decides xs ys).1 same))

-- the body is the record of a change that the state allows
abbrev pub IsTaken : State → List ℕ → Type 0
IsTaken state body = (change : Change) × IsRecord change body × Allows state change

same_change : (one other : Change) → Some one ≡ Some other → one ≡ other
same_change one other is = cc

no_change : (one : Change) → None ≡ Some one → ⊥
no_change one is = cc

-- whether it is that of this change
of_change : (state : State) (body : List ℕ) (change : Change) → Decided (IsRecord change body × Allows state change)
of_change state body change = decided_as
    (decided_and (allowed_with state change)
    (decided_and (has_record change) (same_octets body (record_octets change))))
    (λ all. (record { types = all.0.0; bounds = all.1.0; spelled = all.1.1 }, all.0.1))
    (λ is. ((is.0.types, is.1), (is.0.bounds, is.0.spelled)))

-- what is owed by the layer of the records: a record is that of the change at the places of its kind
abbrev pub OfItsKind : Type 0
OfItsKind = (change : Change) (body : List ℕ) → IsRecord change body → change_of body ≡ Some change

pub taken : OfItsKind → (state : State) (body : List ℕ) → IsTaken state body
    ⊎ ((change : Change) → IsRecord change body → ¬ Allows state change)
taken law state body = go (change_of body) refl
  where
    of_one : (change : Change) → change_of body ≡ Some change → Decided (IsRecord change body × Allows state change)
        → IsTaken state body ⊎ ((other : Change) → IsRecord other body → ¬ Allows state other)
    of_one change is (inl both) = inl (change, both.0, both.1)
    of_one change is (inr off) = inr (λ other is_record allows.
        let same : change ≡ other = same_change change other (sym is ∙ law other body is_record) in
        off (
          subst (λ (c : Change). IsRecord c body) (sym same) is_record,
          subst (λ (c : Change). Allows state c) (sym same) allows,
        ))

    go : (found : Option Change) → change_of body ≡ found → IsTaken state body
        ⊎ ((change : Change) → IsRecord change body → ¬ Allows state change)
    go None is = inr (λ change is_record allows. no_change change (sym is ∙ law change body is_record))
    go (Some change) is = of_one change is (of_change state body change)
