-- One lane alone: its answers, its entries and its moves are one by the history, the words and the records.
use Rattle.std.proofs.Common.{◌≡◌, ◌⊎◌, ℕ, ◌+◌, ◌<◌, Bool, false, IsTrue, List, [], ◌∷◌, ◌++◌, length, map, Some, Ok}
use Rattle.std.proofs.Common.{refl, sym, ◌∙◌, ap, subst, inl, inr, arith, append_assoc}
use Rattle.std.proofs.lemmas.Option.{none-some, same_Some}
use Rattle.sdls_base.specs.KeyId.{end_of}
use Rattle.sdls_base.specs.declared.entry.Change.{Change}
use Rattle.sdls_base.specs.declared.entry.Entry.{Entry}
use Rattle.sdls_base.specs.declared.entry.Seen.{Seen}
use Rattle.sdls_base.specs.declared.entry.Seen.TheVariants as seens
use Rattle.key_book.specs.KeyBook.{place_of}
use Rattle.frame_shield.specs.declared.binding.Binding.{Binding}
use Rattle.frame_shield.specs.Protects.{Protects}
use Rattle.frame_checks.specs.declared.opening_frames.OpenReply.{OpenReply}
use Rattle.frame_checks.specs.OpeningFrames.{IsOpenReply}
use Rattle.frame_checks.specs.ProtectingFrames as protecting
use Rattle.ep_core.specs.declared.judging.Need.{Need}
use Rattle.ep_core.specs.declared.judging.Need.TheVariants as needs
use Rattle.ep_core.specs.declared.refusal.Reply.{Reply}
use Rattle.record_io.specs.declared.answers.Answer.{Answer}
use Rattle.record_io.specs.declared.code.TheConstants.{PROTECTED, EXHAUSTED, SITE_FAULT}
use Rattle.record_io.specs.declared.reader.RecordKind.{RecordKind}
use Rattle.record_io.specs.declared.reader.RecordKind.TheVariants.{Protect, Open, Command, Monitor}
use Rattle.record_io.specs.declared.item_cursor.Record.{Record}
use Rattle.unit_plan.specs.PlanLines.{PlanLines}
use Rattle.unit_state.specs.declared.state.State.{State}
use Rattle.unit_state.specs.State.{KeepsRules}
use Rattle.run_promise.specs.Answers.{Told, told_by, numbered, opened_told, replied_told, unbound_told}
use Rattle.run_promise.specs.History.{frame_change, record_entry, IsNeedOf, IsStepOf}
use Rattle.run_promise.specs.Call.{Begin}
use Rattle.run_promise.specs.Deed.{Deed}
use Rattle.run_promise.specs.Words.{Move, Found, Drew, Raised, Overdrew, IsAt, word_after, Runs}
use Rattle.fsr_log.specs.declared.messages.Monitoring.{Monitoring}
use Rattle.fsr_log.specs.Message.{IsMonitoring}
use Rattle.fsr_log.specs.Noted.{Noted}
use Rattle.run_promise.specs.Sound.{AreReported, noted_of}
use Rattle.law_workers.proofs.Reported.{counted_clean, report_once, same_noted, told_count}
use Rattle.std.proofs.lemmas.Bool.Decides.{nat_tests}
use Rattle.run_promise.specs.OneLane.{CountsAll, has_failed, now, Funds, AloneUnbound, AloneBound, AloneProtected}
use Rattle.run_promise.specs.OneLane.{AloneExhausted, AloneOpened, AloneShows, AloneShown, AloneHandled, ServesKind}
use Rattle.run_promise.specs.OneLane.{AloneServes, ServesAll}
use Rattle.law_workers.specs.Served.{SameTasks, AreServed}

same_answer : (a b : Answer) → told_by a ≡ told_by b → a.position ≡ b.position → a ≡ b
same_answer a b told place =
    let code : a.code ≡ b.code = ap (λ (t : Told). t.code) told in
    let detail : a.detail ≡ b.detail = ap (λ (t : Told). t.detail) told in
    let key : a.key ≡ b.key = ap (λ (t : Told). t.key) told in
    let number : a.number ≡ b.number = ap (λ (t : Told). t.number) told in
    let body : a.body ≡ b.body = ap (λ (t : Told). t.body) told in
    ap (λ (x : ℕ). record a { code = x }) code ∙ ap (λ (x : ℕ). record a { code = b.code; detail = x }) detail
    ∙ ap (λ (x : ℕ). record a { code = b.code; detail = b.detail; key = x }) key
    ∙ ap (λ (x : ℕ). record a { code = b.code; detail = b.detail; key = b.key; position = x }) place
    ∙ ap (λ (x : ℕ). record a { code = b.code; detail = b.detail; key = b.key; position = b.position; number = x })
    number
    ∙ ap (λ (x : List ℕ). record b { body = x }) body

-- what one record has, twice
abbrev Same : Answer → Answer → List Entry → List Entry → Move → Move → Type 0
Same a b own more m n = (a ≡ b) × (own ≡ more) × (m ≡ n)

turned : (a b : Answer) (own more : List Entry) (m n : Move) → Same b a more own n m → Same a b own more m n
turned a b own more m n (x, y, z) = (sym x, sym y, sym z)

module _ (rows : ℕ) (words : ℕ → ℕ) where
  drew_is : (m : Move) (row n : ℕ) → m ≡ Drew row n → IsAt rows words m → n ≡ words row
  drew_is m row n is at = (subst (IsAt rows words) is at).1

  raised_is : (m : Move) (row n number : ℕ) → m ≡ Raised row n number → IsAt rows words m → n ≡ words row
  raised_is m row n number is at = (subst (IsAt rows words) is at).1

  ended_is : (m : Move) (row n : ℕ) → (m ≡ Found row n) ⊎ (m ≡ Overdrew row n) → IsAt rows words m
      → (m ≡ Found row n) × (n ≡ words row)
  ended_is m row n (inl is) at = (is, (subst (IsAt rows words) is at).1)
  ended_is m row n (inr is) at = absurd (subst (IsAt rows words) is at)

module _ (begin : Begin)
    (one_need : (state : State) (octets : List ℕ) (need other : Need) → IsNeedOf state octets need
    → IsNeedOf state octets other → need ≡ other)
    (one_step : (state : State) (octets : List ℕ) (seen : Seen) (step other : Change × Reply) → KeepsRules state
    → IsStepOf state octets seen step
    → IsStepOf state octets seen other → step ≡ other)
    (one_opening : (plan : PlanLines) (state : State) (link : ℕ) (frame : List ℕ) (reply other : OpenReply)
    (field again : List ℕ)
    → IsOpenReply plan state link frame reply field → IsOpenReply plan state link frame other again
    → (opened_told reply field ≡ opened_told other again)
    × (frame_change plan state reply ≡ frame_change plan state other))
    (one_frame : (b : Binding) (n : ℕ) (clear out other : List ℕ) → Protects b n clear out → Protects b n clear other
    → out ≡ other)
    (one_message : (one other : Monitoring) (octets : List ℕ) → IsMonitoring one octets → IsMonitoring other octets
    → one ≡ other)
    (rows : ℕ) where
  module _ (history : List Entry) where
    funds_same : (key n : ℕ) (own more : List Entry) → Funds begin history key n own → Funds begin history key n more
        → own ≡ more
    funds_same key n own more (inl a) (inl b) = a.0 ∙ sym b.0
    funds_same key n own more (inl a) (inr b) = absurd (let x = a.1 in let y = b.1 in omega arith)
    funds_same key n own more (inr a) (inl b) = absurd (let x = a.1 in let y = b.1 in omega arith)
    funds_same key n own more (inr a) (inr b) = a.0 ∙ sym b.0

    module _ (words : ℕ → ℕ) (task : Record) (a b : Answer) (own more : List Entry) (m n : Move)
        (at : IsAt rows words m) (at' : IsAt rows words n) where
      bound_same : (x y : AloneBound begin history task) → (x.binding ≡ y.binding) × (x.row ≡ y.row)
      bound_same x y =
          let ok : (let r : protecting.Answer = Ok (Some x.binding) in r) ≡ Ok (Some y.binding) =
          sym x.bound ∙ y.bound in
          let binding : x.binding ≡ y.binding = cc in (
            binding,
            same_Some x.row y.row (sym x.row_is ∙ ap (λ (z : Binding). place_of (now begin history).keys z.key) binding
                ∙ y.row_is),
          )

      unbound_or_bound : AloneUnbound begin history task a own m → AloneBound begin history task → ⊥
      unbound_or_bound x y = none-some (told_by a) (sym (ap unbound_told y.bound) ∙ x.told)

      unbound_both : AloneUnbound begin history task a own m → AloneUnbound begin history task b more n
          → Same a b own more m n
      unbound_both x y = (
        same_answer a b (same_Some (told_by a) (told_by b) (sym x.told ∙ y.told)) (x.position_is ∙ sym y.position_is),
        x.own_is ∙ sym y.own_is,
        x.move_is ∙ sym y.move_is,
      )

      protected_both : AloneProtected begin history task a own m → AloneProtected begin history task b more n
          → Same a b own more m n
      protected_both x y =
          let (binding, row) = bound_same x.is y.is in
          let number : a.number ≡ b.number = drew_is rows words m x.is.row a.number x.move_is at ∙ ap words row
          ∙ sym (drew_is rows words n y.is.row b.number y.move_is at') in
          let body : a.body ≡ b.body = one_frame y.is.binding b.number task.octets a.body b.body
          (subst (λ (z : Binding). Protects z b.number task.octets a.body) binding
          (subst (λ (k : ℕ). Protects x.is.binding k task.octets a.body) number x.protects)) y.protects in (
            same_answer a b
                (x.told ∙ ap (λ (z : Binding). numbered PROTECTED z.key a.number a.body) binding
                ∙ ap (λ (k : ℕ). numbered PROTECTED y.is.binding.key k a.body) number
                ∙ ap (λ (l : List ℕ). numbered PROTECTED y.is.binding.key b.number l) body ∙ sym y.told)
                (x.position_is ∙ sym y.position_is),
            funds_same y.is.binding.key b.number own more
                (subst (λ (z : Binding). Funds begin history z.key b.number own) binding
                (subst (λ (k : ℕ). Funds begin history x.is.binding.key k own) number x.funded))
                y.funded,
            x.move_is ∙ ap (λ (r : ℕ). Drew r a.number) row ∙ ap (λ (k : ℕ). Drew y.is.row k) number ∙ sym y.move_is,
          )

      exhausted_both : AloneExhausted begin history task a own m → AloneExhausted begin history task b more n
          → Same a b own more m n
      exhausted_both x y =
          let (binding, row) = bound_same x.is y.is in
          let (move, word) = ended_is rows words m x.is.row a.number x.move_is at in
          let (other, found) = ended_is rows words n y.is.row b.number y.move_is at' in
          let number : a.number ≡ b.number = word ∙ ap words row ∙ sym found in (
            same_answer a b
                (x.told ∙ ap (λ (z : Binding). numbered EXHAUSTED z.key a.number []) binding
                ∙ ap (λ (k : ℕ). numbered EXHAUSTED y.is.binding.key k []) number ∙ sym y.told)
                (x.position_is ∙ sym y.position_is),
            x.own_is ∙ sym y.own_is,
            move ∙ ap (λ (r : ℕ). Found r a.number) row ∙ ap (λ (k : ℕ). Found y.is.row k) number ∙ sym other,
          )

      protected_or_exhausted : AloneProtected begin history task a own m → AloneExhausted begin history task b more n
          → ⊥
      protected_or_exhausted x y =
          let (binding, row) = bound_same x.is y.is in
          let (move, word) = ended_is rows words n y.is.row b.number y.move_is at' in
          let number : a.number ≡ b.number = drew_is rows words m x.is.row a.number x.move_is at ∙ ap words row
          ∙ sym word in
          let end : end_of x.is.binding.key ≡ end_of y.is.binding.key = ap (λ (z : Binding). end_of z.key) binding in
          let p = x.below in let q = y.at_end in omega arith

      opened_both : AloneOpened begin history task a own m → AloneOpened begin history task b more n
          → Same a b own more m n
      opened_both x y =
          let (told, change) = one_opening begin.plan (now begin history) task.link task.octets x.reply y.reply x.field
          y.field x.replies y.replies in (
            same_answer a b (x.told ∙ told ∙ sym y.told) (x.position_is ∙ sym y.position_is),
            x.own_is ∙ ap (λ (c : Change). record_entry task.index seens.Nothing c ∷ []) change ∙ sym y.own_is,
            x.move_is ∙ sym y.move_is,
          )

      -- what the words show for a need
      shown_both : (need : Need) (seen other : Seen) → AloneShows begin history need seen own m
          → AloneShows begin history need other more n
          → (seen ≡ other) × (own ≡ more) × (m ≡ n)
      shown_both needs.Nothing seens.Nothing seens.Nothing (x, k) (y, l) = (refl, x ∙ sym y, k ∙ sym l)
      shown_both (needs.Look key) (seens.Word p) (seens.Word q) (x, (row, row_is, k)) (y, (other, is, l)) =
          let same : row ≡ other = same_Some row other (sym row_is ∙ is) in
          let number : p ≡ q = raised_is rows words m row p 1 k at ∙ ap words same
          ∙ sym (raised_is rows words n other q 1 l at') in (
            ap (λ (z : ℕ). seens.Word z) number,
            x ∙ sym y,
            k ∙ ap (λ (z : ℕ). Raised z p 1) same ∙ ap (λ (z : ℕ). Raised other z 1) number ∙ sym l,
          )
      shown_both (needs.Raise key to) (seens.Word p) (seens.Word q) (x, (row, row_is, k)) (y, (other, is, l)) =
          let same : row ≡ other = same_Some row other (sym row_is ∙ is) in
          let number : p ≡ q = raised_is rows words m row p to k at ∙ ap words same
          ∙ sym (raised_is rows words n other q to l at') in (
            ap (λ (z : ℕ). seens.Word z) number,
            x ∙ sym y,
            k ∙ ap (λ (z : ℕ). Raised z p to) same ∙ ap (λ (z : ℕ). Raised other z to) number ∙ sym l,
          )
      shown_both (needs.Number key) (seens.Number p) (seens.Number q) (low, x, (row, row_is, k))
          (less, y, (other, is, l)) =
          let same : row ≡ other = same_Some row other (sym row_is ∙ is) in
          let number : p ≡ q = drew_is rows words m row p k at ∙ ap words same
          ∙ sym (drew_is rows words n other q l at') in (
            ap (λ (z : ℕ). seens.Number z) number,
            funds_same key q own more (subst (λ (z : ℕ). Funds begin history key z own) number x) y,
            k ∙ ap (λ (z : ℕ). Drew z p) same ∙ ap (λ (z : ℕ). Drew other z) number ∙ sym l,
          )
      shown_both (needs.Number key) (seens.Number p) (seens.Exhausted q) (low, x, (row, row_is, k))
          (high, y, (other, is, l)) =
          let same : row ≡ other = same_Some row other (sym row_is ∙ is) in
          let number : p ≡ q = drew_is rows words m row p k at ∙ ap words same
          ∙ sym (ended_is rows words n other q l at').1 in
          absurd (omega arith)
      shown_both (needs.Number key) (seens.Exhausted p) (seens.Number q) (high, x, (row, row_is, k))
          (low, y, (other, is, l)) =
          let same : row ≡ other = same_Some row other (sym row_is ∙ is) in
          let number : p ≡ q = (ended_is rows words m row p k at).1 ∙ ap words same
          ∙ sym (drew_is rows words n other q l at') in
          absurd (omega arith)
      shown_both (needs.Number key) (seens.Exhausted p) (seens.Exhausted q) (high, x, (row, row_is, k))
          (top, y, (other, is, l)) =
          let same : row ≡ other = same_Some row other (sym row_is ∙ is) in
          let (move, word) = ended_is rows words m row p k at in
          let (next, found) = ended_is rows words n other q l at' in
          let number : p ≡ q = word ∙ ap words same ∙ sym found in (
            ap (λ (z : ℕ). seens.Exhausted z) number,
            x ∙ sym y,
            move ∙ ap (λ (z : ℕ). Found z p) same ∙ ap (λ (z : ℕ). Found other z) number ∙ sym next,
          )
      shown_both needs.Nothing seens.Nothing other x y = absurd y
      shown_both (needs.Look key) (seens.Word p) other x y = absurd y
      shown_both (needs.Raise key to) (seens.Word p) other x y = absurd y
      shown_both (needs.Number key) (seens.Number p) other x y = absurd y
      shown_both (needs.Number key) (seens.Exhausted p) other x y = absurd y
      shown_both need seen other x y = absurd x

    module _ (words : ℕ → ℕ) (task : Record) (a b : Answer) (m n : Move) (at : IsAt rows words m)
        (at' : IsAt rows words n) where
      -- what two were shown, the one with this reserve and the other with that
      shown_same : (own more : List Entry) (x : AloneShown begin history task own m)
          (y : AloneShown begin history task more n)
          → (x.seen ≡ y.seen) × (own ≡ more) × (m ≡ n)
      shown_same own more x y = shown_both words task a b own more m n at at' y.need x.seen y.seen
          (subst (λ (k : Need). AloneShows begin history k x.seen own m)
          (one_need (now begin history) task.octets x.need y.need x.needed y.needed) x.shows) y.shows

      step_same : (own more : List Entry) (x : AloneShown begin history task own m)
          (y : AloneShown begin history task more n)
          → KeepsRules (now begin (history ++ own)) → (x.change ≡ y.change) × (x.reply ≡ y.reply)
      step_same own more x y rules =
          let (seen, same, move) = shown_same own more x y in
          let step : (x.change, x.reply) ≡ (y.change, y.reply) =
          one_step (now begin (history ++ own)) task.octets y.seen (x.change, x.reply) (y.change, y.reply) rules
          (subst (λ (z : Seen). IsStepOf (now begin (history ++ own)) task.octets z (x.change, x.reply)) seen x.step)
          (subst (λ (l : List Entry). IsStepOf (now begin (history ++ l)) task.octets y.seen (y.change, y.reply))
          (sym same) y.step) in (
            ap (λ (z : Change × Reply). z.0) step,
            ap (λ (z : Change × Reply). z.1) step,
          )

      entry_same : (own more : List Entry) (x : AloneShown begin history task own m)
          (y : AloneShown begin history task more n)
          → KeepsRules (now begin (history ++ own)) → record_entry task.index x.seen x.change
          ≡ record_entry task.index y.seen y.change
      entry_same own more x y rules =
          ap (λ (z : Seen). record_entry task.index z x.change) (shown_same own more x y).0
          ∙ ap (λ (z : Change). record_entry task.index y.seen z) (step_same own more x y rules).0

      handled_both : (own more : List Entry) (x : AloneHandled begin history task a own m)
          (y : AloneHandled begin history task b more n)
          → KeepsRules (now begin (history ++ x.reserve)) → Same a b own more m n
      handled_both own more x y rules =
          let (seen, reserve, move) = shown_same x.reserve y.reserve x.is y.is in
          let (change, reply) = step_same x.reserve y.reserve x.is y.is rules in
          let same : own ≡ more =
          x.own_is ∙ ap (λ (l : List Entry). l ++ record_entry task.index x.is.seen x.is.change ∷ []) reserve
          ∙ ap (λ (e : Entry). y.reserve ++ e ∷ []) (entry_same x.reserve y.reserve x.is y.is rules) ∙ sym y.own_is in (
            same_answer a b (x.told ∙ ap replied_told reply ∙ sym y.told)
                (x.position_is ∙ ap (λ (l : List Entry). length history + length l) same ∙ sym y.position_is),
            same,
            move,
          )

      -- a record of a kind: the states after the entries that it made keep the rules
      kind_once : (kind : RecordKind) → (kind ≡ Monitor → (told_by a ≡ told_by b) × (a.position ≡ b.position))
          → (own more : List Entry)
          → ((front rest : List Entry) → own ≡ front ++ rest → KeepsRules (now begin (history ++ front)))
          → ServesKind begin history kind task a own m → ServesKind begin history kind task b more n
          → Same a b own more m n
      kind_once Protect told own more rules (inl x) (inl y) = unbound_both words task a b own more m n at at' x y
      kind_once Protect told own more rules (inl x) (inr (inl y)) =
          absurd (unbound_or_bound words task a b own more m n at at' x y.is)
      kind_once Protect told own more rules (inl x) (inr (inr y)) =
          absurd (unbound_or_bound words task a b own more m n at at' x y.is)
      kind_once Protect told own more rules (inr (inl x)) (inl y) =
          absurd (unbound_or_bound words task b a more own n m at' at y x.is)
      kind_once Protect told own more rules (inr (inl x)) (inr (inl y)) =
          protected_both words task a b own more m n at at' x y
      kind_once Protect told own more rules (inr (inl x)) (inr (inr y)) =
          absurd (protected_or_exhausted words task a b own more m n at at' x y)
      kind_once Protect told own more rules (inr (inr x)) (inl y) =
          absurd (unbound_or_bound words task b a more own n m at' at y x.is)
      kind_once Protect told own more rules (inr (inr x)) (inr (inl y)) =
          absurd (protected_or_exhausted words task b a more own n m at' at y x)
      kind_once Protect told own more rules (inr (inr x)) (inr (inr y)) =
          exhausted_both words task a b own more m n at at' x y
      kind_once Open told own more rules x y = opened_both words task a b own more m n at at' x y
      kind_once Command told own more rules x y =
          handled_both own more x y (rules x.reserve (record_entry task.index x.is.seen x.is.change ∷ []) x.own_is)
      kind_once Monitor told own more rules x y =
          (same_answer a b (told refl).0 (told refl).1, x.0 ∙ sym y.0, x.1 ∙ sym y.1)

    -- a record that the site and memory sufficed for
    serves_once : (words : ℕ → ℕ) (task : Record) (a b : Answer) (m n : Move) → IsAt rows words m → IsAt rows words n
        → (own more : List Entry)
        → (task.kind ≡ Monitor → (told_by a ≡ told_by b) × (a.position ≡ b.position))
        → ((front rest : List Entry) → own ≡ front ++ rest → KeepsRules (now begin (history ++ front)))
        → a.code < SITE_FAULT → b.code < SITE_FAULT
        → AloneServes begin history task a own m → AloneServes begin history task b more n → Same a b own more m n
    serves_once words task a b m n at at' own more told rules low less (inl late) y = absurd (omega arith)
    serves_once words task a b m n at at' own more told rules low less (inr x) (inl late) = absurd (omega arith)
    serves_once words task a b m n at at' own more told rules low less (inr x) (inr y) =
        kind_once words task a b m n at at' task.kind told own more rules x y

  -- behind an answer that tells no failed append none has failed
  still_clean : (d : Deed) (history : List Entry) (ds : List Deed) (moves : List Move) (own : List Entry)
      → d.answer.code < SITE_FAULT
      → ServesAll begin (has_failed false d.answer) history ds moves own → ServesAll begin false history ds moves own
  still_clean d history ds moves own low =
      let none : has_failed false d.answer ≡ false = grind (arith, nat_tests) in
      subst (λ (b : Bool). ServesAll begin b history ds moves own) none

  -- records one after the other
  pub all_once : (before : List Noted) (history : List Entry) (words : ℕ → ℕ) (ds es : List Deed) (a b : List Move)
      (own more : List Entry)
      → AreReported before ds → AreReported before es
      → ((front rest : List Entry) → own ≡ front ++ rest → KeepsRules (now begin (history ++ front))) → SameTasks ds es
      → AreServed ds → AreServed es
      → ServesAll begin false history ds a own → ServesAll begin false history es b more → Runs rows words a
      → Runs rows words b
      → (map (λ (d : Deed). d.answer) ds ≡ map (λ (d : Deed). d.answer) es) × (own ≡ more) × (a ≡ b)
  all_once before history words [] [] [] [] own more rep re rules same low less x y r q = (refl, x ∙ sym y, refl)
  all_once before history words [] [] (m ∷ a) b own more rep re rules same low less x y r q = absurd x
  all_once before history words [] [] [] (n ∷ b) own more rep re rules same low less x y r q = absurd y
  all_once before history words [] (e ∷ es) a b own more rep re rules same low less x y r q = absurd same
  all_once before history words (d ∷ ds) [] a b own more rep re rules same low less x y r q = absurd same
  all_once before history words (d ∷ ds) (e ∷ es) [] b own more rep re rules same low less x y r q = absurd x
  all_once before history words (d ∷ ds) (e ∷ es) (m ∷ a) [] own more rep re rules same low less x y r q = absurd y
  all_once before history words (d ∷ ds) (e ∷ es) (m ∷ a) (n ∷ b) own more rep re rules same low less
      (first, rest, is, x, counts, xs) (start, others, are, y, recounts, ys) r q =
      let (answer, own_is, move) = serves_once history words d.task d.answer e.answer m n r.0 q.0 first start
      (λ is.
      let again : e.task.kind ≡ Monitor = sym (ap (λ (t : Record). t.kind) same.0) ∙ is in (
        report_once one_message before d e same.0 low.0 less.0 (rep.0 is) (re.0 again),
        counted_clean history d.answer.position (counts (told_count before d is low.0 (rep.0 is)))
            ∙ sym (counted_clean history e.answer.position (recounts (told_count before e again less.0 (re.0 again)))),
      ))
      (λ front back split.
      rules front (back ++ rest) (is ∙ ap (λ (l : List Entry). l ++ rest) split ∙ append_assoc front back rest))
      low.0 less.0 x
      (subst (λ (t : Record). AloneServes begin history t e.answer start n) (sym same.0) y) in
      let (answers, owns, moves) = all_once (before ++ noted_of d ∷ []) (history ++ first) (word_after words m) ds es a
      b rest others rep.1
      (subst (λ (x : Noted). AreReported (before ++ x ∷ []) es) (sym (same_noted d e same.0 answer)) re.1)
      (λ front back split. subst (λ (l : List Entry). KeepsRules (now begin l)) (sym (append_assoc history first front))
      (rules (first ++ front) back (is ∙ ap (λ (l : List Entry). first ++ l) split
      ∙ sym (append_assoc first front back))))
      same.1 low.1 less.1 (still_clean d (history ++ first) ds a rest low.0 xs)
      (subst (λ (l : List Entry). ServesAll begin false (history ++ l) es b others) (sym own_is)
      (still_clean e (history ++ start) es b others less.0 ys)) r.1
      (subst (λ (k : Move). Runs rows (word_after words k) b) (sym move) q.1) in (
        ap (λ (z : Answer). z ∷ map (λ (d : Deed). d.answer) ds) answer ∙ ap (λ (l : List Answer). e.answer ∷ l)
            answers,
        is ∙ ap (λ (l : List Entry). l ++ rest) own_is ∙ ap (λ (l : List Entry). start ++ l) owns ∙ sym are,
        ap (λ (k : Move). k ∷ a) move ∙ ap (λ (l : List Move). n ∷ l) moves,
      )
