-- A fit stays a fit while the history grows and more is known to be near.
use Rattle.std.proofs.Common.{◌≡◌, ℕ, ◌-◌, ◌≤◌, List, ◌++◌, length, sym, ◌∙◌, ap, subst, arith, inl, inr, ⊎_elim}
use Rattle.std.proofs.Common.{length-append}
use Rattle.std.proofs.lemmas.List.{take-append-le}
use Rattle.std.proofs.lemmas.Option.{slice_get_within}
use Rattle.sdls_base.specs.declared.entry.Entry.{Entry}
use Rattle.sdls_base.specs.declared.entry.Seen.{Seen}
use Rattle.sdls_base.specs.declared.entry.Seen.TheVariants as seens
use Rattle.sdls_outside.specs.Faults.{Rose}
use Rattle.record_io.specs.declared.item_cursor.Record.{Record}
use Rattle.record_io.specs.declared.answers.Answer.{Answer}
use Rattle.record_io.specs.declared.reader.RecordKind.{RecordKind}
use Rattle.record_io.specs.declared.reader.RecordKind.TheVariants.{Protect, Open, Command, Monitor}
use Rattle.unit_state.specs.declared.state.State.{State}
use Rattle.unit_state.specs.History.{after_all, after_first, at_epoch, epoch_after}
use Rattle.unit_state.proofs.Histories.{at_epoch_more, epochs_more}
use Rattle.run_promise.specs.Call.{Begin}
use Rattle.run_promise.specs.History.{frame_entry, SeenNear}
use Rattle.run_promise.specs.Fits.{Course, CanReserve, CanRaiseFloor, CanChange, CanDraw, IsUnmarked, CanAppend}
use Rattle.run_promise.specs.Fits.{MayAppendOnce, TellsRisenCount, FitsAny, FitsKind, Fits, StandsAt, IsBound}
use Rattle.law_workers.proofs.Histories.{get_front}

pub seen_nearer : (near far : ℕ → ℕ → Type 0) → ((k n : ℕ) → near k n → far k n) → (k : ℕ) (seen : Seen)
    → SeenNear near k seen → SeenNear far k seen
seen_nearer near far more k seens.Nothing h = h
seen_nearer near far more k (seens.Word n) h = more k n h
seen_nearer near far more k (seens.Number n) h = more k n h
seen_nearer near far more k (seens.Exhausted n) h = more k n h

module _ (near far : ℕ → ℕ → Type 0) (more : (k n : ℕ) → near k n → far k n) (begin : Begin)
    (before f g : ℕ) (es rest : List Entry) (counted : f ≤ g) (closed : Rose before f → length (es ++ rest) ≡ length es)
  where
    abbrev old : Course
    old = record { begin = begin; faults_before = before; faults = f; entries = es }

    abbrev new : Course
    new = record { begin = begin; faults_before = before; faults = g; entries = es ++ rest }

    first_kept : (p : ℕ) → p ≤ length es → after_first begin.start (es ++ rest) p ≡ after_first begin.start es p
    first_kept p h = ap (after_all begin.start) (take-append-le p es rest h)

    epochs_kept : (e : ℕ) → e ≤ epoch_after es → at_epoch begin.start (es ++ rest) e ≡ at_epoch begin.start es e
    epochs_kept e h = at_epoch_more begin.start es rest e h

    reached_more : (e : ℕ) → e ≤ epoch_after es → e ≤ epoch_after (es ++ rest)
    reached_more e h = let k = epochs_more es rest in omega arith

    unmarked_more : (p key number : ℕ) → p ≤ length es → IsUnmarked near (after_first begin.start es p) key number
        → IsUnmarked far (after_first begin.start (es ++ rest) p) key number
    unmarked_more p key number low h = record {
      is_near = more key number h.is_near;
      unmarked = rw (first_kept p low) h.unmarked;
      below = h.below;
    }

    can_reserve : (p : ℕ) (t : Record) → p ≤ length es → CanReserve near old p t → CanReserve far new p t
    can_reserve p t low h = record {
      earlier = h.earlier;
      within = h.within;
      binding = h.binding;
      bound = rw (first_kept h.earlier (omega (arith, h.within))) h.bound;
      number = h.number;
      is = unmarked_more p h.binding.key h.number low h.is;
    }

    can_raise : (p : ℕ) (t : Record) → p ≤ length es → CanRaiseFloor old p t → CanRaiseFloor new p t
    can_raise p t low h = record {
      spi = h.spi;
      key = h.key;
      number = h.number;
      from = h.from;
      to = h.to;
      field = h.field;
      accepts = rw (first_kept p low) h.accepts;
      above = rw (first_kept p low) h.above;
    }

    can_change : (p : ℕ) (t : Record) → p ≤ length es → CanChange near old p t → CanChange far new p t
    can_change p t low h =
        let same = first_kept p low in
        record {
          seen = h.seen;
          change = h.change;
          reply = h.reply;
          sees = rw same h.sees;
          is_near = λ k o. seen_nearer near far more k h.seen (h.is_near k (rw same at o));
          step = rw same h.step;
          changes = h.changes;
        }

    can_draw : (p : ℕ) (t : Record) → p ≤ length es → CanDraw near old p t → CanDraw far new p t
    can_draw p t low h = record {
      key = h.key;
      number = h.number;
      needs = rw (first_kept p low) h.needs;
      is = unmarked_more p h.key h.number low h.is;
    }

    pub can_append : (kind : RecordKind) (p : ℕ) (t : Record) → p ≤ length es → CanAppend near old p t kind
        → CanAppend far new p t kind
    can_append Protect p t low h = can_reserve p t low h
    can_append Open p t low h = can_raise p t low h
    can_append Command p t low (inl h) = inl (can_change p t low h)
    can_append Command p t low (inr h) = inr (can_draw p t low h)
    can_append Monitor p t low h = absurd h

    once_more : (t : Record) → MayAppendOnce near old t → MayAppendOnce far new t
    once_more t h = record {
      p = h.p;
      within = let a = length-append es rest in let b = h.within in omega arith;
      may = can_append t.kind h.p t h.within h.may;
    }

    -- no entry comes after a fault, so the count of all entries stays
    tells_more : (code : ℕ) (x : Answer) → TellsRisenCount old code x → TellsRisenCount new code x
    tells_more code x h = record {
      told = h.told;
      rose = h.rose;
      counted = let a = h.counted in omega arith;
      position_is = h.position_is ∙ sym (closed (let a = h.rose in let b = h.counted in omega arith));
    }

    stands_more : (x : Answer) (e : Entry) → StandsAt old x e → StandsAt new x e
    stands_more x e h = record {
      least = h.least;
      there = get_front es rest (x.position - 1) (slice_get_within es (x.position - 1) e h.there) ∙ h.there;
    }

    fits_any : (t : Record) (x : Answer) → FitsAny near old t x → FitsAny far new t x
    fits_any t x (inl h) = inl (record {
      tells = tells_more _ x h.tells;
      may = once_more t h.may;
      entry = h.entry;
      last = stands_more x h.entry h.last;
      own = h.own;
    })
    fits_any t x (inr (inl h)) =
        inr (inl (record { tells = tells_more _ x h.tells; may = ⊎_elim inl (λ m. inr (once_more t m)) h.may }))
    fits_any t x (inr (inr h)) = inr (inr h)

    before_kept : (x : Answer) (e : Entry) → StandsAt old x e → after_first begin.start (es ++ rest) (x.position - 1)
        ≡ after_first begin.start es (x.position - 1)
    before_kept x e h = let low = slice_get_within es (x.position - 1) e h.there in
        first_kept (x.position - 1) (omega arith)

    abbrev bound_more : (t : Record) (x : Answer) → IsBound old t x → IsBound new t x
    bound_more t x h = record {
      reached = reached_more x.position h.reached;
      binding = h.binding;
      bound = rw (epochs_kept x.position h.reached) h.bound;
      key_is = h.key_is;
    }

    fits_kind : (kind : RecordKind) (t : Record) (x : Answer) → FitsKind near old t x kind → FitsKind far new t x kind
    fits_kind Protect t x (inl h) = inl (record {
      is = bound_more t x h.is;
      told = h.told;
      is_near = more x.key x.number h.is_near;
      below = h.below;
      protects = h.protects;
    })
    fits_kind Protect t x (inr (inl h)) = inr (inl (record {
      reached = reached_more x.position h.reached;
      told = rw (epochs_kept x.position h.reached) h.told;
      epoch_looked_at = h.epoch_looked_at;
    }))
    fits_kind Protect t x (inr (inr (inl h))) = inr (inr (inl (record {
      is = bound_more t x h.is;
      told = h.told;
      is_near = more x.key x.number h.is_near;
      at_end = h.at_end;
    })))
    fits_kind Protect t x (inr (inr (inr h))) = inr (inr (inr (fits_any t x h)))
    fits_kind Open t x (inl h) =
        let same = before_kept x _ h.stands in
        inl (record {
          reply = h.reply;
          field = h.field;
          replies = rw same h.replies;
          stands = subst (λ (s : State). StandsAt new x (frame_entry begin.plan s t.index h.reply)) (sym same)
              (stands_more x _ h.stands);
          told = h.told;
        })
    fits_kind Open t x (inr h) = inr (fits_any t x h)
    fits_kind Command t x (inl h) =
        let same = before_kept x _ h.stands in
        inl (record {
          seen = h.seen;
          change = h.change;
          reply = h.reply;
          step = rw same h.step;
          stands = stands_more x _ h.stands;
          told = h.told;
        })
    fits_kind Command t x (inr h) = inr (fits_any t x h)
    fits_kind Monitor t x (inl h) =
        inl (record {
          reached = let a = length-append es rest in let b = h.reached in omega arith;
          said = h.said;
          told = h.told;
        })
    fits_kind Monitor t x (inr h) = inr h

    pub fits_more : (t : Record) (x : Answer) → Fits near old t x → Fits far new t x
    fits_more t x h = fits_kind t.kind t x h
