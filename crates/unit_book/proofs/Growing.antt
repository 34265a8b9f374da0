-- What the images of a run show, while its entries are stored.
use Rattle.std.proofs.Common.{◌≡◌, ℕ, ◌+◌, ◌≤◌, List, [], ◌∷◌, ◌++◌, length, refl, sym, ◌∙◌, ap, subst, inl, inr, arith}
use Rattle.std.proofs.Common.{length-append}
use Rattle.std.proofs.lemmas.List.{take_all, take-append-le}
use Rattle.sdls_base.specs.declared.entry.Entry.{Entry}
use Rattle.unit_image.specs.Image.{Becomes, HasOneClosed, Held, held, Holds, IsAtRest}
use Rattle.unit_state.specs.declared.state.State.{State}
use Rattle.unit_state.specs.Applied.{applied}
use Rattle.unit_state.specs.Restart.{restarted}
use Rattle.unit_state.specs.History.{after_all, after_first}
use Rattle.unit_image.specs.Shows.{SaysState, Shows}
use Rattle.run_promise.specs.Sound.{ShowsAfter}
use Rattle.unit_book.specs.Book.{ShowsFrom}

pub after_entry : (start : State) (entries : List Entry) (entry : Entry) → after_all start (entries ++ entry ∷ [])
    ≡ applied (after_all start entries) entry.change
after_entry start [] entry = refl
after_entry start (first ∷ entries) entry = after_entry (applied start first.change) entries entry

pub first_same : (start : State) (entries more : List Entry) (p : ℕ) → p ≤ length entries
    → after_first start (entries ++ more) p ≡ after_first start entries p
first_same start entries more p low = ap (after_all start) (take-append-le p entries more low)

pub first_all : (start : State) (entries : List Entry) (p : ℕ) → length entries ≤ p → after_first start entries p
    ≡ after_all start entries
first_all start entries p high = ap (after_all start) (take_all p entries high)

-- what an image that shows a state holds says the state
pub says_held : (image : List ℕ) (state : State) → Shows image state → SaysState (held image) state
says_held image state shows = subst (λ (what : Held). SaysState what state) (sym shows.holds.is) shows.says

-- an image at rest has no closed gate at all
rests_settled : (image : List ℕ) → IsAtRest image → HasOneClosed image
rests_settled image rests = record {
  one = λ at beside closed other. absurd (rests at closed);
  opened = λ form at is closed. absurd (rests is.0 is.1);
}

-- a moment that showed some of the entries shows them still
pub shows_after_more : (start : State) (entries more : List Entry) (p : ℕ) (image : List ℕ)
    → ShowsAfter start entries p image → ShowsAfter start (entries ++ more) p image
shows_after_more start entries more p image shows =
    let low : p ≤ length entries = shows.within in
    let size : length (entries ++ more) ≡ length entries + length more = length-append entries more in
    record {
      within = omega arith;
      shows = subst (λ (s : State). Shows image (restarted s)) (sym (first_same start entries more p low)) shows.shows;
      forms = λ form is.
          let (q, above, within, shown) = shows.forms form is in (
            q,
            above,
            omega arith,
            subst (λ (s : State). Shows form (restarted s))
                (sym (first_same start entries more q within)) shown,
          );
      settled = shows.settled;
    }

pub shows_from_more : (start : State) (entries more : List Entry) (least : ℕ) (image : List ℕ)
    → ShowsFrom start entries least image → ShowsFrom start (entries ++ more) least image
shows_from_more start entries more least image (p, above, shows) =
    (p, above, shows_after_more start entries more p image shows)

pub shows_from_less : (start : State) (entries : List Entry) (least more : ℕ) (image : List ℕ) → least ≤ more
    → ShowsFrom start entries more image → ShowsFrom start entries least image
shows_from_less start entries least more image low (p, above, shows) = (p, omega arith, shows)

-- all entries are shown, by an image at rest
pub shows_from_all : (start : State) (entries : List Entry) (image : List ℕ)
    → Shows image (restarted (after_all start entries))
    → IsAtRest image → ShowsFrom start entries (length entries) image
shows_from_all start entries image shows rests = (
  length entries,
  omega arith,
  record {
    within = omega arith;
    shows = subst (λ (s : State). Shows image (restarted s))
        (sym (first_all start entries (length entries) (omega arith))) shows;
    forms = λ form is. absurd (rests is.0 is.1);
    settled = rests_settled image rests;
  },
)

-- An image in a change from what was held to what is held next: it shows all entries before the one more, and that one
-- where it holds the next, as its opened forms do.
pub shows_becomes : (start : State) (entries : List Entry) (entry : Entry) (old next : Held) (image : List ℕ)
    → Becomes old next image → SaysState old (restarted (after_all start entries))
    → SaysState next (restarted (after_all start (entries ++ entry ∷ [])))
    → ShowsFrom start (entries ++ entry ∷ []) (length entries) image
shows_becomes start entries entry old next image becomes says_old says_next =
    let size : length (entries ++ entry ∷ []) ≡ length entries + 1 = length-append entries (entry ∷ []) in
    let whole : after_first start (entries ++ entry ∷ []) (length entries + 1)
    ≡ after_all start (entries ++ entry ∷ []) =
    first_all start (entries ++ entry ∷ []) (length entries + 1) (omega arith) in
    let part : after_first start (entries ++ entry ∷ []) (length entries) ≡ after_all start entries =
    first_same start entries (entry ∷ []) (length entries) (omega arith) ∙ first_all start entries (length entries)
    (omega arith) in
    let next_says : SaysState next (restarted (after_first start (entries ++ entry ∷ []) (length entries + 1))) =
    subst (λ (s : State). SaysState next (restarted s)) (sym whole) says_next in
    elim becomes.holds [
      | inl holds ↦ (
        length entries,
        omega arith,
        record {
          within = omega arith;
          shows = record {
            what = old;
            holds = holds;
            says = subst (λ (s : State). SaysState old (restarted s)) (sym part) says_old;
          };
          forms = λ form is. (
            length entries + 1,
            omega arith,
            omega arith,
            record {
              what = next;
              holds =
                  becomes.forms form is;
              says = next_says;
            },
          );
          settled = becomes.settled;
        },
      )
      | inr holds ↦ (
        length entries + 1,
        omega arith,
        record {
          within = omega arith;
          shows = record { what = next; holds = holds; says = next_says };
          forms = λ form is. (
            length entries + 1,
            omega arith,
            omega arith,
            record {
              what = next;
              holds =
                  becomes.forms form is;
              says = next_says;
            },
          );
          settled = becomes.settled;
        },
      )
    ]

-- an image at rest that holds the next shows the one more
pub shows_next : (start : State) (entries : List Entry) (entry : Entry) (next : Held) (image : List ℕ)
    → Holds image next → IsAtRest image
    → SaysState next (restarted (after_all start (entries ++ entry ∷ [])))
    → ShowsFrom start (entries ++ entry ∷ []) (length entries + 1) image
shows_next start entries entry next image holds rests says =
    subst (λ (n : ℕ). ShowsFrom start (entries ++ entry ∷ []) n image) (length-append entries (entry ∷ []))
    (shows_from_all start (entries ++ entry ∷ []) image (record { what = next; holds = holds; says = says }) rests)
