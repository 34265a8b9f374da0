-- What holds of two units on one link.
use Rattle.std.proofs.Common.{◌≡◌, ℕ, ◌<◌, List, length, Some}
use Rattle.std.specs.List.{All, AllPairs, Contains, slice_get}
use Rattle.std.proofs.lemmas.List.Elements.{All-contains}
use Rattle.link_world.specs.declared.link.LinkEvent.{LinkEvent}
use Rattle.link_world.specs.Link.{arrivals}
use Rattle.run_promise.specs.Life.{AreApart, Given, LifeRun, given_in}
use Rattle.law_links.specs.InOrder.{NumbersInOrder}
use Rattle.law_links.specs.Carried.{AcceptsUnder, AreRepeated, BindingsAgree, IsCarried}
use Rattle.law_links.specs.Linked.{AssociationsAgree, LinkHolds, released_in}
use Rattle.law_links.proofs.Released.{numbered}

abbrev pub WereReleased : Type 0
WereReleased = (count : ℕ) (events : List LinkEvent) → All (λ frame. frame < count) (arrivals count events)

module _ (takes : Given → Given → Type 0) where
  abbrev pub Carries : List LifeRun → List LifeRun → Type 0
  Carries sender receiver = (sent got : Given) → Contains (released_in sender) sent → Contains (given_in receiver) got
      → takes sent got → BindingsAgree sent got → IsCarried sent got

  -- each frame that is accepted under the key arrived, and is taken of one that was released
  abbrev pub Delivers : ℕ → List LinkEvent → List LifeRun → List LifeRun → Type 0
  Delivers key events sender receiver = (got : Given) → Contains (given_in receiver) got → AcceptsUnder key got
      → (frame : ℕ) × Contains (arrivals (length (released_in sender)) events) frame
      × ((sent : Given) → slice_get (released_in sender) frame ≡ Some sent → takes sent got)

  pub holds : WereReleased → (sender receiver : List LifeRun) → Carries sender receiver
      → AllPairs (λ one two. ¬ AreRepeated takes (released_in sender) one two) (given_in receiver)
      → AllPairs AreApart (given_in receiver) → (key : ℕ) → NumbersInOrder key receiver → (events : List LinkEvent)
      → Delivers key events sender receiver → AssociationsAgree takes sender receiver
      → LinkHolds takes key sender receiver
  holds released sender receiver carries frames numbers key order events delivers agree = record {
    carried = λ got there accepts.
        let (frame, arrived, from) = delivers got there accepts in
        let low : frame < length (released_in sender) =
        All-contains (λ (frame : ℕ). frame < length (released_in sender))
        (arrivals (length (released_in sender)) events) frame
        (released (length (released_in sender)) events) arrived in
        let (sent, at, is) = numbered (released_in sender) frame low in
        let taken : takes sent got = from sent at in
        (sent, is, carries sent got is there taken (agree sent got is there taken));
    frames_once = frames;
    numbers_once = λ i j d lt low number. (numbers i j d lt low).accepted key number;
    in_order = order;
  }
