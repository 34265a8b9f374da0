-- Two units on one link, over the lives of both (profile). A sender protects frames, a link delivers some of them, and
-- a receiver opens what arrives.
use Rattle.std.specs.Prelude.{◌≡◌, ℕ, ◌==◌, List, length, Some}
use Rattle.std.specs.List.{AllPairs, Contains, filter, slice_get}
use Rattle.link_world.specs.declared.link.LinkEvent.{LinkEvent}
use Rattle.link_world.specs.Link.{arrivals}
use Rattle.record_io.specs.declared.code.TheConstants.{PROTECTED}
use Rattle.run_promise.specs.Answers.{Accepts}
use Rattle.run_promise.specs.Life.{Given, LifeRun, given_in}
use Rattle.law_links.specs.InOrder.{NumbersInOrder}
use Rattle.law_links.specs.Carried.{AcceptsCovered, AcceptsUnder, AreRepeated, BindingsAgree, IsCarried}

-- the answers of a life that release a frame, in order
abbrev pub released_in : List LifeRun → List Given
released_in runs = filter (λ given. given.deed.answer.code == PROTECTED) (given_in runs)

-- Premise: the link delivers only what was released. Each frame that the receiver accepts under the key arrived at one
-- of these events, and has the octets of the frame that the sender released with its number.
abbrev pub DeliversReleased : ℕ → List LinkEvent → List LifeRun → List LifeRun → Type 0
DeliversReleased key events sender receiver = (got : Given) → Contains (given_in receiver) got → AcceptsUnder key got
    → (frame : ℕ) × Contains (arrivals (length (released_in sender)) events) frame
    × ((sent : Given) → slice_get (released_in sender) frame ≡ Some sent
    → got.deed.task.octets ≡ sent.deed.answer.body)

-- Premise: what the link may change of a frame is what the MAC does not cover. Each frame that the receiver accepts
-- under
-- the key arrived at one of these events, and agrees on all that is covered with the frame that the sender released
-- with
-- its number.
abbrev pub DeliversCovered : ℕ → List LinkEvent → List LifeRun → List LifeRun → Type 0
DeliversCovered key events sender receiver = (got : Given) → Contains (given_in receiver) got → AcceptsUnder key got
    → (frame : ℕ) × Contains (arrivals (length (released_in sender)) events) frame
    × ((sent : Given) → slice_get (released_in sender) frame ≡ Some sent → AcceptsCovered key sent got)

-- Premise: whenever the receiver accepts a frame that the sender released, its association has the key octets, suite,
-- layout and mask with which the sender protected that frame.
abbrev pub AssociationsAgree : (Given → Given → Type 0) → List LifeRun → List LifeRun → Type 0
AssociationsAgree takes sender receiver = (sent got : Given) → Contains (released_in sender) sent
    → Contains (given_in receiver) got → takes sent got → BindingsAgree sent got

-- Each frame that the receiver accepts under the key is one that the sender released, with its number and its data
-- field; none is accepted twice, nor a number of the key; and the numbers accepted stand in order.
pub record LinkHolds (takes : Given → Given → Type 0) (key : ℕ) (sender receiver : List LifeRun) : Type 0 where
  pub carried : (got : Given) → Contains (given_in receiver) got → AcceptsUnder key got
      → (sent : Given) × Contains (released_in sender) sent × IsCarried sent got
  pub frames_once : AllPairs (λ one two. ¬ AreRepeated takes (released_in sender) one two) (given_in receiver)
  pub numbers_once : AllPairs (λ one two. (number : ℕ) → Accepts one.deed.answer key number
      → ¬ Accepts two.deed.answer key number) (given_in receiver)
  pub in_order : NumbersInOrder key receiver
