-- What is accepted over the lives of two units is what was released.
use Rattle.std.proofs.Common.{◌≡◌, ℕ, ◌-◌, List, [], ◌∷◌, length, refl, sym, ◌∙◌, subst, arith}
use Rattle.std.specs.List.{All, AllPairs, Contains, slice_index_or}
use Rattle.std.proofs.lemmas.List.Elements.{All-append, All-contains, Contains-get_or}
use Rattle.std.proofs.lemmas.Option.{slice_get_within}
use Rattle.frame_shield.specs.declared.binding.Binding.{Binding}
use Rattle.frame_shield.specs.Opens.{Opens}
use Rattle.frame_shield.specs.Protects.{Protects}
use Rattle.record_io.specs.Places.{records_of}
use Rattle.run_promise.specs.Deed.{Deed}
use Rattle.run_promise.specs.History.{NearWord, TurnIn}
use Rattle.run_promise.specs.Life.{Given, AcceptsOctets, AreApart, OnceInLife, IsLife, IsRun, FollowFrom, LifeRun}
use Rattle.run_promise.specs.Life.{answers_begun, given_of, given_in}
use Rattle.law_history.proofs.Along.{of_places, rules_along}
use Rattle.law_history.proofs.Codes.{accepting_opening}
use Rattle.law_links.specs.Carried.{AcceptsCovered, AcceptsFrame, AgreeOn, AgreesOnCovered, AreRepeated, BindingsAgree}
use Rattle.law_links.specs.Carried.{IsCarried, IsDataField}
use Rattle.law_links.specs.Linked.{AssociationsAgree, released_in}
use Rattle.law_links.proofs.Begun.{begun_any, given_all}
use Rattle.law_links.proofs.Frames.{agrees_with_itself}
use Rattle.law_links.proofs.Given.{IsSent, IsGot, sent, got}
use Rattle.law_links.proofs.Released.{released_code, released_there}

-- what an answer of a life says
pub record Tells (given : Given) : Type 0 where
  pub sends : given.deed.answer.code ≡ 0 → IsSent given
  pub gets : given.deed.answer.code ≡ 1 → IsGot given

run_tells : (run : LifeRun) → IsRun run → All Tells (given_of run.course (answers_begun (length run.sunk) run.deeds))
run_tells run is =
    given_all run.course Tells (answers_begun (length run.sunk) run.deeds)
    (begun_any (λ (d : Deed). Tells (record { course = run.course; deed = d })) (length run.sunk) run.deeds (λ k d low.
    let fits = is.sound.answers k d low in
    let given : Given = record { course = run.course; deed = slice_index_or run.deeds k d } in
    record {
      sends = λ code. sent (NearWord run.course.begin.start run.course.entries (records_of run.places)) given fits code;
      gets = λ code.
          let opening =
          accepting_opening (NearWord run.course.begin.start run.course.entries (records_of run.places)) run.course
          given.deed.task given.deed.answer
          given.deed.answer.key given.deed.answer.number fits (code, refl, refl) in
          let within = slice_get_within run.course.entries (given.deed.answer.position - 1) _ opening.stands.there in
          got (NearWord run.course.begin.start run.course.entries (records_of run.places)) given
          (rules_along run.course.begin.plan run.course.begin.start (records_of run.places) (TurnIn run.places)
          run.course.entries
          (of_places run.course.begin.plan run.course.begin.start run.places run.course.entries is.sound.history)
          (given.deed.answer.position - 1) (omega arith)) fits code;
    }))

follow_tells : (image : List ℕ) (runs : List LifeRun) → FollowFrom image runs → All Tells (given_in runs)
follow_tells image [] follow = λ k d low. absurd (omega arith)
follow_tells image (run ∷ runs) (start, is, follow) =
    All-append Tells (given_of run.course (answers_begun (length run.sunk) run.deeds)) (given_in runs)
    (run_tells run is)
    (follow_tells run.image runs follow)

tells_in_life : (image : List ℕ) (runs : List LifeRun) → IsLife image runs → (given : Given)
    → Contains (given_in runs) given → Tells given
tells_in_life image runs life given there =
    All-contains Tells (given_in runs) given (follow_tells image runs life.follow) there

abbrev pub FrameOpens : Type 0
FrameOpens = (one other : Binding) (n m : ℕ) (clear frame arrived field : List ℕ) → Protects one n clear frame
    → AgreeOn one other → AgreesOnCovered one frame arrived → Opens other arrived m field
    → (m ≡ n) × IsDataField one clear field

-- What it is to accept a frame that was released: the code is that of an acceptance, and the two frames agree on what
-- is covered.
pub record IsTaking (takes : Given → Given → Type 0) : Type 0 where
  pub accepts : (sent got : Given) → takes sent got → got.deed.answer.code ≡ 1
  pub alike : (sent got : Given) (s : IsSent sent) → takes sent got
      → AgreesOnCovered s.binding sent.deed.answer.body got.deed.task.octets

pub frames_taken : (key : ℕ) → IsTaking (AcceptsFrame key)
frames_taken key = record {
  accepts = λ sent got taken. taken.accepts.0;
  alike = λ sent got s taken.
      subst (λ (frame : List ℕ). AgreesOnCovered s.binding sent.deed.answer.body frame) (sym taken.octets)
      (agrees_with_itself s.binding sent.deed.answer.number sent.deed.task.octets sent.deed.answer.body s.protects);
}

pub covered_taken : (key : ℕ) → IsTaking (AcceptsCovered key)
covered_taken key = record {
  accepts = λ sent got taken. taken.accepts.0;
  alike = λ sent got s taken. taken.agrees s.binding s.under;
}

-- what the answer says that released the frame
sent_of : (image : List ℕ) (sender : List LifeRun) → IsLife image sender → (one : Given)
    → Contains (released_in sender) one → IsSent one
sent_of image sender life one there =
    (tells_in_life image sender life one (released_there sender one there)).sends (released_code sender one there)

-- an answer that accepts the frame
pub record IsHanded (sent : Given) (s : IsSent sent) (got : Given) : Type 0 where
  pub g : IsGot got
  pub agree : AgreeOn s.binding g.binding
  pub number : got.deed.answer.number ≡ sent.deed.answer.number
  pub field : IsDataField s.binding sent.deed.task.octets got.deed.answer.body

module _ (law : FrameOpens) (takes : Given → Given → Type 0) (taking : IsTaking takes) (image other : List ℕ)
    (sender receiver : List LifeRun) (life : IsLife image sender) (again : IsLife other receiver) (one : Given)
    (there : Contains (released_in sender) one) where
  abbrev s : IsSent one
  s = sent_of image sender life one there

  handed : (two : Given) → Contains (given_in receiver) two → takes one two → BindingsAgree one two
      → IsHanded one s two
  handed two here taken agree =
      let g : IsGot two = (tells_in_life other receiver again two here).gets (taking.accepts one two taken) in
      let same = agree s.binding g.binding s.under g.under in
      let is = law s.binding g.binding one.deed.answer.number two.deed.answer.number one.deed.task.octets
      one.deed.answer.body two.deed.task.octets two.deed.answer.body s.protects same (taking.alike one two s taken)
      g.opens in
      record { g = g; agree = same; number = is.0; field = is.1 }

  pub carried : (two : Given) → Contains (given_in receiver) two → takes one two → BindingsAgree one two
      → IsCarried one two
  carried two here taken agree =
      let h : IsHanded one s two = handed two here taken agree in
      record {
        number = h.number;
        one = s.binding;
        other = h.g.binding;
        sent_under = s.under;
        received_under = h.g.under;
        sent_key = s.held;
        received_key = h.g.held;
        octets = h.agree.octets;
        field = h.field;
      }

  -- two answers that accept the frame accept one number under keys with the same octets
  both_accept : (two three : Given) → (h : IsHanded one s two) → (k : IsHanded one s three)
      → AcceptsOctets three three.deed.answer.key h.g.binding.schedule two.deed.answer.number
  both_accept two three h k =
      let octets : k.g.binding.schedule ≡ h.g.binding.schedule = sym k.agree.octets ∙ h.agree.octets in
      let numbers : three.deed.answer.number ≡ two.deed.answer.number = k.number ∙ sym h.number in
      subst (λ (n : ℕ). AcceptsOctets three three.deed.answer.key h.g.binding.schedule n) numbers
      (subst (λ (l : List ℕ). AcceptsOctets three three.deed.answer.key l three.deed.answer.number) octets k.g.octets)

  pub not_both : (two three : Given) → AreApart two three → Contains (given_in receiver) two
      → Contains (given_in receiver) three → takes one two → takes one three
      → BindingsAgree one two → BindingsAgree one three → ⊥
  not_both two three apart here also taken taken_too agree agree_too =
      let h : IsHanded one s two = handed two here taken agree in
      let k : IsHanded one s three = handed three also taken_too agree_too in
      apart.accepted_octets two.deed.answer.key three.deed.answer.key h.g.binding.schedule two.deed.answer.number
      h.g.octets (both_accept two three h k)

abbrev pub UsedOnce : Type 0
UsedOnce = (image : List ℕ) (runs : List LifeRun) → IsLife image runs → OnceInLife runs

-- of two answers of a life not both accept one released frame
pub arrived_once : FrameOpens → UsedOnce → (takes : Given → Given → Type 0) → IsTaking takes → (image other : List ℕ)
    (sender receiver : List LifeRun) → IsLife image sender → IsLife other receiver
    → AssociationsAgree takes sender receiver
    → AllPairs (λ one two. ¬ AreRepeated takes (released_in sender) one two) (given_in receiver)
arrived_once law once takes taking image other sender receiver life again agree i j d lt low
    (sent, there, first, second) =
    let here : Contains (given_in receiver) (slice_index_or (given_in receiver) i d) =
    Contains-get_or (given_in receiver) i d (omega arith) in
    let also : Contains (given_in receiver) (slice_index_or (given_in receiver) j d) =
    Contains-get_or (given_in receiver) j d low in
    not_both law takes taking image other sender receiver life again sent there (slice_index_or (given_in receiver) i d)
    (slice_index_or (given_in receiver) j d) (once other receiver again i j d lt low) here also first second
    (agree sent (slice_index_or (given_in receiver) i d) there here first)
    (agree sent (slice_index_or (given_in receiver) j d) there also second)
