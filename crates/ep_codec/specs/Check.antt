-- The tests of a procedure message, in an order (profile): each has the offset of its fault.
use Rattle.std.specs.Prelude.{◌≡◌, ⊤, ℕ, List, Option, Some, None, Result, Ok, Err}
use Rattle.sdls_base.specs.FirstFailing.{Check, first_failing}
use Rattle.ep_codec.specs.declared.procedure.PduError.{PduError}
use Rattle.ep_codec.specs.declared.procedure.PduError.TheVariants.{Fault, NoMemory}

-- the error is the first fault; lack of memory needs no cause
abbrev pub IsFirst : PduError → List (Check ℕ) → Type 0
IsFirst (Fault offset) checks = first_failing checks ≡ Some offset
IsFirst NoMemory checks = ⊤

-- What a reader answers: where no test finds a fault, a value that is as P says, and else the first fault.
abbrev pub JudgesMessage : {X : Type 0} → Result X PduError → List (Check ℕ) → (X → Type 0) → Type 0
JudgesMessage (Ok x) checks P = (first_failing checks ≡ None) × P x
JudgesMessage (Err e) checks P = IsFirst e checks

-- The value is read, unless memory ran out.
abbrev pub IsReadUnlessNoMemory : {X : Type 0} → Result X PduError → X → Type 0
IsReadUnlessNoMemory (Ok x) value = x ≡ value
IsReadUnlessNoMemory (Err e) value = e ≡ NoMemory

-- the error carries this offset, or memory ran out
abbrev pub Carries : PduError → Option ℕ → Type 0
Carries (Fault offset) fault = fault ≡ Some offset
Carries NoMemory fault = ⊤

-- A value is read only where there is no fault; where one is answered, it is the first.
abbrev pub HasFault : {X : Type 0} → Result X PduError → Option ℕ → Type 0
HasFault (Ok x) fault = fault ≡ None
HasFault (Err e) fault = Carries e fault
