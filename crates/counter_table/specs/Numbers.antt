-- Profile: the numbers of the rows, as one worker knows them. A pair is a row with a number, and of a list of pairs the
-- newest is the last.
use Rattle.std.specs.Prelude.{ℕ, ◌+◌, ◌-◌, ◌==◌, ◌&&◌, max, false, true, nat_lt, List, [], ◌∷◌, ◌++◌, Option, Some}
use Rattle.std.specs.Prelude.{None, if◌then◌else◌}
use Rattle.counter_table.specs.declared.view.Numbers.{Numbers}

-- how many pairs are of the row
abbrev pub count_of : ℕ → List (ℕ × ℕ) → ℕ
count_of row [] = 0
count_of row (p ∷ ps) = (if p.0 == row then 1 else 0) + count_of row ps

-- the sum of the row's numbers
abbrev pub amount : ℕ → List (ℕ × ℕ) → ℕ
amount row [] = 0
amount row (p ∷ ps) = (if p.0 == row then p.1 else 0) + amount row ps

-- the greatest of the row's numbers, 0 where there is none
abbrev pub top : ℕ → List (ℕ × ℕ) → ℕ
top row [] = 0
top row (p ∷ ps) = max (if p.0 == row then p.1 else 0) (top row ps)

-- 1 where the worker is armed for the row
abbrev pub is_armed : ℕ → Option ℕ → ℕ
is_armed row None = 0
is_armed row (Some r) = if r == row then 1 else 0

-- 1 where the number drawn last is x of the row
abbrev pub is_last : ℕ → ℕ → Option (ℕ × ℕ) → ℕ
is_last row x None = 0
is_last row x (Some p) = if (p.0 == row) && (p.1 == x) then 1 else 0

-- a worker that ended, or was never there
abbrev pub no_numbers : Numbers
no_numbers = record {
  shares = 0;
  armed = None;
  last = None;
  peeked = false;
  drawn = [];
  spent = [];
  raised = [];
  added = [];
  nexts = [];
  limits = [];
  tickets = 0;
}

-- the shares of all workers together: as many can there be at one time
abbrev pub ALL_SHARES : ℕ
ALL_SHARES = 1024

-- the first worker, which has all shares
abbrev pub first_numbers : Numbers
first_numbers = record no_numbers { shares = ALL_SHARES }

-- after n was found in the row's word `next`: armed where it is below the end
abbrev pub arming : ℕ → ℕ → ℕ → Numbers → Numbers
arming row end n v = record v { armed = if nat_lt n end then Some row else v.armed; nexts = v.nexts ++ (row, n) ∷ [] }

-- after n was drawn
abbrev pub drawing : ℕ → ℕ → Numbers → Numbers
drawing row n v =
    record v {
      armed = None;
      last = Some (row, n);
      peeked = false;
      drawn = v.drawn ++ (row, n) ∷ [];
      added = v.added ++ (row, 1) ∷ [];
      nexts = v.nexts ++ (row, n + 1) ∷ [];
    }

-- after the limit was found above the number x, which is spent
abbrev pub spending : ℕ → ℕ → ℕ → Numbers → Numbers
spending row x limit v =
    record v { last = None; peeked = true; spent = v.spent ++ (row, x) ∷ []; limits = v.limits ++ (row, limit) ∷ [] }

-- after the limit was found at or below the number drawn, whose ticket came back
abbrev pub returning : ℕ → ℕ → Numbers → Numbers
returning row limit v = record v { peeked = true; limits = v.limits ++ (row, limit) ∷ []; tickets = v.tickets + 1 }

-- after the limit was found, for the number x
abbrev pub peeking : ℕ → ℕ → ℕ → Numbers → Numbers
peeking row x limit v = if nat_lt x limit then spending row x limit v else returning row limit v

-- after the word `next` was n, and was raised to the number
abbrev pub raising : ℕ → ℕ → ℕ → Numbers → Numbers
raising row number n v =
    record v {
      raised = v.raised ++ (row, number) ∷ [];
      added = v.added ++ (row, number - n) ∷ [];
      nexts = v.nexts ++ (row, n) ∷ (row, max n number) ∷ [];
    }

-- after the limit was lifted to the mark
abbrev pub lifting : ℕ → ℕ → Numbers → Numbers
lifting row mark v = record v { limits = v.limits ++ (row, mark) ∷ [] }

-- the worker that gave a share to a new one, and the new one
abbrev pub keeper : Numbers → Numbers
keeper v = record v { shares = v.shares - 1 }

abbrev pub newcomer : Numbers → Numbers
newcomer v = record no_numbers { shares = 1; nexts = v.nexts; limits = v.limits }

-- the worker that took in another
abbrev pub joined : Numbers → Numbers → Numbers
joined v w =
    record v {
      shares = v.shares + w.shares;
      drawn = v.drawn ++ w.drawn;
      spent = v.spent ++ w.spent;
      raised = v.raised ++ w.raised;
      added = v.added ++ w.added;
      nexts = v.nexts ++ w.nexts;
      limits = v.limits ++ w.limits;
      tickets = v.tickets + w.tickets;
    }
