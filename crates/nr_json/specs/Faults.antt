-- What reading a record from a JSON value (RFC 8259) gives: the record, or the first fault with the path of the
-- member. This project's own.
use Rattle.std.specs.Prelude.{ℕ, List, [], ◌∷◌, ◌++◌, Result, Ok, Err, decimal}
use Rattle.nr_json.specs.declared.fault.JsonFault.{JsonFault}
use Rattle.nr_json.specs.declared.fault.JsonFault.TheVariants.{At, Memory}
use Rattle.nr_json.specs.declared.fault.Wrong.{Wrong}

-- a value, or the first fault
abbrev pub Read : Type 0 → Type 0
Read X = Result X JsonFault

-- the whole value is wrong
abbrev pub fault : Wrong → JsonFault
fault wrong = At [] wrong

-- ---- paths: `.` and the name of a member, `[`, the number of an item and `]`
abbrev pub member_step : List ℕ → List ℕ
member_step name = 46 ∷ name

abbrev pub item_step : ℕ → List ℕ
item_step n = 91 ∷ (decimal n ++ 93 ∷ [])

-- the fault of a part, of the value that it is a part of
abbrev pub under : List ℕ → JsonFault → JsonFault
under step (At path wrong) = At (step ++ path) wrong
under step Memory = Memory

abbrev pub within : {X : Type 0} → List ℕ → Read X → Read X
within step (Ok x) = Ok x
within step (Err e) = Err (under step e)
