-- Of this project's own: a call that takes memory answers what its definition says, unless memory ran out.
use Rattle.std.specs.Prelude.{◌≡◌, ◌≢◌, Result, Ok, Err}
use Rattle.nr_bytes.specs.Reading.{Input}

-- The call gave this answer, as the view shows it. Want of memory alone is free.
abbrev pub GivesAs : {X Y F : Type 0} → F → (X → Y) → Result X F → Result Y F → Type 0
GivesAs memory view (Ok x) answer = answer ≡ Ok (view x)
GivesAs memory view (Err e) answer = e ≢ memory → answer ≡ Err e

-- the same of a value that is shown as it is
abbrev pub Gives : {X F : Type 0} → F → Result X F → Result X F → Type 0
Gives memory = GivesAs memory (λ x. x)

-- the same of a reader's call, which leaves this rest
abbrev pub GivesRead : {X F : Type 0} → F → Result X F → Input → Result (X × Input) F → Type 0
GivesRead memory result rest = GivesAs memory (λ x. (x, rest)) result

-- a call that takes no memory gave this answer, as the view shows it
abbrev pub GivesAlways : {X Y F : Type 0} → (X → Y) → Result X F → Result Y F → Type 0
GivesAlways view (Ok x) answer = answer ≡ Ok (view x)
GivesAlways view (Err e) answer = answer ≡ Err e
