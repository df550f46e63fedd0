-- What the parts of the code answer: an output that is taken back, and the receipts that a new promise waits for.
-- This project's own.
use Rattle.std.specs.Prelude.{ℕ, ◌-◌, List, [], length, take, Option, Some, None}
use Rattle.nr_promises.specs.Book.{places_at}
use Rattle.nr_promises.specs.declared.contents.Promise.{Promise}
use Rattle.nr_records.specs.declared.receipt.Body.{Body}
use Rattle.nr_records.specs.declared.receipt.Body.TheVariants.{Act, Datum}
use Rattle.nr_records.specs.declared.receipt.Receipt.{Receipt}

abbrev pub body_without_output : Body → Body
body_without_output (Act act) = Act (record act { outputs = take (length act.outputs - 1) act.outputs })
body_without_output (Datum d) = Datum d

-- the receipt without its last output
abbrev pub without_output : Receipt → Receipt
without_output r = record r { body = body_without_output r.body }

abbrev pub waited : List Promise → Option ℕ → List ℕ
waited promises None = []
waited promises (Some index) = places_at promises index
