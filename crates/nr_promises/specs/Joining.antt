-- What a part of the code answers: the receipts of promises that are there. This project's own.
use Rattle.std.specs.Prelude.{ℕ, cond, nat_lt, List, length, Result, Ok, Err}
use Rattle.nr_promises.specs.Book.{all_places, most_inputs}
use Rattle.nr_promises.specs.declared.contents.Promise.{Promise}
use Rattle.nr_promises.specs.declared.fault.PromiseFault.{PromiseFault}
use Rattle.nr_promises.specs.declared.fault.PromiseFault.TheVariants.{TooManyInputs}

abbrev pub gathered : List Promise → List ℕ → Result (List ℕ) PromiseFault
gathered promises indices =
    cond (nat_lt most_inputs (length (all_places promises indices))) (Err TooManyInputs)
    (Ok (all_places promises indices))
