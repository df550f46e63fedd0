-- Each law is a lemma of Keeping.
use Rattle.nr_promises.proofs.Keeping.{adds_created, adds_chained, adds_joined, adds_acted, gas_of_made, made_by_call, stands_for_made}
use Rattle.nr_promises.proofs.laws.promise_laws.Goals as goal

pub returns : goal.returns
returns c = record {
  begun = λ current x k. record { promises = tt; made = tt };
  created = adds_created;
  chained = adds_chained;
  joined = adds_joined;
  acted = adds_acted;
  gas = λ k b is. gas_of_made k b.origin b.made is.made;
  made = made_by_call;
  returned = stands_for_made;
}
