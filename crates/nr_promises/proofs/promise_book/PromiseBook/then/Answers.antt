-- The goals of `promise_book::PromiseBook::then` that no tactic closes.
use Rattle.nr_promises.proofs.Books.{book_chained}
use Rattle.nr_promises.proofs.promise_book.PromiseBook.then.Goals as goal

pub invariant_of-self-2 : goal.invariant_of-self-2
invariant_of-self-2 c = book_chained _ _ _ _ _ c.in_ok-index.ensures.gives c.self.invariant
