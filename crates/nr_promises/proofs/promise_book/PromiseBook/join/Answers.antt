-- The goals of `promise_book::PromiseBook::join` that no tactic closes.
use Rattle.nr_promises.proofs.Books.{book_joined}
use Rattle.nr_promises.proofs.promise_book.PromiseBook.join.Goals as goal

pub invariant_of-self-2 : goal.invariant_of-self-2
invariant_of-self-2 c = book_joined _ _ c.args.indices.now _ c.in_ok-index.ensures.gives c.self.invariant
