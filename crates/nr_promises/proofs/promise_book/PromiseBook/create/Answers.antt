-- The goals of `promise_book::PromiseBook::create` that no tactic closes.
use Rattle.nr_promises.proofs.Books.{book_created}
use Rattle.nr_promises.proofs.promise_book.PromiseBook.create.Goals as goal

pub invariant_of-self-2 : goal.invariant_of-self-2
invariant_of-self-2 c = book_created _ _ _ _ c.in_ok-index.ensures.gives c.self.invariant
