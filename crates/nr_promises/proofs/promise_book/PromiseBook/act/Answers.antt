-- The goals of `promise_book::PromiseBook::act` that no tactic closes.
use Rattle.nr_promises.proofs.Books.{book_acted}
use Rattle.nr_promises.proofs.promise_book.PromiseBook.act.Goals as goal

pub invariant_of-self-2 : goal.invariant_of-self-2
invariant_of-self-2 c = book_acted _ _ _ _ c.in_ok-act.ensures.gives c.self.invariant
