-- The goals of `partial::Partial::change` that no tactic closes.
use Rattle.nr_stateless.specs.Accounts.{searched_of}
use Rattle.nr_stateless.specs.Changing.{replaced}
use Rattle.nr_stateless.proofs.ByKeys.{replaced_changed}
use Rattle.nr_stateless.proofs.Replacing.{replaced_is}
use Rattle.nr_stateless.proofs.partial.Partial.change.Goals as goal

pub returns-clause-replaced : goal.returns-clause-replaced
returns-clause-replaced c = λ accounts m h part new.
    let n = replaced accounts m c.args.new.now in
    c.in_ok-hash.ensures.changed (searched_of accounts) m n part (replaced_changed accounts m n c.args.new.now (replaced_is accounts m c.args.new.now h new))

pub returns-clause-changed : goal.returns-clause-changed
returns-clause-changed c = λ accounts m n part changed. c.in_ok-hash.ensures.changed (searched_of accounts) m n part (replaced_changed accounts m n c.args.new.now changed)
