-- The goals of `plain::PlainStoreStore::set` that no tactic closes.
use Rattle.std.proofs.Common.{subst}
use Rattle.nr_triedef.specs.Stores.{IsSizedEntry}
use Rattle.nr_store.proofs.plain.PlainStoreStore.set.Goals as goal

pub returns-clause-sizes : goal.returns-clause-sizes
returns-clause-sizes c = (subst (IsSizedEntry c.args.key.now) c.in_ok-held.ensures.items c.in_ok-set_owned.ensures.sizes.0, c.in_ok-set_owned.ensures.sizes.1)
