-- The goals of `laws::listing_law` that no tactic closes.
use Rattle.nr_module.proofs.Listed.{good_kind}
use Rattle.nr_module.proofs.Methods.{method_runs}
use Rattle.nr_module.proofs.laws.listing_law.Goals as goal

pub returns : goal.returns
returns c = record {
  imports = λ types n i. good_kind types n i i.kind;
  methods = λ pages m k valid. method_runs pages m valid k;
}
