-- The goals of `names::stands_in` that no tactic closes.
use Rattle.std.proofs.Common.{◌+◌, length, refl, sym}
use Rattle.std.proofs.lemmas.List.{take_rest}
use Rattle.nr_keys.proofs.SpelledNames.{none_left, found_first, left_behind}
use Rattle.nr_keys.proofs.names.stands_in.Goals as goal

pub names-init : goal.names-init
names-init c = λ names fits spelled. record { names = names; fits = fits; spelled = spelled; same = refl }

pub returns-then-is_same : goal.returns-then-is_same
returns-then-is_same c = λ names fits spelled.
    found_first c.args.name.now c.names.rest.now c.in-Some.first.now _ (c.names.invariant names fits spelled) (sym c.in-Some.ensures.value) (sym c.if-is_same.ensures)

pub names-preserved : goal.names-preserved
names-preserved c = λ names fits spelled.
    left_behind c.args.name.now c.names.rest.now c.in-Some.first.now _ _ (c.names.invariant names fits spelled) (sym c.in-Some.ensures.value) (take_rest c.names.rest.now (4 + length c.in-Some.first.now)) (sym c.if-is_same.ensures)

pub returns : goal.returns
returns c = λ names fits spelled. none_left c.args.name.now c.names.rest.now _ (c.names.invariant names fits spelled) (sym c.in_default.ensures.value)
