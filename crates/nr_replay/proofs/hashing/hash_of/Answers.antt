-- The goals of `hashing::hash_of` that no tactic closes.
use Rattle.std.proofs.Common.{ℕ, List, ◌++◌, ap, sym, ◌∙◌}
use Rattle.sha2.specs.Sha256.{sha256}
use Rattle.nr_replay.proofs.hashing.hash_of.Goals as goal

pub returns-in-Some : goal.returns-in-Some
returns-in-Some c =
    let text = c.in-Some.ensures ∙ ap (λ (front : List ℕ). front ++ c.in-Some.rest.now) c.as_slice.ensures.value in
    c.hash_behind.ensures c.front.inside.text.items c.front.invariant ∙ ap (λ (t : List ℕ). sha256 (t ++ c.args.end.now)) (sym text)
