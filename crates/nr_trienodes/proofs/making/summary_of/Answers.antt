-- The goals of `making::summary_of` that no tactic closes.
use Rattle.std.proofs.Common.{◌≡◌, ◌==◌, true, List, Option, ℕ, sym, ap, ◌∙◌, arith}
use Rattle.std.specs.Prelude.{is_some, count_by}
use Rattle.std.specs.Option.{option_copied}
use Rattle.std.proofs.lemmas.Bool.{not-false}
use Rattle.nr_triedef.specs.Node.{key_part, summary}
use Rattle.nr_triedef.specs.Root.{leaf_with}
use Rattle.nr_trienodes.specs.Shape.{shape_at}
use Rattle.nr_trienodes.proofs.Hashed.{leaf_is}
use Rattle.nr_trienodes.proofs.making.summary_of.Goals as goal

pub returns-in_ok-single-in-Some-clause-made : goal.returns-in_ok-single-in-Some-clause-made
returns-in_ok-single-in-Some-clause-made g c =
    let is : c.is_alone.result ≡ true = first_of (cc (c.if-not-is_alone.false), grind (arith, not-false, c.if-not-is_alone.false)) in
    let alone : (count_by is_some (shape_at c.args.nodes.now c.args.id).below == 0) ≡ true = ap (λ (r : List (Option ℕ)). count_by is_some r == 0) (sym c.row-row.ensures) ∙ sym c.is_alone.ensures ∙ is in
    c.in_ok-single-in-Some.ensures.made ∙ ap (λ (p : List ℕ). summary (leaf_with (key_part p true) c.in-Some.value.now)) c.part.ensures
    ∙ sym (leaf_is c.args.nodes.now c.args.id c.in-Some.value.now c.allocator-alloc.ensures c.requires.there alone (sym c.value.ensures ∙ ap option_copied c.in-Some.is))
