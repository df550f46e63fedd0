-- The goals of `trimming::trim_to` that no tactic closes.
use Rattle.std.proofs.Common.{◌∙◌, sym, subst, arith}
use Rattle.std.specs.Prelude.{is_some}
use Rattle.std.proofs.lemmas.List.Sums.{count_by-le-length}
use Rattle.nr_trienodes.specs.Roots.{Renames, OldestStay}
use Rattle.nr_trienodes.proofs.Renaming.{roots_named, oldest_stay}
use Rattle.nr_trienodes.proofs.Marking.{few_kept, roots_stay, own_after, closed_all}
use Rattle.nr_trienodes.proofs.Sliding.{oldest_kept}
use Rattle.nr_trienodes.proofs.trimming.trim_to.Goals as goal

pub mark_roots-requires-clause-names : goal.mark_roots-requires-clause-names
mark_roots-requires-clause-names c = c.requires.names.long

pub mark_below-requires-clause-names : goal.mark_below-requires-clause-names
mark_below-requires-clause-names c = c.mark_roots.ensures.marks.same ∙ c.requires.names.long

pub slide-requires-clause-long : goal.slide-requires-clause-long
slide-requires-clause-long c = c.mark_below.ensures.marks.same ∙ c.mark_roots.ensures.marks.same ∙ c.requires.names.long

pub slide-requires-clause-closed : goal.slide-requires-clause-closed
slide-requires-clause-closed c =
    closed_all c.args.nodes.now c.mark_below.new.names c.args.oldest c.count-count.ensures.sound
    (own_after c.args.names.now c.mark_roots.new.names c.mark_below.new.names c.args.oldest c.requires.names.own c.mark_roots.ensures.marks c.mark_below.ensures.marks)
    c.mark_below.ensures.closed

pub slide-requires-clause-oldest : goal.slide-requires-clause-oldest
slide-requires-clause-oldest c = own_after c.args.names.now c.mark_roots.new.names c.mark_below.new.names c.args.oldest c.requires.names.own c.mark_roots.ensures.marks c.mark_below.ensures.marks

pub rename_roots-requires : goal.rename_roots-requires
rename_roots-requires c = roots_stay c.mark_roots.new.names c.slide.new.names c.args.roots.now (λ id h. c.slide.ensures.kept id (c.mark_below.ensures.marks.kept id h)) c.mark_roots.ensures.roots_kept

pub returns-clause-ok : goal.returns-clause-ok
returns-clause-ok c =
    subst (Renames c.args.nodes.now c.slide.new.self c.args.roots.now) (sym c.rename_roots.ensures)
    (roots_named c.slide.new.names c.args.nodes.now c.slide.new.self c.args.roots.now c.count-count.ensures.sound c.slide.ensures.named c.requires.roots
    (roots_stay c.mark_roots.new.names c.slide.new.names c.args.roots.now (λ id h. c.slide.ensures.kept id (c.mark_below.ensures.marks.kept id h)) c.mark_roots.ensures.roots_kept))

pub returns-clause-same : goal.returns-clause-same
returns-clause-same c = subst (OldestStay c.args.oldest c.args.roots.now) (sym c.rename_roots.ensures) (oldest_stay c.slide.new.names c.args.oldest c.args.roots.now c.slide.ensures.own)

pub returns-clause-oldest : goal.returns-clause-oldest
returns-clause-oldest c = oldest_kept c.args.nodes.now c.slide.new.self c.slide.new.names c.args.oldest c.count-count.ensures.sound c.slide.ensures.named c.slide.ensures.own

pub returns-clause-few : goal.returns-clause-few
returns-clause-few c =
    omega (
      arith,
      c.slide.ensures.count,
      few_kept c.args.nodes.now c.args.roots.now c.args.names.now c.mark_roots.new.names
          c.mark_below.new.names c.args.oldest c.requires.names
          c.mark_roots.ensures c.mark_below.ensures,
    )

pub returns-clause-less : goal.returns-clause-less
returns-clause-less c =
    omega (
      arith,
      c.slide.ensures.count,
      count_by-le-length is_some c.mark_below.new.names,
      c.mark_below.ensures.marks.same ∙ c.mark_roots.ensures.marks.same ∙ c.requires.names.long,
    )
