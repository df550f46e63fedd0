-- The goals of `root::root` that no tactic closes.
use Rattle.std.proofs.Common.{sym, ap, ◌∙◌, Option}
use Rattle.nr_triedef.specs.declared.hash.Summary.{Summary}
use Rattle.nr_triedef.specs.Root.{summary_of}
use Rattle.nr_store.specs.Plain.{held_in}
use Rattle.nr_store.proofs.Levels.{root_is}
use Rattle.nr_store.proofs.root.root.Goals as goal

pub returns-in-None : goal.returns-in-None
returns-in-None g c =
    c.empty_root.ensures ∙ ap (λ (o : Option Summary). (summary_of o).hash) (sym c.in-None.is)
    ∙ ap (λ (s : Summary). s.hash) (root_is (held_in c.args.slots.now.entries) c.of.result c.in_ok-found.found (c.of.ensures ∙ c.deref.ensures.value ∙ c.in_ok-entries.ensures.value) c.in_ok-found.ensures)

pub returns : goal.returns
returns g c =
    ap (λ (o : Option Summary). (summary_of o).hash) (sym c.in-Some.is)
    ∙ ap (λ (s : Summary). s.hash) (root_is (held_in c.args.slots.now.entries) c.of.result c.in_ok-found.found (c.of.ensures ∙ c.deref.ensures.value ∙ c.in_ok-entries.ensures.value) c.in_ok-found.ensures)
