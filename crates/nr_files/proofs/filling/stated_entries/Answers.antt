-- The goals of `filling::stated_entries` that no tactic closes.
use Rattle.std.proofs.Common.{◌≡◌, ◌∷◌, [], ◌++◌, List, sym, ap, ◌∙◌, append_assoc}
use Rattle.std.proofs.lemmas.List.{map-append}
use Rattle.std.specs.Vec.Iter.{into_iter_items}
use Rattle.nr_blocks.specs.declared.genesis_entry.GenesisEntry.{GenesisEntry}
use Rattle.nr_files.specs.Filling.{stated_entry}
use Rattle.nr_files.proofs.filling.stated_entries.Goals as goal

pub loop-entry-preserved : goal.loop-entry-preserved
loop-entry-preserved c =
    let at = c.loop-entry in
    let e = c.in-Some.entry in
    let steps : into_iter_items at.entry-iterator ≡ e ∷ into_iter_items c.next.new.self = c.in-Some.ensures.steps.0 in (
      c.in_ok-push.ensures.items ∙ rw (at.invariant.0, c.stated_entry.ensures) (sym (map-append stated_entry at.yielded (e ∷ []))),
      at.invariant.1 ∙ ap (λ (l : List GenesisEntry). at.yielded ++ l) steps ∙ sym (append_assoc at.yielded (e ∷ []) _),
    )
