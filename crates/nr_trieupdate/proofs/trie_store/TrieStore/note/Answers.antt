-- The goals of `trie_store::TrieStore::note` that no tactic closes.
use Rattle.std.proofs.Common.{◌≡◌, ◌∷◌, ap, sym, ◌∙◌, arith, length}
use Rattle.std.specs.FinMap as map
use Rattle.nr_trieupdate.proofs.Overlays.{few_over}
use Rattle.nr_trieupdate.proofs.Stored.{noted_contents, noted_debt, set_layers}
use Rattle.nr_trieupdate.proofs.trie_store.TrieStore.note.Goals as goal

pub invariant_of-self-2 : goal.invariant_of-self-2
invariant_of-self-2 c =
    let old = c.self.inside.changes in
    let new = c.set_owned.new.self in
    let key = c.args.key.now in
    let put : new.contents ≡ map.insert old.contents key (1 ∷ c.args.value.now) = c.in_ok-set_owned.ensures.ok ∙ ap (map.insert old.contents key) c.in_ok-held.ensures in
    record {
      standing = c.self.invariant.standing ∙ sym (ap length c.in_ok-set_owned.ensures.marks);
      few = omega (arith, c.self.invariant.few, c.in_ok-set_owned.ensures.spare);
      most = c.in-Some.ensures.few;
      layers = set_layers c.self.inside.base.contents old.contents new.contents old.marks new.marks key (1 ∷ c.args.value.now) c.is_counted-counted.result c.self.inside.count c.in-Some.count put c.in_ok-set_owned.ensures.marks
          c.is_counted-counted.ensures c.in-Some.ensures.count c.self.invariant.layers;
    }

pub returns-clause-ok : goal.returns-clause-ok
returns-clause-ok c =
    let old = c.self.inside.changes.contents in
    let key = c.args.key.now in
    noted_contents c.self.inside.base.contents old c.set_owned.new.self.contents key (1 ∷ c.args.value.now) (c.in_ok-set_owned.ensures.ok ∙ ap (map.insert old key) c.in_ok-held.ensures)
    ∙ ap (λ v. map.insert v.contents key c.args.value.now) c.self.view_is

pub returns-clause-sizes : goal.returns-clause-sizes
returns-clause-sizes c =
    let old = c.self.inside.changes in
    let new = c.set_owned.new.self in
    let base = c.self.inside.base.contents in
    let key = c.args.key.now in
    let put : new.contents ≡ map.insert old.contents key (1 ∷ c.args.value.now) = c.in_ok-set_owned.ensures.ok ∙ ap (map.insert old.contents key) c.in_ok-held.ensures in
    let layers = set_layers base old.contents new.contents old.marks new.marks key (1 ∷ c.args.value.now) c.is_counted-counted.result c.self.inside.count c.in-Some.count put c.in_ok-set_owned.ensures.marks
    c.is_counted-counted.ensures c.in-Some.ensures.count c.self.invariant.layers in
    (c.in-Some.ensures.entry, omega (arith, few_over new.contents base, layers.0, c.in-Some.ensures.few))

pub returns-clause-unhashed : goal.returns-clause-unhashed
returns-clause-unhashed c =
    let old = c.self.inside.changes in
    let new = c.set_owned.new.self in
    let key = c.args.key.now in
    let put : new.contents ≡ map.insert old.contents key (1 ∷ c.args.value.now) = c.in_ok-set_owned.ensures.ok ∙ ap (map.insert old.contents key) c.in_ok-held.ensures in
    omega (arith, noted_debt old.contents new.contents old.marks new.marks key (1 ∷ c.args.value.now) put c.in_ok-set_owned.ensures.marks, ap (λ v. v.unhashed) c.self.view_is)
