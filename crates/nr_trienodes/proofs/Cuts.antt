-- A value taken out at a key.
use Rattle.std.proofs.Common.{◌≡◌, ◌<◌, ℕ, Bool, true, not, List, [], length, Option, Some, None, refl, sym, ◌∙◌, subst, arith}
use Rattle.std.specs.Prelude.{is_some}
use Rattle.std.specs.Option.{option_map}
use Rattle.nr_trienodes.specs.Shape.{Shape, shape_at}
use Rattle.nr_trienodes.specs.Tries.{stripped, found, found_in}
use Rattle.nr_trienodes.specs.Views.{Sound}
use Rattle.nr_trienodes.specs.Turns.{Leads, Settles, Changes, stands_for}
use Rattle.nr_trienodes.specs.Roots.{name_in}
use Rattle.nr_trienodes.specs.declared.nodes.NodeId.{NodeId}
use Rattle.nr_trienodes.specs.declared.turn.Step.{Step}
use Rattle.nr_trienodes.proofs.Sets.{sets_value}
use Rattle.nr_trienodes.proofs.Climbing.{costs_less, found_of, sets_via, leads_found}

-- the value at the node goes
pub cut_here : (old new : List Shape) (node : ℕ) (id : Option ℕ) (key : List ℕ) → Sound old → node < length old → stripped (shape_at old node).part key ≡ Some [] → Settles old new (shape_at old node).part None (shape_at old node).below id → Changes old new (Some node) id key None 2
cut_here old new node id key sound lt e settles =
    let s : Shape = shape_at old node in
    record {
      there = settles.there;
      sets = sets_via (stands_for old s.part s.value s.below) (stands_for old s.part None s.below) (found_in old (Some node)) (found_in new id) key None (sets_value old s.part s.value None s.below key e) (λ q. found_of old node q sound lt) settles.same;
      cost = omega (arith, settles.cost, costs_less old node sound lt);
    }

-- nothing is there
pub cut_absent : (nodes : List Shape) (root node : ℕ) (key rest : List ℕ) (way : List Step) (extra : ℕ) → Sound nodes → root < length nodes → Leads nodes root key way node rest → found nodes node rest ≡ None → Changes nodes nodes (Some root) (Some root) key None extra
cut_absent nodes root node key rest way extra sound lt leads none =
    record { there = lt; sets = record { here = leads_found nodes root key way node rest sound leads ∙ none; other = λ q ne. refl }; cost = omega arith }

pub cut_nothing : (nodes : List Shape) (root : Option NodeId) (key : List ℕ) (extra : ℕ) → root ≡ None → Changes nodes nodes (name_in root) None key None extra
cut_nothing nodes root key extra e = subst (λ (q : Option NodeId). Changes nodes nodes (name_in q) None key None extra) (sym e) (record { there = tt; sets = record { here = refl; other = λ q ne. refl }; cost = omega arith })

pub no_value : {A B : Type 0} (f : A → B) (o : Option A) (v : Option B) (b : Bool) → is_some o ≡ not b → b ≡ true → option_map f o ≡ v → v ≡ None
no_value f None v b e t is = sym is
no_value f (Some a) v b e t is = absurd cc
