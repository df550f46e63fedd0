-- The map of a changed root, and old roots where nothing but new nodes came.
use Rattle.std.proofs.Common.{◌≡◌, ◌≢◌, ◌<◌, ◌≤◌, ◌+◌, ◌-◌, ◌*◌, ◌^◌, ℕ, Bool, true, false, cond, List, [], length, drop, Option, Some, None, Result, Ok, Err, refl, ap, sym, ◌∙◌, length-append, arith}
use mathlib.Core.Bool.{false≢true}
use Rattle.std.specs.Prelude.{is_some, IsSome}
use Rattle.std.proofs.Math.Seq.{drop-append_seam}
use Rattle.std.specs.FinMap.{get, insert, remove, from_sorted, get-insert, get-remove, same_map, slice_cmp-IsAntisymmetric, nat_cmp-IsAntisymmetric}
use Rattle.std.specs.Ordering.{eq_by_cmp, is_eq}
use Rattle.std.specs.Cmp.{tied_itself}
use Rattle.std.specs.Cmp.Lexicographic.{nat_list_cmp_total}
use Rattle.std.proofs.lemmas.Map.Views.{tells_apart}
use Rattle.std.proofs.lemmas.Map.Lookups.{exact_bytes}
use Rattle.nr_triedef.specs.Node.{nibbles}
use Rattle.nr_triedef.specs.Root.{Paths, Contents}
use Rattle.nr_trienodes.specs.Shape.{Shape}
use Rattle.nr_trienodes.specs.Tries.{Answer, answer, nothing, node_paths, node_cost, found, found_in, cost_at, cost_in}
use Rattle.nr_trienodes.specs.Views.{Sound}
use Rattle.nr_trienodes.specs.Turns.{Extends, Changes}
use Rattle.nr_trienodes.specs.Roots.{IsWhole, IsRoot, IsChanged, Keeps, FullsSo, packed, contents, cost, name_in}
use Rattle.nr_trienodes.specs.declared.fault.NodesFault.{NodesFault}
use Rattle.nr_trienodes.specs.declared.fault.NodesFault.TheVariants.{Full}
use Rattle.nr_trienodes.specs.declared.nodes.NodeId.{NodeId}
use Rattle.nr_trienodes.proofs.Orders.{R, paired-nibbles}
use Rattle.nr_trienodes.proofs.Keys.{length-nibbles}
use Rattle.nr_trienodes.proofs.Maps.{get_is}
use Rattle.nr_trienodes.proofs.Sets.{extends_fold, extends_longer}
use Rattle.nr_triedef.specs.Node.{paired}

pub same_key : (q k : List ℕ) → eq_by_cmp R q k ≡ true → q ≡ k
same_key q k e = tells_apart exact_bytes q k e

pub other_key : (q k : List ℕ) → eq_by_cmp R q k ≡ false → q ≢ k
other_key q k e same = false≢true (sym e ∙ ap (eq_by_cmp R q) (sym same) ∙ ap (λ r. is_eq r) (tied_itself nat_list_cmp_total q))

pub other_nibbles : (q k : List ℕ) → q ≢ k → nibbles q ≢ nibbles k
other_nibbles q k ne same = ne (sym (paired-nibbles q) ∙ ap paired same ∙ paired-nibbles k)

changed_root : (old new : List Shape) (before after : Option NodeId) (key : List ℕ) (o : Option (List ℕ)) (extra : ℕ) → IsRoot old before → Changes old new (name_in before) (name_in after) (nibbles key) o extra → IsRoot new after
changed_root old new before None key o extra root c = tt
changed_root old new before (Some id) key o extra root c = (c.there, λ q some. by_key q some (eq_by_cmp R q (nibbles key)) refl)
  where
    whole : (r : Option NodeId) (q : List ℕ) → IsRoot old r → IsSome (found_in old (name_in r) q) → IsWhole q
    whole None q h some = absurd cc
    whole (Some b) q h some = h.1 q some

    by_key : (q : List ℕ) → IsSome (found new id.0 q) → (b : Bool) → eq_by_cmp R q (nibbles key) ≡ b → IsWhole q
    by_key q some true e = (key, same_key q (nibbles key) e)
    by_key q some false e = whole before q root (ap (λ (v : Option (List ℕ)). is_some v) (sym (c.sets.other q (other_key q (nibbles key) e))) ∙ some)

changed_get : (old new : List Shape) (before after : Option NodeId) (key : List ℕ) (o : Option (List ℕ)) (extra : ℕ)
    → Sound old → Sound new → IsRoot old before
    → Changes old new (name_in before) (name_in after) (nibbles key) o extra → (q : List ℕ)
    → get (contents new after) q ≡ cond (eq_by_cmp R q key) o (get (contents old before) q)
changed_get old new before after key o extra so sn root c q =
    get_is new after q sn (changed_root old new before after key o extra root c)
    ∙ elim (eq_by_cmp R q key) as (λ b. eq_by_cmp R q key ≡ b → found_in new (name_in after) (nibbles q) ≡ cond b o (get (contents old before) q)) [
      | true ↦ λ e. ap (λ (k : List ℕ). found_in new (name_in after) (nibbles k)) (same_key q key e) ∙ c.sets.here
      | false ↦ λ e. c.sets.other (nibbles q) (other_nibbles q key (other_key q key e)) ∙ sym (get_is old before q so root)
    ] refl

pub cost_is : (nodes : List Shape) (r : Option NodeId) → cost nodes r ≡ cost_in nodes (name_in r)
unfolding cost
cost_is nodes None = refl
cost_is nodes (Some id) = refl

is_changed : (old new : List Shape) (before after : Option NodeId) (key : List ℕ) (o : Option (List ℕ)) (extra : ℕ)
    (m : Contents) → Sound old → Sound new → IsRoot old before
    → Changes old new (name_in before) (name_in after) (nibbles key) o extra
    → ((q : List ℕ) → get m q ≡ cond (eq_by_cmp R q key) o (get (contents old before) q))
    → IsChanged old new before after m extra
is_changed old new before after key o extra m so sn root c is =
    record {
      root = changed_root old new before after key o extra root c;
      map = same_map nat_list_cmp_total (slice_cmp-IsAntisymmetric nat_cmp-IsAntisymmetric) (contents new after) m (λ q. changed_get old new before after key o extra so sn root c q ∙ sym (is q));
      cost = omega (arith, cost_is new after, cost_is old before, c.cost);
    }

pub is_put : (old new : List Shape) (before after : Option NodeId) (key value : List ℕ) (extra : ℕ) → Sound old → Sound new → IsRoot old before → Changes old new (name_in before) (name_in after) (nibbles key) (Some value) extra → IsChanged old new before after (insert (contents old before) key value) extra
is_put old new before after key value extra so sn root c = is_changed old new before after key (Some value) extra (insert (contents old before) key value) so sn root c (λ q. get-insert nat_list_cmp_total (contents old before) key value q)

pub is_cut : (old new : List Shape) (before after : Option NodeId) (key : List ℕ) (extra : ℕ) → Sound old → Sound new → IsRoot old before → Changes old new (name_in before) (name_in after) (nibbles key) None extra → IsChanged old new before after (remove (contents old before) key) extra
is_cut old new before after key extra so sn root c = is_changed old new before after key None extra (remove (contents old before) key) so sn root c (λ q. get-remove nat_list_cmp_total (contents old before) key q)

-- ---- old roots
pub keeps_extends : (old new : List Shape) → Extends old new → Keeps old new
unfolding contents cost
keeps_extends old new grows = record { root = root; map = map; cost = costs }
  where
    root : (r : Option NodeId) → IsRoot old r → IsRoot new r
    root None h = tt
    root (Some id) h = (let lt : id.0 < length old = h.0 in omega (arith, extends_longer old new grows), λ q some. h.1 q (ap (λ (f : Answer). is_some (f q)) (sym (extends_fold answer nothing old new id.0 grows h.0)) ∙ some))

    map : (r : Option NodeId) → IsRoot old r → contents new r ≡ contents old r
    map None h = refl
    map (Some id) h = ap (λ (ps : Paths). from_sorted (packed ps)) (extends_fold node_paths [] old new id.0 grows h.0)

    costs : (r : Option NodeId) → IsRoot old r → cost new r ≤ cost old r
    costs None h = omega arith
    costs (Some id) h = let same : cost_at new id.0 ≡ cost_at old id.0 = extends_fold node_cost 0 old new id.0 grows h.0 in omega arith

pub keeps_refl : (nodes : List Shape) → Keeps nodes nodes
keeps_refl nodes = keeps_extends nodes nodes (record { more = []; is = refl })

pub cut_back : (old new now : List Shape) (n : ℕ) → Extends old new → n ≡ length old → now ≡ drop (length new - n) new → now ≡ old
cut_back old new now n grows en e =
    let count : length new - n ≡ length grows.more = omega (arith, ap length grows.is, length-append grows.more old) in
    e ∙ ap (λ k. drop k new) count ∙ ap (drop (length grows.more)) grows.is ∙ drop-append_seam grows.more old

-- ---- full
pub full_there : {A : Type 0} (n held : ℕ) (key : List ℕ) → held ≡ n → 2 ^ 32 < n + 4 + 4 * length key → FullsSo {A = A} n (length (nibbles key)) (Err (Full held))
full_there {A} n held key e full =
    record {
      there = λ h. ap (λ k. let r : Result A NodesFault = Err (Full k) in r) e;
      only = λ k is. omega (arith, length-nibbles key);
    }

pub room_there : {A : Type 0} (n : ℕ) (key : List ℕ) (a : A) → n + 4 + 4 * length key ≤ 2 ^ 32 → FullsSo n (length (nibbles key)) (Ok a)
room_there n key a room = record { there = λ full. absurd (omega (arith, length-nibbles key)); only = λ k is. absurd cc }
