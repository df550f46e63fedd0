-- Worlds that have nothing but what some accounts have.
use Rattle.std.proofs.Common.{◌≡◌, ℕ, Bool, true, false, cond, List, None, Ordering, refl, sym, ap, ◌∙◌}
use Rattle.std.specs.Cmp.{IsTotalOrder}
use Rattle.std.specs.Cmp.Lexicographic.{nat_list_cmp_total}
use Rattle.std.specs.FinMap.{FinMap, IsAntisymmetric, get, retain_keys, same_map}
use Rattle.std.proofs.lemmas.Map.Lookups.{exact_bytes}
use Rattle.nr_cut.proofs.Maps.{get-part}
use Rattle.nr_cut.specs.Cut.{HasOnly}
use Rattle.nr_state.proofs.OverMaps.{get-over}
use Rattle.nr_state.proofs.ValidOwned.{exact_data, exact_keys, key_total, pair_total}
use Rattle.nr_state.specs.Scopes.{all_of, over, over_map}
use Rattle.nr_state.specs.World.{World}

-- ---- a map that differs from another inside alone has nothing outside where that has nothing there
module _ {K X : Type 0} {R : K → K → Ordering} (o : IsTotalOrder R) (exact : IsAntisymmetric R) where
  only_map : (test : K → Bool) (m n : FinMap R X) → m ≡ over_map test m n → retain_keys n test ≡ n
      → retain_keys m test ≡ m
  only_map test m n is only = same_map o exact _ _ (λ q. at q (test q) refl)
    where
      part : (l : FinMap R X) (q : K) (b : Bool) → test q ≡ b → get (retain_keys l test) q ≡ cond b (get l q) None
      part l q b e = get-part o exact l test q ∙ ap (λ b. cond b (get l q) None) e

      at : (q : K) (b : Bool) → test q ≡ b → get (retain_keys m test) q ≡ get m q
      at q true e = part m q true e
      at q false e =
          part m q false e ∙ sym (ap (λ l. get l q) is ∙ get-over o exact test m n q
          ∙ ap (λ b. cond b (get m q) (get n q)) e ∙ sym (ap (λ l. get l q) only) ∙ part n q false e)

pub only_world : (x : List ℕ → Bool) (u w : World) → u ≡ over (all_of x) u w → HasOnly x w → HasOnly x u
only_world x u w is only = λ i. record u {
  accounts = only_map nat_list_cmp_total exact_bytes x u.accounts w.accounts (λ j. (is j).accounts)
      (λ j. (only j).accounts) i;
  keys = only_map key_total exact_keys (λ k. x k.0) u.keys w.keys (λ j. (is j).keys) (λ j. (only j).keys) i;
  code = only_map nat_list_cmp_total exact_bytes x u.code w.code (λ j. (is j).code) (λ j. (only j).code) i;
  data_of = only_map pair_total exact_data (λ k. x k.0) u.data_of w.data_of (λ j. (is j).data_of)
      (λ j. (only j).data_of) i;
  received = only_map pair_total exact_data (λ k. x k.0) u.received w.received (λ j. (is j).received)
      (λ j. (only j).received) i;
  postponed = only_map pair_total exact_data (λ k. x k.0) u.postponed w.postponed (λ j. (is j).postponed)
      (λ j. (only j).postponed) i;
}
