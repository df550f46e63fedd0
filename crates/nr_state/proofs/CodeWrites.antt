-- A write of code changes the hash and the storage of its owner at once.
use Rattle.std.proofs.Common.{◌≡◌, ℕ, Bool, true, false, cond, List, Option, Some, None, length, sym, refl, ap, ◌∙◌}
use Rattle.std.specs.FinMap.{FinMap, insert, get, get-insert, same_map}
use Rattle.std.specs.Cmp.{eq_by_cmp_equiv}
use Rattle.std.specs.Cmp.Lexicographic.{nat_list_cmp_total}
use Rattle.std.specs.Option.{option_map}
use Rattle.std.specs.Ordering.{eq_by_cmp}
use Rattle.std.proofs.lemmas.Map.Lookups.{exact_bytes}
use Rattle.std.proofs.lemmas.Option.{same_Some}
use Rattle.nr_records.specs.declared.account.Account.{Account}
use Rattle.nr_triedef.specs.Node.{digest}
use Rattle.nr_columns.specs.Orders.{bytes_cmp}
use Rattle.nr_state.specs.Changes.{with_moved, with_code_hash, with_usage, usage_of_code, set_code}
use Rattle.nr_state.specs.Owners.{with_code_of, HasCode}
use Rattle.nr_state.specs.World.{World, with_account}

pub get_inserted : {X : Type 0} (m : FinMap bytes_cmp X) (k : List ℕ) (v : X) → get (insert m k v) k ≡ Some v
get_inserted m k v = get-insert nat_list_cmp_total m k v k ∙ ap (λ b. cond b (Some v) (get m k)) ((eq_by_cmp_equiv nat_list_cmp_total).refl k)

insert_again : {X : Type 0} (m : FinMap bytes_cmp X) (k : List ℕ) (u v : X) → insert (insert m k u) k v ≡ insert m k v
insert_again {X = X} m k u v = same_map nat_list_cmp_total exact_bytes _ _ (λ q.
    get-insert nat_list_cmp_total (insert m k u) k v q ∙ ap (cond (eq_by_cmp bytes_cmp q k) (Some v)) (get-insert nat_list_cmp_total m k u q)
    ∙ once (eq_by_cmp bytes_cmp q k) (get m q) ∙ sym (get-insert nat_list_cmp_total m k v q))
  where
    once : (b : Bool) (o : Option X) → cond b (Some v) (cond b (Some u) o) ≡ cond b (Some v) o
    once true o = refl
    once false o = refl

module _ (w : World) (id code : List ℕ) where
  abbrev with_bytes : World
  with_bytes = record w { code = insert w.code id code }

  set_code_at : (o : Option Account) (after : Account) → get w.accounts id ≡ o → option_map (with_code_of w id code) o ≡ Some after → set_code w id code ≡ with_account with_bytes id after
  set_code_at None after e f = absurd (none≢some after f)
    where
      none≢some : (x : Account) → ◌≡◌ {A = Option Account} None (Some x) → ⊥
      none≢some x e = cc
  set_code_at (Some a) after e f =
      let hashed : Account = record a { code_hash = digest code } in
      ap (λ o. with_usage (with_code_hash with_bytes id (digest code) o) id (usage_of_code w id) (length code)) e
      ∙ ap (with_moved (with_account with_bytes id hashed) id (usage_of_code w id) (length code)) (get_inserted w.accounts id hashed)
      ∙ (λ i. record with_bytes { accounts = insert_again w.accounts id hashed (with_code_of w id code a) i })
      ∙ ap (with_account with_bytes id) (same_Some _ _ f)

  pub code_set : (after : Account) → HasCode w id code after → set_code w id code ≡ with_account with_bytes id after
  code_set after = set_code_at (get w.accounts id) after refl
