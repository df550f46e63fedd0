-- A world put together from two: what a scope has of the one, and all else of the other. This project's own.
use Rattle.std.specs.Prelude.{ℕ, not, Bool, true, false, cond, List, ◌++◌}
use Rattle.std.specs.FinMap.{FinMap, entries, from_entries, retain_keys}
use Rattle.std.specs.Str.{bytes_eq}
use Rattle.std.specs.declared.cmp.Ordering.{Ordering}
use Rattle.nr_ids.specs.declared.key.PublicKey.{PublicKey}
use Rattle.nr_state.specs.Calls.{Called, Ended, Stopped}
use Rattle.nr_state.specs.World.{World}

-- which entries of a world are meant, and whether its delayed queue is
pub record Scope : Type 0 where
  -- accounts with their code and their data
  pub own : List ℕ → Bool
  -- access keys, by their owner
  pub keys : List ℕ → Bool
  -- received data and postponed receipts, by their receiver
  pub waiting : List ℕ → Bool
  -- the delayed receipts, and how many were served
  pub queue : Bool

-- all that some accounts have, and the queue
abbrev pub all_of : (List ℕ → Bool) → Scope
all_of x = record { own = x; keys = x; waiting = x; queue = true }

-- one account with its code and its data
abbrev pub one_account : List ℕ → Scope
one_account id = record { own = bytes_eq id; keys = λ q. false; waiting = λ q. false; queue = false }

-- the entries of m whose keys pass, and those of n whose keys don't
unfoldable pub over_map : {K X : Type 0} {R : K → K → Ordering} → (K → Bool) → FinMap R X → FinMap R X → FinMap R X
over_map test m n = from_entries (entries (retain_keys m test) ++ entries (retain_keys n (λ k. not (test k))))

-- what the scope has of w, and all else of v
abbrev pub over : Scope → World → World → World
over p w v =
    record {
      accounts = over_map p.own w.accounts v.accounts;
      keys = over_map (λ (k : List ℕ × PublicKey). p.keys k.0) w.keys v.keys;
      code = over_map p.own w.code v.code;
      data_of = over_map (λ (k : List ℕ × List ℕ). p.own k.0) w.data_of v.data_of;
      received = over_map (λ (k : List ℕ × List ℕ). p.waiting k.0) w.received v.received;
      postponed = over_map (λ (k : List ℕ × List ℕ). p.waiting k.0) w.postponed v.postponed;
      delayed = cond p.queue w.delayed v.delayed;
      served = cond p.queue w.served v.served;
    }

-- of a world what some accounts have, and its queue
abbrev pub part_of : (List ℕ → Bool) → World → World
part_of x w =
    record {
      accounts = retain_keys w.accounts x;
      keys = retain_keys w.keys (λ (k : List ℕ × PublicKey). x k.0);
      code = retain_keys w.code x;
      data_of = retain_keys w.data_of (λ (k : List ℕ × List ℕ). x k.0);
      received = retain_keys w.received (λ (k : List ℕ × List ℕ). x k.0);
      postponed = retain_keys w.postponed (λ (k : List ℕ × List ℕ). x k.0);
      delayed = w.delayed;
      served = w.served;
    }

-- a call's end, over another world
abbrev pub over_called : Scope → World → Called → Called
over_called p v (Ended end after) = Ended end (over p after v)
over_called p v (Stopped kind part burnt) = Stopped kind part burnt
