-- What holds of the worlds that a state shows.
use Rattle.std.proofs.Common.{◌≡◌, ℕ, zero, suc, ◌+◌, Bool, true, List, [], ◌∷◌, ◌++◌, map, Option, Some, None, refl, ap, subst, ◌∙◌, append_assoc, arith}
use Rattle.std.specs.Prelude.{IsSome}
use Rattle.std.specs.FinMap.{get}
use Rattle.std.proofs.lemmas.List.{append-nil}
use Rattle.std.specs.List.{AllByRecursion, flat_map, range_with_len}
use Rattle.nr_config.specs.Config.{Config}
use Rattle.nr_ids.specs.Grammar.{id_fault}
use Rattle.nr_records.specs.declared.receipt.Receipt.{Receipt}
use Rattle.nr_columns.specs.Columns.{Columns, laid_columns}
use Rattle.nr_columns.specs.View.{ColumnsView, columns_in}
use Rattle.nr_state.specs.Flat.{columns_of, flat}
use Rattle.nr_state.specs.View.{world_in, IsTold, IsWhole, IsState, StateView, state_view}
use Rattle.nr_state.specs.World.{World}
use Rattle.nr_state.specs.Worlds.{IsWorld}

pub world_shown : (v : ColumnsView) (c : Config) (whole : Bool) (s : StateView) → state_view v c whole ≡ s → IsState v whole → s.whole ≡ true → IsWorld s.world
world_shown v c whole s e is h = subst (λ t. IsWorld t.world) e (is.here (ap (λ t. t.whole) e ∙ h)).fits

pub worlds_saved : (v : ColumnsView) (c : Config) (whole : Bool) (s : StateView) → state_view v c whole ≡ s → IsState v whole → AllByRecursion IsWorld s.marks
worlds_saved v c whole s e is = subst (λ t. AllByRecursion IsWorld t.marks) e (each v.marks is.marks)
  where
    each : (ks : List Columns) → AllByRecursion IsWhole ks → AllByRecursion IsWorld (map world_in ks)
    each [] all = tt
    each (k ∷ ks) all = (all.0.fits, each ks all.1)

-- ---- told from the trie entries
abbrev IsRead : Columns → Type 0
IsRead k = columns_in (laid_columns k) ≡ k

told : (k : Columns) → columns_of (world_in k) ≡ k → IsRead k → IsTold (world_in k)
unfolding flat
told k derived read = ap (λ j. world_in (columns_in (laid_columns j))) derived ∙ ap world_in read

pub world_told : (v : ColumnsView) (c : Config) (whole : Bool) (s : StateView) → state_view v c whole ≡ s → IsState v whole → IsRead v.columns → s.whole ≡ true → IsTold s.world
world_told v c whole s e is read h = subst (λ t. IsTold t.world) e (told v.columns (is.here (ap (λ t. t.whole) e ∙ h)).derived read)

pub worlds_told : (v : ColumnsView) (c : Config) (whole : Bool) (s : StateView) → state_view v c whole ≡ s → IsState v whole → AllByRecursion IsRead v.marks → AllByRecursion IsTold s.marks
worlds_told v c whole s e is read = subst (λ t. AllByRecursion IsTold t.marks) e (each v.marks is.marks read)
  where
    each : (ks : List Columns) → AllByRecursion IsWhole ks → AllByRecursion IsRead ks → AllByRecursion IsTold (map world_in ks)
    each [] all reads = tt
    each (k ∷ ks) all reads = (told k all.0.derived reads.0, each ks all.1 reads.1)

-- the receiver of each postponed receipt is an account id
pub receivers_named : (w : World) → IsWorld w → (k : List ℕ × List ℕ) → IsSome (get w.postponed k) → id_fault k.0 ≡ None
receivers_named w is k has = by (get w.postponed k) refl has
  where
    by : (o : Option Receipt) → get w.postponed k ≡ o → IsSome o → id_fault k.0 ≡ None
    by None e h = absurd cc
    by (Some r) e h = (is.postponed k r e).0

-- one delayed receipt more
one_listed : (f : ℕ → List Receipt) (a n : ℕ) → flat_map f (range_with_len a (suc n)) ≡ flat_map f (range_with_len a n) ++ f (a + n)
one_listed f a zero = append-nil (f a) ∙ ap f (omega arith)
one_listed f a (suc n) =
    let grouped : f a ++ (flat_map f (range_with_len (a + 1) n) ++ f (a + suc n)) ≡ (f a ++ flat_map f (range_with_len (a + 1) n)) ++ f (a + suc n) = simp append_assoc in
    ap (λ l. f a ++ l) (one_listed f (a + 1) n) ∙ ap (λ k. f a ++ (flat_map f (range_with_len (a + 1) n) ++ f k)) (let e : (a + 1) + n ≡ a + suc n = omega arith in e) ∙ grouped

pub more_listed : (f : ℕ → List Receipt) (a n : ℕ) → flat_map f (range_with_len a (n + 1)) ≡ flat_map f (range_with_len a n) ++ f (a + n)
more_listed f a n = ap (λ k. flat_map f (range_with_len a k)) (let e : n + 1 ≡ suc n = omega arith in e) ∙ one_listed f a n
