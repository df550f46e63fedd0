-- The chunks of a chain, and the entries of a state.
use Rattle.std.proofs.Common.{◌≡◌, ℕ, zero, suc, ◌<◌, ◌≤◌, true, List, Option, Some, None, Result, Ok, Err, length, sym, ap, subst, refl, arith}
use Rattle.std.specs.Prelude.{IfOk, T, is_some, nat_lt, slice_get}
use Rattle.std.specs.Cmp.Lexicographic.{slice_cmp}
use Rattle.std.specs.FinMap.{entries, entries_sorted}
use Rattle.std.specs.FinMap.Entries.{is_sorted}
use Rattle.std.specs.Option.{option_and_then}
use Rattle.std.specs.Ordering.{nat_cmp}
use Rattle.std.proofs.lemmas.Option.{slice_get_within}
use Rattle.nr_bytes.proofs.Basics.{left_true, right_true}
use Rattle.nr_blocks.specs.declared.block.Block.{Block}
use Rattle.nr_chunk.specs.Chain.{Chain, chain_with, chunk_in, rules_of, shards_of}
use Rattle.nr_chunk.specs.Store.{StateStore}
use Rattle.nr_chunk.specs.declared.chain.ChainRun.{ChainRun}
use Rattle.nr_columns.specs.Entries.{pairs_of}
use Rattle.nr_columns.specs.declared.entry.Entry.{Entry}
use Rattle.nr_contract.specs.Contract.{call}
use Rattle.nr_contract.specs.declared.caller.ContractCaller.{ContractCaller}
use Rattle.nr_overlap.proofs.Basics.{lt_of}
use Rattle.nr_parts.specs.Cutting.{InOrder}
use Rattle.nr_state.specs.declared.calls.Caller.{Ghosts}
use Rattle.nr_triedef.specs.Root.{Contents}
use Rattle.nr_top.specs.Arriving.{IsChunk}
use Rattle.nr_top.specs.Chunks.{has_chunk}
use Rattle.nr_top.specs.Moments.{Chains, chain_of}

chunk_below : (x : Chain) (s h : ℕ) → (rules_of x).present s h ≡ true → (0 < h) × (h ≤ length x.blocks)
chunk_below x s zero e = absurd cc
chunk_below x s (suc h) e = by (slice_get x.blocks h) refl e
  where
    by : (o : Option Block) → slice_get x.blocks h ≡ o → is_some (option_and_then (chunk_in s) o) ≡ true → (0 < suc h) × (suc h ≤ length x.blocks)
    by None f e = absurd cc
    by (Some b) f e = (omega arith, let l = slice_get_within x.blocks h b f in omega (arith, l))

pub is_chunk : (x : Chain) (s h : ℕ) → has_chunk x s h ≡ true → IsChunk (rules_of x) s h
is_chunk x s h has =
    let inside : nat_lt s (shards_of x) ≡ true = left_true (nat_lt s (shards_of x)) ((rules_of x).present s h) has in
    let there : (rules_of x).present s h ≡ true = right_true (nat_lt s (shards_of x)) ((rules_of x).present s h) has in
    let below = chunk_below x s h there in
    record { inside = lt_of s (shards_of x) inside; positive = below.0; below = below.1; present = there }

-- the entries of a map are in the order of their keys
pub in_order : {E : Type 0} (r : Result (List Entry) E) (m : Contents) → IfOk r (λ es. pairs_of es ≡ entries m) → IfOk r InOrder
in_order (Ok es) m e = subst (λ (l : List (List ℕ × List ℕ)). T (is_sorted (slice_cmp nat_cmp) l)) (sym e) (entries_sorted m)
in_order (Err f) m e = tt

-- ---- the same chain at another moment
pub same_chain : {g : Ghosts ContractCaller StateStore} (old new : Chains g) → new.phases ≡ old.phases → chain_of new ≡ chain_of old
same_chain {g} old new e = ap (λ (p : ChainRun ContractCaller g). chain_with p.config p.grounds.start p.blocks (call p.caller)) e
