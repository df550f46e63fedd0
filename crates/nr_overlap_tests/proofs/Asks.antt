-- What the calls of the tests need.
use Rattle.std.proofs.Common.{◌≡◌, ℕ, ◌+◌, ◌-◌, ◌<◌, ◌≤◌, true, List, [], ◌∷◌, Option, Some, None, Ok, Err, length, take, get_or, refl, sym, ap, ◌∙◌, subst, arith}
use Rattle.std.specs.Prelude.{fold}
use Rattle.std.proofs.lemmas.Bool.Decides.{nat_tests}
use Rattle.nr_overlap.specs.Serial.{Past, with_list, take_due, list_to, last_work, due_after, past_after, work}
use Rattle.nr_exchange.specs.declared.note.Note.{Note}
use Rattle.nr_exchange.specs.declared.port.Full.{Full}
use Rattle.nr_exchange.specs.Plan.{plan_of, IsNextChunk}
use Rattle.nr_exchange.specs.Notes.{no_link, link, looked, claims, gave_back}
use Rattle.nr_exchange.specs.Ports.{Publishes}
use Rattle.nr_exchange.specs.Laws.{lists_there}
use Rattle.nr_exchange.proofs.Claimed.{looked_claims, taken_here, published_stays, published_number, refused_number}
use Rattle.nr_overlap_tests.specs.declared.pair.Chunk.{Chunk}
use Rattle.nr_overlap_tests.specs.declared.pair.Sent.{Sent}
use Rattle.nr_overlap_tests.specs.Pair.{rules, sent}

-- the chunk of shard 0 at each height is there
there : {h : ℕ} → 0 < h → (plan_of rules).present 0 h ≡ true
there pos = grind (arith, nat_tests)

pub next_chunk : (c h : ℕ) → h ≡ c + 1 → h ≤ 10 → IsNextChunk (plan_of rules) 0 c h
next_chunk c h is le = record { later = omega arith; last = le; there = there (omega arith); first = λ k above below. absurd (omega arith) }

-- whatever a chunk takes, it is the same
same_with : (k : Chunk) (o : Option Sent) → with_list rules k o ≡ k
same_with k None = refl
same_with k (Some l) = refl

same_after : (past : Past ℕ Sent ℕ) (s : ℕ) (k : Chunk) (dues : List (ℕ × ℕ)) → fold (take_due rules past s) k dues ≡ k
same_after past s k [] = refl
same_after past s k (due ∷ dues) = ap (λ (c : Chunk). fold (take_due rules past s) c dues) (same_with k (list_to rules (past.sealed due.0 due.1) s)) ∙ same_after past s k dues

chunk_at : (h : ℕ) → last_work rules 0 h ≡ record { shard = 0; height = h + 1 }
unfolding work
chunk_at h = same_after (past_after rules h) 0 (record { shard = 0; height = h + 1 }) (take (length (due_after rules 0 h)) (due_after rules 0 h))

pub there_at : (h : ℕ) → 0 < h → (plan_of rules).present 0 h ≡ true
there_at h pos = there pos

pub lists_at : (h : ℕ) → 0 < h → (plan_of rules).lists 0 h ≡ sent (record { shard = 0; height = h }) 0 ∷ sent (record { shard = 0; height = h }) 1 ∷ []
lists_at h pos =
    let e : h ≡ (h - 1) + 1 = omega arith in
    subst (λ (n : ℕ). (plan_of rules).lists 0 n ≡ sent (record { shard = 0; height = n }) 0 ∷ sent (record { shard = 0; height = n }) 1 ∷ []) (sym e)
    (lists_there rules 0 (h - 1) (there (omega arith)) ∙ ap (λ (k : Chunk). (rules.seals k).lists) (chunk_at (h - 1)))

-- a load leaves the claim, and a take moves it
pub still_claimed : {P : Type 0} (v : Note P) (n : ℕ) → (link (looked v 0 n) 0).claimed ≡ (link v 0).claimed
still_claimed v n = looked_claims v 0 n 0

pub now_claimed : {P : Type 0} (v : Note P) (n h : ℕ) → 0 < length v.links → (link (gave_back (claims v 0 n h) 0) 0).claimed ≡ h
now_claimed v n h pos = taken_here v 0 n h pos

-- lists were published, or there was no room
pub given : {P : Type 0} (lists : List Sent) (v w : Note P) → Publishes (plan_of rules) lists v (Ok tt) w → (w.shard ≡ v.shard) × (w.number ≡ v.number + 1) × ((link w 0).claimed ≡ (link v 0).claimed)
given lists v w p = let s = published_stays (plan_of rules) lists v w (Ok tt) p in (s.shard_is, published_number (plan_of rules) lists v w p, ap (λ ls. (get_or ls 0 no_link).claimed) s.links_are)

pub not_given : {P : Type 0} (lists : List Sent) (v w : Note P) (full : Full Sent) → Publishes (plan_of rules) lists v (Err full) w → (w.shard ≡ v.shard) × (w.number ≡ v.number) × ((link w 0).claimed ≡ (link v 0).claimed)
not_given lists v w full p = let s = published_stays (plan_of rules) lists v w (Err full) p in (s.shard_is, refused_number (plan_of rules) lists v w full p, ap (λ ls. (get_or ls 0 no_link).claimed) s.links_are)
