-- What a port keeps beside its seat, after each of its steps.
use Rattle.std.proofs.Common.{◌≡◌, ℕ, zero, suc, ◌+◌, ◌%◌, ◌^◌, ◌<◌, ◌≤◌, Bool, true, false, List, [], ◌∷◌, length, set, get_or, refl, sym, ap, ◌∙◌, subst, arith, length-set, get_or-set_same, get_or-set_other}
use Rattle.std.specs.Prelude.{Option, Some, nat_le, slice_index}
use mathlib.Core.Logic.{dite}
use native.Mathlib.Decide.{ℕ_discrete}
use Rattle.nr_bytes.proofs.Basics.{within_some}
use Rattle.atomic_table.specs.Table.{Me, rest}
use Rattle.nr_exchange.specs.declared.note.Link.{Link}
use Rattle.nr_exchange.specs.declared.note.Note.{Note}
use Rattle.nr_exchange.specs.Plan.{Plan, list_of, chunks_to, IsNextChunk}
use Rattle.nr_exchange.specs.Notes.{no_link, link, raised, passed, claims, gave_back}
use Rattle.nr_exchange.specs.Places.{place, spaces}
use Rattle.nr_exchange.specs.Steps.{sent}
use Rattle.nr_exchange.specs.Seats.{HasTaken, IsSeated}
use Rattle.nr_exchange.specs.Ports.{HaveRoom}
use Rattle.nr_exchange.proofs.Counts.{chunks_within, chunk_at, chunk_there, chunk_missing, chunks_next}

module _ {P L : Type 0} (p : Plan L) where
  -- the links alone tell what was taken
  same_links : (v w : Note P) (taken : List ℕ) → w.links ≡ v.links → HasTaken p v taken → HasTaken p w taken
  same_links v w taken is t = record {
    all = t.all ∙ sym (ap length is);
    each = λ s. t.each s ∙ sym (ap (λ (ls : List Link). (get_or ls s no_link).given) is);
    whole = λ s. ap (λ (ls : List Link). (get_or ls s no_link).given) is ∙ (t.whole s ∙ sym (ap (λ (ls : List Link). chunks_to p s (get_or ls s no_link).claimed) is));
  }

  pub seated_raised : (me me' : Me (Option L) (Note P)) (u : Note P) (shard sent_to : ℕ) (abandoned : Bool) (taken : List ℕ) → IsSeated p me shard abandoned sent_to taken → HaveRoom p me.0 u p.shards → p.present shard (me.0.number + 1) ≡ true → me' ≡ (raised u, [])
      → IsSeated p me' shard abandoned (sent_to + 1) taken
  seated_raised me me' u shard sent_to abandoned taken old room there is =
      subst (λ (x : Me (Option L) (Note P)). IsSeated p x shard abandoned (sent_to + 1) taken) (sym is) record {
        shard_is = old.shard_is ∙ sym (ap (λ (v : Note P). v.shard) room.rest);
        abandoned_is = old.abandoned_is ∙ sym (ap (λ (v : Note P). v.abandoned) room.rest);
        published_are = ap (λ (k : ℕ). k + 1) (old.published_are ∙ ap (λ (j : ℕ). chunks_to p j me.0.number) (sym old.shard_is)) ∙ (sym (chunk_there p shard me.0.number there) ∙ (λ k. chunks_to p ((old.shard_is ∙ sym (ap (λ (v : Note P). v.shard) room.rest)) k) (sym (ap (λ (v : Note P). v.number) room.rest) k + 1)));
        has_taken = same_links me.0 (raised u) taken (ap (λ (v : Note P). v.links) room.rest) old.has_taken;
        has_out = record { within = omega arith; places = refl };
      }

  pub seated_passed : (me me' : Me (Option L) (Note P)) (shard sent_to : ℕ) (abandoned : Bool) (taken : List ℕ) → IsSeated p me shard abandoned sent_to taken → p.present shard (me.0.number + 1) ≡ false → me' ≡ (passed me.0, me.1)
      → IsSeated p me' shard abandoned sent_to taken
  seated_passed me me' shard sent_to abandoned taken old missing is =
      let same : sent p (passed me.0) ≡ sent p me.0 = chunk_missing p me.0.shard me.0.number (subst (λ (j : ℕ). p.present j (me.0.number + 1) ≡ false) old.shard_is missing) in
      subst (λ (x : Me (Option L) (Note P)). IsSeated p x shard abandoned sent_to taken) (sym is) record {
        shard_is = old.shard_is;
        abandoned_is = old.abandoned_is;
        published_are = old.published_are ∙ sym same;
        has_taken = same_links me.0 (passed me.0) taken refl old.has_taken;
        has_out = record { within = old.has_out.within; places = old.has_out.places ∙ ap (λ (k : ℕ). spaces p me.0.shard k me.0.out) (sym same) };
      }

  -- a list of i was taken, and its place given back
  pub taken_one : (v : Note P) (taken : List ℕ) (i n h : ℕ) → HasTaken p v taken → i < length v.links → IsNextChunk p i (link v i).claimed h → HasTaken p (gave_back (claims v i n h) i) (set taken i (slice_index taken i + 1))
  taken_one v taken i n h old lt next =
      let u : Note P = claims v i n h in
      let w : Note P = gave_back u i in
      let later = next.later in
      let lt' : i < length u.links = let b : length u.links ≡ length v.links = length-set v.links i _ in omega arith in
      let first : link u i ≡ record { claimed = h; seen = n % 2 ^ 32; marked = nat_le (2 ^ 32) n; loads = (link v i).loads + 1; given = (link v i).given } = get_or-set_same v.links i _ no_link lt in
      let given : (link u i).given ≡ (link v i).given = ap (λ (l : Link). l.given) first in
      let claimed : (link u i).claimed ≡ h = ap (λ (l : Link). l.claimed) first in
      let last : link w i ≡ record { claimed = (link u i).claimed; seen = (link u i).seen; marked = (link u i).marked; loads = (link u i).loads; given = (link u i).given + 1 } = get_or-set_same u.links i _ no_link lt' in
      let fits : i < length taken = let a = old.all in omega arith in
      let other : (s : ℕ) → (s ≡ i → ⊥) → link w s ≡ link v s = λ s ne. get_or-set_other u.links i s _ no_link ne ∙ get_or-set_other v.links i s _ no_link ne in
      record {
        all = length-set taken i _ ∙ (old.all ∙ sym (length-set u.links i _ ∙ length-set v.links i _));
        each = λ s. dite (ℕ_discrete s i)
            (λ same. subst (λ (j : ℕ). slice_index (set taken i (slice_index taken i + 1)) j ≡ (link w j).given) (sym same)
            (get_or-set_same taken i (slice_index taken i + 1) 0 fits ∙ (ap (λ (k : ℕ). k + 1) (old.each i ∙ sym given) ∙ sym (ap (λ (l : Link). l.given) last))))
            (λ ne. get_or-set_other taken i s (slice_index taken i + 1) 0 ne ∙ (old.each s ∙ sym (ap (λ (l : Link). l.given) (other s ne))));
        whole = λ s. dite (ℕ_discrete s i)
            (λ same. subst (λ (j : ℕ). (link w j).given ≡ chunks_to p j (link w j).claimed) (sym same)
            (ap (λ (l : Link). l.given) last ∙ (ap (λ (k : ℕ). k + 1) (given ∙ (old.whole i ∙ sym (chunks_next p i (link v i).claimed h next))) ∙ (sym (chunk_at p i h (omega arith) next.there) ∙ sym (ap (λ (l : Link). chunks_to p i l.claimed) last ∙ ap (chunks_to p i) claimed)))))
            (λ ne. subst (λ (l : Link). l.given ≡ chunks_to p s l.claimed) (sym (other s ne)) (old.whole s));
      }

  pub seated_taken : (me me' : Me (Option L) (Note P)) (shard sent_to i n h : ℕ) (abandoned : Bool) (taken : List ℕ) → IsSeated p me shard abandoned sent_to taken → i < length me.0.links → IsNextChunk p i (link me.0 i).claimed h
      → me' ≡ (gave_back (claims me.0 i n h) i, me.1) → IsSeated p me' shard abandoned sent_to (set taken i (slice_index taken i + 1))
  seated_taken me me' shard sent_to i n h abandoned taken old lt next is =
      subst (λ (x : Me (Option L) (Note P)). IsSeated p x shard abandoned sent_to (set taken i (slice_index taken i + 1))) (sym is) record {
        shard_is = old.shard_is;
        abandoned_is = old.abandoned_is;
        published_are = old.published_are;
        has_taken = taken_one me.0 taken i n h old.has_taken lt next;
        has_out = record { within = old.has_out.within; places = old.has_out.places };
      }

-- where the run of the port is told by two names
pub seated_as : {P L : Type 0} (plan : P → Plan L) (run run' : P) (me : Me (Option L) (Note P)) (shard sent_to : ℕ) (abandoned : Bool) (taken : List ℕ) → run ≡ run' → IsSeated (plan run) me shard abandoned sent_to taken → IsSeated (plan run') me shard abandoned sent_to taken
seated_as plan run run' me shard sent_to abandoned taken is s = subst (λ r. IsSeated (plan r) me shard abandoned sent_to taken) is s

any_default : (xs : List ℕ) (i a b : ℕ) → i < length xs → get_or xs i a ≡ get_or xs i b
any_default [] i a b lt = absurd (omega arith)
any_default (x ∷ xs) zero a b lt = refl
any_default (x ∷ xs) (suc i) a b lt = any_default xs i a b (omega arith)

-- a list that a load claimed: how many the port took before it, and that it lies in front
pub record Claimed {P L : Type 0} (p : Plan L) (me me' : Me (Option L) (Note P)) (shard i h before : ℕ) (taken : List ℕ) : Type 0 where
  pub before_is : before ≡ slice_index taken i
  pub fewer : before < chunks_to p i (link me'.0 i).claimed
  pub small : before + 1 ≤ h
  pub front : (list : L) × (me'.1 ≡ (place p i shard before, Some list) ∷ rest me'.1)

pub claimed_one : {P L : Type 0} (p : Plan L) (me me' : Me (Option L) (Note P)) (shard sent_to i n h before : ℕ) (abandoned : Bool) (taken : List ℕ) → IsSeated p me shard abandoned sent_to taken → i < length me.0.links → IsNextChunk p i (link me.0 i).claimed h
    → before ≡ get_or taken i before → shard < p.shards → length (p.lists i h) ≡ p.shards → me' ≡ (claims me.0 i n h, (place p i me.0.shard (chunks_to p i (link me.0 i).claimed), list_of p i h me.0.shard) ∷ me.1)
    → Claimed p me me' shard i h before taken
claimed_one {P = P} {L = L} p me me' shard sent_to i n h before abandoned taken s lt next is inside all at =
    let t = s.has_taken in
    let fits : i < length taken = let a = t.all in omega arith in
    let here : before ≡ slice_index taken i = is ∙ any_default taken i before 0 fits in
    let count : before ≡ chunks_to p i (link me.0 i).claimed = here ∙ (t.each i ∙ t.whole i) in
    let later = next.later in
    let more : chunks_to p i h ≡ chunks_to p i (link me.0 i).claimed + 1 = chunk_at p i h (omega arith) next.there ∙ ap (λ (k : ℕ). k + 1) (chunks_next p i (link me.0 i).claimed h next) in
    let claimed : (link me'.0 i).claimed ≡ h = ap (λ (o : Me (Option L) (Note P)). (link o.0 i).claimed) at ∙ ap (λ (l : Link). l.claimed) (get_or-set_same me.0.links i _ no_link lt) in
    let few : chunks_to p i h ≤ h = chunks_within p i h in
    let c : ℕ = chunks_to p i (link me.0 i).claimed in
    let d : ℕ = chunks_to p i h in
    let count' : before ≡ c = count in
    let more' : d ≡ c + 1 = more in
    let few' : d ≤ h = few in
    let one = within_some (p.lists i h) shard (omega arith) in
    let value : list_of p i h me.0.shard ≡ Some one.0 = ap (list_of p i h) (sym s.shard_is) ∙ one.1 in
    let spot : place p i me.0.shard c ≡ place p i shard before = λ k. place p i (sym s.shard_is k) (sym count k) in
    let second : me'.1 ≡ (place p i me.0.shard c, list_of p i h me.0.shard) ∷ me.1 = ap (λ (o : Me (Option L) (Note P)). o.1) at in
    record {
      before_is = here;
      fewer = subst (λ (k : ℕ). before < chunks_to p i k) (sym claimed) (let z : before < d = omega arith in z);
      small = omega arith;
      front = (one.0, second ∙ (λ k. (spot k, value k) ∷ rest (sym second k)));
    }
