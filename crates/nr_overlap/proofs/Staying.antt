-- Values that stay good along the serial run, and an amount that is kept while they are: for chains whose phases keep it only where worlds are valid and sums are bounded.
use Rattle.std.proofs.Common.{◌≡◌, ℕ, ◌+◌, ◌-◌, ◌<◌, ◌≤◌, true, List, Some, None, length, inl, inr, sym, refl, ap, ◌∙◌, subst, arith}
use Rattle.std.specs.Prelude.{slice_get}
use Rattle.std.proofs.lemmas.Option.{slice_get_within}
use Rattle.std.proofs.lemmas.Bool.{cases_eq}
use Rattle.nr_bytes.proofs.Basics.{none≢some, within_some}
use Rattle.nr_overlap.specs.Rules.{Rules}
use Rattle.nr_overlap.specs.Serial.{due_after, list_to, world_after, sealing_at, work, last_work, EachChunk, EachTaken}
use Rattle.nr_overlap.specs.Balance.{Amount, IsKeptBy, AddsUp, if_some, held_at, made_at, left_by}
use Rattle.nr_overlap.specs.Inside.{IsInside, actor}
use Rattle.nr_overlap.specs.Positions.{at, top, top_at}
use Rattle.nr_overlap.specs.Moves.{refusal, moved, moved_by}
use Rattle.nr_overlap.specs.Moment.{world_at, world_in, working_at}
use Rattle.nr_overlap.specs.Run.{opening}
use Rattle.nr_overlap.specs.Held.{IsReached, IsInChunk, HasTaken}
use Rattle.nr_overlap.specs.declared.event.Event.{Event}
use Rattle.nr_overlap.specs.declared.event.Event.TheVariants.{OpenChunk, TakeList, SealChunk, PublishLists}
use Rattle.nr_overlap.specs.declared.position.Stage.{Stage}
use Rattle.nr_overlap.specs.declared.position.Stage.TheVariants.{Idle, Opened, Sealed}
use Rattle.nr_overlap.specs.declared.position.Position.{Position}
use Rattle.nr_overlap.proofs.Basics.{some_alike}
use Rattle.nr_overlap.proofs.DueLemmas.{due_at, first_small}
use Rattle.nr_overlap.proofs.SerialLemmas.{sealing_there, sealing_missing, sealing_first, world_there, world_missing}
use Rattle.nr_overlap.proofs.Enabled.{can_open, can_take, can_seal, can_publish}
use Rattle.nr_overlap.proofs.Reaching.{Becomes, becomes, none_past}
use Rattle.nr_overlap.proofs.Refusing.{actor_inside}
use Rattle.nr_overlap.proofs.Founding.{at_replicate, world_first}
use Rattle.nr_overlap.proofs.Sums.{KeepsStep, keeps_sums_at, first_sums}
use Rattle.nr_overlap.proofs.Along.{opened_at, at_height, at_work}
use Rattle.nr_overlap.proofs.Bounds.{first_sum, IsNeverMade, held_small, room}

module _ {W K L R : Type 0} (r : Rules W K L R) (m : Amount W K L R) (one_each : (k : K) → length (r.seals k).lists ≡ r.shards) (never : IsNeverMade r m)
    (GoodWorld : ℕ → W → Type 0) (GoodWork : ℕ → K → Type 0) (GoodList : ℕ → L → Type 0) where
  -- what the phases make of good values that hold no more than there was at first; a shard's worlds, its working states and the lists to it
  pub record StaysGood : Type 0 where
    pub begins : (s : ℕ) → s < r.shards → GoodWorld s (r.begins s)
    pub opens : EachChunk r (λ s h. GoodWorld s (world_after r s h) → m.world (world_after r s h) ≤ first_sum r m
        → GoodWork s (work r s h 0) × (held_at r m s h 0 ≡ m.world (world_after r s h)))
    pub takes : EachTaken r (λ s h n list. GoodWork s (work r s h n) → GoodList s list → held_at r m s h n + m.list list ≤ first_sum r m
        → GoodWork s (work r s h (n + 1)) × (held_at r m s h (n + 1) ≡ held_at r m s h n + m.list list))
    pub seals : EachChunk r (λ s h. GoodWork s (last_work r s h) → held_at r m s h (length (due_after r s h)) ≤ first_sum r m
        → let z = r.seals (last_work r s h) in GoodWorld s z.world × ((d : ℕ) (list : L) → slice_get z.lists d ≡ Some list → GoodList d list)
        × (left_by r m s (h + 1) z ≡ held_at r m s h (length (due_after r s h))))

  -- ---- what is good at a moment
  abbrev GoodIn : ℕ → Stage → ℕ → ℕ → Type 0
  GoodIn s Idle n k = GoodWorld s (world_after r s n)
  GoodIn s Opened n k = GoodWork s (work r s n k)
  GoodIn s Sealed n k = GoodWorld s (world_after r s (n + 1))

  abbrev GoodAt : ℕ → Position → Type 0
  GoodAt s p = GoodIn s p.stage p.number p.taken

  -- the lists of shard s up to a height
  abbrev GoodLists : ℕ → ℕ → Type 0
  GoodLists s t = (h d : ℕ) (list : L) → d < r.shards → h ≤ t → list_to r (sealing_at r s h) d ≡ Some list → GoodList d list

  record IsGood (ps : List Position) : Type 0 where
    sums : AddsUp r m ps
    held : (s : ℕ) → s < r.shards → GoodAt s (at ps s)
    lists : (s : ℕ) → s < r.shards → GoodLists s (top (at ps s))

  record GoodStep (ps : List Position) (e : Event) : Type 0 where
    keeps : KeepsStep r m ps e
    here : GoodAt (actor e) (moved_by e (at ps (actor e)))
    sent : GoodLists (actor e) (top (moved_by e (at ps (actor e))))

  -- the list of a due pair
  next_list : (i n k : ℕ) (pair : ℕ × ℕ) → i < r.shards → slice_get (due_after r i n) k ≡ Some pair → (list : L) × (list_to r (sealing_at r pair.1 pair.0) i ≡ Some list)
  next_list i n k pair l next =
      let due = due_at r i n k pair (first_small r i n) next in
      let back : pair.0 - 1 + 1 ≡ pair.0 = omega (arith, due.from) in
      let w : K = last_work r pair.1 (pair.0 - 1) in
      let sealed : sealing_at r pair.1 pair.0 ≡ Some (r.seals w) = ap (sealing_at r pair.1) (sym back) ∙ sealing_there r pair.1 (pair.0 - 1) (ap (r.present pair.1) back ∙ due.there) in
      let some = within_some (r.seals w).lists i (omega (arith, l, one_each w)) in
      (some.0, ap (λ o. list_to r o i) sealed ∙ some.1)

  world_small : (ps : List Position) (s n : ℕ) → AddsUp r m ps → s < r.shards → (at ps s).stage ≡ Idle → (at ps s).number ≡ n → m.world (world_after r s n) ≤ first_sum r m
  world_small ps s n sums l stage number =
      let a : if_some m.world (world_at r s (at ps s)) ≡ m.world (world_after r s n) = (λ j. if_some m.world (world_in r s (stage j) (number j))) in
      let b : if_some m.world (world_at r s (at ps s)) + if_some (m.working s (at ps s).number (at ps s).taken) (working_at r s (at ps s)) ≤ first_sum r m = held_small r m never ps s sums l in
      omega (arith, a, b)

  work_small : (ps : List Position) (s n k : ℕ) → AddsUp r m ps → s < r.shards → at ps s ≡ opened_at n k → held_at r m s n k ≤ first_sum r m
  work_small ps s n k sums l here =
      let a : if_some (m.working s (at ps s).number (at ps s).taken) (working_at r s (at ps s)) ≡ held_at r m s n k = ap (λ (q : Position). if_some (m.working s q.number q.taken) (working_at r s q)) here in
      let b : if_some m.world (world_at r s (at ps s)) + if_some (m.working s (at ps s).number (at ps s).taken) (working_at r s (at ps s)) ≤ first_sum r m = held_small r m never ps s sums l in
      omega (arith, a, b)

  module _ (stays : StaysGood) where
    record GoodTaking (s n k : ℕ) (list : L) : Type 0 where
      work_is : GoodWork s (work r s n (k + 1))
      kept : held_at r m s n (k + 1) ≡ held_at r m s n k + m.list list

    good_taking : (ps : List Position) (x y : ℕ) (h : ℕ) → IsReached r ps → IsGood ps → x < r.shards → (at ps x).number < r.heights → r.present x ((at ps x).number + 1) ≡ true → (at ps x).stage ≡ Opened
        → (pair : ℕ × ℕ) (list : L) → slice_get (due_after r x (at ps x).number) (at ps x).taken ≡ Some pair → list_to r (sealing_at r pair.1 pair.0) x ≡ Some list → pair.0 ≤ (at ps pair.1).number → GoodTaking x (at ps x).number (at ps x).taken list
    good_taking ps x y h is good l below there stage pair list next list_is published =
        let n : ℕ = (at ps x).number in
        let k : ℕ = (at ps x).taken in
        let due = due_at r x n k pair (first_small r x n) next in
        let here : at ps x ≡ opened_at n k = (λ j. record { number = n; stage = stage j; taken = k }) in
        let working : GoodWork x (work r x n k) = subst (λ (t : Stage). GoodIn x t n k) stage (good.held x l) in
        let sent : GoodList x list = good.lists pair.1 due.source pair.0 x list l (high (at ps pair.1) published) list_is in
        let both = stays.takes x n k pair list l below there next list_is working sent (room r m never ps x n k pair list good.sums l below here published next list_is) in
        record { work_is = both.0; kept = both.1 }
      where
        high : {g : ℕ} (p : Position) → g ≤ p.number → g ≤ top p
        high {g} p l = by p.stage
          where
            by : (t : Stage) → g ≤ top_at t p.number
            by Idle = l
            by Opened = l
            by Sealed = omega (arith, l)

    good_step : (ps : List Position) (e : Event) → IsReached r ps → IsInside r.shards e → refusal r ps e ≡ None → IsGood ps → GoodStep ps e
    good_step ps (OpenChunk x) is inside none good =
        let i : ℕ = x.0 in
        let can = can_open r ps x none in
        let n : ℕ = (at ps i).number in
        let k : ℕ = (at ps i).taken in
        let world : GoodWorld i (world_after r i n) = subst (λ (t : Stage). GoodIn i t n k) can.stage (good.held i inside) in
        let both = stays.opens i n inside can.below can.there world (world_small ps i n good.sums inside can.stage refl) in
        let same : held_at r m i n 0 ≡ m.world (world_after r i n) = both.1 in
        let made : made_at r m i n 0 ≡ 0 = never.so_far i n 0 (work r i n 0) in
        let alike : n ≡ top (at ps i) = sym (ap (λ t. top_at t n) can.stage) in
        record { keeps = begun (held_at r m i n 0) (m.world (world_after r i n)) (made_at r m i n 0) same made; here = both.0; sent = subst (GoodLists i) (sym alike) (good.lists i inside) }
      where
        begun : (a b x : ℕ) → a ≡ b → x ≡ 0 → a ≡ b + x
        begun a b x e f = omega arith
    good_step ps (TakeList x y z) is inside none good =
        let i : ℕ = x.0 in
        let can = can_take r ps x y z none in
        let n : ℕ = (at ps i).number in
        let k : ℕ = (at ps i).taken in
        let chunk : (n < r.heights) × (r.present i (n + 1) ≡ true) = subst (λ (t : Stage). IsInChunk r i t n) can.stage (is.in_chunk i inside.0) in
        let published : can.pair.0 ≤ (at ps can.pair.1).number = subst (λ t. can.pair.0 ≤ (at ps t).number) (sym can.source) (omega (arith, can.height, can.published)) in
        let list = next_list i n k can.pair inside.0 can.next in
        let one = good_taking ps i y.0 z.0 is good inside.0 chunk.0 chunk.1 can.stage can.pair list.0 can.next list.1 published in
        record {
          keeps = λ pair other next there.
              let same : can.pair ≡ pair = some_alike can.pair pair (sym can.next ∙ next) in
              let taking = good_taking ps i y.0 z.0 is good inside.0 chunk.0 chunk.1 can.stage pair other next there (subst (λ (q : ℕ × ℕ). q.0 ≤ (at ps q.1).number) same published) in
              added (held_at r m i n (k + 1)) (held_at r m i n k) (m.list other) (made_at r m i n k) (made_at r m i n (k + 1)) taking.kept (never.so_far i n k (work r i n k)) (never.so_far i n (k + 1) (work r i n (k + 1)));
          here = subst (λ (t : Stage). GoodIn i t n (k + 1)) (sym can.stage) one.work_is;
          sent = good.lists i inside.0;
        }
      where
        added : (a b c x y : ℕ) → a ≡ b + c → x ≡ 0 → y ≡ 0 → a + x ≡ b + c + y
        added a b c x y e f g = omega arith
    good_step ps (SealChunk x) is inside none good =
        let i : ℕ = x.0 in
        let can = can_seal r ps x none in
        let n : ℕ = (at ps i).number in
        let k : ℕ = (at ps i).taken in
        let full : ℕ = length (due_after r i n) in
        let chunk : (n < r.heights) × (r.present i (n + 1) ≡ true) = subst (λ (t : Stage). IsInChunk r i t n) can.stage (is.in_chunk i inside) in
        let most : k ≤ full = subst (λ (t : Stage). HasTaken r i t n k) can.stage (is.has_taken i inside) in
        let all : k ≡ full = omega (arith, most, none_past (due_after r i n) k can.none_left) in
        let here : at ps i ≡ opened_at n full = (λ j. record { number = n; stage = can.stage j; taken = all j }) in
        let working : GoodWork i (last_work r i n) = subst (λ (q : Position). GoodIn i q.stage q.number q.taken) here (good.held i inside) in
        let three = stays.seals i n inside chunk.0 chunk.1 working (work_small ps i n full good.sums inside here) in
        let before : top (at ps i) ≡ n = ap (λ t. top_at t n) can.stage in
        record {
          keeps = ended (left_by r m i (n + 1) (r.seals (last_work r i n))) (held_at r m i n full) (made_at r m i n full) (m.made i (n + 1) (r.seals (last_work r i n)).report) three.2 (never.so_far i n full (work r i n full)) (never.whole i (n + 1) (r.seals (last_work r i n)).report);
          here = subst (GoodWorld i) (sym (world_there r i n chunk.1)) three.0;
          sent = λ h d list dl hl list_is. elim (cases_eq h (n + 1)) [
            | inl e ↦ three.1 d list (ap (λ o. list_to r o d) (sym (sealing_there r i n chunk.1)) ∙ ap (λ t. list_to r (sealing_at r i t) d) (sym e) ∙ list_is)
            | inr ne ↦ good.lists i inside h d list dl (omega (arith, hl, ne, before)) list_is
          ];
        }
      where
        ended : (a b x y : ℕ) → a ≡ b → x ≡ 0 → y ≡ 0 → a + x ≡ b + y
        ended a b x y e f g = omega arith
    good_step ps (PublishLists x) is inside none good =
        let i : ℕ = x.0 in
        let can = can_publish r ps x none in
        let n : ℕ = (at ps i).number in
        let k : ℕ = (at ps i).taken in
        elim can.stage [
          | inl e ↦ let before : top (at ps i) ≡ n + 1 = ap (λ t. top_at t n) e in
              record { keeps = tt; here = subst (λ (t : Stage). GoodIn i t n k) e (good.held i inside); sent = subst (GoodLists i) before (good.lists i inside) }
          | inr e ↦ let before : top (at ps i) ≡ n = ap (λ t. top_at t n) e.0 in
              let world : GoodWorld i (world_after r i n) = subst (λ (t : Stage). GoodIn i t n k) e.0 (good.held i inside) in
              record {
                keeps = tt;
                here = subst (GoodWorld i) (sym (world_missing r i n e.1)) world;
                sent = λ h d list dl hl list_is. elim (cases_eq h (n + 1)) [
                  | inl f ↦ absurd (none≢some list (ap (λ o. list_to r o d) (sym (sealing_missing r i n e.1)) ∙ ap (λ t. list_to r (sealing_at r i t) d) (sym f) ∙ list_is))
                  | inr ne ↦ good.lists i inside h d list dl (omega (arith, hl, ne, before)) list_is
                ];
              }
        ]

    goes_on : (ps : List Position) (e : Event) → IsReached r ps → IsInside r.shards e → refusal r ps e ≡ None → IsGood ps → IsGood (moved ps e)
    goes_on ps e is inside none good =
        let i : ℕ = actor e in
        let p : Position = moved_by e (at ps i) in
        let be : Becomes ps (moved ps e) i p = becomes ps i p (omega (arith, actor_inside r.shards e inside, is.count)) in
        let step = good_step ps e is inside none good in
        record {
          sums = keeps_sums_at r m ps e is inside none one_each step.keeps good.sums;
          held = λ s l. elim (cases_eq s i) [
            | inl f ↦ subst (λ t. GoodAt t (at (moved ps e) t)) (sym f) (subst (GoodAt i) (sym be.here) step.here)
            | inr ne ↦ subst (GoodAt s) (sym (be.others s ne)) (good.held s l)
          ];
          lists = λ s l. elim (cases_eq s i) [
            | inl f ↦ subst (λ t. GoodLists t (top (at (moved ps e) t))) (sym f) (subst (λ (q : Position). GoodLists i (top q)) (sym be.here) step.sent)
            | inr ne ↦ subst (λ (q : Position). GoodLists s (top q)) (sym (be.others s ne)) (good.lists s l)
          ];
        }

    first_good : IsGood (opening r)
    first_good = record {
      sums = first_sums r m (opening r) (at_replicate r.shards);
      held = λ s l. subst (GoodAt s) (sym (at_replicate r.shards s)) (subst (GoodWorld s) (sym (world_first r s)) (stays.begins s l));
      lists = λ s l h d list dl hl list_is.
          let none : h ≡ 0 = omega (arith, hl, ap top (at_replicate r.shards s)) in
          absurd (none≢some list (ap (λ o. list_to r o d) (sym (sealing_first r s)) ∙ ap (λ t. list_to r (sealing_at r s t) d) (sym none) ∙ list_is));
    }

    -- ---- what holds of the serial run
    pub good_world : (s h : ℕ) → s < r.shards → h ≤ r.heights → GoodWorld s (world_after r s h) × (m.world (world_after r s h) ≤ first_sum r m)
    good_world s h l high =
        let then = at_height r IsGood goes_on first_good h high (omega (arith, l)) in
        let here = then.2 s l in
        (subst (GoodAt s) here (then.1.kept.held s l), world_small then.0 s h then.1.kept.sums l (ap (λ (q : Position). q.stage) here) (ap (λ (q : Position). q.number) here))

    pub good_work : (s h n : ℕ) → s < r.shards → h < r.heights → r.present s (h + 1) ≡ true → n ≤ length (due_after r s h) → GoodWork s (work r s h n) × (held_at r m s h n ≤ first_sum r m)
    good_work s h n l below there few =
        let then = at_work r IsGood goes_on first_good s h n l below there few in
        (subst (GoodAt s) then.1.here (then.1.sound.kept.held s l), work_small then.0 s h n then.1.sound.kept.sums l then.1.here)

    pub good_taken : EachTaken r (λ s h n list. GoodWork s (work r s h n) × GoodList s list × (held_at r m s h n + m.list list ≤ first_sum r m))
    good_taken s h n pair list l below there next list_is =
        let due = due_at r s h n pair (first_small r s h) next in
        let then = at_work r IsGood goes_on first_good s h n l below there (omega (arith, slice_get_within (due_after r s h) n pair next)) in
        let published : pair.0 ≤ (at then.0 pair.1).number = omega (arith, due.to, then.1.others pair.1 due.source) in (
          subst (GoodAt s) then.1.here (then.1.sound.kept.held s l),
          then.1.sound.kept.lists pair.1 due.source pair.0 s list l (high (at then.0 pair.1) published) list_is,
          room r m never then.0 s h n pair list then.1.sound.kept.sums l below then.1.here published next list_is,
        )
      where
        high : {g : ℕ} (p : Position) → g ≤ p.number → g ≤ top p
        high {g} p l = by p.stage
          where
            by : (t : Stage) → g ≤ top_at t p.number
            by Idle = l
            by Opened = l
            by Sealed = omega (arith, l)

    -- the amount is kept
    pub kept : IsKeptBy r m
    kept = record {
      opens = λ s h l below there. let good = good_world s h l (omega (arith, below)) in
          let same : held_at r m s h 0 ≡ m.world (world_after r s h) = (stays.opens s h l below there good.0 good.1).1 in
          let made : made_at r m s h 0 ≡ 0 = never.so_far s h 0 (work r s h 0) in
          omega (arith, same, made);
      takes = λ s h n pair list l below there next list_is. let good = good_taken s h n pair list l below there next list_is in
          let same : held_at r m s h (n + 1) ≡ held_at r m s h n + m.list list = (stays.takes s h n pair list l below there next list_is good.0 good.1 good.2).1 in
          let before : made_at r m s h n ≡ 0 = never.so_far s h n (work r s h n) in
          let after : made_at r m s h (n + 1) ≡ 0 = never.so_far s h (n + 1) (work r s h (n + 1)) in
          omega (arith, same, before, after);
      seals = λ s h l below there.
          let full : ℕ = length (due_after r s h) in
          let good = good_work s h full l below there (omega arith) in
          let same : left_by r m s (h + 1) (r.seals (last_work r s h)) ≡ held_at r m s h full = (stays.seals s h l below there good.0 good.1).2 in
          let so_far : made_at r m s h full ≡ 0 = never.so_far s h full (work r s h full) in
          let whole : m.made s (h + 1) (r.seals (last_work r s h)).report ≡ 0 = never.whole s (h + 1) (r.seals (last_work r s h)).report in
          omega (arith, same, so_far, whole);
    }
