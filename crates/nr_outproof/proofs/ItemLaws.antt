-- The bytes of an item are read back as the line, so no two lines of a kind have the same.
use Rattle.std.proofs.Common.{◌≡◌, ℕ, zero, suc, ◌^◌, ◌<◌, true, false, List, [], ◌∷◌, ◌++◌, Ok, Err, refl, sym, ap, subst, ◌∙◌, arith}
use Rattle.std.proofs.lemmas.List.{append-nil}
use Rattle.nr_bytes.specs.Numbers.{little, IsBytes}
use Rattle.nr_bytes.specs.Reading.{Input}
use Rattle.nr_bytes.specs.Writing.{counted_bytes}
use Rattle.nr_bytes.specs.Fields.{pair, mapped}
use Rattle.nr_bytes.specs.Spelling.{IsRead, IsCounted, tagged, before, behind}
use Rattle.nr_bytes.proofs.Steps.{IsRead-spelled, IsRead-front, answer, ok_is}
use Rattle.nr_bytes.proofs.Fields.{nat_law, blob_law}
use Rattle.nr_bytes.proofs.Combined.{list_law, choice_law, IsArm}
use Rattle.nr_bytes.proofs.Values.{pair_law, mapped_law, mapped_case}
use Rattle.nr_ids.specs.declared.key.Hash32.{Hash32}
use Rattle.nr_ids.specs.Keys.{hash_bytes}
use Rattle.nr_records.specs.declared.fault.RecordFault.TheVariants.{BadOrdinal}
use Rattle.nr_records.specs.Fault.{record_fault}
use Rattle.nr_records.specs.Reading.{Read, nat_at, blob_at, list_at, choice}
use Rattle.nr_records.specs.Ids.{hash_at}
use Rattle.nr_records.specs.IdLaws.{hash_law}
use Rattle.nr_records.specs.declared.chunk_result.RunStatus.{RunStatus}
use Rattle.nr_records.specs.declared.chunk_result.RunStatus.TheVariants.{Value, Promise, Failure, Clash}
use Rattle.nr_records.specs.declared.chunk_result.Outcome.{Outcome}
use Rattle.nr_records.specs.declared.chunk_result.ChunkLine.{ChunkLine}
use Rattle.nr_records.specs.declared.chunk_result.ChunkLine.TheVariants.{TxOk, TxRefused, Run, Postponed, Received, Lost, Late, Sent}
use Rattle.nr_outproof.specs.Fitting.{FitsStatus, FitsRun, FitsLine}
use Rattle.nr_outproof.specs.Items.{status_bytes, run_bytes, line_item, is_sent}

-- ---- how a receipt ended
abbrev Three : Type 0
Three = ℕ × (ℕ × ℕ)

abbrev three_at : Input → Read Three
three_at = pair (nat_at 4) (pair (nat_at 4) (nat_at 4))

abbrev three_bytes : Three → List ℕ
three_bytes t = little 4 t.0 ++ (little 4 t.1.0 ++ little 4 t.1.1)

abbrev FitsThree : Three → Type 0
FitsThree t = (t.0 < 256 ^ 4) × ((t.1.0 < 256 ^ 4) × (t.1.1 < 256 ^ 4))

three_law : IsRead three_at three_bytes FitsThree
three_law = pair_law _ _ _ _ _ _ (nat_law record_fault 4) (pair_law _ _ _ _ _ _ (nat_law record_fault 4) (nat_law record_fault 4))

abbrev failure_of : Three → RunStatus
failure_of t = Failure t.0 t.1.0 t.1.1

abbrev status_body : ℕ → ℕ → Input → Read RunStatus
status_body at zero = mapped (λ bytes. Value bytes) blob_at
status_body at (suc zero) = mapped (λ id. Promise id) hash_at
status_body at (suc (suc zero)) = mapped failure_of three_at
status_body at (suc (suc (suc zero))) = λ s. Ok (Clash, s)
status_body at (suc (suc (suc (suc b)))) = λ s. Err (BadOrdinal at)

abbrev status_ordinal : RunStatus → ℕ
status_ordinal (Value bytes) = 0
status_ordinal (Promise id) = 1
status_ordinal (Failure index kind part) = 2
status_ordinal Clash = 3

abbrev status_inner : RunStatus → List ℕ
status_inner (Value bytes) = counted_bytes bytes
status_inner (Promise id) = hash_bytes id
status_inner (Failure index kind part) = three_bytes (index, (kind, part))
status_inner Clash = []

abbrev StatusArm : ℕ → Input → RunStatus × Input → Type 0
StatusArm = IsArm status_ordinal status_inner FitsStatus

status_arms : (at n : ℕ) (s : Input) (p : RunStatus × Input) → IsBytes s.left → status_body at n s ≡ Ok p → StatusArm n s p
status_arms at zero s p fits e = mapped_case (λ bytes. Value bytes) blob_at counted_bytes IsCounted (blob_law record_fault) (StatusArm 0 s) s p fits (λ x t ok takes. record { ordinal = refl; fits = ok; takes = takes }) e
status_arms at (suc zero) s p fits e = mapped_case (λ id. Promise id) hash_at hash_bytes _ hash_law (StatusArm 1 s) s p fits (λ x t ok takes. record { ordinal = refl; fits = ok; takes = takes }) e
status_arms at (suc (suc zero)) s p fits e = mapped_case failure_of three_at three_bytes FitsThree three_law (StatusArm 2 s) s p fits (λ x t ok takes. record { ordinal = refl; fits = ok; takes = takes }) e
status_arms at (suc (suc (suc zero))) s p fits e = subst (StatusArm 3 s) (ok_is (Clash, s) p e) (record { ordinal = refl; fits = tt; takes = record { left = refl; at = omega arith; bytes = fits } })
status_arms at (suc (suc (suc (suc b)))) s p fits e = absurd cc

status_again : (at : ℕ) (v : RunStatus) (here : ℕ) (rest : List ℕ) → FitsStatus v → status_body at (status_ordinal v) (before (status_inner v) here rest) ≡ Ok (v, behind (status_inner v) here rest)
status_again at (Value bytes) here rest fits = rw ((blob_law record_fault).again bytes here rest fits) refl
status_again at (Promise id) here rest fits = rw (hash_law.again id here rest fits) refl
status_again at (Failure index kind part) here rest fits = rw (three_law.again (index, (kind, part)) here rest fits) refl
status_again at Clash here rest fits = ap (λ n. answer (Clash, record { left = rest; at = n })) (omega arith)

status_low : (v : RunStatus) → status_ordinal v < 256
status_low (Value bytes) = omega arith
status_low (Promise id) = omega arith
status_low (Failure index kind part) = omega arith
status_low Clash = omega arith

status_spelled : (v : RunStatus) → status_bytes v ≡ tagged status_ordinal status_inner v
status_spelled (Value bytes) = refl
status_spelled (Promise id) = refl
status_spelled (Failure index kind part) = refl
status_spelled Clash = refl

abbrev status_at : Input → Read RunStatus
status_at = choice status_body

status_law : IsRead status_at status_bytes FitsStatus
status_law = IsRead-spelled (choice status_body) status_bytes (tagged status_ordinal status_inner) FitsStatus status_spelled
    (choice_law record_fault status_body status_ordinal status_inner FitsStatus status_low status_arms status_again)

-- ---- what a receipt did
abbrev RunFields : Type 0
RunFields = Hash32 × (RunStatus × (ℕ × (ℕ × List (List ℕ))))

abbrev run_of : RunFields → Outcome
run_of f = record { receipt_id = f.0; status = f.1.0; gas = f.1.1.0; burnt = f.1.1.1.0; logs = f.1.1.1.1 }

abbrev fields_of : Outcome → RunFields
fields_of o = (o.receipt_id, (o.status, (o.gas, (o.burnt, o.logs))))

abbrev run_at : Input → Read Outcome
run_at = mapped run_of (pair hash_at (pair status_at (pair (nat_at 8) (pair (nat_at 16) (list_at blob_at)))))

run_law : IsRead run_at run_bytes FitsRun
run_law = mapped_law run_of fields_of (λ _. refl) (λ _. refl) _ _ _
    (pair_law _ _ _ _ _ _ hash_law (pair_law _ _ _ _ _ _ status_law (pair_law _ _ _ _ _ _ (nat_law record_fault 8)
    (pair_law _ _ _ _ _ _ (nat_law record_fault 16) (list_law record_fault _ _ _ (blob_law record_fault))))))

-- ---- lines that are outcomes
abbrev Pair : Type 0
Pair = Hash32 × Hash32

abbrev accepted_of : Pair → ChunkLine
accepted_of f = TxOk f.0 f.1

abbrev pair_at : Input → Read Pair
pair_at = pair hash_at hash_at

abbrev pair_bytes : Pair → List ℕ
pair_bytes f = hash_bytes f.0 ++ hash_bytes f.1

pair_is_read : IsRead pair_at pair_bytes (λ f. FitsLine (TxOk f.0 f.1))
pair_is_read = pair_law _ _ _ _ _ _ hash_law hash_law

abbrev RefusedFields : Type 0
RefusedFields = Hash32 × (ℕ × (ℕ × ℕ))

abbrev refused_of : RefusedFields → ChunkLine
refused_of f = TxRefused f.0 f.1.0 f.1.1.0 f.1.1.1

abbrev refused_at : Input → Read RefusedFields
refused_at = pair hash_at (pair (nat_at 4) (pair (nat_at 16) (nat_at 16)))

abbrev refused_bytes : RefusedFields → List ℕ
refused_bytes f = hash_bytes f.0 ++ (little 4 f.1.0 ++ (little 16 f.1.1.0 ++ little 16 f.1.1.1))

refused_law : IsRead refused_at refused_bytes (λ f. FitsLine (TxRefused f.0 f.1.0 f.1.1.0 f.1.1.1))
refused_law = pair_law _ _ _ _ _ _ hash_law (pair_law _ _ _ _ _ _ (nat_law record_fault 4) (pair_law _ _ _ _ _ _ (nat_law record_fault 16) (nat_law record_fault 16)))

abbrev line_body : ℕ → ℕ → Input → Read ChunkLine
line_body at zero = mapped accepted_of pair_at
line_body at (suc zero) = mapped refused_of refused_at
line_body at (suc (suc zero)) = mapped (λ o. Run o) run_at
line_body at (suc (suc (suc zero))) = mapped (λ id. Postponed id) hash_at
line_body at (suc (suc (suc (suc zero)))) = mapped (λ id. Received id) hash_at
line_body at (suc (suc (suc (suc (suc zero))))) = mapped (λ id. Lost id) hash_at
line_body at (suc (suc (suc (suc (suc (suc zero)))))) = mapped (λ id. Late id) hash_at
line_body at (suc (suc (suc (suc (suc (suc (suc b))))))) = λ s. Err (BadOrdinal at)

abbrev line_ordinal : ChunkLine → ℕ
line_ordinal (TxOk hash id) = 0
line_ordinal (TxRefused hash number first second) = 1
line_ordinal (Run o) = 2
line_ordinal (Postponed id) = 3
line_ordinal (Received id) = 4
line_ordinal (Lost id) = 5
line_ordinal (Late id) = 6
line_ordinal (Sent dest id hash) = 7

abbrev line_inner : ChunkLine → List ℕ
line_inner (TxOk hash id) = pair_bytes (hash, id)
line_inner (TxRefused hash number first second) = refused_bytes (hash, (number, (first, second)))
line_inner (Run o) = run_bytes o
line_inner (Postponed id) = hash_bytes id
line_inner (Received id) = hash_bytes id
line_inner (Lost id) = hash_bytes id
line_inner (Late id) = hash_bytes id
line_inner (Sent dest id hash) = []

-- the bytes behind the ordinal of such a line are read back
line_again : (at : ℕ) (v : ChunkLine) (here : ℕ) (rest : List ℕ) → FitsLine v → is_sent v ≡ false → line_body at (line_ordinal v) (before (line_inner v) here rest) ≡ Ok (v, behind (line_inner v) here rest)
line_again at (TxOk hash id) here rest fits e = rw (pair_is_read.again (hash, id) here rest fits) refl
line_again at (TxRefused hash number first second) here rest fits e = rw (refused_law.again (hash, (number, (first, second))) here rest fits) refl
line_again at (Run o) here rest fits e = rw (run_law.again o here rest fits) refl
line_again at (Postponed id) here rest fits e = rw (hash_law.again id here rest fits) refl
line_again at (Received id) here rest fits e = rw (hash_law.again id here rest fits) refl
line_again at (Lost id) here rest fits e = rw (hash_law.again id here rest fits) refl
line_again at (Late id) here rest fits e = rw (hash_law.again id here rest fits) refl
line_again at (Sent dest id hash) here rest fits e = absurd cc

line_spelled : (v : ChunkLine) → is_sent v ≡ false → line_item v ≡ line_ordinal v ∷ line_inner v
unfolding line_item
line_spelled (TxOk hash id) e = refl
line_spelled (TxRefused hash number first second) e = refl
line_spelled (Run o) e = refl
line_spelled (Postponed id) e = refl
line_spelled (Received id) e = refl
line_spelled (Lost id) e = refl
line_spelled (Late id) e = refl
line_spelled (Sent dest id hash) e = absurd cc

heads_are : (a b : ℕ) (xs ys : List ℕ) → a ∷ xs ≡ b ∷ ys → (a ≡ b) × (xs ≡ ys)
heads_are a b xs ys e = (cc, cc)

abbrev line_answer : ChunkLine × Input → Read ChunkLine
line_answer p = Ok p

line_is : (l m : ChunkLine) (s t : Input) → line_answer (l, s) ≡ line_answer (m, t) → l ≡ m
line_is l m s t e = ap (λ (p : ChunkLine × Input). p.0) (ok_is (l, s) (m, t) e)

outcomes_are : (l m : ChunkLine) → FitsLine l → FitsLine m → is_sent l ≡ false → is_sent m ≡ false → line_item l ≡ line_item m → l ≡ m
outcomes_are l m fits other_fits e f same =
    let parts = heads_are (line_ordinal l) (line_ordinal m) (line_inner l) (line_inner m) (sym (line_spelled l e) ∙ same ∙ line_spelled m f) in
    let there = line_again 0 l 0 [] fits e in
    let back = line_again 0 m 0 [] other_fits f in
    let input : before (line_inner l) 0 [] ≡ before (line_inner m) 0 [] = ap (λ (bytes : List ℕ). before bytes 0 []) parts.1 in
    line_is l m _ _ (sym there ∙ ap (λ n. line_body 0 n (before (line_inner l) 0 [])) parts.0 ∙ ap (line_body 0 (line_ordinal m)) input ∙ back)

-- ---- lines of receipts that left
abbrev SentFields : Type 0
SentFields = ℕ × (Hash32 × Hash32)

abbrev sent_at : Input → Read SentFields
sent_at = pair (nat_at 4) (pair hash_at hash_at)

abbrev sent_bytes : SentFields → List ℕ
sent_bytes f = little 4 f.0 ++ (hash_bytes f.1.0 ++ hash_bytes f.1.1)

abbrev FitsSent : SentFields → Type 0
FitsSent f = (f.0 < 256 ^ 4) × FitsLine (TxOk f.1.0 f.1.1)

sent_law : IsRead sent_at sent_bytes FitsSent
sent_law = pair_law _ _ _ _ _ _ (nat_law record_fault 4) (pair_law _ _ _ _ _ _ hash_law hash_law)

abbrev sent_of : SentFields → ChunkLine
sent_of f = Sent (record { 0 = f.0 }) f.1.0 f.1.1

sent_are : (f g : SentFields) → FitsSent f → FitsSent g → sent_bytes f ≡ sent_bytes g → sent_of f ≡ sent_of g
sent_are f g fits other_fits same =
    ap sent_of (sym (IsRead-front sent_at sent_bytes FitsSent sent_law f g [] fits other_fits (sym same ∙ sym (append-nil (sent_bytes f)))).0)

receipts_are : (l m : ChunkLine) → FitsLine l → FitsLine m → is_sent l ≡ true → is_sent m ≡ true → line_item l ≡ line_item m → l ≡ m
unfolding line_item
receipts_are (Sent d i h) (Sent e j k) fits other_fits a b same = sent_are (d.0, (i, h)) (e.0, (j, k)) (fits.0, fits.1) (other_fits.0, other_fits.1) same
receipts_are (Sent d i h) (TxOk hash id) fits other_fits a b same = absurd cc
receipts_are (Sent d i h) (TxRefused hash number first second) fits other_fits a b same = absurd cc
receipts_are (Sent d i h) (Run o) fits other_fits a b same = absurd cc
receipts_are (Sent d i h) (Postponed id) fits other_fits a b same = absurd cc
receipts_are (Sent d i h) (Received id) fits other_fits a b same = absurd cc
receipts_are (Sent d i h) (Lost id) fits other_fits a b same = absurd cc
receipts_are (Sent d i h) (Late id) fits other_fits a b same = absurd cc
receipts_are (TxOk hash id) m fits other_fits a b same = absurd cc
receipts_are (TxRefused hash number first second) m fits other_fits a b same = absurd cc
receipts_are (Run o) m fits other_fits a b same = absurd cc
receipts_are (Postponed id) m fits other_fits a b same = absurd cc
receipts_are (Received id) m fits other_fits a b same = absurd cc
receipts_are (Lost id) m fits other_fits a b same = absurd cc
receipts_are (Late id) m fits other_fits a b same = absurd cc

pub lines_are : (l m : ChunkLine) → FitsLine l → FitsLine m → is_sent l ≡ is_sent m → line_item l ≡ line_item m → l ≡ m
lines_are l m fits other_fits kind same =
    elim (is_sent l) as (λ b. is_sent l ≡ b → l ≡ m) [
      | true ↦ λ e. receipts_are l m fits other_fits e (sym kind ∙ e) same
      | false ↦ λ e. outcomes_are l m fits other_fits e (sym kind ∙ e) same
    ] refl
