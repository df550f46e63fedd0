-- The laws of the fields: bytes without a count, numbers, bytes behind their count, and texts.
use Rattle.std.proofs.Common.{◌≡◌, ℕ, ◌+◌, ◌-◌, ◌^◌, ◌<◌, ◌≤◌, Bool, true, false, cond, ltb, List, ◌++◌, length, take, drop, Option, Some, None, Result, Ok, Err, refl, sym, ap, subst, ◌∙◌, append_assoc, arith}
use Rattle.std.proofs.lemmas.Bool.{ltb-false, le-ltb}
use Rattle.std.proofs.lemmas.List.{take_at, drop_at, take-append-drop, length-append, length-take, length-drop, drop-drop}
use Rattle.std.specs.Str.{is_utf8}
use Rattle.nr_bytes.specs.declared.fault.BytesFault.{BytesFault}
use Rattle.nr_bytes.specs.declared.fault.BytesFault.TheVariants.{Short, BadUtf8}
use Rattle.nr_bytes.specs.Numbers.{little, number, IsBytes}
use Rattle.nr_bytes.specs.Reading.{Input, past, ◌>>=◌, fixed_at, number_at, counted, counted_of, bytes_at, text_at}
use Rattle.nr_bytes.specs.Writing.{counted_bytes}
use Rattle.nr_bytes.specs.Fields.{lifted, nat_at, raw_at, blob_at, string_at, tested}
use Rattle.nr_bytes.specs.Spelling.{Takes, IsRead, before, behind, HasLength, Below, IsCounted, IsString}
use Rattle.nr_bytes.proofs.Numbers.{length-little, number-little, little-number, number-lt}
use Rattle.nr_bytes.proofs.Steps.{bind_ok, lifted_ok, answer, ok_is, IsBytes-drop, IsBytes-take, IsBytes-front, IsRead-along}
use Rattle.nr_bytes.proofs.Values.{tested_law}

-- a test that did not fail
guard_ok : {A : Type 0} (b : Bool) (d : BytesFault) (x y : A) → cond b (Err d) (Ok x) ≡ Ok y → (b ≡ false) × (x ≡ y)
guard_ok true d x y e = absurd cc
guard_ok false d x y e = (refl, cc)

-- ---- a field of k bytes

raw_taken : {F : Type 0} (lift : BytesFault → F) (k : ℕ) (s : Input) (p : List ℕ × Input) → IsBytes s.left → raw_at lift k s ≡ Ok p → (length p.0 ≡ k) × Takes s p.0 p.1
raw_taken lift k s p fits e =
    let g = guard_ok (ltb (length s.left) k) (Short s.at) (take k s.left, past k s) p (lifted_ok lift (fixed_at k s) p e) in
    let long : k ≤ length s.left = ltb-false _ _ g.0 in
    let len : length (take k s.left) ≡ k = omega (arith, length-take k s.left) in
    subst (λ (p : List ℕ × Input). (length p.0 ≡ k) × Takes s p.0 p.1) g.1
    (len, record { left = sym (take-append-drop k s.left); at = ap (λ n. s.at + n) (sym len); bytes = IsBytes-drop k s.left fits })

raw_again : {F : Type 0} (lift : BytesFault → F) (k : ℕ) (v : List ℕ) (at : ℕ) (rest : List ℕ) → length v ≡ k → raw_at lift k (before v at rest) ≡ Ok (v, behind v at rest)
raw_again lift k v at rest len =
    let long : ltb (length (v ++ rest)) k ≡ false = le-ltb _ _ (omega (arith, length-append v rest)) in
    rw (long, take_at v rest k len, drop_at v rest k len, ← len) refl

pub raw_law : {F : Type 0} (lift : BytesFault → F) (k : ℕ) → IsRead (raw_at lift k) (λ v. v) (HasLength k)
raw_law lift k = record { taken = raw_taken lift k; again = raw_again lift k }

-- ---- a number of k bytes

nat_taken : {F : Type 0} (lift : BytesFault → F) (k : ℕ) (s : Input) (p : ℕ × Input) → IsBytes s.left → nat_at lift k s ≡ Ok p → (p.0 < 256 ^ k) × Takes s (little k p.0) p.1
nat_taken lift k s p fits e =
    let m = bind_ok (fixed_at k s) (λ bytes. Ok (number bytes.0, bytes.1)) p (lifted_ok lift (number_at k s) p e) in
    let raw = raw_taken lift k s m.0 fits (ap (lifted lift) m.1) in
    let bytes : IsBytes m.0.0 = IsBytes-front s.left m.0.0 m.0.1.left fits raw.1.left in
    let back : little k (number m.0.0) ≡ m.0.0 = ap (λ n. little n (number m.0.0)) (sym raw.0) ∙ little-number m.0.0 bytes in
    let low : number m.0.0 < 256 ^ k = subst (λ n. number m.0.0 < 256 ^ n) raw.0 (number-lt m.0.0 bytes) in
    subst (λ (p : ℕ × Input). (p.0 < 256 ^ k) × Takes s (little k p.0) p.1) (ok_is (number m.0.0, m.0.1) p m.2)
    (low, subst (λ (text : List ℕ). Takes s text m.0.1) (sym back) raw.1)

nat_again : {F : Type 0} (lift : BytesFault → F) (k : ℕ) (n : ℕ) (at : ℕ) (rest : List ℕ) → n < 256 ^ k → nat_at lift k (before (little k n) at rest) ≡ Ok (n, behind (little k n) at rest)
nat_again lift k n at rest lt =
    let raw = raw_again lift k (little k n) at rest (length-little k n) in
    let one : fixed_at k (before (little k n) at rest) ≡ Ok (little k n, behind (little k n) at rest) = lifted_ok lift _ _ raw in
    rw (one, number-little k n lt) refl

pub nat_law : {F : Type 0} (lift : BytesFault → F) (k : ℕ) → IsRead (nat_at lift k) (little k) (Below (256 ^ k))
nat_law lift k = record { taken = nat_taken lift k; again = nat_again lift k }

-- ---- bytes behind their count

counted_ok : {F : Type 0} (lift : BytesFault → F) (s : Input) (o : Option (List ℕ)) (p : List ℕ × Input) → lifted lift (counted_of s o) ≡ Ok p → (bytes : List ℕ) × (o ≡ Some bytes) × ((bytes, past (4 + length bytes) s) ≡ p)
counted_ok lift s None p e = absurd cc
counted_ok lift s (Some bytes) p e = (bytes, refl, ok_is (bytes, past (4 + length bytes) s) p e)

some_ok : {A : Type 0} (b : Bool) (o : Option A) (y : A) → cond b None o ≡ Some y → (b ≡ false) × (o ≡ Some y)
some_ok true o y e = absurd cc
some_ok false o y e = (refl, e)

abbrev some : List ℕ → Option (List ℕ)
some x = Some x

some_is : (x y : List ℕ) → some x ≡ some y → x ≡ y
some_is x y e = cc

counted_is : (left bytes : List ℕ) → IsBytes left → counted left ≡ Some bytes → (length bytes < 256 ^ 4) × (left ≡ counted_bytes bytes ++ drop (4 + length bytes) left)
unfolding counted
counted_is left bytes fits e =
    let n = number (take 4 left) in
    let a = some_ok (ltb (length left) 4) (cond (ltb (length left - 4) n) None (Some (take n (drop 4 left)))) bytes e in
    let b = some_ok (ltb (length left - 4) n) (Some (take n (drop 4 left))) bytes a.1 in
    let is : take n (drop 4 left) ≡ bytes = some_is _ _ b.1 in
    let long : 4 ≤ length left = ltb-false _ _ a.0 in
    let fit : n ≤ length left - 4 = ltb-false _ _ b.0 in
    let len4 : length (take 4 left) ≡ 4 = omega (arith, length-take 4 left) in
    let len : length (take n (drop 4 left)) ≡ n = omega (arith, length-take n (drop 4 left), length-drop 4 left) in
    let count : little 4 n ≡ take 4 left = ap (λ k. little k n) (sym len4) ∙ little-number (take 4 left) (IsBytes-take 4 left fits) in
    let low : n < 256 ^ 4 = subst (λ k. n < 256 ^ k) len4 (number-lt (take 4 left) (IsBytes-take 4 left fits)) in
    let rest : drop (4 + n) left ≡ drop n (drop 4 left) = sym (drop-drop n 4 left) in
    let whole : left ≡ (little 4 n ++ take n (drop 4 left)) ++ drop (4 + n) left =
    sym (take-append-drop 4 left) ∙ ap (λ (t : List ℕ). take 4 left ++ t) (sym (take-append-drop n (drop 4 left)))
    ∙ sym (append_assoc (take 4 left) (take n (drop 4 left)) (drop n (drop 4 left)))
    ∙ ap (λ (t : List ℕ). (t ++ take n (drop 4 left)) ++ drop n (drop 4 left)) (sym count)
    ∙ ap (λ (t : List ℕ). (little 4 n ++ take n (drop 4 left)) ++ t) (sym rest) in
    let whole-len : left ≡ counted_bytes (take n (drop 4 left)) ++ drop (4 + length (take n (drop 4 left))) left =
    subst (λ k. left ≡ (little 4 k ++ take n (drop 4 left)) ++ drop (4 + k) left) (sym len) whole in
    subst (λ (t : List ℕ). (length t < 256 ^ 4) × (left ≡ counted_bytes t ++ drop (4 + length t) left)) is (subst (λ k. k < 256 ^ 4) (sym len) low, whole-len)

pub length-counted : (bytes : List ℕ) → length (counted_bytes bytes) ≡ 4 + length bytes
length-counted bytes = omega (arith, length-append (little 4 (length bytes)) bytes, length-little 4 (length bytes))

counted_again : (bytes rest : List ℕ) → length bytes < 256 ^ 4 → counted (counted_bytes bytes ++ rest) ≡ Some bytes
unfolding counted
counted_again bytes rest lt =
    let regrouped : counted_bytes bytes ++ rest ≡ little 4 (length bytes) ++ (bytes ++ rest) = append_assoc (little 4 (length bytes)) bytes rest in
    let len4 = length-little 4 (length bytes) in
    let all : length (little 4 (length bytes) ++ (bytes ++ rest)) ≡ 4 + (length bytes + length rest) = omega (arith, length-append (little 4 (length bytes)) (bytes ++ rest), length-append bytes rest, len4) in
    let long : ltb (length (little 4 (length bytes) ++ (bytes ++ rest))) 4 ≡ false = le-ltb _ _ (omega arith) in
    let fit : ltb (length (little 4 (length bytes) ++ (bytes ++ rest)) - 4) (length bytes) ≡ false = le-ltb _ _ (omega arith) in
    ap counted regrouped ∙ rw (long, take_at (little 4 (length bytes)) (bytes ++ rest) 4 len4, number-little 4 (length bytes) lt, fit, drop_at (little 4 (length bytes)) (bytes ++ rest) 4 len4, take_at bytes rest (length bytes) refl) refl

pub blob_law : {F : Type 0} (lift : BytesFault → F) → IsRead (blob_at lift) counted_bytes IsCounted
blob_law lift = record {
  taken = λ s p fits e.
      let x = counted_ok lift s (counted s.left) p e in
      let is = counted_is s.left x.0 fits x.1 in
      subst (λ (p : List ℕ × Input). (length p.0 < 256 ^ 4) × Takes s (counted_bytes p.0) p.1) x.2
      (is.0, record { left = is.1; at = ap (λ n. s.at + n) (sym (length-counted x.0)); bytes = IsBytes-drop (4 + length x.0) s.left fits });
  again = λ v at rest lt.
      let gone : drop (4 + length v) (counted_bytes v ++ rest) ≡ rest = drop_at (counted_bytes v) rest (4 + length v) (length-counted v) in
      rw (counted_again v rest lt) (ap (λ (t : Input). answer (v, t)) (ap (λ (l : List ℕ). record { left = l; at = at + (4 + length v) }) gone ∙ ap (λ n. record { left = rest; at = at + n }) (sym (length-counted v))));
}

string_is : {F : Type 0} (lift : BytesFault → F) (s : Input) (r : Result (List ℕ × Input) BytesFault) → lifted lift (r >>= λ bytes. cond (is_utf8 bytes.0) (Ok bytes) (Err (BadUtf8 s.at))) ≡ (lifted lift r >>= λ a. cond (is_utf8 a.0) (Ok a) (Err (lift (BadUtf8 s.at))))
string_is lift s (Err e) = refl
string_is {F} lift s (Ok bytes) = string_cond (is_utf8 bytes.0) bytes s.at
  where
    string_cond : (b : Bool) (bytes : List ℕ × Input) (at : ℕ) → lifted lift (cond b (Ok bytes) (Err (BadUtf8 at))) ≡ cond b (Ok bytes) (Err (lift (BadUtf8 at)))
    string_cond true bytes at = refl
    string_cond false bytes at = refl

pub string_law : {F : Type 0} (lift : BytesFault → F) → IsRead (string_at lift) counted_bytes IsString
unfolding text_at
string_law lift = IsRead-along (string_at lift) (tested is_utf8 (λ at. lift (BadUtf8 at)) (blob_at lift)) counted_bytes IsString (λ s. string_is lift s (bytes_at s))
    (tested_law is_utf8 (λ at. lift (BadUtf8 at)) (blob_at lift) counted_bytes IsCounted (blob_law lift))
