-- Bytes that are read as a proof are the text of that proof.
use Rattle.std.proofs.Common.{◌≡◌, ℕ, zero, suc, ◌+◌, ◌-◌, ◌*◌, ◌/◌, ◌%◌, ◌^◌, ◌<◌, ◌≤◌, ◌==◌, ◌&&◌, Bool, true, false, cond, not, List, [], ◌∷◌, ◌++◌, length, get_or, slice_index, Option, Some, None, Result, Ok, Err, refl, sym, ap, ◌∙◌, arith, append_assoc}
use Rattle.std.specs.Prelude.{◌||◌, codes, decimal, nat_le}
use Rattle.std.specs.List.{flat_map, join_with_byte, list_all}
use Rattle.std.specs.Option.{unwrap_or}
use Rattle.std.specs.Result.{result_ok, result_unwrap_or}
use Rattle.std.specs.Str.{bytes_eq}
use Rattle.std.specs.Str.Parse.{digits_value}
use Rattle.std.proofs.lemmas.Bool.{and_from, and_parts, le-leb, leb-true, eq-eqb}
use Rattle.std.proofs.lemmas.Fmt.{decimal-digits_value}
use Rattle.std.proofs.lemmas.List.Splits.{join_with_byte-slice_split}
use Rattle.std.proofs.lemmas.Slice.Eq.{bytes_eq-Decides}
use Rattle.std.proofs.lemmas.Str.Parse.{IsDigitsTest, numerals_by_value}
use Rattle.hex.specs.declared.error.FromHexError.{FromHexError}
use Rattle.hex.specs.Hex.{◌>>=◌, decode_of, decode_pairs, digit_or_error, encode_lower, encode_with, hex_digit_value, lower_digits, pair_value, value_at}
use Rattle.hex.proofs.HexLemmas.{decode_of-even, decode_of-ok}
use Rattle.nr_ids.specs.declared.key.Hash32.{Hash32}
use Rattle.nr_report.specs.Lines.{Words, line, hash_word, bytes_word}
use Rattle.nr_words.specs.Command.{has_no_leading_zero, is_digit, is_numeral, number_in}
use Rattle.nr_words.specs.Forms.{is_hex_digit}
use Rattle.nr_words.specs.Kinds.{kind_word}
use Rattle.nr_outproof.specs.declared.fault.ProofFault.{ProofFault}
use Rattle.nr_words.specs.declared.kind.ProofKind.{ProofKind}
use Rattle.nr_words.specs.declared.kind.ProofKind.TheVariants.{Outcome, Receipt}
use Rattle.nr_outproof.specs.declared.proof.Proof.{Proof}
use Rattle.nr_outproof.specs.declared.reading.Head.{Head}
use Rattle.nr_outproof.specs.Texts.{behind_head, by_lines, bytes_in, hash_in, hash_of, hash_word_in, head_by, head_in, hex_in, item_in, item_line, item_word, kind_in, last_piece, number_32, number_64, path_from, path_line, pieces, proof_read, proof_text, with_hash, with_head, with_item, with_path, word_behind}

-- ---- values
some_same : {X : Type 0} (x y : X) → ◌≡◌ {A = Option X} (Some x) (Some y) → x ≡ y
some_same x y e = ap (λ o. unwrap_or o x) e

ok_same : {X E : Type 0} (x y : X) → ◌≡◌ {A = Result X E} (Ok x) (Ok y) → x ≡ y
ok_same x y e = ap (λ r. result_unwrap_or r x) e

ok_from : {X E : Type 0} (r : Result X E) (x : X) → result_ok r ≡ Some x → r ≡ Ok x
ok_from (Ok y) x e = ap Ok (some_same y x e)
ok_from (Err fault) x e = absurd cc

cond_some : {X : Type 0} (t : Bool) (o : Option X) (x : X) → cond t o None ≡ Some x → (t ≡ true) × (o ≡ Some x)
cond_some true o x e = (refl, e)
cond_some false o x e = absurd cc

same_bytes : (a b : List ℕ) → bytes_eq a b ≡ true → a ≡ b
same_bytes a b e = (bytes_eq-Decides a b).0 e

-- ---- decimal numbers
told_digit : (c : ℕ) → is_digit c ≡ true → (48 ≤ c) × (c ≤ 57)
told_digit c e = let m = and_parts (nat_le 48 c) (nat_le c 57) e in (leb-true 48 c m.0, leb-true c 57 m.1)

tells : IsDigitsTest (λ ds. list_all is_digit ds ≡ true)
tells = record {
  empty = refl;
  parts = λ c cs e. let k = and_parts (is_digit c) (list_all is_digit cs) e in (told_digit c k.0, k.1);
  more = λ c cs k e. and_from (is_digit c) (list_all is_digit cs) (and_from (nat_le 48 c) (nat_le c 57) (le-leb 48 c k.0) (le-leb c 57 k.1)) e;
}

not_true : (t : Bool) → not t ≡ true → t ≡ true → ⊥
not_true true e f = absurd cc
not_true false e f = absurd cc

no_lead : (word : List ℕ) → has_no_leading_zero word ≡ true → (0 < length word) × (get_or word 0 0 ≡ 48 → length word ≡ 1)
no_lead [] e = absurd cc
no_lead (b ∷ []) e = (omega arith, λ z. refl)
no_lead (b ∷ c ∷ word) e = (omega arith, λ z. absurd (not_true (b == 48) e (eq-eqb b 48 z)))

number_only : (most n : ℕ) (word : List ℕ) → most < 2 ^ 64 → number_in 0 most word ≡ Some n → decimal n ≡ word
number_only most n word small e =
    let v = digits_value 10 word in
    let c = cond_some (is_numeral word && (nat_le 0 v && nat_le v most)) (Some v) n e in
    let parts = and_parts (is_numeral word) (nat_le 0 v && nat_le v most) c.0 in
    let high = leb-true v most (and_parts (nat_le 0 v) (nat_le v most) parts.1).1 in
    let numeral = and_parts (has_no_leading_zero word) (list_all is_digit word) parts.0 in
    let lead = no_lead word numeral.0 in
    ap decimal (sym (some_same v n c.1)) ∙ decimal-digits_value (numerals_by_value _ tells) word numeral.1 lead.0 lead.1 (omega (arith, high, small))

-- ---- hexadecimal
low_at : (k : ℕ) → k < 10 → slice_index lower_digits k ≡ 48 + k
low_at zero lt = refl
low_at (suc zero) lt = refl
low_at (suc (suc zero)) lt = refl
low_at (suc (suc (suc zero))) lt = refl
low_at (suc (suc (suc (suc zero)))) lt = refl
low_at (suc (suc (suc (suc (suc zero))))) lt = refl
low_at (suc (suc (suc (suc (suc (suc zero)))))) lt = refl
low_at (suc (suc (suc (suc (suc (suc (suc zero))))))) lt = refl
low_at (suc (suc (suc (suc (suc (suc (suc (suc zero)))))))) lt = refl
low_at (suc (suc (suc (suc (suc (suc (suc (suc (suc zero))))))))) lt = refl
low_at (suc (suc (suc (suc (suc (suc (suc (suc (suc (suc k)))))))))) lt = absurd (omega arith)

letter_at : (k : ℕ) → k < 6 → slice_index lower_digits (10 + k) ≡ 97 + k
letter_at zero lt = refl
letter_at (suc zero) lt = refl
letter_at (suc (suc zero)) lt = refl
letter_at (suc (suc (suc zero))) lt = refl
letter_at (suc (suc (suc (suc zero)))) lt = refl
letter_at (suc (suc (suc (suc (suc zero))))) lt = refl
letter_at (suc (suc (suc (suc (suc (suc k)))))) lt = absurd (omega arith)

low_value : (c v : ℕ) → 48 ≤ c → c ≤ 57 → hex_digit_value c ≡ Some v → v ≡ c - 48
low_value c v low high e = grind arith

letter_value : (c v : ℕ) → 97 ≤ c → c ≤ 102 → hex_digit_value c ≡ Some v → v ≡ c - 87
letter_value c v low high e = grind arith

digit_small : (c v : ℕ) → hex_digit_value c ≡ Some v → v < 16
digit_small c v e = grind arith

low_only : (c v : ℕ) → is_digit c ≡ true → hex_digit_value c ≡ Some v → slice_index lower_digits v ≡ c
low_only c v d e =
    let m = told_digit c d in
    let low = m.0 in
    let high = m.1 in
    let value = low_value c v low high e in
    let back : 48 + v ≡ c = omega (arith, value, low) in
    low_at v (omega (arith, value, low, high)) ∙ back

letter_only : (c v : ℕ) → (nat_le 97 c && nat_le c 102) ≡ true → hex_digit_value c ≡ Some v → slice_index lower_digits v ≡ c
letter_only c v d e =
    let m = and_parts (nat_le 97 c) (nat_le c 102) d in
    let low = leb-true 97 c m.0 in
    let high = leb-true c 102 m.1 in
    let value = letter_value c v low high e in
    let place : v ≡ 10 + (c - 97) = omega (arith, value, low) in
    let back : 97 + (c - 97) ≡ c = omega (arith, low) in
    ap (slice_index lower_digits) place ∙ letter_at (c - 97) (omega (arith, low, high)) ∙ back

digit_only : (c v : ℕ) → is_hex_digit c ≡ true → hex_digit_value c ≡ Some v → slice_index lower_digits v ≡ c
digit_only c v = by (is_digit c) refl
  where
    by : (t : Bool) → is_digit c ≡ t → (t || (nat_le 97 c && nat_le c 102)) ≡ true → hex_digit_value c ≡ Some v → slice_index lower_digits v ≡ c
    by true d e f = low_only c v d f
    by false d e f = letter_only c v e f

bind_ok : {A B : Type 0} (r : Result A FromHexError) (f : A → Result B FromHexError) (y : B) → (r >>= f) ≡ Ok y → (x : A) × (r ≡ Ok x) × (f x ≡ Ok y)
bind_ok (Ok x) f y e = (x, refl, e)
bind_ok (Err fault) f y e = absurd cc

digit_read : (c i : ℕ) (o : Option ℕ) (v : ℕ) → digit_or_error c i o ≡ Ok v → o ≡ Some v
digit_read c i (Some w) v e = ap Some (ok_same w v e)
digit_read c i None v e = absurd cc

two_more : (x a y b : ℕ) (xs rest : List ℕ) → x ≡ a → y ≡ b → xs ≡ rest → x ∷ y ∷ xs ≡ a ∷ b ∷ rest
two_more x a y b xs rest e f g = ap (λ (w : ℕ). w ∷ y ∷ xs) e ∙ ap (λ (w : ℕ). a ∷ w ∷ xs) f ∙ ap (λ (w : List ℕ). a ∷ b ∷ w) g

pairs_only : (i : ℕ) (word bytes : List ℕ) → list_all is_hex_digit word ≡ true → decode_pairs i word ≡ Ok bytes → encode_lower bytes ≡ word
unfolding decode_pairs encode_with
pairs_only i [] bytes all e = ap (λ (w : List ℕ). encode_lower w) (sym (ok_same [] bytes e))
pairs_only i (a ∷ []) bytes all e = absurd cc
pairs_only i (a ∷ b ∷ rest) bytes all e =
    let first = and_parts (is_hex_digit a) (list_all is_hex_digit (b ∷ rest)) all in
    let second = and_parts (is_hex_digit b) (list_all is_hex_digit rest) first.1 in
    let pair = bind_ok (pair_value a b i) _ bytes e in
    let h = bind_ok (value_at a i) _ pair.0 pair.1 in
    let l = bind_ok (value_at b (i + 1)) _ pair.0 h.2 in
    let more = bind_ok (decode_pairs (i + 2) rest) _ bytes pair.2 in
    let byte : h.0 * 16 + l.0 ≡ pair.0 = ok_same (h.0 * 16 + l.0) pair.0 l.2 in
    let whole : pair.0 ∷ more.0 ≡ bytes = ok_same (pair.0 ∷ more.0) bytes more.2 in
    let high = digit_read a i (hex_digit_value a) h.0 h.1 in
    let low = digit_read b (i + 1) (hex_digit_value b) l.0 l.1 in
    let small = digit_small b l.0 low in
    let upper : pair.0 / 16 ≡ h.0 = omega (arith, byte, small) in
    let lower : pair.0 % 16 ≡ l.0 = omega (arith, byte, small) in
    ap (λ (w : List ℕ). encode_lower w) (sym whole)
    ∙ two_more (slice_index lower_digits (pair.0 / 16)) a (slice_index lower_digits (pair.0 % 16)) b (encode_lower more.0) rest
    (ap (slice_index lower_digits) upper ∙ digit_only a h.0 first.0 high)
    (ap (slice_index lower_digits) lower ∙ digit_only b l.0 second.0 low)
    (pairs_only (i + 2) rest more.0 second.1 more.1)

hex_only : (word bytes : List ℕ) → hex_in word ≡ Some bytes → encode_lower bytes ≡ word
unfolding hex_in
hex_only word bytes e =
    let c = cond_some (list_all is_hex_digit word) (result_ok (decode_of word)) bytes e in
    let d = ok_from (decode_of word) bytes c.1 in
    let even = (decode_of-ok word bytes d).0 in
    pairs_only 0 word bytes c.0 (sym (decode_of-even word even) ∙ d)

dash_is : bytes_word [] ≡ codes "-"
unfolding bytes_word
dash_is = refl

digits_word : (b : ℕ) (word item : List ℕ) → encode_lower item ≡ b ∷ word → bytes_word item ≡ b ∷ word
unfolding bytes_word encode_with
digits_word b word [] e = absurd cc
digits_word b word (x ∷ item) e = e

bytes_only : (word item : List ℕ) → bytes_in word ≡ Some item → bytes_word item ≡ word
unfolding bytes_in
bytes_only [] item e = absurd cc
bytes_only (b ∷ word) item e = by (bytes_eq (b ∷ word) (codes "-")) refl e
  where
    by : (t : Bool) → bytes_eq (b ∷ word) (codes "-") ≡ t → cond t (Some []) (hex_in (b ∷ word)) ≡ Some item → bytes_word item ≡ b ∷ word
    by true same f = ap bytes_word (sym (some_same [] item f)) ∙ dash_is ∙ sym (same_bytes (b ∷ word) (codes "-") same)
    by false other f = digits_word b word item (hex_only (b ∷ word) item f)

hash_only : (o : Option (List ℕ)) (hash : Hash32) → hash_of o ≡ Some hash → o ≡ Some hash.0
hash_only None hash e = absurd cc
hash_only (Some bytes) hash e =
    let c = cond_some (length bytes == 32) (Some (record { 0 = bytes })) hash e in
    let same : ◌≡◌ {A = Hash32} (record { 0 = bytes }) hash = some_same (record { 0 = bytes }) hash c.1 in
    ap (λ (h : Hash32). Some h.0) same

hash_word_only : (word : List ℕ) (hash : Hash32) → hash_of (hex_in word) ≡ Some hash → hash_word hash ≡ word
unfolding hash_word
hash_word_only word hash e = hex_only word hash.0 (hash_only (hex_in word) hash e)

-- ---- words and lines
line_joined : (words : Words) → line words ≡ join_with_byte 32 words ++ 10 ∷ []
line_joined [] = refl
line_joined (word ∷ []) = refl
line_joined (word ∷ next ∷ words) = ap (λ (t : List ℕ). word ++ 32 ∷ t) (line_joined (next ∷ words)) ∙ sym (append_assoc word (32 ∷ join_with_byte 32 (next ∷ words)) (10 ∷ []))

-- a piece of these words is their line but for the line feed
words_of : (piece : List ℕ) (words : Words) → pieces 32 piece ≡ words → line words ≡ piece ++ 10 ∷ []
words_of piece words e = line_joined words ∙ ap (λ (t : List ℕ). t ++ 10 ∷ []) (ap (join_with_byte 32) (sym e) ∙ join_with_byte-slice_split 32 piece)

behind_only : (verb word : List ℕ) (words : Words) → word_behind verb words ≡ Some word → words ≡ verb ∷ word ∷ []
behind_only verb word [] e = absurd cc
behind_only verb word (a ∷ []) e = absurd cc
behind_only verb word (a ∷ b ∷ []) e =
    let c = cond_some (bytes_eq a verb) (Some b) word e in
    ap (λ (w : List ℕ). w ∷ b ∷ []) (same_bytes a verb c.0) ∙ ap (λ (w : List ℕ). verb ∷ w ∷ []) (some_same b word c.1)
behind_only verb word (a ∷ b ∷ c ∷ words) e = absurd cc

item_only : (piece item : List ℕ) → item_in piece ≡ Some item → item_line item ≡ piece ++ 10 ∷ []
item_only piece item e = by (word_behind (codes "item") (pieces 32 piece)) refl e
  where
    by : (o : Option (List ℕ)) → word_behind (codes "item") (pieces 32 piece) ≡ o → item_word o ≡ Some item → item_line item ≡ piece ++ 10 ∷ []
    by None is f = absurd cc
    by (Some word) is f = ap (λ (w : List ℕ). line (codes "item" ∷ w ∷ [])) (bytes_only word item f) ∙ words_of piece (codes "item" ∷ word ∷ []) (behind_only (codes "item") word (pieces 32 piece) is)

path_only : (piece : List ℕ) (hash : Hash32) → hash_in piece ≡ Some hash → path_line hash ≡ piece ++ 10 ∷ []
path_only piece hash e = by (word_behind (codes "path") (pieces 32 piece)) refl e
  where
    by : (o : Option (List ℕ)) → word_behind (codes "path") (pieces 32 piece) ≡ o → hash_word_in o ≡ Some hash → path_line hash ≡ piece ++ 10 ∷ []
    by None is f = absurd cc
    by (Some word) is f = ap (λ (w : List ℕ). line (codes "path" ∷ w ∷ [])) (hash_word_only word hash f) ∙ words_of piece (codes "path" ∷ word ∷ []) (behind_only (codes "path") word (pieces 32 piece) is)

-- ---- the first line
kind_only : (word : List ℕ) (k : ProofKind) → kind_in word ≡ Some k → kind_word k ≡ word
kind_only word k = by (bytes_eq word (codes "outcome")) refl (bytes_eq word (codes "receipt")) refl
  where
    by : (s : Bool) → bytes_eq word (codes "outcome") ≡ s → (t : Bool) → bytes_eq word (codes "receipt") ≡ t → cond s (Some Outcome) (cond t (Some Receipt) None) ≡ Some k → kind_word k ≡ word
    by true one t two e = ap kind_word (sym (some_same Outcome k e)) ∙ sym (same_bytes word (codes "outcome") one)
    by false one true two e = ap kind_word (sym (some_same Receipt k e)) ∙ sym (same_bytes word (codes "receipt") two)
    by false one false two e = absurd cc

head_by_only : (k : Option ProofKind) (h s p c : Option ℕ) (head : Head) → head_by k h s p c ≡ Some head → (k ≡ Some head.kind) × (h ≡ Some head.height) × (s ≡ Some head.shard) × (p ≡ Some head.place) × (c ≡ Some head.count)
head_by_only None h s p c head e = absurd cc
head_by_only (Some k) None s p c head e = absurd cc
head_by_only (Some k) (Some h) None p c head e = absurd cc
head_by_only (Some k) (Some h) (Some s) None c head e = absurd cc
head_by_only (Some k) (Some h) (Some s) (Some p) None head e = absurd cc
head_by_only (Some k) (Some h) (Some s) (Some p) (Some c) head e =
    let same : ◌≡◌ {A = Head} (record { kind = k; height = h; shard = s; place = p; count = c }) head = some_same (record { kind = k; height = h; shard = s; place = p; count = c }) head e in
    (ap (λ (x : Head). Some x.kind) same, ap (λ (x : Head). Some x.height) same, ap (λ (x : Head). Some x.shard) same, ap (λ (x : Head). Some x.place) same, ap (λ (x : Head). Some x.count) same)

abbrev stated_words : Head → Words
stated_words h = codes "proof" ∷ kind_word h.kind ∷ decimal h.height ∷ decimal h.shard ∷ decimal h.place ∷ decimal h.count ∷ []

six_words : (a b c d e f u v w x y z : List ℕ) → a ≡ u → b ≡ v → c ≡ w → d ≡ x → e ≡ y → f ≡ z → ◌≡◌ {A = Words} (a ∷ b ∷ c ∷ d ∷ e ∷ f ∷ []) (u ∷ v ∷ w ∷ x ∷ y ∷ z ∷ [])
six_words a b c d e f u v w x y z one two three four five six = cc

head_words : (words : Words) (head : Head) → head_in words ≡ Some head → words ≡ stated_words head
unfolding head_in
head_words [] head e = absurd cc
head_words (a ∷ []) head e = absurd cc
head_words (a ∷ b ∷ []) head e = absurd cc
head_words (a ∷ b ∷ c ∷ []) head e = absurd cc
head_words (a ∷ b ∷ c ∷ d ∷ []) head e = absurd cc
head_words (a ∷ b ∷ c ∷ d ∷ f ∷ []) head e = absurd cc
head_words (a ∷ b ∷ c ∷ d ∷ f ∷ g ∷ []) head e =
    let t = cond_some (bytes_eq a (codes "proof")) (head_by (kind_in b) (number_64 c) (number_32 d) (number_64 f) (number_64 g)) head e in
    let s = head_by_only (kind_in b) (number_64 c) (number_32 d) (number_64 f) (number_64 g) head t.1 in
    six_words a b c d f g (codes "proof") (kind_word head.kind) (decimal head.height) (decimal head.shard) (decimal head.place) (decimal head.count)
    (same_bytes a (codes "proof") t.0)
    (sym (kind_only b head.kind s.0))
    (sym (number_only 18446744073709551615 head.height c (omega arith) s.1))
    (sym (number_only 4294967295 head.shard d (omega arith) s.2))
    (sym (number_only 18446744073709551615 head.place f (omega arith) s.3))
    (sym (number_only 18446744073709551615 head.count g (omega arith) s.4))
head_words (a ∷ b ∷ c ∷ d ∷ f ∷ g ∷ h ∷ words) head e = absurd cc

head_only : (piece : List ℕ) (head : Head) → head_in (pieces 32 piece) ≡ Some head → line (stated_words head) ≡ piece ++ 10 ∷ []
head_only piece head e = words_of piece (stated_words head) (head_words (pieces 32 piece) head e)

-- ---- the path
with_hash_only : (n : ℕ) (o : Option Hash32) (r : Result (List Hash32) ProofFault) (path : List Hash32) → with_hash n o r ≡ Ok path
    → (hash : Hash32) × (rest : List Hash32) × (o ≡ Some hash) × (r ≡ Ok rest) × (hash ∷ rest ≡ path)
with_hash_only n None r path e = absurd cc
with_hash_only n (Some hash) (Ok rest) path e = (hash, rest, refl, refl, ok_same (hash ∷ rest) path e)
with_hash_only n (Some hash) (Err fault) path e = absurd cc

last_only : (n : ℕ) (piece : List ℕ) (path : List Hash32) → last_piece n piece ≡ Ok path → flat_map path_line path ≡ piece
last_only n [] path e = ap (flat_map path_line) (sym (ok_same [] path e))
last_only n (b ∷ piece) path e = absurd cc

lines_only : (n : ℕ) (ps : Words) (path : List Hash32) → path_from n ps ≡ Ok path → flat_map path_line path ≡ join_with_byte 10 ps
unfolding path_from
lines_only n [] path e = ap (flat_map path_line) (sym (ok_same [] path e))
lines_only n (piece ∷ []) path e = last_only n piece path e
lines_only n (piece ∷ next ∷ more) path e =
    let w = with_hash_only n (hash_in piece) (path_from (n + 1) (next ∷ more)) path e in
    ap (flat_map path_line) (sym w.4) ∙ ap (λ (t : List ℕ). t ++ flat_map path_line w.1) (path_only piece w.0 w.2)
    ∙ append_assoc piece (10 ∷ []) (flat_map path_line w.1) ∙ ap (λ (t : List ℕ). piece ++ 10 ∷ t) (lines_only (n + 1) (next ∷ more) w.1 w.3)

-- ---- the whole
abbrev proof_with : Head → List ℕ → List Hash32 → Proof
proof_with h item path = record { kind = h.kind; height = record { 0 = h.height }; shard = record { 0 = h.shard }; place = h.place; count = h.count; item = item; path = path }

with_path_only : (h : Head) (item : List ℕ) (r : Result (List Hash32) ProofFault) (p : Proof) → with_path h item r ≡ Ok p → (path : List Hash32) × (r ≡ Ok path) × (proof_with h item path ≡ p)
with_path_only h item (Err fault) p e = absurd cc
with_path_only h item (Ok path) p e = (path, refl, ok_same (proof_with h item path) p e)

with_item_only : (h : Head) (o : Option (List ℕ)) (rest : Words) (p : Proof) → with_item h o rest ≡ Ok p → (item : List ℕ) × (o ≡ Some item) × (with_path h item (path_from 3 rest) ≡ Ok p)
with_item_only h None rest p e = absurd cc
with_item_only h (Some item) rest p e = (item, refl, e)

with_head_only : (o : Option Head) (rest : Words) (p : Proof) → with_head o rest ≡ Ok p → (h : Head) × (o ≡ Some h) × (behind_head h rest ≡ Ok p)
with_head_only None rest p e = absurd cc
with_head_only (Some h) rest p e = (h, refl, e)

rest_only : (h : Head) (ps : Words) (p : Proof) → behind_head h ps ≡ Ok p → proof_text p ≡ line (stated_words h) ++ join_with_byte 10 ps
unfolding proof_text
rest_only h [] p e = absurd cc
rest_only h (last ∷ []) p e = absurd cc
rest_only h (piece ∷ next ∷ more) p e =
    let i = with_item_only h (item_in piece) (next ∷ more) p e in
    let w = with_path_only h i.0 (path_from 3 (next ∷ more)) p i.2 in
    let lines = lines_only 3 (next ∷ more) w.0 w.1 in
    ap proof_text (sym w.2)
    ∙ ap (λ (t : List ℕ). line (stated_words h) ++ t)
    (ap (λ (t : List ℕ). t ++ flat_map path_line w.0) (item_only piece i.0 i.1) ∙ append_assoc piece (10 ∷ []) (flat_map path_line w.0) ∙ ap (λ (t : List ℕ). piece ++ 10 ∷ t) lines)

by_lines_only : (ps : Words) (p : Proof) → by_lines ps ≡ Ok p → proof_text p ≡ join_with_byte 10 ps
by_lines_only [] p e = absurd cc
by_lines_only (last ∷ []) p e = absurd cc
by_lines_only (piece ∷ next ∷ more) p e =
    let i = with_head_only (head_in (pieces 32 piece)) (next ∷ more) p e in
    rest_only i.0 (next ∷ more) p i.2 ∙ ap (λ (t : List ℕ). t ++ join_with_byte 10 (next ∷ more)) (head_only piece i.0 i.1)
    ∙ append_assoc piece (10 ∷ []) (join_with_byte 10 (next ∷ more))

pub only_text : (bytes : List ℕ) (p : Proof) → proof_read bytes ≡ Ok p → bytes ≡ proof_text p
unfolding proof_read
only_text bytes p e = sym (by_lines_only (pieces 10 bytes) p e ∙ join_with_byte-slice_split 10 bytes)
