-- The text of a proof is read back as the proof.
use Rattle.std.proofs.Common.{◌≡◌, ℕ, zero, suc, ◌+◌, ◌/◌, ◌%◌, ◌^◌, ◌<◌, ◌≤◌, ◌==◌, ◌&&◌, ◌⊎◌, inl, inr, Bool, true, false, not, List, [], ◌∷◌, ◌++◌, length, get_or, slice_index, Some, Ok, refl, sym, ap, ◌∙◌, arith, append_assoc}
use Rattle.std.specs.Prelude.{codes, decimal, nat_le}
use Rattle.std.specs.List.{flat_map, list_all, onto_first, AllByRecursion}
use Rattle.std.proofs.lemmas.Bool.{and_from, and_parts, le-leb, leb-true, ne_eqb, eq-eqb, cases_lt, not-true}
use Rattle.std.proofs.lemmas.Fmt.{decimal_by_steps, decimal_digit, decimal_nonempty, decimal_is_IsNumeral, first_decimal}
use Rattle.std.proofs.lemmas.List.Folds.{list_all-append}
use mathlib.Core.Bool.{and-false}
use Rattle.hex.specs.Hex.{encode_lower, encode_with, lower_digits}
use Rattle.hex.proofs.HexLemmas.{decode_of-encode_lower}
use Rattle.nr_bytes.specs.Numbers.{IsBytes}
use Rattle.nr_ids.specs.declared.key.Hash32.{Hash32}
use Rattle.nr_report.specs.Lines.{Words, line, hash_word, bytes_word}
use Rattle.nr_words.specs.Command.{has_no_leading_zero, is_digit, is_numeral, number_in}
use Rattle.nr_words.specs.Forms.{is_hex_digit}
use Rattle.nr_words.specs.Kinds.{kind_word}
use Rattle.nr_words.specs.declared.kind.ProofKind.{ProofKind}
use Rattle.nr_words.specs.declared.kind.ProofKind.TheVariants.{Outcome, Receipt}
use Rattle.nr_outproof.specs.declared.proof.Proof.{Proof}
use Rattle.nr_outproof.specs.declared.reading.Head.{Head}
use Rattle.nr_outproof.specs.Texts.{FitsProof, bytes_in, hash_in, hash_of, head_in, head_line, hex_in, item_in, item_line, item_word, kind_in, path_from, path_line, pieces, proof_read, proof_text, with_hash, with_head, with_item, with_path, hash_word_in, word_behind}
use Rattle.nr_outproof.proofs.TextLines.{head_is_read, item_is_read, next_line, last_line}

-- ---- words without spaces and line feeds
abbrev plain : ℕ → Bool
plain b = not (b == 32) && not (b == 10)

abbrev IsPlain : List ℕ → Type 0
IsPlain word = list_all plain word ≡ true

plain_is : (b : ℕ) → (b ≡ 32 → ⊥) → (b ≡ 10 → ⊥) → plain b ≡ true
plain_is b one two = let e = ne_eqb b 32 one in let f = ne_eqb b 10 two in rw (e, f) refl

all_plain : (p : ℕ → Bool) → ((b : ℕ) → p b ≡ true → plain b ≡ true) → (word : List ℕ) → list_all p word ≡ true → IsPlain word
all_plain p each [] h = refl
all_plain p each (b ∷ word) h = let parts = and_parts (p b) (list_all p word) h in and_from (plain b) (list_all plain word) (each b parts.0) (all_plain p each word parts.1)

digit_plain : (b : ℕ) → is_digit b ≡ true → plain b ≡ true
digit_plain b h =
    let low = leb-true 48 b (and_parts (nat_le 48 b) (nat_le b 57) h).0 in
    plain_is b (λ e. absurd (omega (arith, e, low))) (λ e. absurd (omega (arith, e, low)))

-- ---- decimal numbers
digit_is : (b : ℕ) → 48 ≤ b → b ≤ 57 → is_digit b ≡ true
digit_is b low high = and_from (nat_le 48 b) (nat_le b 57) (le-leb 48 b low) (le-leb b 57 high)

digits_are : (n : ℕ) → n < 2 ^ 64 → list_all is_digit (decimal n) ≡ true
digits_are n small = decimal_by_steps (λ n ds. list_all is_digit ds ≡ true)
    (λ n lt. and_from (is_digit (48 + n)) true (digit_is (48 + n) (omega arith) (omega arith)) refl)
    (λ n ds ge h. list_all-append is_digit ds ((48 + n % 10) ∷ []) ∙ and_from (list_all is_digit ds) (is_digit (48 + n % 10) && true) h (and_from (is_digit (48 + n % 10)) true (digit_is (48 + n % 10) (omega arith) (omega arith)) refl))
    n small

no_zero : (word : List ℕ) → 0 < length word → (48 < get_or word 0 0) ⊎ (length word ≡ 1) → has_no_leading_zero word ≡ true
no_zero [] some h = absurd (omega arith)
no_zero (b ∷ []) some h = refl
no_zero (b ∷ c ∷ word) some (inl first) = let e = ne_eqb b 48 (λ e. absurd (omega (arith, e, first))) in rw e refl
no_zero (b ∷ c ∷ word) some (inr one) = absurd (omega (arith, one))

leads : (n : ℕ) → n < 2 ^ 64 → (48 < get_or (decimal n) 0 0) ⊎ (length (decimal n) ≡ 1)
leads n small =
    elim (cases_lt 0 n) [
      | inl some ↦ inl (first_decimal n some small)
      | inr none ↦ inr (ap length (decimal_digit n (omega arith)))
    ]

number_back : (n most : ℕ) → n < 2 ^ 64 → n ≤ most → number_in 0 most (decimal n) ≡ Some n
number_back n most small le =
    let value = (decimal_is_IsNumeral n small).1 in
    let numeral : is_numeral (decimal n) ≡ true = and_from (has_no_leading_zero (decimal n)) (list_all is_digit (decimal n)) (no_zero (decimal n) (decimal_nonempty n small) (leads n small)) (digits_are n small) in
    let low = le-leb 0 n (omega arith) in
    let high = le-leb n most le in
    rw (numeral, value, low, high) refl

decimal_plain : (n : ℕ) → n < 2 ^ 64 → IsPlain (decimal n)
decimal_plain n small = all_plain is_digit digit_plain (decimal n) (digits_are n small)

-- ---- hexadecimal
lower_is : (d : ℕ) → d < 16 → is_hex_digit (slice_index lower_digits d) ≡ true
lower_is zero lt = refl
lower_is (suc zero) lt = refl
lower_is (suc (suc zero)) lt = refl
lower_is (suc (suc (suc zero))) lt = refl
lower_is (suc (suc (suc (suc zero)))) lt = refl
lower_is (suc (suc (suc (suc (suc zero))))) lt = refl
lower_is (suc (suc (suc (suc (suc (suc zero)))))) lt = refl
lower_is (suc (suc (suc (suc (suc (suc (suc zero))))))) lt = refl
lower_is (suc (suc (suc (suc (suc (suc (suc (suc zero)))))))) lt = refl
lower_is (suc (suc (suc (suc (suc (suc (suc (suc (suc zero))))))))) lt = refl
lower_is (suc (suc (suc (suc (suc (suc (suc (suc (suc (suc zero)))))))))) lt = refl
lower_is (suc (suc (suc (suc (suc (suc (suc (suc (suc (suc (suc zero))))))))))) lt = refl
lower_is (suc (suc (suc (suc (suc (suc (suc (suc (suc (suc (suc (suc zero)))))))))))) lt = refl
lower_is (suc (suc (suc (suc (suc (suc (suc (suc (suc (suc (suc (suc (suc zero))))))))))))) lt = refl
lower_is (suc (suc (suc (suc (suc (suc (suc (suc (suc (suc (suc (suc (suc (suc zero)))))))))))))) lt = refl
lower_is (suc (suc (suc (suc (suc (suc (suc (suc (suc (suc (suc (suc (suc (suc (suc zero))))))))))))))) lt = refl
lower_is (suc (suc (suc (suc (suc (suc (suc (suc (suc (suc (suc (suc (suc (suc (suc (suc d)))))))))))))))) lt = absurd (omega arith)

all_lower : (bytes : List ℕ) → IsBytes bytes → list_all is_hex_digit (encode_lower bytes) ≡ true
unfolding encode_with
all_lower [] fits = refl
all_lower (b ∷ bytes) fits =
    let low : b < 256 = fits 0 in
    let first = lower_is (b / 16) (omega arith) in
    let second = lower_is (b % 16) (omega arith) in
    and_from (is_hex_digit (slice_index lower_digits (b / 16))) (list_all is_hex_digit (slice_index lower_digits (b % 16) ∷ encode_lower bytes)) first
    (and_from (is_hex_digit (slice_index lower_digits (b % 16))) (list_all is_hex_digit (encode_lower bytes)) second (all_lower bytes (λ i. fits (suc i))))

hex_back : (bytes : List ℕ) → IsBytes bytes → hex_in (encode_lower bytes) ≡ Some bytes
unfolding hex_in
hex_back bytes fits = let all = all_lower bytes fits in let back = decode_of-encode_lower bytes fits in rw (all, back) refl

lower_plain : (b : ℕ) → is_hex_digit b ≡ true → plain b ≡ true
lower_plain b h = by (is_digit b) (nat_le 97 b) refl refl h
  where
    by : (d low : Bool) → is_digit b ≡ d → nat_le 97 b ≡ low → is_hex_digit b ≡ true → plain b ≡ true
    by true low e f g = digit_plain b e
    by false true e f g = let l = leb-true 97 b f in plain_is b (λ q. absurd (omega (arith, q, l))) (λ q. absurd (omega (arith, q, l)))
    by false false e f g = absurd (grind arith)

hex_plain : (bytes : List ℕ) → IsBytes bytes → IsPlain (encode_lower bytes)
hex_plain bytes fits = all_plain is_hex_digit lower_plain (encode_lower bytes) (all_lower bytes fits)

-- ---- words in a line
abbrev spaced : Words → List ℕ
spaced [] = []
spaced (word ∷ []) = word
spaced (word ∷ next ∷ words) = word ++ 32 ∷ spaced (next ∷ words)

line_is : (words : Words) → line words ≡ spaced words ++ 10 ∷ []
line_is [] = refl
line_is (word ∷ []) = refl
line_is (word ∷ next ∷ words) = ap (λ (t : List ℕ). word ++ 32 ∷ t) (line_is (next ∷ words)) ∙ sym (append_assoc word (32 ∷ spaced (next ∷ words)) (10 ∷ []))

-- a word without the separator is the first piece
abbrev apart : ℕ → ℕ → Bool
apart separator b = not (b == separator)

piece_before : (separator : ℕ) (word rest : List ℕ) → list_all (apart separator) word ≡ true → pieces separator (word ++ separator ∷ rest) ≡ word ∷ pieces separator rest
piece_before separator [] rest h = let e = eq-eqb separator separator refl in rw e refl
piece_before separator (b ∷ word) rest h =
    let parts = and_parts (apart separator b) (list_all (apart separator) word) h in
    let e = not-true (b == separator) parts.0 in
    rw e (ap (onto_first b) (piece_before separator word rest parts.1))

piece_alone : (separator : ℕ) (word : List ℕ) → list_all (apart separator) word ≡ true → pieces separator word ≡ word ∷ []
piece_alone separator [] h = refl
piece_alone separator (b ∷ word) h =
    let parts = and_parts (apart separator b) (list_all (apart separator) word) h in
    let e = not-true (b == separator) parts.0 in
    rw e (ap (onto_first b) (piece_alone separator word parts.1))

no_space : (word : List ℕ) → IsPlain word → list_all (apart 32) word ≡ true
no_space [] h = refl
no_space (b ∷ word) h =
    let parts = and_parts (plain b) (list_all plain word) h in
    and_from (apart 32 b) (list_all (apart 32) word) (and_parts (not (b == 32)) (not (b == 10)) parts.0).0 (no_space word parts.1)

no_feed : (word : List ℕ) → IsPlain word → list_all (apart 10) word ≡ true
no_feed [] h = refl
no_feed (b ∷ word) h =
    let parts = and_parts (plain b) (list_all plain word) h in
    and_from (apart 10 b) (list_all (apart 10) word) (and_parts (not (b == 32)) (not (b == 10)) parts.0).1 (no_feed word parts.1)

abbrev ArePlain : Words → Type 0
ArePlain words = AllByRecursion IsPlain words

words_back : (word : List ℕ) (words : Words) → ArePlain (word ∷ words) → pieces 32 (spaced (word ∷ words)) ≡ word ∷ words
words_back word [] fits = piece_alone 32 word (no_space word fits.0)
words_back word (next ∷ words) fits = piece_before 32 word (spaced (next ∷ words)) (no_space word fits.0) ∙ ap (λ (w : Words). word ∷ w) (words_back next words fits.1)

spaced_no_feed : (word : List ℕ) (words : Words) → ArePlain (word ∷ words) → list_all (apart 10) (spaced (word ∷ words)) ≡ true
spaced_no_feed word [] fits = no_feed word fits.0
spaced_no_feed word (next ∷ words) fits =
    list_all-append (apart 10) word (32 ∷ spaced (next ∷ words))
    ∙ and_from (list_all (apart 10) word) (list_all (apart 10) (32 ∷ spaced (next ∷ words))) (no_feed word fits.0) (and_from (apart 10 32) (list_all (apart 10) (spaced (next ∷ words))) refl (spaced_no_feed next words fits.1))

line_back : (word : List ℕ) (words : Words) (rest : List ℕ) → ArePlain (word ∷ words) → pieces 10 (line (word ∷ words) ++ rest) ≡ spaced (word ∷ words) ∷ pieces 10 rest
line_back word words rest fits =
    ap (λ (t : List ℕ). pieces 10 (t ++ rest)) (line_is (word ∷ words)) ∙ ap (pieces 10) (append_assoc (spaced (word ∷ words)) (10 ∷ []) rest)
    ∙ piece_before 10 (spaced (word ∷ words)) rest (spaced_no_feed word words fits)

-- ---- the three kinds of lines
kind_back : (kind : ProofKind) → kind_in (kind_word kind) ≡ Some kind
kind_back Outcome = refl
kind_back Receipt = refl

kind_plain : (kind : ProofKind) → IsPlain (kind_word kind)
kind_plain Outcome = refl
kind_plain Receipt = refl

bytes_plain : (bytes : List ℕ) → IsBytes bytes → IsPlain (bytes_word bytes)
unfolding bytes_word
bytes_plain [] fits = refl
bytes_plain (b ∷ bytes) fits = hex_plain (b ∷ bytes) fits

bytes_back : (bytes : List ℕ) → IsBytes bytes → bytes_in (bytes_word bytes) ≡ Some bytes
unfolding bytes_word bytes_in encode_with
bytes_back [] fits = refl
bytes_back (b ∷ bytes) fits = let e = and-false (slice_index lower_digits (b / 16) == 45) in rw e (hex_back (b ∷ bytes) fits)

hash_plain : (hash : Hash32) → IsBytes hash.0 → IsPlain (hash_word hash)
unfolding hash_word
hash_plain hash fits = hex_plain hash.0 fits

hash_back : (hash : Hash32) → IsBytes hash.0 → length hash.0 ≡ 32 → hash_of (hex_in (hash_word hash)) ≡ Some hash
unfolding hash_word
hash_back hash fits long = let e = hex_back hash.0 fits in let f = eq-eqb (length hash.0) 32 long in rw (e, f) refl

item_line_back : (item rest : List ℕ) → IsBytes item → (piece : List ℕ) × (pieces 10 (item_line item ++ rest) ≡ piece ∷ pieces 10 rest) × (item_in piece ≡ Some item)
item_line_back item rest fits =
    let words : Words = bytes_word item ∷ [] in
    let plains : ArePlain (codes "item" ∷ words) = (refl, (bytes_plain item fits, tt)) in
    (spaced (codes "item" ∷ words), line_back (codes "item") words rest plains, ap (λ w. item_word (word_behind (codes "item") w)) (words_back (codes "item") words plains) ∙ bytes_back item fits)

path_line_back : (hash : Hash32) (rest : List ℕ) → IsBytes hash.0 → length hash.0 ≡ 32 → (piece : List ℕ) × (pieces 10 (path_line hash ++ rest) ≡ piece ∷ pieces 10 rest) × (hash_in piece ≡ Some hash)
path_line_back hash rest fits long =
    let words : Words = hash_word hash ∷ [] in
    let plains : ArePlain (codes "path" ∷ words) = (refl, (hash_plain hash fits, tt)) in
    (spaced (codes "path" ∷ words), line_back (codes "path") words rest plains, ap (λ w. hash_word_in (word_behind (codes "path") w)) (words_back (codes "path") words plains) ∙ hash_back hash fits long)

abbrev head_stated : Proof → Head
head_stated p = record { kind = p.kind; height = p.height.0; shard = p.shard.0; place = p.place; count = p.count }

head_line_back : (p : Proof) (rest : List ℕ) → FitsProof p → (piece : List ℕ) × (pieces 10 (head_line p ++ rest) ≡ piece ∷ pieces 10 rest) × (head_in (pieces 32 piece) ≡ Some (head_stated p))
unfolding head_in
head_line_back p rest fits =
    let small : p.shard.0 < 2 ^ 64 = omega (arith, fits.shard) in
    let words : Words = kind_word p.kind ∷ decimal p.height.0 ∷ decimal p.shard.0 ∷ decimal p.place ∷ decimal p.count ∷ [] in
    let plains : ArePlain (codes "proof" ∷ words) = (refl, (kind_plain p.kind, (decimal_plain p.height.0 fits.height, (decimal_plain p.shard.0 small, (decimal_plain p.place fits.place, (decimal_plain p.count fits.count, tt)))))) in
    let kind = kind_back p.kind in
    let height = number_back p.height.0 18446744073709551615 fits.height (omega (arith, fits.height)) in
    let shard = number_back p.shard.0 4294967295 small (omega (arith, fits.shard)) in
    let place = number_back p.place 18446744073709551615 fits.place (omega (arith, fits.place)) in
    let count = number_back p.count 18446744073709551615 fits.count (omega (arith, fits.count)) in
    (spaced (codes "proof" ∷ words), line_back (codes "proof") words rest plains, ap head_in (words_back (codes "proof") words plains) ∙ rw (kind, height, shard, place, count) refl)

-- ---- the whole
abbrev FitsHash : Hash32 → Type 0
FitsHash hash = IsBytes hash.0 × (length hash.0 ≡ 32)

path_back : (n : ℕ) (path : List Hash32) → AllByRecursion FitsHash path → path_from n (pieces 10 (flat_map path_line path)) ≡ Ok path
path_back n [] fits = last_line n []
path_back n (hash ∷ path) fits =
    let one = path_line_back hash (flat_map path_line path) fits.0.0 fits.0.1 in
    ap (path_from n) one.1 ∙ next_line n one.0 (flat_map path_line path) ∙ ap (λ o. with_hash n o (path_from (n + 1) (pieces 10 (flat_map path_line path)))) one.2
    ∙ ap (with_hash n (Some hash)) (path_back (n + 1) path fits.1)

pub proof_back : (p : Proof) → FitsProof p → proof_read (proof_text p) ≡ Ok p
unfolding proof_text
proof_back p fits =
    let path = flat_map path_line p.path in
    let rest = item_line p.item ++ path in
    let head = head_line_back p rest fits in
    let item = item_line_back p.item path fits.item in
    head_is_read (head_line p ++ rest) head.0 rest head.1 ∙ ap (λ o. with_head o (pieces 10 rest)) head.2
    ∙ item_is_read (head_stated p) rest item.0 path item.1 ∙ ap (λ o. with_item (head_stated p) o (pieces 10 path)) item.2
    ∙ ap (with_path (head_stated p) p.item) (path_back 3 p.path fits.path)
