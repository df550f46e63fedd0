-- What stands for a value is read as the value: numbers, texts, bytes, keys, lists and members.
use Rattle.std.proofs.Common.{◌≡◌, ℕ, ◌+◌, ◌*◌, ◌^◌, ◌<◌, ◌==◌, true, ltb, List, [], ◌∷◌, length, map, Some, None, Ok}
use Rattle.std.proofs.Common.{refl, ap, ◌∙◌, arith}
use Rattle.std.specs.List.{list_all, AllByRecursion}
use Rattle.std.specs.Prelude.{decimal}
use Rattle.std.specs.Char.{digit_value}
use Rattle.std.specs.Str.Parse.{AllDigits, IsNumeral, digits_value}
use Rattle.std.proofs.lemmas.Bool.{le-leb, lt-ltb}
use Rattle.std.proofs.lemmas.Str.Parse.{digit_from_value}
use Rattle.std.proofs.lemmas.Fmt.{decimal_is_IsNumeral_wide}
use Rattle.hex.specs.Hex.{decode_sized, encode_lower, lower_digits}
use Rattle.hex.proofs.HexLemmas.{decode_of-encode_lower, decode_sized-twice, length-encode_with}
use Rattle.nr_bytes.specs.Numbers.{IsBytes}
use Rattle.nr_bytes.specs.Spelling.{Below}
use Rattle.nr_ids.specs.declared.key.PublicKey.TheVariants.{Ed25519, Secp256k1}
use Rattle.nr_records.specs.Ids.{IsId}
use Rattle.nr_records.specs.Options.{IsOption}
use Rattle.serde_json.specs.Data.{Data, object, string, Members}
use Rattle.serde_json.specs.Find.{get_member, as_null}
use Rattle.serde_json.specs.View.{items_of}
use Rattle.nr_json.specs.Faults.{Read}
use Rattle.nr_json.specs.Fits.{AreBytes, FitsHash, FitsKey}
use Rattle.nr_json.specs.Keys.{id_of, hash_json, hash_of, key_json, key_of}
use Rattle.nr_json.specs.Lists.{list_json, list_of, each_of, option_json, option_of}
use Rattle.nr_json.specs.Members.{member_of, optional_of}
use Rattle.nr_json.specs.Plain.{is_digit, is_numeral, amount_json, amount_of, bytes_json, bytes_of}

-- what stands for it is read as it
abbrev pub Law : {X : Type 0} → (X → Data) → (Data → Read X) → (X → Type 0) → Type 0
Law {X} json reading fits = (x : X) → fits x → reading (json x) ≡ Ok x

-- ---- amounts
digit_from : (b : ℕ) → digit_value b < 10 → is_digit b ≡ true
digit_from b low =
    let range = digit_from_value b low in
    rw (le-leb 48 b range.0, le-leb b 57 range.1) refl

digits_from : (bs : List ℕ) → AllDigits 10 bs → list_all is_digit bs ≡ true
digits_from [] all = refl
digits_from (b ∷ bs) all = rw (digit_from b all.0, digits_from bs all.1) refl

numeral_from : (bs : List ℕ) → IsNumeral 10 bs → is_numeral bs ≡ true
numeral_from bs h = rw (lt-ltb 0 (length bs) h.0, digits_from bs h.1) refl

pub amount_law : Law amount_json amount_of (Below (2 ^ 128))
amount_law n fits =
    let wide = decimal_is_IsNumeral_wide n (omega arith) in
    let small : ltb (digits_value 10 (decimal n)) (2 ^ 128) ≡ true = rw wide.1 (lt-ltb n (2 ^ 128) fits) in
    rw (numeral_from (decimal n) wide.0, small) (ap (λ (m : ℕ). Ok m) wide.1)

-- ---- bytes
pub bytes_law : Law bytes_json bytes_of IsBytes
bytes_law bytes fits = rw (decode_of-encode_lower bytes fits) refl

sized_again : (n : ℕ) (bytes : List ℕ) → AreBytes n bytes → decode_sized (encode_lower bytes) n ≡ Ok bytes
sized_again n bytes fits =
    let twice : length (encode_lower bytes) ≡ 2 * n = length-encode_with lower_digits bytes ∙ ap (λ k. 2 * k) fits.0 in
    decode_sized-twice (encode_lower bytes) n twice ∙ decode_of-encode_lower bytes fits.1

pub hash_law : Law hash_json hash_of FitsHash
hash_law hash fits = rw (sized_again 32 hash.0 fits) refl

pub key_law : Law key_json key_of FitsKey
key_law (Ed25519 key) fits =
    let long : (length (encode_lower key) == 64) ≡ true = ap (λ n. n == 64) (length-encode_with lower_digits key ∙ ap (λ k. 2 * k) fits.0) in
    rw (long, sized_again 32 key fits) refl
key_law (Secp256k1 key) fits = rw (sized_again 64 key fits) refl

pub id_law : Law string id_of IsId
id_law id fits = rw fits refl

-- ---- lists
each_law : {X : Type 0} (json : X → Data) (reading : Data → Read X) (fits : X → Type 0) → Law json reading fits → (n : ℕ) (xs : List X) → AllByRecursion fits xs → each_of reading n (items_of (map json xs)) ≡ Ok xs
unfolding each_of
each_law json reading fits law n [] all = refl
each_law json reading fits law n (x ∷ xs) all = rw (law x all.0, each_law json reading fits law (n + 1) xs all.1) refl

pub list_law : {X : Type 0} (json : X → Data) (reading : Data → Read X) (fits : X → Type 0) → Law json reading fits → Law (list_json json) (list_of reading) (AllByRecursion fits)
list_law json reading fits law xs all = each_law json reading fits law 0 xs all

pub option_law : {X : Type 0} (json : X → Data) (reading : Data → Read X) (fits : X → Type 0) → ((x : X) → as_null (json x) ≡ None) → Law json reading fits → Law (option_json json) (option_of reading) (IsOption fits)
option_law json reading fits there law None fit = refl
option_law json reading fits there law (Some x) fit = rw (there x, law x fit) refl

-- ---- members
pub member_is : {X : Type 0} (name : List ℕ) (reading : Data → Read X) (ms : Members) (d : Data) (x : X) → get_member name ms ≡ Some d → reading d ≡ Ok x → member_of name reading (object ms) ≡ Ok x
member_is name reading ms d x e h = rw (e, h) refl

pub optional_is : {X : Type 0} (name : List ℕ) (reading : Data → Read X) (ms : Members) (d : Data) (x : X) → get_member name ms ≡ Some d → reading d ≡ Ok x → optional_of name reading (object ms) ≡ Ok (Some x)
optional_is name reading ms d x e h = rw (e, h) refl
