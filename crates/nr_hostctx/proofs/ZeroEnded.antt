-- Texts that end with a zero byte.
use Rattle.std.proofs.Common.{◌≡◌, ◌<◌, ℕ, List, [], length, Option, None, take, drop, ap, sym, arith}
use Rattle.std.proofs.lemmas.List.{drop_all}
use Rattle.std.specs.Option.{option_map}
use Rattle.memchr.specs.Find.{IsFirstByte, is_byte}
use Rattle.memchr.proofs.lemmas.ValueLemmas.{IsFirstByte-value}
use Rattle.nr_hostctx.specs.Logs.{before_zero}

pub zero_found : (bytes : List ℕ) (r : Option ℕ) → IsFirstByte (is_byte 0) bytes r
    → before_zero bytes ≡ option_map (λ i. take i bytes) r
unfolding before_zero
zero_found bytes r h =
    ap (λ (o : Option ℕ). option_map (λ i. take i bytes) o) (sym (IsFirstByte-value (is_byte 0) bytes r h))

no_zero : before_zero [] ≡ None
no_zero = zero_found [] None (λ k low high passes. absurd (omega arith))

pub none_behind : (bytes : List ℕ) (n : ℕ) → length bytes < n → before_zero (drop n bytes) ≡ None
none_behind bytes n h = rw (drop_all n bytes (omega arith)) no_zero
