-- How many functions of the host are imported, counted one import after the other.
use Rattle.std.proofs.Common.{◌≡◌, ℕ, ◌+◌, ◌<◌, List, ◌∷◌, length, drop, get_or, Option, Some, None, true}
use Rattle.std.proofs.Common.{false, is_some, sym, ap, ◌∙◌, arith}
use Rattle.std.specs.List.{cons_option}
use Rattle.std.proofs.lemmas.List.{drop_more}
use Rattle.nr_wasmexec.specs.Functions.{link_as, links}
use Rattle.nr_wasmexec.specs.declared.program.HostLink.{HostLink}
use Rattle.nr_wasmtypes.specs.Host.{host_named}
use Rattle.nr_wasmtypes.specs.declared.module.Import.{Import}

abbrev link : Import → Option HostLink
link x = link_as (host_named x.name) x.kind

front : (is : List Import) (i : ℕ) (x : Import) → i < length is → x ≡ get_or is i x
    → links (drop i is) ≡ cons_option (link x) (links (drop (i + 1) is))
front is i x h e = ap links (drop_more is i x h ∙ ap (λ (y : Import). y ∷ drop (i + 1) is) (sym e))

some_longer : (o : Option HostLink) (rest : List HostLink) → is_some o ≡ true
    → length (cons_option o rest) ≡ length rest + 1
some_longer None rest e = absurd cc
some_longer (Some l) rest e = omega arith

none_longer : (o : Option HostLink) (rest : List HostLink) → is_some o ≡ false
    → length (cons_option o rest) ≡ length rest
none_longer None rest e = omega arith
none_longer (Some l) rest e = absurd cc

pub one_more : (is : List Import) (i n : ℕ) (x : Import) → i < length is → x ≡ get_or is i x → is_some (link x) ≡ true
    → n + 1 + length (links (drop (i + 1) is)) ≡ n + length (links (drop i is))
one_more is i n x h e there =
    omega (arith, ap length (front is i x h e), some_longer (link x) (links (drop (i + 1) is)) there)

pub no_more : (is : List Import) (i n : ℕ) (x : Import) → i < length is → x ≡ get_or is i x → is_some (link x) ≡ false
    → n + length (links (drop (i + 1) is)) ≡ n + length (links (drop i is))
no_more is i n x h e there =
    omega (arith, ap length (front is i x h e), none_longer (link x) (links (drop (i + 1) is)) there)
