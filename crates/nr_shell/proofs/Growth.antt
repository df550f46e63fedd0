-- One write more.
use Rattle.std.proofs.Common.{◌≡◌, ℕ, ◌-◌, List, ◌++◌, length, take, drop, Option, Some, None, sym, ap, subst, ◌∙◌, append_assoc}
use Rattle.std.proofs.lemmas.List.{take-append-drop, take_rest}
use Rattle.nr_bytes.specs.Outside.{Grew}
use Rattle.nr_shell.specs.Writing.{GrewSoFar}

grew_twice : (old mid new : Option (List ℕ)) (front piece : List ℕ) → Grew old mid front → Grew mid new piece → Grew old new (front ++ piece)
grew_twice None mid new front piece one two = subst (λ m. Grew m new piece) one two
grew_twice (Some a) mid new front piece one two =
    let e : new ≡ Some ((a ++ front) ++ piece) = subst (λ m. Grew m new piece) one two in
    e ∙ ap (λ (t : List ℕ). Some t) (append_assoc a front piece)

pub grew_on : (old mid new : Option (List ℕ)) (bytes rest : List ℕ) (n : ℕ) → GrewSoFar old mid bytes rest → Grew mid new (take n rest) → GrewSoFar old new bytes (take (length rest - n) (drop n rest))
grew_on old mid new bytes rest n so_far one =
    let parts : bytes ≡ (so_far.0 ++ take n rest) ++ drop n rest =
    so_far.1 ∙ ap (λ (t : List ℕ). so_far.0 ++ t) (sym (take-append-drop n rest)) ∙ sym (append_assoc so_far.0 (take n rest) (drop n rest)) in
    (so_far.0 ++ take n rest, parts ∙ ap (λ (t : List ℕ). (so_far.0 ++ take n rest) ++ t) (sym (take_rest rest n)), grew_twice old mid new so_far.0 (take n rest) so_far.2 one)
