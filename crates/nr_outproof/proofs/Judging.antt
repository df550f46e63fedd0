-- When a proof is accepted, as a test and as what it says.
use Rattle.std.proofs.Common.{◌≡◌, nat_lt, ◌==◌, ◌&&◌, Bool, true, length, Result, Ok, Err, refl, sym, ap, ◌∙◌}
use Rattle.std.specs.Prelude.{IfOk, IsTrue, ◌↔◌}
use Rattle.std.specs.declared.alloc.AllocError.{AllocError}
use Rattle.std.specs.Str.{bytes_eq}
use Rattle.std.proofs.lemmas.Bool.{and_parts, eqb-true, eq-eqb, ltb-true, lt-ltb}
use Rattle.std.proofs.lemmas.Slice.Eq.{bytes_eq-Decides}
use Rattle.nr_ids.specs.declared.key.Hash32.{Hash32}
use Rattle.nr_outproof.specs.declared.proof.Proof.{Proof}
use Rattle.nr_outproof.specs.Proofs.{Accepts, accepts, stated_text}
use Rattle.nr_outproof.specs.Tree.{digest, way_of}
use Rattle.nr_outproof.proofs.Differing.{hash_is}

both : (a b c : Bool) → a ≡ true → b ≡ true → c ≡ true → (a && (b && c)) ≡ true
both a b c e f g = rw (e, f, g) refl

accepted_is : (root : Hash32) (p : Proof) → accepts root p ≡ true → Accepts root p
unfolding accepts
accepted_is root p e =
    let first = and_parts (nat_lt p.place p.count) _ e in
    let second = and_parts (length p.path == length (way_of p.count p.place)) _ first.1 in
    record {
      within = ltb-true p.place p.count first.0;
      long = eqb-true (length p.path) (length (way_of p.count p.place)) second.0;
      leads = hash_is (digest (stated_text p)) root ((bytes_eq-Decides (digest (stated_text p)).0 root.0).0 second.1);
    }

is_accepted : (root : Hash32) (p : Proof) → Accepts root p → accepts root p ≡ true
unfolding accepts
is_accepted root p a =
    both (nat_lt p.place p.count) (length p.path == length (way_of p.count p.place)) (bytes_eq (digest (stated_text p)).0 root.0)
    (lt-ltb p.place p.count a.within) (eq-eqb (length p.path) (length (way_of p.count p.place)) a.long) ((bytes_eq-Decides (digest (stated_text p)).0 root.0).1 (ap (λ (h : Hash32). h.0) a.leads))

pub answer_accepts : (answer : Result Bool AllocError) (root : Hash32) (p : Proof) → IfOk answer (λ holds. holds ≡ accepts root p) → IfOk answer (λ holds. IsTrue holds ↔ Accepts root p)
answer_accepts (Ok holds) root p e = (λ h. accepted_is root p (sym e ∙ h), λ a. e ∙ is_accepted root p a)
answer_accepts (Err fault) root p e = tt
