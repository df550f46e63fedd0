-- A call that loads a published word loads it once.
use Rattle.std.proofs.Common.{◌≡◌, ℕ, ◌+◌, ◌%◌, ◌^◌, ◌<◌, length, refl, sym, subst, length-set, get_or-set_same}
use Rattle.std.specs.Prelude.{Result, Ok, Err, nat_le}
use Rattle.nr_exchange.specs.declared.note.Link.{Link}
use Rattle.nr_exchange.specs.declared.note.Note.{Note}
use Rattle.nr_exchange.specs.declared.port.Parcel.{Parcel}
use Rattle.nr_exchange.specs.declared.port.Parcel.TheVariants.{Whole, Abandoned}
use Rattle.nr_exchange.specs.declared.port.NotYet.{NotYet}
use Rattle.nr_exchange.specs.Plan.{Plan}
use Rattle.nr_exchange.specs.Notes.{no_link, link, loaded, claims, gave_back}
use Rattle.nr_exchange.specs.Ports.{Answers, IsLooked, TriesLook, MarksLook}
use Rattle.nr_exchange.specs.Steps.{Tells}
use Rattle.nr_exchange.proofs.Keeps.{tested}

module _ {P : Type 0} where
  looked_once : (v : Note P) (s n c : ℕ) → s < length v.links → Tells v s n → IsLooked (link v s) (link (loaded v s n c) s)
  looked_once v s n c within told =
      let is : link (loaded v s n c) s ≡ record { claimed = c; seen = n % 2 ^ 32; marked = nat_le (2 ^ 32) n; loads = (link v s).loads + 1; given = (link v s).given } = get_or-set_same v.links s _ no_link within in
      subst (λ (l : Link). IsLooked (link v s) l) (sym is) (record { once = refl; later = told.later; kept = λ e. tested (2 ^ 32) n (told.kept e) })

  -- where the place of a list is given back, what was seen stays
  given_once : (v : Note P) (s : ℕ) (before : Link) → s < length v.links → IsLooked before (link v s) → IsLooked before (link (gave_back v s) s)
  given_once v s before within once =
      let l : Link = link v s in
      let is : link (gave_back v s) s ≡ record { claimed = l.claimed; seen = l.seen; marked = l.marked; loads = l.loads; given = l.given + 1 } = get_or-set_same v.links s _ no_link within in
      subst (λ (k : Link). IsLooked before k) (sym is) (record { once = once.once; later = once.later; kept = once.kept })

  taken_once : (v : Note P) (s n h : ℕ) → s < length v.links → Tells v s n → IsLooked (link v s) (link (gave_back (claims v s n h) s) s)
  taken_once v s n h within told =
      given_once (claims v s n h) s (link v s) (subst (λ (k : ℕ). s < k) (sym (length-set v.links s _)) within) (looked_once v s n h within told)

  answered : {L : Type 0} (p : Plan L) (s h : ℕ) (v w : Note P) (n : ℕ) (answer : Result (Parcel L) NotYet) → s < length v.links → Tells v s n → Answers p s h v n answer w → IsLooked (link v s) (link w s)
  answered p s h v w n (Ok (Whole list)) within told is = subst (λ (u : Note P). IsLooked (link v s) (link u s)) (sym is.2) (taken_once v s n h within told)
  answered p s h v w n (Ok (Abandoned number)) within told is = subst (λ (u : Note P). IsLooked (link v s) (link u s)) (sym is.3) (looked_once v s n (link v s).claimed within told)
  answered p s h v w n (Err not_yet) within told is = subst (λ (u : Note P). IsLooked (link v s) (link u s)) (sym is.3) (looked_once v s n (link v s).claimed within told)

  pub tries_look : {L : Type 0} → TriesLook P L
  tries_look p s h v w answer within takes = answered p s h v w takes.0 answer within takes.1 takes.2

  pub marks_look : MarksLook P
  marks_look s v w answer within marks =
      subst (λ (u : Note P). IsLooked (link v s) (link u s)) (sym marks.3) (looked_once v s marks.0 (link v s).claimed within marks.1)
