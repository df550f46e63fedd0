-- What is lent, or else something else that is lent, is the value that it would be.
use Rattle.std.proofs.Common.{Bor, ◌≡◌, Some, None, Option, refl}
use Rattle.std.specs.Prelude.{unwrap_or}
use Rattle.std.specs.Option.{option_copied}

pub lent_or : {T : Type 0} (o : Option (Bor T)) (b : Bor T) → (unwrap_or o b).now ≡ unwrap_or (option_copied o) b.now
lent_or None b = refl
lent_or (Some x) b = refl
