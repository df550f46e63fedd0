-- The bindings of hashes, each as its row. After the NEAR Nomicon, "Bindings Specification", Math API; SHA-256 is
-- FIPS 180-4.
use Rattle.std.specs.Prelude.{ℕ, ◌+◌, ◌*◌, length}
use Rattle.nr_config.specs.Config.{sha_base, sha_byte}
use Rattle.nr_triedef.specs.Node.{digest}
use Rattle.nr_hostctx.specs.Acts.{Act, ◌>>=◌, begin, pay, bytes_of, to_register}

unfoldable pub sha256 : ℕ → ℕ → ℕ → Act (Unit {0})
sha256 len ptr reg = do
  begun ← begin
  bytes ← bytes_of len ptr
  paid ← pay (λ c. sha_base c + sha_byte c * length bytes)
  to_register reg (digest bytes).0
