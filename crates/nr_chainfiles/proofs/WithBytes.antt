-- The chain of bytes that are there.
use Rattle.std.proofs.Common.{◌≡◌, ℕ, ◌+◌, Bool, List, length, Result, Err, sym, ap, subst, ◌∙◌}
use Rattle.nr_blocks.specs.declared.genesis.Genesis.{Genesis}
use Rattle.nr_chainfiles.specs.Plans.{by_blocks_bytes, by_config, by_genesis, by_genesis_bytes, files_with}
use Rattle.nr_chainfiles.specs.declared.loading.ChainFiles.{ChainFiles}
use Rattle.nr_config.specs.Config.{Config}
use Rattle.nr_shell.proofs.WithBytes.{with_bytes_then}
use Rattle.nr_shell.specs.Answers.{Judges}
use Rattle.nr_shell.specs.Plans.{Plan, Answer, Refuse, and_then, by_length, with_bytes}
use Rattle.nr_shell.specs.declared.stop.Stop.{Stop}
use Rattle.nr_shell.specs.declared.stop.Stop.TheVariants.{Unread, Memory, Refused}
use Rattle.nr_words.specs.Command.{Names}

module _ {E : Type 0} (config : ℕ → ℕ → E) (genesis : ℕ → ℕ → ℕ → ℕ → E) (blocks : ℕ → ℕ → E) (names : Names) (c : Config) (one two : List ℕ) where
  -- what stands behind the genesis of the first bytes
  behind_first : with_bytes one (by_config config genesis blocks names c) ≡ and_then (by_length 67108864 (genesis 0 0 0 0) (by_genesis_bytes genesis c) one) (by_genesis config genesis blocks names c)
  behind_first = with_bytes_then one names.genesis 67108864 (genesis 0 0 0 0) (by_genesis_bytes genesis c) (by_genesis config genesis blocks names c)

  behind_second : (g : Genesis) → with_bytes two (by_genesis config genesis blocks names c g) ≡ and_then (by_length 268435456 (blocks 0 0) (by_blocks_bytes blocks (length g.layout + 1)) two) (λ file. Answer (files_with c g file))
  behind_second g = with_bytes_then two names.blocks 268435456 (blocks 0 0) (by_blocks_bytes blocks (length g.layout + 1)) (λ file. Answer (files_with c g file))

  passed : (g : Genesis) → by_length 67108864 (genesis 0 0 0 0) (by_genesis_bytes genesis c) one ≡ Answer g → with_bytes one (by_config config genesis blocks names c) ≡ by_genesis config genesis blocks names c g
  unfolding and_then
  passed g is = behind_first ∙ ap (λ (p : Plan Genesis E). and_then p (by_genesis config genesis blocks names c)) is

  refused : (e : E) → by_length 67108864 (genesis 0 0 0 0) (by_genesis_bytes genesis c) one ≡ Refuse e → with_bytes one (by_config config genesis blocks names c) ≡ Refuse e
  unfolding and_then
  refused e is = behind_first ∙ ap (λ (p : Plan Genesis E). and_then p (by_genesis config genesis blocks names c)) is

  pub over : (refuses : E → Bool) (g : Genesis) (r : Result ChainFiles (Stop E)) → by_length 67108864 (genesis 0 0 0 0) (by_genesis_bytes genesis c) one ≡ Answer g
      → Judges refuses (λ files. files) r (and_then (by_length 268435456 (blocks 0 0) (by_blocks_bytes blocks (length g.layout + 1)) two) (λ file. Answer (files_with c g file)))
      → Judges refuses (λ files. files) r (with_bytes two (with_bytes one (by_config config genesis blocks names c)))
  over refuses g r is judges =
      subst (λ (p : Plan ChainFiles E). Judges refuses (λ (files : ChainFiles). files) r p)
      (sym (ap (λ (p : Plan ChainFiles E). with_bytes two p) (passed g is) ∙ behind_second g)) judges

  pub stopped : (refuses : E → Bool) (s : Stop E) → Judges refuses (λ (g : Genesis). g) (Err s) (by_length 67108864 (genesis 0 0 0 0) (by_genesis_bytes genesis c) one)
      → Judges refuses (λ (files : ChainFiles). files) (Err s) (with_bytes two (with_bytes one (by_config config genesis blocks names c)))
  stopped refuses (Refused e) h = (h.0, ap (λ (p : Plan ChainFiles E). with_bytes two p) (refused e h.1))
  stopped refuses Unread h = h
  stopped refuses Memory h = tt
