-- A chain that is as it was.
use Rattle.std.proofs.Common.{◌≡◌, ℕ, List, ◌++◌, Option, sym, ap, subst, ◌∙◌}
use Rattle.std.specs.Prelude.{replicate}
use Rattle.std.specs.List.{flat_map}
use Rattle.nr_chunk.specs.Chain.{rules_of}
use Rattle.nr_chunk.specs.Runs.{chain_in}
use Rattle.nr_chunk.specs.Store.{StateStore}
use Rattle.nr_chunk.specs.declared.chain.ChainRun.{ChainRun}
use Rattle.nr_course.specs.Course.{CanTurn}
use Rattle.nr_course.specs.declared.turn.Turn.{Turn}
use Rattle.nr_overlap.specs.Positions.{end_at}
use Rattle.nr_overlap.specs.declared.position.Position.{Position}
use Rattle.nr_state.specs.declared.calls.Caller.{Ghosts}
use Rattle.nr_tar.specs.Archive.{file_bytes}
use Rattle.nr_audit.proofs.Files.{files_behind}
use Rattle.nr_audit.specs.Archive.{height_files, leg_files, turn_files}

module _ {C : Type 0} {g : Ghosts C StateStore} (p q : ChainRun C g) (same : q ≡ p) where
  pub places_same : (n : ℕ) (ps : List Position) → ps ≡ replicate (rules_of (chain_in q)).shards (end_at n)
      → ps ≡ replicate (rules_of (chain_in p)).shards (end_at n)
  places_same n ps is = is ∙ ap (λ (c : ChainRun C g). replicate (rules_of (chain_in c)).shards (end_at n)) same

  pub height_same : (below : ℕ) (mid new : List ℕ) → new ≡ mid ++ flat_map file_bytes (height_files (chain_in q) below)
      → new ≡ mid ++ flat_map file_bytes (height_files (chain_in p) below)
  height_same below mid new is =
      is ∙ ap (λ (c : ChainRun C g). mid ++ flat_map file_bytes (height_files (chain_in c) below)) same

  pub turn_same : (t : Turn) → CanTurn (chain_in p) t → CanTurn (chain_in q) t
  turn_same t can = subst (λ (c : ChainRun C g). CanTurn (chain_in c) t) (sym same) can

  -- the files of a leg, and those of what follows
  pub both_files : (t : Option Turn) (old mid new : List ℕ) → mid ≡ old ++ flat_map file_bytes (leg_files (chain_in p))
      → new ≡ mid ++ flat_map file_bytes (turn_files (chain_in q) t)
      → new ≡ old ++ flat_map file_bytes (leg_files (chain_in p) ++ turn_files (chain_in p) t)
  both_files t old mid new is more =
      files_behind (leg_files (chain_in p)) (turn_files (chain_in p) t) old mid new is
      (more ∙ ap (λ (c : ChainRun C g). mid ++ flat_map file_bytes (turn_files (chain_in c) t)) same)
