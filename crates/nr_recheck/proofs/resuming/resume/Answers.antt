-- The goals of `resuming::resume` that no tactic closes.
use Rattle.std.proofs.Common.{◌≡◌, ◌-◌, ◌++◌, ◌∷◌, [], ℕ, List, length, replicate, refl, ap, ◌∙◌, arith}
use Rattle.nr_columns.specs.declared.entry.Entry.{Entry}
use Rattle.nr_records.specs.declared.receipt.Receipt.{Receipt}
use Rattle.nr_recheck.proofs.Starts.{sound_of}
use Rattle.nr_recheck.proofs.resuming.resume.Goals as goal

pub resume-requires-clause-sound : goal.resume-requires-clause-sound
resume-requires-clause-sound g c =
    let gathered = c.args.gathered in
    let none : List Entry = [] in
    let nothing : List Receipt = [] in
    let after : c.shards.result - 1 - gathered.shard.0 ≡ length gathered.layout - gathered.shard.0 = omega (arith, c.shards.ensures.count) in
    sound_of c.args.parts.0 gathered c.args.entries c.requires.can
    (record { layout = gathered.layout; below = gathered.height.0 - 1; worlds = c.in_ok-worlds.worlds; carried = c.in_ok-carried.carried }) refl refl
    (c.in_ok-worlds.ensures ∙ ap (λ (k : ℕ). replicate gathered.shard.0 none ++ c.args.entries ∷ replicate k none) after)
    (c.in_ok-carried.ensures ∙ ap (λ (k : ℕ). replicate gathered.shard.0 nothing ++ gathered.taken ∷ replicate k nothing) after)
