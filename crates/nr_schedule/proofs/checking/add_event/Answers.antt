-- The goals of `checking::add_event` that no tactic closes.
use Rattle.std.proofs.Common.{◌≡◌, ◌++◌, length, sym, ap, subst, ◌∙◌}
use Rattle.nr_chunk.specs.Chain.{rules_of}
use Rattle.nr_chunk.specs.Runs.{chain_in}
use Rattle.nr_overlap.specs.Moves.{moved}
use Rattle.nr_schedule.specs.Checking.{why_line}
use Rattle.nr_schedule.specs.Driving.{IsWithin}
use Rattle.nr_schedule.proofs.Drives.{kept_driven, made_driven, made_inside, made_next, made_stand, not_enabled, on_any, on_one, refused_stand, refused_within}
use Rattle.nr_schedule.proofs.Within.{within_as}
use Rattle.nr_schedule.proofs.checking.add_event.Goals as goal

pub add_made-requires-clause-inside : goal.add_made-requires-clause-inside
add_made-requires-clause-inside g c =
    let a = c.args.driven.now in
    made_inside a.core c.step.new.self (moved a.core.positions c.args.event) c.args.event c.in-Ok.ensures.2 c.requires.inside

pub add_made-requires-clause-next : goal.add_made-requires-clause-next
add_made-requires-clause-next g c =
    made_next c.args.driven.now c.step.new.self c.args.event c.requires.driven c.requires.inside c.in-Ok.ensures.1 c.in-Ok.ensures.2

pub returns-in-Ok-clause-driven : goal.returns-in-Ok-clause-driven
returns-in-Ok-clause-driven g c =
    on_any c.add_made.result _
    (made_driven c.args.driven.now c.step.new.self c.add_made.new.text c.args.event c.requires.driven c.requires.inside c.in-Ok.ensures.1 c.in-Ok.ensures.2)

pub returns-in-Ok-clause-standing : goal.returns-in-Ok-clause-standing
returns-in-Ok-clause-standing g c =
    on_one c.add_made.result _ _ c.add_made.ensures (λ text.
    made_stand c.args.driven.now c.step.new.self c.add_made.new.text c.args.event c.requires.driven c.requires.inside c.in-Ok.ensures.1 c.in-Ok.ensures.2 text)

-- ---- where it isn't enabled
pub add_why-requires : goal.add_why-requires
add_why-requires g c =
    let a = c.args.driven.now in
    let why = c.in-Err-NotEnabled.why in
    let is = not_enabled (rules_of (chain_in a.core.phases)) a.core c.step.new.self c.args.event c.in-Err-NotEnabled.field-0 why c.in-Err-NotEnabled.field-0-is c.in-Err-NotEnabled.ensures in
    within_as (length c.phases.result.now.blocks) why _
    (subst (λ p. IsWithin (length p.blocks) why) (sym c.phases.ensures) (refused_within a c.step.new.self c.args.event why c.requires.driven c.requires.inside is.0 is.1))
    (cc (c.in-Err-NotEnabled.why-is))

pub returns-in-Err-NotEnabled-clause-driven : goal.returns-in-Err-NotEnabled-clause-driven
returns-in-Err-NotEnabled-clause-driven g c =
    let a = c.args.driven.now in
    let is = not_enabled (rules_of (chain_in a.core.phases)) a.core c.step.new.self c.args.event c.in-Err-NotEnabled.field-0 c.in-Err-NotEnabled.why c.in-Err-NotEnabled.field-0-is c.in-Err-NotEnabled.ensures in
    on_any c.add_why.result _ (kept_driven a c.step.new.self c.add_why.new.text c.requires.driven is.1)

pub returns-in-Err-NotEnabled-clause-standing : goal.returns-in-Err-NotEnabled-clause-standing
returns-in-Err-NotEnabled-clause-standing g c =
    let a = c.args.driven.now in
    let why = c.in-Err-NotEnabled.why in
    let is = not_enabled (rules_of (chain_in a.core.phases)) a.core c.step.new.self c.args.event c.in-Err-NotEnabled.field-0 why c.in-Err-NotEnabled.field-0-is c.in-Err-NotEnabled.ensures in
    let same = c.in-Err-NotEnabled.why-is in
    on_one c.add_why.result _ _ c.add_why.ensures (λ text.
    let told : c.add_why.new.text ≡ a.text ++ why_line (chain_in c.phases.result.now) why = cc (text, same) in
    refused_stand a c.step.new.self c.add_why.new.text c.args.event why is.0 is.1 (told ∙ ap (λ p. a.text ++ why_line (chain_in p) why) c.phases.ensures))
