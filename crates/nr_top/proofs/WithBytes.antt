-- `run` and `check` behind their configuration.
use Rattle.std.proofs.Common.{◌≡◌, ℕ, [], List, Option, None, Some, ap, sym, ◌∙◌}
use Rattle.nr_chainfiles.proofs.Asking.{by_config_asks}
use Rattle.nr_chainfiles.specs.Plans.{by_config}
use Rattle.nr_config.specs.Config.{Config}
use Rattle.nr_configfile.specs.Plans.{config_plan}
use Rattle.nr_course.specs.Course.{Course}
use Rattle.nr_course.specs.Texts.{course_text}
use Rattle.nr_shell.proofs.WithBytes.{with_bytes_both, then_then}
use Rattle.nr_shell.specs.Plans.{Plan, Answer, and_then, with_bytes}
use Rattle.nr_top.proofs.Asking.{course_by_asks}
use Rattle.nr_top.specs.Plans.{by_course, course_by, course_plan, replay_by, replay_bytes, replay_plan}
use Rattle.nr_top.specs.Run.{loaded}
use Rattle.nr_top.specs.declared.status.Status.{Status}
use Rattle.nr_top.specs.declared.status.Status.TheVariants.{Config as faulty_config, Genesis as faulty_genesis, Blocks as faulty_blocks}
use Rattle.nr_words.specs.Command.{Names}

-- ---- over bytes that are there
module _ (names : Names) (c : Config) (genesis blocks : List ℕ) where
  pub course_with_bytes : and_then (with_bytes blocks (with_bytes genesis (by_config faulty_config faulty_genesis faulty_blocks names c))) (λ files. Answer (loaded files)) ≡ with_bytes blocks (with_bytes genesis (course_by names c))
  course_with_bytes =
      sym (with_bytes_both genesis blocks names.genesis names.blocks [] (by_config faulty_config faulty_genesis faulty_blocks names c) (λ files. Answer (loaded files))
      (by_config_asks faulty_config faulty_genesis faulty_blocks names c))

  pub run_with_bytes : and_then (with_bytes blocks (with_bytes genesis (course_by names c))) (λ o. Answer (course_text o)) ≡ replay_bytes names None c genesis blocks
  run_with_bytes = sym (with_bytes_both genesis blocks names.genesis names.blocks [] (course_by names c) (λ o. Answer (course_text o)) (course_by_asks names c))

  pub check_with_bytes : (file : List ℕ) → and_then (with_bytes blocks (with_bytes genesis (course_by names c))) (by_course file) ≡ replay_bytes names (Some file) c genesis blocks
  check_with_bytes file = sym (with_bytes_both genesis blocks names.genesis names.blocks [] (course_by names c) (by_course file) (course_by_asks names c))

-- ---- what stands behind the configuration
course_behind : (names : Names) → course_plan names ≡ and_then (config_plan faulty_config names.config) (course_by names)
course_behind names = then_then (config_plan faulty_config names.config) (by_config faulty_config faulty_genesis faulty_blocks names) (λ files. Answer (loaded files))

behind_course : (names : Names) (next : Course → Plan (List ℕ) Status) → and_then (course_plan names) next ≡ and_then (config_plan faulty_config names.config) (λ c. and_then (course_by names c) next)
behind_course names next =
    ap (λ (p : Plan Course Status). and_then p next) (course_behind names) ∙ then_then (config_plan faulty_config names.config) (course_by names) next

pub replay_behind : (names : Names) (schedule : Option (List ℕ)) → replay_plan names schedule ≡ and_then (config_plan faulty_config names.config) (replay_by names schedule)
replay_behind names None = behind_course names (λ o. Answer (course_text o))
replay_behind names (Some file) = behind_course names (by_course file)
