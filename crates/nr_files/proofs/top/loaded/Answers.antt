-- The goals of `top::loaded` that no tactic closes.
use Rattle.std.proofs.Common.{refl}
use Rattle.nr_shell.proofs.Leading.{read_follows, stop_follows}
use Rattle.nr_files.specs.Answers.{refuses}
use Rattle.nr_files.specs.Command.{request_in}
use Rattle.nr_files.specs.Plans.{by_bytes}
use Rattle.nr_files.proofs.top.loaded.Goals as goal

pub returns-in-Ok : goal.returns-in-Ok
returns-in-Ok g c = read_follows (by_bytes (request_in c.args.request.now) c.args.config.now) (c.in-Ok.ensures refuses refl) c.deref.ensures.value c.judged.ensures

pub returns-in-Err : goal.returns-in-Err
returns-in-Err g c = stop_follows (by_bytes (request_in c.args.request.now) c.args.config.now) (c.in-Err.ensures refuses refl)
