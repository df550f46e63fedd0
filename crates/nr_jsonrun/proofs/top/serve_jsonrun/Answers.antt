-- The goals of `top::serve_jsonrun` that no tactic closes.
use Rattle.std.proofs.Common.{Err, ap}
use Rattle.nr_shell.specs.declared.stop.Stop.{Stop}
use Rattle.nr_words.specs.Words.{names_in}
use Rattle.nr_files.proofs.Last.{no_write_fault, read_fault, stop_serves}
use Rattle.nr_files.specs.declared.status.Status.{Status}
use Rattle.nr_jsonrun.specs.Plans.{jsonrun_plan}
use Rattle.nr_jsonrun.proofs.top.serve_jsonrun.Goals as goal

pub returns-in-Ok-clause-serves : goal.returns-in-Ok-clause-serves
returns-in-Ok-clause-serves g c =
    c.tell.ensures.serves (jsonrun_plan (names_in c.args.names.now)) (g.S.Shelf.held c.args.shelf.now) (g.S.Shelf.asked c.args.shelf.now) (g.S.Shelf.asked c.output_of.new.shelf) c.in-Ok.ensures.follows.answers

pub returns-in-Ok-clause-read_fault : goal.returns-in-Ok-clause-read_fault
returns-in-Ok-clause-read_fault g c = λ name e. absurd (c.tell.ensures.no_read_fault name e)

pub returns-in-Err-clause-serves : goal.returns-in-Err-clause-serves
returns-in-Err-clause-serves g c =
    stop_serves c.in-Err.field-0.stop c.in-Err.field-0.file.now c.stop_status.result (jsonrun_plan (names_in c.args.names.now)) (g.S.Shelf.held c.args.shelf.now) (g.S.Shelf.asked c.args.shelf.now)
    (g.S.Shelf.asked c.output_of.new.shelf) (g.K.Sink.taken c.args.sink.now) c.stop_status.ensures c.in-Err.ensures.follows.answers c.in-Err.ensures.names

pub returns-in-Err-clause-read_fault : goal.returns-in-Err-clause-read_fault
returns-in-Err-clause-read_fault g c = λ name e.
    let unread = read_fault c.in-Err.field-0.stop c.in-Err.field-0.file.now name c.stop_status.result (jsonrun_plan (names_in c.args.names.now)) (g.S.Shelf.held c.args.shelf.now) (g.S.Shelf.asked c.args.shelf.now)
    (g.S.Shelf.asked c.output_of.new.shelf) c.stop_status.ensures c.in-Err.ensures.follows.answers e in
    c.in-Err.ensures.follows.failed (ap (λ (s : Stop Status). Err s) unread)

pub returns-in-Err-clause-write_fault : goal.returns-in-Err-clause-write_fault
returns-in-Err-clause-write_fault g c = λ e.
    absurd (no_write_fault c.in-Err.field-0.stop c.in-Err.field-0.file.now c.stop_status.result (jsonrun_plan (names_in c.args.names.now)) (g.S.Shelf.held c.args.shelf.now) (g.S.Shelf.asked c.args.shelf.now)
    (g.S.Shelf.asked c.output_of.new.shelf) c.stop_status.ensures c.in-Err.ensures.follows.answers e)
