-- The goals of `crew::start` that no tactic closes.
use denote.Exit.{yes}
use mir.Syntax.{named}
use denote.Struct.Field.{shr_ref_field, u64-field}
use Rattle.std.specs.contracts.sync.atomic.AtomicBool
use denote.Param.{param}
use denote.Param.Send.{sendable, param_send, arg_send, shr_send}
use Rattle.std.proofs.Crossing.{crosses, Box-send}
use Rattle.nr_workers.proofs.Crossing.{closure_send, run_sync, worker_send}
use Rattle.nr_workers.proofs.crew.start.Goals as goal

pub spawn_with-requires-send-F : goal.spawn_with-requires-send-F
spawn_with-requires-send-F g c κs within =
    let r = g.row in
    let t = c.type_bounds in
    let worker = worker_send (param 2 r.P) (param 4 r.P-World) (param 5 r.P-Working) (param 6 r.P-Parcel) (param 7 r.P-Report) g.P.Phases t.send-P-World t.send-P-Working t.send-P-Parcel t.send-P-Report in
    let run = run_sync (record { mir = named 8; lft = κs.1.1.1.1.1.1.1.1.0 }) (param 1 r.R) (param 2 r.P) (param 3 r.G) (param 4 r.P-World) (param 5 r.P-Working) (param 6 r.P-Parcel) (param 7 r.P-Report) g.P.Phases t.sync-R t.sync-P t.sync-G t.send-P-Parcel in
    param_send 2 _ (arg_send _ yes _ (closure_send _ u64-field.row (shr_ref_field (record { mir = named 6; lft = κs.1.1.1.1.1.1.0 }) AtomicBool.the_row tt).row _ _ (search (crosses, sendable) depth 40) (search (crosses, sendable) depth 40) (Box-send _ worker) (shr_send _ _ _ run)))
