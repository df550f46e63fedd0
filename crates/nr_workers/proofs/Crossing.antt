-- A worker may be sent to a thread, and threads may share what the workers of a run need.
use denote.RattleType.{RattleType}
use denote.Ref.{NamedLft}
use denote.Param.Send.{IsSend, IsSync, sendable, shr_sync, view_sync}
use denote.Param.SendFields.{as_row_send, as_row_sync, declared_send, declared_sync, variants_send}
use denote.Struct.Field.{row_field, shr_ref_field}
use denote.Struct.Tuple.{type_at, TupleAt}
use mathlib.Core.List.{List, [], ◌∷◌}
use Prim.Native.Nat.{ℕ}
use Rattle.std.proofs.Crossing.{crosses}
use Rattle.std.proofs.MapsCrossing as maps
use Rattle.atomic_table.proofs.shared.Seat.TheSendSync as seat
use Rattle.atomic_table.proofs.shared.Shared.TheSendSync as shared
use Rattle.atomic_table.proofs.send_lease.SendLease.TheSendSync as lease
use Rattle.nr_overlap.specs.declared.phases.Phases.{Ghosts}
use Rattle.nr_exchange.specs.declared.planned.Planned as planned
use Rattle.nr_exchange.specs.contracts.planned.Serial as S
use Rattle.nr_exchange.specs.contracts.planned.SerialPlanned.TheImpl.{ghosts, no_dict}
use Rattle.nr_exchange.specs.contracts.exchange.Exchange as E
use Rattle.nr_exchange.specs.contracts.exchange.Exchange.TheInside as D
use Rattle.nr_workers.specs.contracts.crew.Run as C
use Rattle.nr_workers.specs.contracts.left.Left as O
use Rattle.nr_workers.specs.contracts.worker.Stage as T
use Rattle.nr_workers.specs.contracts.worker.Worker as M

exchange_sync : (P L : RattleType) (g : planned.Ghosts P.Denot L.Denot) → IsSend L → IsSync (E.the_row P L g)
exchange_sync P L g list = view_sync _ _ _ _ _ (declared_sync (D.the_type P L g) (search (crosses, sendable, shared.the_sync, lease.the_sync) depth 40, (search (crosses, sendable) depth 40, (search (crosses, sendable) depth 40, tt))))

pub run_sync : (a : NamedLft) (H P G W K L R : RattleType) (g : Ghosts P.Denot W.Denot K.Denot L.Denot R.Denot) → IsSync H → IsSync P → IsSync G → IsSend L → IsSync (C.the_row a H P G W K L R g)
run_sync a H P G W K L R g handle phases gate list =
    let planned = ghosts P W K L R g no_dict no_dict no_dict no_dict no_dict in
    let exchange = exchange_sync (S.the_row P W K L R) L planned list in
    declared_sync (C.the_type a H P G W K L R g)
    (search (crosses, sendable) depth 40, (search (crosses, sendable) depth 40, (search (crosses, sendable) depth 40, (as_row_sync (shr_ref_field a (E.the_row (S.the_row P W K L R) L planned) tt) (shr_sync _ _ _ exchange), (search (crosses, sendable) depth 40, tt)))))

left_send : (L : RattleType) → IsSend L → IsSend (O.the_row L)
left_send L list = declared_send (O.the_type L) (search (maps.crosses, crosses, sendable) depth 40, tt)

stage_send : (W K L : RattleType) → IsSend W → IsSend K → IsSend L → IsSend (T.the_row W K L)
stage_send W K L world working list =
    variants_send (T.enum W K L) (
      (search (crosses, sendable) depth 40, tt),
      ((search (crosses, sendable) depth 40, tt), ((search (crosses, sendable) depth 40, (search (crosses, sendable) depth 40, tt)), ((search (crosses, sendable) depth 40, (left_send L list, tt)), (tt, tt)))),
    )

pub worker_send : (P W K L R : RattleType) (g : Ghosts P.Denot W.Denot K.Denot L.Denot R.Denot) → IsSend W → IsSend K → IsSend L → IsSend R → IsSend (M.the_row P W K L R g)
worker_send P W K L R g world working list report =
    declared_send (M.the_type P W K L R g)
    (search (seat.the_send, crosses, sendable) depth 40, (search (crosses, sendable) depth 40, (search (crosses, sendable) depth 40, (stage_send W K L world working list, (search (crosses, sendable) depth 40, tt)))))

-- a closure of four captures
pub closure_send : (name : List ℕ) (A B C D : RattleType) → IsSend A → IsSend B → IsSend C → IsSend D → IsSend (TupleAt name (A ∷ B ∷ C ∷ D ∷ []))
closure_send name A B C D a b c d =
    declared_send (type_at name (A ∷ B ∷ C ∷ D ∷ [])) (as_row_send (row_field A) a, (as_row_send (row_field B) b, (as_row_send (row_field C) c, (as_row_send (row_field D) d, tt))))
