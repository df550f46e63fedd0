-- A contract caller is Send and Sync where a list of functions is Send.
use denote.Param.Send.{IsSend, IsSync, sendable, view_send, view_sync}
use denote.Param.SendFields.{as_row_send, declared_send, declared_sync}
use Rattle.std.proofs.Crossing.{crosses}
use Rattle.nr_bytes.specs.contracts.list.List as L
use Rattle.nr_wasmtypes.specs.contracts.module.FuncBody as B
use Rattle.nr_wasmtypes.specs.contracts.module.Module as M
use Rattle.nr_wasmvalid.specs.contracts.valid.Valid.TheInside as V
use Rattle.nr_contract.specs.contracts.keeping.Kept as P
use Rattle.nr_contract.specs.contracts.keeping.KeptModules as K
use Rattle.nr_contract.specs.contracts.caller.ContractCaller as C
use Rattle.nr_contract.specs.contracts.caller.ContractCaller.TheInside as D

kept_send : IsSend (L.the_row B.the_row) → IsSend P.the_row
kept_send bodies = declared_send P.the_type (search (crosses, sendable) depth 40, (view_send _ _ _ _ _ (declared_send V.the_type (declared_send M.the_type (search (crosses, sendable) depth 40, (search (crosses, sendable) depth 40, (search (crosses, sendable) depth 40, (search (crosses, sendable) depth 40, (search (crosses, sendable) depth 40, (search (crosses, sendable) depth 40, (search (crosses, sendable) depth 40, (search (crosses, sendable) depth 40, (as_row_send (L.the_field B.the_row) bodies, (search (crosses, sendable) depth 40, tt)))))))))), tt)), (search (crosses, sendable) depth 40, (search (crosses, sendable) depth 40, tt))))

modules_send : IsSend (L.the_row B.the_row) → IsSend K.the_row
modules_send bodies = search (kept_send, crosses, sendable) depth 40

pub caller_send : IsSend (L.the_row B.the_row) → IsSend C.the_row
caller_send bodies = view_send _ _ _ _ _ (declared_send D.the_type (search (crosses, sendable) depth 40, (modules_send bodies, tt)))

modules_sync : IsSend (L.the_row B.the_row) → IsSync K.the_row
modules_sync bodies = search (kept_send, crosses, sendable) depth 40

pub caller_sync : IsSend (L.the_row B.the_row) → IsSync C.the_row
caller_sync bodies = view_sync _ _ _ _ _ (declared_sync D.the_type (search (crosses, sendable) depth 40, (modules_sync bodies, tt)))
