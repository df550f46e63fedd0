-- The goals of `threads::callers` that no tactic closes.
use denote.Exit.{yes}
use denote.Param.{arg}
use mir.Syntax.{ty_ptr}
use Rattle.nr_contract.specs.contracts.keeping.KeptModules as K
use Rattle.std.proofs.Crossing.{crosses}
use denote.Param.Send.{sendable, param_send, param_sync, given_send, view_send, view_sync, arg_send, arg_sync}
use denote.Param.SendFields.{as_row_send, as_row_sync, declared_send, declared_sync}
use Rattle.nr_bytes.specs.contracts.list.List as L
use Rattle.nr_wasmtypes.specs.contracts.module.FuncBody as B
use Rattle.nr_wasmtypes.specs.contracts.module.Module as M
use Rattle.nr_wasmvalid.specs.contracts.valid.Valid as W
use Rattle.nr_wasmvalid.specs.contracts.valid.Valid.TheInside as V
use Rattle.nr_contract.specs.contracts.caller.ContractCaller as C
use Rattle.nr_contract.specs.contracts.caller.ContractCaller.TheInside as D
use Rattle.nr_contract.proofs.threads._callers.Goals as goal

pub is_send_and_sync-requires-2-send-T : goal.is_send_and_sync-requires-2-send-T
is_send_and_sync-requires-2-send-T c κs = param_send 0 _ (arg_send _ yes M.the_row (declared_send M.the_type (search (crosses, sendable) depth 40, (search (crosses, sendable) depth 40, (search (crosses, sendable) depth 40, (search (crosses, sendable) depth 40, (search (crosses, sendable) depth 40, (search (crosses, sendable) depth 40, (search (crosses, sendable) depth 40, (search (crosses, sendable) depth 40, (as_row_send (L.the_field B.the_row) (record { owned = c.is_send_and_sync.ensures.send.owned; leaving = λ k x w. tt }), (search (crosses, sendable) depth 40, tt))))))))))))

pub is_send_and_sync-requires-2-sync-T : goal.is_send_and_sync-requires-2-sync-T
is_send_and_sync-requires-2-sync-T c κs = param_sync 0 _ (arg_sync _ yes M.the_row (declared_sync M.the_type (search (crosses, sendable) depth 40, (search (crosses, sendable) depth 40, (search (crosses, sendable) depth 40, (search (crosses, sendable) depth 40, (search (crosses, sendable) depth 40, (search (crosses, sendable) depth 40, (search (crosses, sendable) depth 40, (search (crosses, sendable) depth 40, (as_row_sync (L.the_field B.the_row) (record { shared = c.is_send_and_sync.ensures.sync.shared }), (search (crosses, sendable) depth 40, tt))))))))))))

pub is_send_and_sync-requires-3-send-T : goal.is_send_and_sync-requires-3-send-T
is_send_and_sync-requires-3-send-T c κs = param_send 0 _ (arg_send _ yes W.the_row (view_send _ _ _ _ _ (declared_send V.the_type (declared_send M.the_type (search (crosses, sendable) depth 40, (search (crosses, sendable) depth 40, (search (crosses, sendable) depth 40, (search (crosses, sendable) depth 40, (search (crosses, sendable) depth 40, (search (crosses, sendable) depth 40, (search (crosses, sendable) depth 40, (search (crosses, sendable) depth 40, (as_row_send (L.the_field B.the_row) (record { owned = c.is_send_and_sync.ensures.send.owned; leaving = λ k x w. tt }), (search (crosses, sendable) depth 40, tt)))))))))), tt))))

pub is_send_and_sync-requires-3-sync-T : goal.is_send_and_sync-requires-3-sync-T
is_send_and_sync-requires-3-sync-T c κs = param_sync 0 _ (arg_sync _ yes W.the_row (view_sync _ _ _ _ _ (declared_sync V.the_type (declared_sync M.the_type (search (crosses, sendable) depth 40, (search (crosses, sendable) depth 40, (search (crosses, sendable) depth 40, (search (crosses, sendable) depth 40, (search (crosses, sendable) depth 40, (search (crosses, sendable) depth 40, (search (crosses, sendable) depth 40, (search (crosses, sendable) depth 40, (as_row_sync (L.the_field B.the_row) (record { shared = c.is_send_and_sync.ensures.sync.shared }), (search (crosses, sendable) depth 40, tt)))))))))), tt))))

pub is_send_and_sync-requires-6-send-T : goal.is_send_and_sync-requires-6-send-T
is_send_and_sync-requires-6-send-T c κs = param_send 0 _ (arg_send _ yes C.the_row (view_send _ _ _ _ _ (declared_send D.the_type (search (crosses, sendable) depth 40, (record { owned = c.is_send_and_sync-5.ensures.send.owned; leaving = λ k. (given_send 0 ty_ptr (arg _ yes K.the_row) c.is_send_and_sync-5.ensures.send).leaving yes }, tt)))))

pub is_send_and_sync-requires-6-sync-T : goal.is_send_and_sync-requires-6-sync-T
is_send_and_sync-requires-6-sync-T c κs = param_sync 0 _ (arg_sync _ yes C.the_row (view_sync _ _ _ _ _ (declared_sync D.the_type (search (crosses, sendable) depth 40, (record { shared = c.is_send_and_sync-5.ensures.sync.shared }, tt)))))
