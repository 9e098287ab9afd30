use denote.Param.Send.{arg_send, param_send}
use Rattle.ocm_net_adapters.proofs.Crossing.{door-send, post-send}
use Rattle.ocm_cases_sockets.proofs.servers.run_server.Goals as goal

pub run_workers-requires-send-L : goal.run_workers-requires-send-L
run_workers-requires-send-L g c κs within = search (param_send, arg_send, door-send, c.type_bounds.sync-R)

pub run_workers-requires-send-N : goal.run_workers-requires-send-N
run_workers-requires-send-N g c κs within = search (param_send, arg_send, post-send, c.type_bounds.sync-R)
