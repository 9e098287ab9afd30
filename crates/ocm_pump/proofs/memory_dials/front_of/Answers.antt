use Rattle.ocm_pump.proofs.Moves.{front_whole, front_length, front_within}
use Rattle.ocm_pump.proofs.memory_dials.front_of.Goals as goal

pub slice_bounds-result-end : goal.slice_bounds-result-end
slice_bounds-result-end c = front_length 33619968 c.args.bytes.now c.if-bytes-le-MOST_EXCHANGE_BYTES.false

pub returns-then-bytes-le-MOST_EXCHANGE_BYTES-clause-front : goal.returns-then-bytes-le-MOST_EXCHANGE_BYTES-clause-front
returns-then-bytes-le-MOST_EXCHANGE_BYTES-clause-front c = front_whole 33619968 c.args.bytes.now c.if-bytes-le-MOST_EXCHANGE_BYTES.true

pub returns-else-bytes-le-MOST_EXCHANGE_BYTES-clause-within : goal.returns-else-bytes-le-MOST_EXCHANGE_BYTES-clause-within
returns-else-bytes-le-MOST_EXCHANGE_BYTES-clause-within c = front_within 33619968 c.args.bytes.now
