use Rattle.std.proofs.Common.{◌++◌, take}
use Rattle.ocm_base.proofs.Pieces.{Appends-twice, Takes-twice}
use Rattle.ocm_base.proofs.whole.read_whole.Goals as goal

pub returns-then-len-n-clause-err : goal.returns-then-len-n-clause-err
returns-then-len-n-clause-err g c =
    let part = take c.in-Ok.n c.read.new.buf in
    let left = g.S.Source.left in
    (c.loop-n.bytes ++ part, Takes-twice (left c.args.source.now) (left c.loop-n.source) (left c.read.new.self) c.loop-n.bytes part c.loop-n.invariant.so_far c.in-Ok.ensures.taken)

pub returns-then-len-n-clause-received_some : goal.returns-then-len-n-clause-received_some
returns-then-len-n-clause-received_some g c =
    let part = take c.in-Ok.n c.read.new.buf in
    let received = g.S.Source.received in
    (c.loop-n.bytes ++ part, Appends-twice (received c.args.source.now) (received c.loop-n.source) (received c.read.new.self) c.loop-n.bytes part c.loop-n.invariant.received c.in-Ok.ensures.received)

pub returns-then-is_err-clause-err : goal.returns-then-is_err-clause-err
returns-then-is_err-clause-err g c =
    let part = take c.in-Ok.n c.read.new.buf in
    let left = g.S.Source.left in
    (c.loop-n.bytes ++ part, Takes-twice (left c.args.source.now) (left c.loop-n.source) (left c.read.new.self) c.loop-n.bytes part c.loop-n.invariant.so_far c.in-Ok.ensures.taken)

pub returns-then-is_err-clause-received_some : goal.returns-then-is_err-clause-received_some
returns-then-is_err-clause-received_some g c =
    let part = take c.in-Ok.n c.read.new.buf in
    let received = g.S.Source.received in
    (c.loop-n.bytes ++ part, Appends-twice (received c.args.source.now) (received c.loop-n.source) (received c.read.new.self) c.loop-n.bytes part c.loop-n.invariant.received c.in-Ok.ensures.received)
