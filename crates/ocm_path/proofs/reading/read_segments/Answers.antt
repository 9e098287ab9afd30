use Rattle.std.proofs.Common.{arith, rules, tests, length}
use Rattle.std.specs.List.{slice_split}
use Rattle.std.proofs.lemmas.Iterator.Splits.{YieldsList-from_slice_split}
use Rattle.std.proofs.lemmas.Iterator.Consumers.{YieldsList-turn, YieldsList-end}
use Rattle.std.proofs.lemmas.List.{length_push}
use Rattle.std.proofs.lemmas.Result.{err_from_is_err_and}
use Rattle.ocm_path.specs.Paths.{is_slash}
use Rattle.ocm_path.proofs.SegmentsRead.{read_more, read_stop, read_end}
use Rattle.ocm_path.proofs.reading.read_segments.Goals as goal

pub returns-in_err-read_segment-clause-err : goal.returns-in_err-read_segment-clause-err
returns-in_err-read_segment-clause-err c =
    let t = YieldsList-turn (YieldsList-from_slice_split {s = c.into_iter-piece-iterator.result} _ is_slash c.args.pieces.now (search rules) (search rules) (search rules) (λ x r q k. search (rules, tests))) c.loop-piece.yielded _ c.loop-piece.yielded_by _ _ c.in-Some.piece c.in-Some.is c.next.ensures.steps in
    let p = err_from_is_err_and c.from_residual.result c.from_residual.ensures.1 in
    rw (p.1, p.2) (λ other. read_stop c.loop-piece.segments (slice_split is_slash c.args.pieces.now) (length c.loop-piece.yielded) c.in-Some.piece.now _ _ t.0 t.1 (c.in_err-read_segment.ensures.err other) c.loop-piece.invariant.reads)

pub loop-piece-preserved : goal.loop-piece-preserved
loop-piece-preserved c =
    let t = YieldsList-turn (YieldsList-from_slice_split {s = c.into_iter-piece-iterator.result} _ is_slash c.args.pieces.now (search rules) (search rules) (search rules) (λ x r q k. search (rules, tests))) c.loop-piece.yielded _ c.loop-piece.yielded_by _ _ c.in-Some.piece c.in-Some.is c.next.ensures.steps in
    record { can_next = search rules; is_finite = search rules; reads = rw (c.in_ok-push.ensures.ok, length_push) (read_more c.loop-piece.segments (slice_split is_slash c.args.pieces.now) (length c.loop-piece.yielded) c.in-Some.piece.now _ _ t.0 t.1 c.in_ok-read_segment.ensures.ok c.loop-piece.invariant.reads) }

pub returns-clause-ok : goal.returns-clause-ok
returns-clause-ok c =
    let t = YieldsList-end (YieldsList-from_slice_split {s = c.into_iter-piece-iterator.result} _ is_slash c.args.pieces.now (search rules) (search rules) (search rules) (λ x r q k. search (rules, tests))) c.loop-piece.yielded _ c.loop-piece.yielded_by _ _ c.in-None.is c.next.ensures.steps in
    read_end c.loop-piece.segments (slice_split is_slash c.args.pieces.now) (length c.loop-piece.yielded) _ (omega (arith, t.1)) c.loop-piece.invariant.reads
