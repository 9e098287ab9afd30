use Rattle.std.proofs.Common.{arith, rules, tests, length, sym, ◌∙◌}
use Rattle.std.specs.List.{slice_split}
use Rattle.std.proofs.lemmas.Iterator.Splits.{YieldsList-from_slice_split}
use Rattle.std.proofs.lemmas.Iterator.Consumers.{YieldsList-turn, YieldsList-end}
use Rattle.std.proofs.lemmas.List.{length_push}
use Rattle.ocm_path.specs.Paths.{is_slash}
use Rattle.ocm_path.proofs.TextRead.{IsTaken-more, IsTaken-stop, IsTaken-end}
use Rattle.ocm_path.proofs.reading.own_segments.Goals as goal

pub loop-piece-preserved : goal.loop-piece-preserved
loop-piece-preserved c =
    let t = YieldsList-turn (YieldsList-from_slice_split {s = c.into_iter-piece-iterator.result} _ is_slash c.args.pieces.now (search rules) (search rules) (search rules) (λ x r q k. search (rules, tests))) c.loop-piece.yielded _ c.loop-piece.yielded_by _ _ c.in-Some.piece c.in-Some.is c.next.ensures.steps in
    record { can_next = search rules; is_finite = search rules; taken = rw (c.in_ok-push-in-Some-2.ensures.ok, length_push) (IsTaken-more c.loop-piece.segments (slice_split is_slash c.args.pieces.now) (length c.loop-piece.yielded) c.in-Some.piece.now _ t.0 t.1 (sym c.in-Some-2.is ∙ c.in_ok-segment.ensures) c.loop-piece.invariant.taken) }

pub returns-in-None-2 : goal.returns-in-None-2
returns-in-None-2 c =
    let t = YieldsList-turn (YieldsList-from_slice_split {s = c.into_iter-piece-iterator.result} _ is_slash c.args.pieces.now (search rules) (search rules) (search rules) (λ x r q k. search (rules, tests))) c.loop-piece.yielded _ c.loop-piece.yielded_by _ _ c.in-Some.piece c.in-Some.is c.next.ensures.steps in
    IsTaken-stop c.loop-piece.segments (slice_split is_slash c.args.pieces.now) (length c.loop-piece.yielded) c.in-Some.piece.now t.0 t.1 (sym c.in-None-2.is ∙ c.in_ok-segment.ensures) c.loop-piece.invariant.taken

pub returns : goal.returns
returns c =
    let t = YieldsList-end (YieldsList-from_slice_split {s = c.into_iter-piece-iterator.result} _ is_slash c.args.pieces.now (search rules) (search rules) (search rules) (λ x r q k. search (rules, tests))) c.loop-piece.yielded _ c.loop-piece.yielded_by _ _ c.in-None.is c.next.ensures.steps in
    IsTaken-end c.loop-piece.segments (slice_split is_slash c.args.pieces.now) (length c.loop-piece.yielded) (omega (arith, t.1)) c.loop-piece.invariant.taken
