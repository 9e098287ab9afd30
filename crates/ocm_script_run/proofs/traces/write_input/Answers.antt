use Rattle.std.proofs.Common.{◌++◌, length, arith}
use Rattle.std.specs.Int.{w64, to_be_bytes}
use Rattle.std.proofs.lemmas.Result.{err_from_is_err_and}
use Rattle.ocm_script_run.proofs.Logging.{AppendsPart-behind, AppendsPart-front}
use Rattle.ocm_script_run.proofs.traces.write_input.Goals as goal

pub returns-in_err-write_all-clause-err : goal.returns-in_err-write_all-clause-err
returns-in_err-write_all-clause-err g c =
    let p = err_from_is_err_and c.from_residual.result c.from_residual.ensures.1 in
    rw p.1 (AppendsPart-front _ _ (to_be_bytes w64 (length c.args.image.now)) (c.args.image.now ++ c.args.log.now) (rw c.to_be_bytes.ensures at c.in_err-write_all.ensures.err))

pub returns-in_err-write_all-2-clause-err : goal.returns-in_err-write_all-2-clause-err
returns-in_err-write_all-2-clause-err g c =
    let p = err_from_is_err_and c.from_residual-in_err-write_all-2.result c.from_residual-in_err-write_all-2.ensures.1 in
    rw p.1
    (AppendsPart-behind _ _ _ (to_be_bytes w64 (length c.args.image.now)) (c.args.image.now ++ c.args.log.now) (rw c.to_be_bytes.ensures at c.in_ok-write_all.ensures.ok)
    (AppendsPart-front _ _ c.args.image.now c.args.log.now c.in_err-write_all-2.ensures.err))

pub returns-in_err-write_all-3-clause-err : goal.returns-in_err-write_all-3-clause-err
returns-in_err-write_all-3-clause-err g c =
    let p = err_from_is_err_and c.from_residual-in_err-write_all-3.result c.from_residual-in_err-write_all-3.ensures.1 in
    rw p.1
    (AppendsPart-behind _ _ _ (to_be_bytes w64 (length c.args.image.now)) (c.args.image.now ++ c.args.log.now) (rw c.to_be_bytes.ensures at c.in_ok-write_all.ensures.ok)
    (AppendsPart-behind _ _ _ c.args.image.now c.args.log.now c.in_ok-write_all-2.ensures.ok c.in_err-write_all-3.ensures.err))

pub returns-in_err-write_all-clause-bytes : goal.returns-in_err-write_all-clause-bytes
returns-in_err-write_all-clause-bytes g c = λ i. omega (arith, c.type_inv.image i)

pub returns-in_err-write_all-2-clause-bytes : goal.returns-in_err-write_all-2-clause-bytes
returns-in_err-write_all-2-clause-bytes g c = λ i. omega (arith, c.type_inv.image i)

pub returns-in_err-write_all-3-clause-bytes : goal.returns-in_err-write_all-3-clause-bytes
returns-in_err-write_all-3-clause-bytes g c = λ i. omega (arith, c.type_inv.image i)

pub returns-clause-bytes : goal.returns-clause-bytes
returns-clause-bytes g c = λ i. omega (arith, c.type_inv.image i)
