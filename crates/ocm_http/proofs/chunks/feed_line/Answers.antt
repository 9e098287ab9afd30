use Rattle.std.proofs.Common.{rules, ◌≡◌, ◌<◌, ◌≤◌, ◌-◌, ◌++◌, length, take, subst, arith}
use Rattle.std.proofs.lemmas.Grind.{common_steps}
use Rattle.httparse.specs.Grammar.{HasNoChunkLine, MayBecomeChunkLine, NeverHasChunkLine}
use Rattle.ocm_http_heads.specs.ChunkLines.{LineOf}
use Rattle.ocm_http.proofs.LineSteps.{line_full, line_refused, line_goes, line_done, line_fault, line_longer}
use Rattle.ocm_http.proofs.chunks.feed_line.Goals as goal

pub returns-then-before-eq-LINE-clause-fault : goal.returns-then-before-eq-LINE-clause-fault
returns-then-before-eq-LINE-clause-fault c = line_full c.args.rules c.args.message c.args.place c.args.line c.args.piece.now c.requires.some c.requires.stands (search rules)

pub returns-in-Refused-clause-fault : goal.returns-in-Refused-clause-fault
returns-in-Refused-clause-fault c =
    let text : c.as_slice.result.now ≡ c.args.line ++ take c.min-taken.result c.args.piece.now = grind (arith, common_steps) in
    line_refused c.args.rules c.args.message c.args.place c.args.line c.args.piece.now c.min-taken.result (subst NeverHasChunkLine text c.in-Refused.ensures)

pub returns-in-Unfinished-clause-fed : goal.returns-in-Unfinished-clause-fed
returns-in-Unfinished-clause-fed c =
    let text : c.as_slice.result.now ≡ c.args.line ++ take c.min-taken.result c.args.piece.now = grind (arith, common_steps) in
    let line : c.add.new.self ≡ c.args.line ++ take c.min-taken.result c.args.piece.now = grind (arith, common_steps) in
    let small : length c.args.line ≤ 256 = c.requires.stands.1.0 in
    let some : 0 < c.min-taken.result = search rules in
    let within : c.min-taken.result ≤ length c.args.piece.now = search rules in
    let few : c.min-taken.result ≤ 256 - length c.args.line = search rules in
    rw line (line_goes c.args.rules c.args.message c.args.place c.args.line c.args.piece.now c.min-taken.result some within c.requires.stands few
    (subst HasNoChunkLine text c.in-Unfinished.ensures.0) (subst MayBecomeChunkLine text c.in-Unfinished.ensures.1))

pub overflow_sub-result : goal.overflow_sub-result
overflow_sub-result c =
    let more : length c.args.line < c.in-Line.len = line_longer c.args.line (take c.min-taken.result c.args.piece.now) c.in-Line.len c.in-Line.size c.requires.stands.1.1
    (let text : c.as_slice.result.now ≡ c.args.line ++ take c.min-taken.result c.args.piece.now = grind (arith, common_steps) in subst (λ t. LineOf t c.in-Line.len c.in-Line.size) text c.in-Line.ensures.0)
    (let text : c.as_slice.result.now ≡ c.args.line ++ take c.min-taken.result c.args.piece.now = grind (arith, common_steps) in subst (λ t. c.in-Line.len ≤ length t) text c.in-Line.ensures.1) in
    search rules

pub returns-in-Ok-clause-fed : goal.returns-in-Ok-clause-fed
returns-in-Ok-clause-fed c =
    let text : c.as_slice.result.now ≡ c.args.line ++ take c.min-taken.result c.args.piece.now = grind (arith, common_steps) in
    let within : c.min-taken.result ≤ length c.args.piece.now = search rules in
    let few : c.min-taken.result ≤ 256 - length c.args.line = search rules in
    let before : c.len-before.result ≡ length c.args.line = search rules in
    rw before (line_done c.args.rules c.args.message c.args.place c.args.line c.args.piece.now c.min-taken.result c.in-Line.len c.in-Line.size c.in-Ok.stage within c.requires.stands few
    (subst (λ t. LineOf t c.in-Line.len c.in-Line.size) text c.in-Line.ensures.0) (subst (λ t. c.in-Line.len ≤ length t) text c.in-Line.ensures.1) c.in-Ok.ensures.stage)

pub returns-clause-fault : goal.returns-clause-fault
returns-clause-fault c =
    let text : c.as_slice.result.now ≡ c.args.line ++ take c.min-taken.result c.args.piece.now = grind (arith, common_steps) in
    let few : c.min-taken.result ≤ 256 - length c.args.line = search rules in
    line_fault c.args.rules c.args.message c.args.place c.args.line c.args.piece.now c.min-taken.result c.in-Line.len c.in-Line.size _ c.requires.stands few
    (subst (λ t. LineOf t c.in-Line.len c.in-Line.size) text c.in-Line.ensures.0) (subst (λ t. c.in-Line.len ≤ length t) text c.in-Line.ensures.1) c.in-Err.ensures.of_bytes c.in-Err.ensures.fault
