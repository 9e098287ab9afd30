use Rattle.std.proofs.Common.{◌≡◌, [], ◌∷◌, map, arith}
use Rattle.std.specs.Prelude.{codes}
use Rattle.std.specs.String.{string_bytes}
use Rattle.ocm_commands_dav.proofs.Spelling.{five, unasked}
use Rattle.ocm_commands_dav.proofs.tasks.Task.read.Goals as goal

pub returns-in-len5-clause-other : goal.returns-in-len5-clause-other
returns-in-len5-clause-other c =
    let words = map (λ word. string_bytes word) c.args.words.now in
    let all = five (λ word. string_bytes word) c.args.words.now c.dav-item.result c.verb-item.result c.host-item.result c.secret-item.result c.path-item.result (omega arith) (omega arith) c.dav-item.is c.verb-item.is c.host-item.is c.secret-item.is c.path-item.is in
    let dav : c.as_str.result.now ≡ codes "dav" = c.is_word.ensures.0 c.if-is_word.true in
    let same : words ≡ codes "dav" ∷ c.as_str-in-len5.result.now ∷ c.as_str-in-len5-2.result.now ∷ c.as_str-in-len5-3.result.now ∷ c.as_str-in-len5-4.result.now ∷ [] = cc in
    unasked words c.as_str-in-len5.result.now c.as_str-in-len5-2.result.now c.as_str-in-len5-3.result.now c.as_str-in-len5-4.result.now same c.spelled.result c.spelled.ensures.cause
