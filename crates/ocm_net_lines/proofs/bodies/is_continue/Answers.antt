use Rattle.std.proofs.Common.{◌≡◌, map, length, min, take, drop, codes, ◌&&◌, sym, ap, ◌∙◌, arith}
use Rattle.std.proofs.lemmas.List.{take_min}
use Rattle.std.specs.Char.{to_ascii_lowercase}
use Rattle.std.specs.List.{list_all}
use Rattle.ocm_http_heads.specs.Heads.{is_same}
use Rattle.httparse.specs.Grammar as grammar
use Rattle.ocm_net_lines.proofs.bodies.is_continue.Goals as goal

pub returns-else-is_word : goal.returns-else-is_word
returns-else-is_word c =
    let word = c.skip_ows-word.result.now in
    let member = grammar.skip_ows c.args.member.now in
    let end : c.min-end.result ≡ min (length word) 12 = c.min-end.ensures in
    let least : min 12 (length word) ≡ c.min-end.result = omega arith in
    let front = ap (take 12) (sym c.skip_ows-word.ensures) ∙ (sym (take_min 12 word) ∙ ap (λ n. take n word) least) in
    let other = ap (λ text. is_same (map to_ascii_lowercase text) (codes "100-continue")) front ∙ (sym c.is_word.ensures ∙ c.if-is_word.false) in
    c.if-is_word.false ∙ sym (ap (λ same. same && list_all grammar.is_ows (drop 12 member)) other)
