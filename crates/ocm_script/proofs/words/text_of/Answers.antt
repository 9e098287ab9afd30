use Rattle.std.proofs.Common.{refl, sym, ap, Some}
use Rattle.std.proofs.lemmas.Str.{is_utf8-from_IsUtf8}
use Rattle.ocm_script.proofs.TextTests.{not_text}
use Rattle.ocm_script.proofs.words.text_of.Goals as goal

pub returns-in-Ok : goal.returns-in-Ok
returns-in-Ok c = rw (is_utf8-from_IsUtf8 c.args.word.now c.in-Ok.ensures.cases.1) (ap Some (sym c.in-Ok.ensures.cases.0))

pub returns-in-Err : goal.returns-in-Err
returns-in-Err c = rw (not_text c.args.word.now c.in-Err.ensures.cases.0) refl
