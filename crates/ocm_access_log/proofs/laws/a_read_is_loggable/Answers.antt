use Rattle.std.proofs.Common.{IsUtf8, arith, subst}
use Rattle.std.proofs.lemmas.Bool.{and_from}
use Rattle.std.proofs.lemmas.Str.{is_utf8-from_IsUtf8}
use Rattle.ocm_access_log.proofs.laws.a_read_is_loggable.Goals as goal

pub returns : goal.returns
returns c = record {
  place = omega arith;
  moment = omega arith;
  reads = and_from _ _ c.requires.reads c.requires.short;
  texts = (c.as_str-secret.ensures.is, is_utf8-from_IsUtf8 _ (subst IsUtf8 c.as_str-secret.ensures.text c.as_str-secret.utf8), c.segments-path.ensures.sound);
  digits = c.requires.digits;
}
