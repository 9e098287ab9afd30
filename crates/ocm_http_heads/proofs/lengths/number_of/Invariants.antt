use Rattle.std.proofs.Common.{◌≡◌, ◌<◌, ◌^◌, drop, true}
use Rattle.std.specs.Char.{is_ascii_digit}
use Rattle.std.specs.List.{list_all}
use Rattle.ocm_texts.specs.Decimal.{number_after}
use Rattle.ocm_http_heads.proofs.lengths.number_of.Given as goal

-- the number that the digits so far write
abbrev pub invariant-loop-digit : goal.invariant-loop-digit
invariant-loop-digit l = record {
  number : number_after l.number (drop l.digit-index l.digits) ≡ number_after 0 l.digits;
  below : l.number < 10 ^ l.digit-index;
  rest : list_all is_ascii_digit (drop l.digit-index l.digits) ≡ true;
}
