use Rattle.std.proofs.Common.{◌≡◌, drop}
use Rattle.ocm_http.specs.Written as written
use Rattle.ocm_http.proofs.writing.add_fields.Given as goal

-- what is written and what is left make the whole
abbrev pub invariant-loop-field : goal.invariant-loop-field
invariant-loop-field l = written.with_fields l.text (drop l.field-index l.fields) ≡ written.with_fields l.fn.text l.fields
