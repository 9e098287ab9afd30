use Rattle.std.proofs.Common.{◌≤◌, ℕ, List, Result, Ok, Err, Option, Some, None}
use Rattle.std.specs.Prelude.{IfOk}
use Rattle.ocm_http_heads.specs.Endings.{lines}
use Rattle.ocm_http_heads.specs.Heads.{SaysRequest, SaysWithin}
use Rattle.ocm_http_heads.specs.declared.fields.Head.{Head}
use Rattle.ocm_http_heads.proofs.Heads.{few_in_request}
use Rattle.ocm_http_heads.proofs.requests.read_most.Goals as goal

-- a text of at most 66 lines that is no head with 66 fields or fewer is none
from-within : {E : Type 0} (text : List ℕ) → lines text ≤ 66 → (r : Result (Option Head) E) → IfOk r (SaysWithin 66 text) → IfOk r (SaysRequest text)
from-within text few (Ok None) says = λ h reads. few_in_request text h few reads (says h reads)
from-within text few (Ok (Some head)) says = says
from-within text few (Err e) says = says

pub returns : goal.returns
returns c = from-within c.args.text.now c.requires c.read_within.result c.read_within.ensures
