-- Requests for files, apart from the secret that is shown with them.
use Rattle.std.specs.Prelude.{ℕ, List, Bool, if◌then◌else◌}
use Rattle.ocm_path.specs.Paths.{Segments}
use Rattle.ocm_types.specs.declared.rights.Rights.{Rights}
use Rattle.ocm_entry.specs.declared.asks.Ask.{Ask}
use Rattle.ocm_entry.specs.declared.asks.Ask.TheVariants as asks
use Rattle.ocm_entry.specs.declared.asks.Method.{Method}
use Rattle.ocm_entry.specs.declared.refusals.Why.TheVariants.{RootStays}
use Rattle.ocm_entry.specs.declared.replies.Reply.{Reply}
use Rattle.ocm_entry.specs.declared.rows.Place.{Place}
use Rattle.ocm_rules.specs.Files.{below}
use Rattle.ocm_rules.specs.Holders.{permits, permits_carry}
use Rattle.ocm_rules.specs.Views.{View}
use Rattle.ocm_rules.specs.Answers.{refused, method_reply, carries_root, carried_reply}

-- a request for files: a method with a path and a body, or a copy or move from one path to another (moving, overwriting)
pub data FileRequest : Type 0 where
  Dav : Method → Segments → List ℕ → FileRequest
  Carry : Segments → Segments → Bool → Bool → FileRequest

-- the ask that makes a request with a secret
abbrev pub ask_with : List ℕ → FileRequest → Ask
ask_with secret (Dav method path body) = asks.Dav secret method path body
ask_with secret (Carry from to moving overwrite) = asks.Carry secret from to moving overwrite

-- whether rights suffice for a request
abbrev pub suffices : FileRequest → Rights → Bool
suffices (Dav method path body) rights = permits rights method
suffices (Carry from to moving overwrite) rights = permits_carry rights moving

-- the reply of the request's own table to a holder whose `/` is this place
abbrev pub table_reply : View → Place → FileRequest → Reply
table_reply v root (Dav method path body) = method_reply v method (below root path) path body
table_reply v root (Carry from to moving overwrite) =
    if carries_root from to moving then refused RootStays
    else carried_reply v (below root from) (below root to) moving overwrite (v.stands (below root from))
