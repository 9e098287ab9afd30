-- The pages that are wanted at once: refusals of requests.
use Rattle.std.specs.Prelude.{ℕ, List, codes}
use Rattle.ocm_path.specs.declared.faults.PathFault.{PathFault}
use Rattle.ocm_entry.specs.declared.refusals.Why.{Why}
use Rattle.ocm_entry.specs.declared.replies.Reply.TheVariants as replies
use Rattle.ocm_records.specs.declared.faults.RecordFault.{RecordFault}
use Rattle.ocm_dav_pages.specs.declared.shapes.Shape.{Shape}
use Rattle.ocm_dav_pages.specs.declared.shapes.Page.{Page}
use Rattle.ocm_dav_pages.specs.Pages as pages
use Rattle.ocm_dav.specs.declared.wants.Wanted.{Wanted}
use Rattle.ocm_dav.specs.declared.wants.Wanted.TheVariants as wanted
use Rattle.ocm_dav.specs.Paths.{path_message}

-- the page of a reply that refuses
abbrev pub refusal : Why → Shape → Page
refusal why shape = pages.page_of (replies.Refused why) shape

-- that page at once
abbrev pub refused : Why → Shape → Wanted
refused why shape = wanted.Page (refusal why shape)

-- a refusal that words tell
abbrev pub told : ℕ → List ℕ → Shape → Wanted
told status message shape = wanted.Page (pages.message_page status message shape)

-- a request that is not sound, in these words
abbrev pub bad_request : List ℕ → Shape → Wanted
bad_request message shape = told 400 message shape

-- a destination at another server (RFC 4918 section 9.8.5)
abbrev pub other_server : Shape → Wanted
other_server shape = told 502 (codes "other server") shape

-- a command that a page of another site posts (RFC 9110 section 15.5.4)
abbrev pub cross_site : Shape → Wanted
cross_site shape = told 403 (codes "cross site") shape

-- a path with a fault
abbrev pub bad_path : PathFault → Shape → Wanted
bad_path fault shape = bad_request (path_message fault) shape

-- a record with a fault
abbrev pub bad_record : RecordFault → Shape → Wanted
bad_record fault shape = wanted.Page (pages.fault_page fault shape)

-- a PROPFIND of a depth that is not finite (RFC 4918 section 9.1)
abbrev pub not_finite : Shape → Wanted
not_finite shape = wanted.Page (pages.finite_depth_page shape)
