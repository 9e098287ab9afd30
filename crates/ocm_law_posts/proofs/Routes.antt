-- What is asked by a letter that is posted to where letters of its sort are taken.
use Rattle.std.proofs.Common.{◌≡◌, ℕ, ◌≤◌, true, cond, List, length, codes, Some, None, Ok, ap, ◌∙◌, le-ltb}
use Rattle.ocm_types.specs.declared.letters.Letter.TheVariants as letters
use Rattle.ocm_types.specs.declared.letters.Notice.{Notice}
use Rattle.ocm_types.specs.declared.letters.Offer.{Offer}
use Rattle.ocm_entry.specs.declared.asks.Ask.TheVariants as asks
use Rattle.ocm_http_heads.specs.declared.fields.Field.{Field}
use Rattle.ocm_http_heads.specs.declared.fields.Head.TheVariants.{Request}
use Rattle.ocm_records.specs.Rows.{record_of}
use Rattle.ocm_records.specs.Offers.{offer}
use Rattle.ocm_records.specs.Notices.{notice}
use Rattle.ocm_dav_pages.specs.Pages.{message_page}
use Rattle.ocm_dav.specs.Posts.{unless, offer_wanted, notice_wanted, post_refusal}
use Rattle.ocm_dav.specs.Routes.{wanted_of}
use Rattle.ocm_dav.specs.declared.configs.Config.{Config}
use Rattle.ocm_dav.specs.declared.wants.Wanted.{Wanted}
use Rattle.ocm_dav.specs.declared.wants.Wanted.TheVariants as wanted
use Rattle.ocm_pump.specs.Delivery.{letter_bytes}
use Rattle.ocm_law_posts.specs.Posts.{post_shape, RoutesAreLetters}
use Rattle.ocm_law_posts.proofs.Written.{letter-back}

-- what is posted with a body that is not too long is taken
taken : (body : List ℕ) (other : Wanted) → length body ≤ 65536 → unless (post_refusal (codes "POST") body post_shape) other ≡ other
taken body other short = ap (λ b. unless (cond b (Some (message_page 400 (codes "body too long") post_shape)) None) other) (le-ltb 65536 (length body) short)

offer-asked : (config : Config) (fields : List Field) (body fresh : List ℕ) (o : Offer) → length body ≤ 65536 → record_of offer body ≡ Ok o
    → wanted_of config (record { head = Request (codes "POST") (codes "/ocm/shares") true fields; body = body }) fresh ≡ wanted.Ask (asks.Offer o) post_shape
offer-asked config fields body fresh o short read = taken body (offer_wanted post_shape (record_of offer body)) short ∙ ap (offer_wanted post_shape) read

notice-asked : (config : Config) (fields : List Field) (body fresh : List ℕ) (n : Notice) → length body ≤ 65536 → record_of notice body ≡ Ok n
    → wanted_of config (record { head = Request (codes "POST") (codes "/ocm/notifications") true fields; body = body }) fresh ≡ wanted.Ask (asks.Notice n fresh) post_shape
notice-asked config fields body fresh n short read = taken body (notice_wanted fresh post_shape (record_of notice body)) short ∙ ap (notice_wanted fresh post_shape) read

pub letter-asked : RoutesAreLetters
letter-asked config (letters.Offer o) fields fresh h =
    let b = letter-back (letters.Offer o) h in
    offer-asked config fields (letter_bytes (letters.Offer o)) fresh o b.0 b.1
letter-asked config (letters.Notice n) fields fresh h =
    let b = letter-back (letters.Notice n) h in
    notice-asked config fields (letter_bytes (letters.Notice n)) fresh n b.0 b.1
