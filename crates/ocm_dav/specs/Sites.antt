-- The site that a request comes from, as a browser tells it: the fields `sec-fetch-site` (Fetch Metadata Request Headers
-- section 2.3) and `origin` (RFC 6454 section 7). A request with neither is of no other site.
use Rattle.std.specs.Prelude.{ℕ, Bool, false, not, ◌||◌, List, codes, bytes_eq}
use Rattle.std.specs.Option.{option_map_or}
use Rattle.ocm_http_heads.specs.declared.fields.Field.{Field}
use Rattle.ocm_davmore.specs.Destinations.{is_own_origin}
use Rattle.ocm_dav.specs.Fields.{first_value}

-- whether a value of `sec-fetch-site` tells another site: it is neither `same-origin` nor `none`
abbrev pub is_other_site : List ℕ → Bool
is_other_site site = not (bytes_eq site (codes "same-origin") || bytes_eq site (codes "none"))

-- whether a value of `origin` is that of another host
abbrev pub is_other_origin : List ℕ → List ℕ → Bool
is_other_origin host origin = not (is_own_origin host origin)

-- whether the first field of either name tells that a request to this host comes from another site
abbrev pub is_cross_site : List ℕ → List Field → Bool
is_cross_site host fields =
    option_map_or is_other_site (first_value (codes "sec-fetch-site") fields) false
    || option_map_or (is_other_origin host) (first_value (codes "origin") fields) false
