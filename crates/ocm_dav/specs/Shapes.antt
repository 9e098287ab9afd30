-- What a request says of the page that answers it.
use Rattle.std.specs.Prelude.{ℕ, Bool, List, codes, bytes_eq, Option, None, option_and_then}
use Rattle.ocm_http_heads.specs.declared.fields.Field.{Field}
use Rattle.ocm_dav_pages.specs.declared.shapes.Allow.{Allow}
use Rattle.ocm_dav_pages.specs.declared.shapes.Shape.{Shape}
use Rattle.ocm_davmore.specs.declared.ranges.Span.{Span}
use Rattle.ocm_davmore.specs.Ranges.{span_of}
use Rattle.ocm_dav.specs.Fields.{first_value}

-- the shape for a method, on a connection that ends or goes on, with the methods of the route: HEAD alone leaves the
-- body away (RFC 9110 section 9.3.2)
abbrev pub shape_of : List ℕ → Bool → Allow → Shape
shape_of method closing allow = record { bodyless = bytes_eq method (codes "HEAD"); closing = closing; allow = allow; range = None }

-- the range that the first `range` field names, if it names one
abbrev pub range_of : List Field → Option Span
range_of fields = option_and_then span_of (first_value (codes "range") fields)

-- the shape with the range of the fields
abbrev pub with_range : List Field → Shape → Shape
with_range fields shape = record shape { range = range_of fields }
