-- The byte range of a request: how its value is written (RFC 9110 sections 14.1.1 and 14.2), and what it selects
-- of a file (section 14.1.2).
use Rattle.std.specs.Prelude.{◌≡◌, ℕ, ◌+◌, ◌-◌, ◌≤◌, ◌^◌, min, decimal, codes, Bool, true, false, ◌&&◌, ◌==◌, nat_le, nat_lt, if◌then◌else◌, IsTrue, List, [], ◌∷◌, ◌++◌, Option, Some, None, option_and_then}
use Rattle.std.specs.List.{list_all}
use Rattle.std.specs.Char.{is_ascii_digit}
use Rattle.std.specs.Str.Parse.{digits_value}
use Rattle.ocm_types.specs.Texts.{has_length}
use Rattle.ocm_types.specs.Hosts.{after_front, cut_at_first}
use Rattle.ocm_davmore.specs.declared.ranges.Span.{Span}
use Rattle.ocm_davmore.specs.declared.ranges.Span.TheVariants.{First, From, Last}

-- whether bytes are a number as a range writes it: 1 to 19 decimal digits
abbrev pub is_number : List ℕ → Bool
is_number digits = list_all is_ascii_digit digits && has_length 1 19 digits

-- digits that write the number n
pub record Writes (digits : List ℕ) (n : ℕ) : Type 0 where
  pub number : IsTrue (is_number digits)
  pub value : digits_value 10 digits ≡ n

-- the written forms of a span: `bytes=` and then a first and a last position, a first position, or how many bytes
-- from the end
abbrev pub IsWritten : Span → List ℕ → Type 0
IsWritten (First a b) value =
    (first : List ℕ) × (last : List ℕ) × Writes first a × Writes last b × (a ≤ b)
    × (value ≡ codes "bytes=" ++ (first ++ (codes "-" ++ last)))
IsWritten (From a) value = (first : List ℕ) × Writes first a × (value ≡ codes "bytes=" ++ (first ++ codes "-"))
IsWritten (Last n) value =
    (suffix : List ℕ) × Writes suffix n × (1 ≤ n) × (value ≡ codes "bytes=" ++ (codes "-" ++ suffix))

-- the number that digits write
abbrev pub number_of : List ℕ → Option ℕ
number_of digits = if is_number digits then Some (digits_value 10 digits) else None

-- the span of so many bytes from the end
abbrev pub suffix_of : ℕ → Option Span
suffix_of n = if n == 0 then None else Some (Last n)

-- the span between two positions that are in order
abbrev pub between : ℕ → ℕ → Option Span
between a b = if nat_le a b then Some (First a b) else None

-- the span of what stands before the `-` and after it
abbrev pub span_around : List ℕ → List ℕ → Option Span
span_around [] suffix = option_and_then suffix_of (number_of suffix)
span_around (d ∷ first) [] = option_and_then (λ a. Some (From a)) (number_of (d ∷ first))
span_around (d ∷ first) (e ∷ last) =
    option_and_then (λ a. option_and_then (between a) (number_of (e ∷ last))) (number_of (d ∷ first))

-- the span of what follows the unit, cut at its first `-`
abbrev pub span_cut : List ℕ × Option (List ℕ) → Option Span
span_cut (first, None) = None
span_cut (first, Some last) = span_around first last

-- the span that the value of a range writes
abbrev pub span_of : List ℕ → Option Span
span_of value = option_and_then (λ set. span_cut (cut_at_first 45 set)) (after_front (codes "bytes=") value)

-- whether a span has a written form: its numbers are below 10^19, its positions in order, its length above 0
abbrev pub is_span : Span → Bool
is_span (First a b) = nat_le a b && nat_lt b (10 ^ 19)
is_span (From a) = nat_lt a (10 ^ 19)
is_span (Last n) = nat_le 1 n && nat_lt n (10 ^ 19)

-- whether a span counts from the end
abbrev pub is_suffix : Span → Bool
is_suffix (First a b) = false
is_suffix (From a) = false
is_suffix (Last n) = true

-- the shortest written form of a span
abbrev pub span_text : Span → List ℕ
span_text (First a b) = codes "bytes=" ++ (decimal a ++ (codes "-" ++ decimal b))
span_text (From a) = codes "bytes=" ++ (decimal a ++ codes "-")
span_text (Last n) = codes "bytes=" ++ (codes "-" ++ decimal n)

-- the byte at this place of a file of so many bytes is one that the span names
abbrev pub Selects : Span → ℕ → ℕ → Type 0
Selects (First a b) size place = (a ≤ place) × (place ≤ b)
Selects (From a) size place = a ≤ place
Selects (Last n) size place = size ≤ place + n

-- whether a span begins behind a file of so many bytes
abbrev pub begins_behind : Span → ℕ → Bool
begins_behind (First a b) size = nat_le size a
begins_behind (From a) size = nat_le size a
begins_behind (Last n) size = false

-- the first and the last place of a span in a file of so many bytes, where the file reaches it
abbrev pub places_of : Span → ℕ → Option (ℕ × ℕ)
places_of (First a b) size = if nat_lt a size then Some (a, min b (size - 1)) else None
places_of (From a) size = if nat_lt a size then Some (a, size - 1) else None
places_of (Last n) size = Some (size - n, size - 1)
