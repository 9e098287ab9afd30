-- Each path that a request names is short.
use Rattle.std.proofs.Common.{◌≡◌, ℕ, List, [], ◌∷◌, Bool, true, false, length, Option, Some, None, Result, Ok, Err, refl, arith}
use Rattle.std.specs.Prelude.{◌==◌, nat_le, nat_lt, if◌then◌else◌, IsTrue}
use Rattle.std.specs.Str.{is_utf8}
use Rattle.std.specs.List.{slice_split}
use Rattle.std.proofs.lemmas.Bool.Decides.{nat_tests}
use Rattle.url.specs.Parser.{Parsed, parse_url}
use Rattle.url.specs.Parts.{Parts}
use Rattle.ocm_path.specs.Paths.{Segments, path_text, is_slash, segments_of, without_last_slash, within_limit, path_below, path_of, path_given, read_value}
use Rattle.ocm_path.specs.declared.faults.PathFault.{PathFault}
use Rattle.ocm_path.specs.declared.faults.PathFault.TheVariants.{EmptySegment, TooLong}
use Rattle.ocm_entry.specs.Proper.{is_short}
use Rattle.ocm_davmore.specs.declared.faults.DestinationFault.TheVariants.{OtherServer}
use Rattle.ocm_davmore.specs.Destinations.{begins_with_slash, before_query, is_ours, below_dav, path_read, rest_destination, path_destination, address_destination, text_destination, fault_without_text, destination_of}

-- a path that was read is short
abbrev pub IsShortRead : {F : Type 0} → Result Segments F → Type 0
IsShortRead (Ok path) = IsTrue (is_short path)
IsShortRead (Err fault) = Unit {0}

one_of : {F : Type 0} (b : Bool) (x y : Result Segments F) → IsShortRead x → IsShortRead y → IsShortRead (if b then x else y)
one_of true x y p q = p
one_of false x y p q = q

at_most : (n : ℕ) → nat_lt 1024 n ≡ false → nat_le n 1024 ≡ true
at_most n e = grind (arith, nat_tests)

unless_long : (b : Bool) (path : Segments) → (b ≡ false → IsTrue (is_short path)) → IsShortRead (if b then Err TooLong else Ok path)
unless_long true path h = tt
unless_long false path h = h refl

short-limit : (read : Result Segments PathFault) → IsShortRead (within_limit read)
short-limit (Err fault) = tt
short-limit (Ok path) = unless_long (nat_lt 1024 (length (path_text path))) path (at_most (length (path_text path)))

short-below : (below : List ℕ) → IsShortRead (path_below below)
short-below below =
    one_of (length below == 0) (Ok []) (within_limit (segments_of (slice_split is_slash (without_last_slash below)))) refl (short-limit (segments_of (slice_split is_slash (without_last_slash below))))

-- the path that a text spells is short
pub short-path_of : (text : List ℕ) → IsShortRead (path_of text)
short-path_of [] = refl
short-path_of (b ∷ below) = one_of (b == 47) (path_below below) (Err EmptySegment) (short-below below) tt

-- so is one that is given
abbrev pub IsShortIf : Option Segments → Type 0
IsShortIf (Some path) = IsTrue (is_short path)
IsShortIf None = Unit {0}

given : (read : Result Segments PathFault) → IsShortRead read → IsShortIf (read_value read)
given (Ok path) h = h
given (Err fault) h = tt

pub short-path_given : (text : List ℕ) → IsShortIf (path_given text)
short-path_given text = given (path_of text) (short-path_of text)

read : (r : Result Segments PathFault) → IsShortRead r → IsShortRead (path_read r)
read (Ok path) h = h
read (Err fault) h = tt

below : (rest : Option (List ℕ)) → IsShortRead (rest_destination rest)
below None = tt
below (Some rest) = read (path_of rest) (short-path_of rest)

address : (ours : List ℕ) (url : Parsed Parts) → IsShortRead (address_destination ours url)
address ours (Ok url) = one_of (is_ours ours url) (path_destination url.path) (Err OtherServer) (below (below_dav url.path)) tt
address ours (Err fault) = tt

text : (ours bytes : List ℕ) → IsShortRead (text_destination ours bytes)
text ours bytes =
    one_of (begins_with_slash bytes) (path_destination (before_query bytes)) (address_destination ours (parse_url None bytes))
    (below (below_dav (before_query bytes))) (address ours (parse_url None bytes))

-- the path that a destination names is short
pub short-destination_of : (ours value : List ℕ) → IsShortRead (destination_of ours value)
short-destination_of ours value = one_of (is_utf8 value) (text_destination ours value) (Err (fault_without_text value)) (text ours value) tt
