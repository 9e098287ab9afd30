-- `http://`, a host and a link are the text of a valid address of that host.
use Rattle.std.proofs.Common.{◌≡◌, ◌≢◌, ℕ, ◌<◌, ◌≤◌, inl, Bool, true, false, not, List, [], ◌∷◌, ◌++◌, length, map, Option, Some, None, Ok, All, refl, sym, ap, subst, ◌∙◌, ⊎_elim, arith, append-nil, append_assoc}
use Rattle.std.specs.Prelude.{codes, decimal, ◌&&◌, ◌||◌}
use Rattle.std.specs.List.{list_all}
use Rattle.std.specs.Char.{to_ascii_lowercase}
use Rattle.std.proofs.lemmas.Bool.{agree_below, agree_below_at, and_parts, both_ways, ne_eqb}
use Rattle.std.proofs.lemmas.Bool.Decides.{nat_tests}
use Rattle.std.proofs.lemmas.List.Elements.{All-nil, All-cons, All-weaker}
use Rattle.std.proofs.lemmas.Slice.Eq.{bytes_eq-Decides}
use Rattle.percent_encoding.specs.AsciiSet.{should_percent_encode}
use Rattle.percent_encoding.specs.Percent.{IsKept}
use Rattle.percent_encoding.proofs.PercentLemmas.{IsEscapeByte}
use Rattle.url.specs.declared.sets.TheConstants.{PATH, FORBIDDEN_DOMAIN}
use Rattle.url.specs.declared.host.Host.TheVariants.{Domain}
use Rattle.url.specs.declared.scheme.SchemeType.TheVariants.{SpecialNotFile}
use Rattle.url.specs.Input.{is_empty, lowercase}
use Rattle.url.specs.Ipv4.{ends_in_a_number}
use Rattle.url.specs.Scheme.{IsScheme, scheme_len, scheme_type, default_port, is_slash}
use Rattle.url.specs.Host.{IsDomain}
use Rattle.url.specs.Path.{IsSegment, IsSegmentList, dot_count, join_segments}
use Rattle.url.specs.Parts.{Parts, IsPortOf, IsValidHead, IsValid, serialize}
use Rattle.url.proofs.PathLemmas.{IsDots, dots_from_encoded, empty_segment}
use Rattle.ocm_types.specs.Hosts.{cut_at_first, is_host_byte, is_host_name, is_host, HasPort, host_of}
use Rattle.ocm_types.specs.Texts.{has_length}
use Rattle.ocm_types.proofs.HostTexts.{cut_at_first-at, cut_at_first-none}
use Rattle.ocm_types.proofs.HostReading.{host_of-same, name-lacks_colon}
use Rattle.ocm_types.proofs.HostPorts.{hosts_only}
use Rattle.ocm_path.specs.declared.escapes.TheConstants.{ESCAPED}
use Rattle.ocm_path.specs.Escapes.{is_unreserved, escape}
use Rattle.ocm_path.specs.Paths.{Segments, is_dots, is_segment, is_path, path_text, joined_escaped}
use Rattle.ocm_path.proofs.Kept.{percent_encode-ESCAPED}
use Rattle.ocm_path.proofs.RoundTrip.{IsSound-segment, is_utf8-bytes}
use Rattle.ocm_davmore.specs.Destinations.{authority, is_host_read, names_host, is_ours, destination_of}
use Rattle.ocm_davmore.proofs.DestinationForms.{link, unreserved-plain, All-escape, escaped-segments, address_reads_back}

-- ---- the segments of a link

-- a byte that a segment of a URL may have as it is
abbrev StaysInPath : ℕ → Type 0
StaysInPath b = IsKept PATH b × (is_slash SpecialNotFile b ≡ false)

table : agree_below (λ b. is_unreserved b && (should_percent_encode PATH b || is_slash SpecialNotFile b)) (λ _. false) 128 ≡ true
unfolding should_percent_encode
table = refl

neither : (a b c : Bool) → (a && (b || c)) ≡ false → a ≡ true → (b ≡ false) × (c ≡ false)
neither true false c none is = (refl, none)
neither true true c none is = absurd cc
neither false b c none is = absurd cc

unreserved-stays : (b : ℕ) → is_unreserved b ≡ true → StaysInPath b
unreserved-stays b kept = neither _ _ _ (agree_below_at (λ x. is_unreserved x && (should_percent_encode PATH x || is_slash SpecialNotFile x)) (λ _. false) 128 b table (unreserved-plain b kept).0) kept

percent-stays : StaysInPath 37
unfolding should_percent_encode
percent-stays = (refl, refl)

escape_byte-stays : (b : ℕ) → IsEscapeByte b → StaysInPath b
escape_byte-stays b h = ⊎_elim (λ percent. subst StaysInPath (sym percent) percent-stays) (λ digit. unreserved-stays b (grind (arith, nat_tests))) h

dot-kept : IsKept ESCAPED 46
unfolding should_percent_encode
dot-kept = refl

percent-escaped : should_percent_encode ESCAPED 37 ≡ true
unfolding should_percent_encode
percent-escaped = refl

not_dots : (s : List ℕ) → is_dots s ≡ false → IsDots s → ⊥
not_dots s plain dots = ⊎_elim (λ one. both_ways _ plain (ap is_dots one)) (λ two. both_ways _ plain (ap is_dots two)) dots

-- an escaped segment is one of a URL
escape-segment : (s : List ℕ) → is_segment s ≡ true → IsSegment SpecialNotFile (escape s)
escape-segment s is =
    let sound = IsSound-segment s is in
    let small = is_utf8-bytes s sound.text in
    let stays = All-escape StaysInPath unreserved-stays escape_byte-stays s in
    let same = percent_encode-ESCAPED s small in
    record {
      escaped = All-weaker StaysInPath (IsKept PATH) (λ b h. h.0) (escape s) stays;
      whole = All-weaker StaysInPath (λ b. is_slash SpecialNotFile b ≡ false) (λ b h. h.1) (escape s) stays;
      resolved =
          ⊎_elim
          (λ none. ap dot_count (sym same) ∙ none)
          (λ dots. absurd (⊎_elim (λ kept. both_ways _ kept percent-escaped) (not_dots s sound.plain) dots.1))
          (dots_from_encoded ESCAPED s dot-kept small);
    }

dav-segment : IsSegment SpecialNotFile (codes "dav")
unfolding dot_count
dav-segment =
    let letters = All-escape StaysInPath unreserved-stays escape_byte-stays (codes "dav") in
    record {
      escaped = All-weaker StaysInPath (IsKept PATH) (λ b h. h.0) (codes "dav") letters;
      whole = All-weaker StaysInPath (λ b. is_slash SpecialNotFile b ≡ false) (λ b h. h.1) (codes "dav") letters;
      resolved = refl;
    }

join-escaped : (path : Segments) → join_segments (map escape path) ≡ joined_escaped path
join-escaped [] = refl
join-escaped (s ∷ ss) = ap (λ (x : List ℕ). (47 ∷ escape s) ++ x) (join-escaped ss)

escape-each : (path : Segments) → list_all is_segment path ≡ true → All (IsSegment SpecialNotFile) (map escape path)
escape-each [] all = All-nil (IsSegment SpecialNotFile)
escape-each (s ∷ ss) all =
    let parts = and_parts (is_segment s) (list_all is_segment ss) all in
    All-cons (IsSegment SpecialNotFile) (escape s) (map escape ss) (escape-segment s parts.0) (escape-each ss parts.1)

-- a link is a list of segments
link-segments : (path : Segments) → list_all is_segment path ≡ true → IsSegmentList SpecialNotFile (link path)
link-segments [] all = record {
  segments = codes "dav" ∷ [] ∷ [];
  joined = refl;
  each = All-cons (IsSegment SpecialNotFile) (codes "dav") ([] ∷ []) dav-segment (All-cons (IsSegment SpecialNotFile) [] [] (empty_segment SpecialNotFile) (All-nil (IsSegment SpecialNotFile)));
}
link-segments (s ∷ ss) all = record {
  segments = codes "dav" ∷ map escape (s ∷ ss);
  joined = ap (λ (x : List ℕ). codes "/dav" ++ x) (escaped-segments s ss ∙ sym (join-escaped (s ∷ ss)));
  each = All-cons (IsSegment SpecialNotFile) (codes "dav") (map escape (s ∷ ss)) dav-segment (escape-each (s ∷ ss) all);
}

-- ---- the host

host_table : agree_below (λ b. is_host_byte b && should_percent_encode FORBIDDEN_DOMAIN b) (λ _. false) 128 ≡ true
unfolding should_percent_encode
host_table = refl

host_byte-small : (b : ℕ) → is_host_byte b ≡ true → b < 128
host_byte-small b h = grind (arith, nat_tests)

not_both : (a b : Bool) → (a && b) ≡ false → a ≡ true → b ≡ false
not_both true b none is = none
not_both false b none is = absurd cc

host_byte-kept : (b : ℕ) → is_host_byte b ≡ true → IsKept FORBIDDEN_DOMAIN b
host_byte-kept b h = not_both _ _ (agree_below_at (λ x. is_host_byte x && should_percent_encode FORBIDDEN_DOMAIN x) (λ _. false) 128 b host_table (host_byte-small b h)) h

host_byte-lower : (b : ℕ) → is_host_byte b ≡ true → to_ascii_lowercase b ≡ b
host_byte-lower b h = grind (arith, nat_tests)

name-kept : (name : List ℕ) → list_all is_host_byte name ≡ true → All (IsKept FORBIDDEN_DOMAIN) name
name-kept [] all = All-nil (IsKept FORBIDDEN_DOMAIN)
name-kept (b ∷ name) all =
    let parts = and_parts (is_host_byte b) (list_all is_host_byte name) all in
    All-cons (IsKept FORBIDDEN_DOMAIN) b name (host_byte-kept b parts.0) (name-kept name parts.1)

name-lower : (name : List ℕ) → list_all is_host_byte name ≡ true → lowercase name ≡ name
name-lower [] all = refl
name-lower (b ∷ name) all =
    let parts = and_parts (is_host_byte b) (list_all is_host_byte name) all in
    rw (host_byte-lower b parts.0, name-lower name parts.1) refl

-- a host's name that reads as no number is a domain
name-domain : (name : List ℕ) → is_host_name name ≡ true → ends_in_a_number name ≡ false → IsDomain name
name-domain name h named =
    let all = (and_parts (has_length 1 240 name) (list_all is_host_byte name) h).1 in
    record { allowed = name-kept name all; lower = name-lower name all; named = named }

name-some : (name : List ℕ) → is_host_name name ≡ true → 0 < length name
name-some [] h = absurd cc
name-some (b ∷ name) h = omega arith

name-nonempty : (name : List ℕ) → is_host_name name ≡ true → is_empty name ≡ false
name-nonempty name h = let some = name-some name h in ne_eqb (length name) 0 (λ none. omega arith)

-- ---- the address

-- the parts of the address
abbrev plain_address : List ℕ → Option ℕ → Segments → Parts
plain_address name port path = record {
  scheme = codes "http";
  username = [];
  password = [];
  host = Some (Domain name);
  port = port;
  path = link path;
  query = None;
  fragment = None;
}

http-scheme : IsScheme (codes "http")
unfolding scheme_len
http-scheme = record { nonempty = omega arith; whole = refl; lower = refl }

plain-head : (name : List ℕ) (port : Option ℕ) (path : Segments) → is_host_name name ≡ true → ends_in_a_number name ≡ false → IsPortOf (codes "http") port → IsValidHead (plain_address name port path)
unfolding scheme_type default_port
plain-head name port path h named fits = record {
  scheme = http-scheme;
  username = All-nil _;
  password = All-nil _;
  host = (name-domain name h named, name-some name h);
  port = fits;
  bare = λ lacks. absurd (both_ways _ (ap (λ (b : Bool). not (not b) || false) (name-nonempty name h)) lacks);
}

plain-valid : (name : List ℕ) (port : Option ℕ) (path : Segments) → is_host_name name ≡ true → ends_in_a_number name ≡ false → IsPortOf (codes "http") port → is_path path ≡ true → IsValid (plain_address name port path)
unfolding scheme_type default_port
plain-valid name port path h named fits sound = record {
  head = plain-head name port path h named fits;
  path = inl (link-segments path (and_parts (list_all is_segment path) _ sound).0, λ _. omega arith);
  query = tt;
  fragment = tt;
}

plain-ours : (ours name : List ℕ) (port : Option ℕ) (path : Segments) → is_host_name name ≡ true → host_of (authority name port) ≡ Ok ours → is_ours ours (plain_address name port path) ≡ true
plain-ours ours name port path h read =
    let same : names_host ours name port ≡ true = ap (λ r. is_host_read ours r) read ∙ (bytes_eq-Decides ours ours).1 refl in
    rw (name-nonempty name h) same

text-without_port : (name : List ℕ) (path : Segments) → serialize (plain_address name None path) ≡ codes "http://" ++ (name ++ link path)
text-without_port name path = ap (λ (x : List ℕ). codes "http://" ++ (name ++ x)) (append-nil (link path))

text-with_port : (name : List ℕ) (port : ℕ) (path : Segments) → serialize (plain_address name (Some port) path) ≡ codes "http://" ++ ((name ++ 58 ∷ decimal port) ++ link path)
text-with_port name port path =
    ap (λ (x : List ℕ). codes "http://" ++ (name ++ 58 ∷ (decimal port ++ x))) (append-nil (link path))
    ∙ ap (λ (x : List ℕ). codes "http://" ++ x) (sym (append_assoc name (58 ∷ decimal port) (link path)))

-- it is read as the link's path
named_reads_back : (name : List ℕ) (path : Segments) → is_host_name name ≡ true → is_host name ≡ true → ends_in_a_number name ≡ false → is_path path ≡ true → length (path_text path) ≤ 1024 → destination_of name (codes "http://" ++ (name ++ link path)) ≡ Ok path
named_reads_back name path h host named sound short =
    ap (destination_of name) (sym (text-without_port name path))
    ∙ address_reads_back name (plain_address name None path) path (plain-valid name None path h named tt sound) (plain-ours name name None path h (host_of-same name host)) refl sound short

ported_reads_back : (name : List ℕ) (port : ℕ) (path : Segments) → is_host_name name ≡ true → is_host (name ++ 58 ∷ decimal port) ≡ true → port < 65536 → port ≢ 80 → ends_in_a_number name ≡ false → is_path path ≡ true → length (path_text path) ≤ 1024 → destination_of (name ++ 58 ∷ decimal port) (codes "http://" ++ ((name ++ 58 ∷ decimal port) ++ link path)) ≡ Ok path
unfolding default_port
ported_reads_back name port path h host small other named sound short =
    let ours = name ++ 58 ∷ decimal port in
    let spelled : authority name (Some port) ≡ ours = append_assoc name (codes ":") (decimal port) in
    ap (destination_of ours) (sym (text-with_port name port path))
    ∙ address_reads_back ours (plain_address name (Some port) path) path (plain-valid name (Some port) path h named (small, λ e. other cc) sound) (plain-ours ours name (Some port) path h (ap host_of spelled ∙ host_of-same ours host)) refl sound short

-- `http://`, a host and a link are read at that host as the link's path
pub plain_reads_back : (ours : List ℕ) (path : Segments) → is_host ours ≡ true → ends_in_a_number (cut_at_first 58 ours).0 ≡ false → is_path path ≡ true → length (path_text path) ≤ 1024 → destination_of ours (codes "http://" ++ (ours ++ link path)) ≡ Ok path
plain_reads_back ours path host named sound short =
    ⊎_elim
    (λ name.
    let cut = cut_at_first-none 58 ours (name-lacks_colon ours name) in
    named_reads_back ours path name host (sym (ap (λ (p : List ℕ × Option (List ℕ)). ends_in_a_number p.0) cut) ∙ named) sound short)
    (λ (h : HasPort ours).
    let cut = ap (cut_at_first 58) h.spelled ∙ cut_at_first-at 58 h.name (decimal h.port) (name-lacks_colon h.name h.is_name) in
    let number = sym (ap (λ (p : List ℕ × Option (List ℕ)). ends_in_a_number p.0) cut) ∙ named in
    subst (λ (o : List ℕ). destination_of o (codes "http://" ++ (o ++ link path)) ≡ Ok path) (sym h.spelled) (ported_reads_back h.name h.port path h.is_name (ap is_host (sym h.spelled) ∙ host) h.below h.not_default number sound short))
    (hosts_only ours host)
