-- The written forms of destinations, and what is read of them.
use Rattle.std.proofs.Common.{◌≡◌, ◌≢◌, ℕ, ◌<◌, ◌≤◌, ◌⊎◌, inl, inr, Bool, true, false, cond, List, [], ◌∷◌, ◌++◌, length, drop, Option, Some, None, Result, Ok, Err, All, refl, sym, ap, subst, ◌∙◌, ⊎_elim, arith}
use Rattle.std.specs.Prelude.{codes, bytes_eq, option_and_then, ◌||◌}
use Rattle.std.specs.List.{concat}
use Rattle.std.specs.Str.{IsAscii, IsUtf8, is_utf8}
use Rattle.std.proofs.lemmas.Bool.{and_parts, both_ways, cases_Bool, cond-true, cond-false, cond_both}
use Rattle.std.proofs.lemmas.Bool.Decides.{nat_tests}
use Rattle.std.proofs.lemmas.List.Elements.{All-nil, All-cons, All-head, All-tail, All-append, All-weaker}
use Rattle.std.proofs.lemmas.Slice.Eq.{bytes_eq-Decides}
use Rattle.std.proofs.lemmas.Str.{IsUtf8-append, IsUtf8-from_ascii, IsUtf8-from_is_utf8, is_utf8-from_IsUtf8}
use Rattle.std.proofs.lemmas.Str.Ascii.{IsAscii-from_all}
use Rattle.percent_encoding.specs.Percent.{percent_encode_byte}
use Rattle.percent_encoding.proofs.PercentLemmas.{IsEscapeByte, All-percent_encode_byte}
use Rattle.url.specs.declared.scheme.SchemeType.TheVariants.{SpecialNotFile}
use Rattle.url.specs.Scheme.{scheme_type, default_port}
use Rattle.url.specs.Parser.{parse_url}
use Rattle.url.specs.Parts.{Parts, IsValid, pieces, serialize}
use Rattle.url.proofs.Theorems.{parse_url-serialize_special}
use Rattle.url.proofs.ValidLemmas.{IsAscii-serialize}
use Rattle.ocm_types.specs.Hosts.{cut_at_first}
use Rattle.ocm_types.proofs.HostTexts.{Lacks, cut_at_first-at, cut_at_first-none, after_front-at, after_front-none}
use Rattle.ocm_path.specs.Escapes.{is_unreserved, escape_byte, escape}
use Rattle.ocm_path.specs.Paths.{Segments, is_path, path_text, joined_escaped, path_escaped}
use Rattle.ocm_path.proofs.Joining.{is_root-cons}
use Rattle.ocm_path.proofs.RoundTrip.{path_of-path_escaped}
use Rattle.ocm_davmore.specs.declared.faults.DestinationFault.{DestinationFault}
use Rattle.ocm_davmore.specs.declared.faults.DestinationFault.TheVariants.{OtherServer}
use Rattle.ocm_davmore.specs.Destinations.{fault_without_text, begins_with_slash, before_query, is_web, is_ours, is_rest, below_dav, path_read, rest_destination, path_destination, address_destination, text_destination, destination_of}

-- ---- the bytes of an escaped path

-- a byte of ASCII other than `?`
abbrev pub IsPlain : ℕ → Type 0
IsPlain b = (b < 128) × (b ≢ 63)

pub unreserved-plain : (b : ℕ) → is_unreserved b ≡ true → IsPlain b
unreserved-plain b kept = (grind (arith, nat_tests), λ query. both_ways (is_unreserved 63) refl (ap is_unreserved (sym query) ∙ kept))

escape_byte-plain : (b : ℕ) → IsEscapeByte b → IsPlain b
escape_byte-plain b h = (grind arith, λ query. grind arith)

-- what holds of unreserved bytes, of `%` and of its digits holds of an escaped segment
pub All-escape : (P : ℕ → Type 0) → ((b : ℕ) → is_unreserved b ≡ true → P b) → ((b : ℕ) → IsEscapeByte b → P b) → (s : List ℕ) → All P (escape s)
All-escape P kept escaped [] = All-nil P
All-escape P kept escaped (b ∷ s) =
    All-append P (escape_byte b) (escape s)
    (cond_both (is_unreserved b) (b ∷ []) (percent_encode_byte b) (All P)
    (λ unreserved. All-cons P b [] (kept b unreserved) (All-nil P))
    (λ _. All-weaker IsEscapeByte P escaped (percent_encode_byte b) (All-percent_encode_byte b)))
    (All-escape P kept escaped s)

escape-plain : (s : List ℕ) → All IsPlain (escape s)
escape-plain s = All-escape IsPlain unreserved-plain escape_byte-plain s

slash-plain : IsPlain 47
slash-plain = (omega arith, λ e. absurd (omega arith))

joined-plain : (path : Segments) → All IsPlain (joined_escaped path)
joined-plain [] = All-nil IsPlain
joined-plain (s ∷ ss) = All-append IsPlain (47 ∷ escape s) (joined_escaped ss) (All-cons IsPlain 47 (escape s) slash-plain (escape-plain s)) (joined-plain ss)

-- the text of a path with segments begins with `/`, and so does the root's
escaped-root : path_escaped [] ≡ 47 ∷ []
escaped-root = refl

pub escaped-segments : (s : List ℕ) (ss : Segments) → path_escaped (s ∷ ss) ≡ joined_escaped (s ∷ ss)
escaped-segments s ss = cond-false _ _ (joined_escaped (s ∷ ss)) (is_root-cons s ss)

escaped-plain : (path : Segments) → All IsPlain (path_escaped path)
escaped-plain [] = All-cons IsPlain 47 [] slash-plain (All-nil IsPlain)
escaped-plain (s ∷ ss) = subst (All IsPlain) (sym (escaped-segments s ss)) (joined-plain (s ∷ ss))

escaped-rest : (path : Segments) → is_rest (path_escaped path) ≡ true
escaped-rest [] = refl
escaped-rest (s ∷ ss) = ap is_rest (escaped-segments s ss)

-- a link to a path
abbrev pub link : Segments → List ℕ
link path = codes "/dav" ++ path_escaped path

letter-plain : (b : ℕ) → 63 < b → b < 128 → IsPlain b
letter-plain b above below = (below, λ query. omega arith)

front-plain : All IsPlain (codes "/dav")
front-plain =
    All-cons IsPlain 47 (100 ∷ 97 ∷ 118 ∷ []) slash-plain
    (All-cons IsPlain 100 (97 ∷ 118 ∷ []) (letter-plain 100 (omega arith) (omega arith))
    (All-cons IsPlain 97 (118 ∷ []) (letter-plain 97 (omega arith) (omega arith))
    (All-cons IsPlain 118 [] (letter-plain 118 (omega arith) (omega arith)) (All-nil IsPlain))))

link-plain : (path : Segments) → All IsPlain (link path)
link-plain path = All-append IsPlain (codes "/dav") (path_escaped path) front-plain (escaped-plain path)

link-ascii : (path : Segments) → IsAscii (link path)
link-ascii path = IsAscii-from_all (link path) (All-weaker IsPlain (λ b. b < 128) (λ b plain. plain.0) (link path) (link-plain path))

Lacks-plain : (text : List ℕ) → All IsPlain text → Lacks 63 text
Lacks-plain [] plain = tt
Lacks-plain (b ∷ text) plain = ((All-head IsPlain b text plain).1, Lacks-plain text (All-tail IsPlain b text plain))

-- ---- a link

below-link : (path : Segments) → below_dav (link path) ≡ Some (path_escaped path)
below-link path =
    ap (option_and_then (λ rest. cond (is_rest rest) (Some rest) None)) (after_front-at (codes "/dav") (path_escaped path))
    ∙ cond-true _ _ _ (escaped-rest path)

read-link : (path : Segments) → is_path path ≡ true → length (path_text path) ≤ 1024 → path_destination (link path) ≡ Ok path
read-link path sound short = ap rest_destination (below-link path) ∙ ap path_read (path_of-path_escaped path sound short)

-- a link is read as its path
pub link_reads_back : (ours : List ℕ) (path : Segments) → is_path path ≡ true → length (path_text path) ≤ 1024 → destination_of ours (link path) ≡ Ok path
link_reads_back ours path sound short =
    cond-true _ _ _ (is_utf8-from_IsUtf8 (link path) (IsUtf8-from_ascii (link path) (link-ascii path)))
    ∙ ap (λ (t : List ℕ × Option (List ℕ)). path_destination t.0) (cut_at_first-none 63 (link path) (Lacks-plain (link path) (link-plain path)))
    ∙ read-link path sound short

-- and so it is with a query
pub query_reads_back : (ours : List ℕ) (path : Segments) (query : List ℕ) → is_path path ≡ true → length (path_text path) ≤ 1024 → is_utf8 query ≡ true → destination_of ours (link path ++ 63 ∷ query) ≡ Ok path
query_reads_back ours path query sound short text =
    let mark : IsUtf8 (63 ∷ []) = IsUtf8-from_ascii (63 ∷ []) (IsAscii-from_all (63 ∷ []) (All-cons (λ b. b < 128) 63 [] (omega arith) (All-nil (λ b. b < 128)))) in
    let utf8 : IsUtf8 (link path ++ 63 ∷ query) = IsUtf8-append (link path) (63 ∷ query) (IsUtf8-from_ascii (link path) (link-ascii path)) (IsUtf8-append (63 ∷ []) query mark (IsUtf8-from_is_utf8 query text)) in
    cond-true _ _ _ (is_utf8-from_IsUtf8 (link path ++ 63 ∷ query) utf8)
    ∙ ap (λ (t : List ℕ × Option (List ℕ)). path_destination t.0) (cut_at_first-at 63 (link path) query (Lacks-plain (link path) (link-plain path)))
    ∙ read-link path sound short

-- what begins with `//` names another server
pub two_slashes : (ours rest : List ℕ) → destination_of ours (codes "//" ++ rest) ≡ Err OtherServer
two_slashes ours rest =
    let text : List ℕ = codes "//" ++ rest in
    cond_both (is_utf8 text) (text_destination ours text) (Err (fault_without_text text)) (λ (r : Result Segments DestinationFault). r ≡ Err OtherServer)
    (λ _. ap (λ (o : Option (List ℕ)). rest_destination (option_and_then (λ x. cond (is_rest x) (Some x) None) o)) (after_front-none (codes "/dav") (before_query text) (λ x e. let same : 47 ∷ 47 ∷ (cut_at_first 63 rest).0 ≡ 47 ∷ 100 ∷ 97 ∷ 118 ∷ x = e in absurd cc)))
    (λ _. refl)

-- ---- an address

web-schemes : (scheme : List ℕ) → is_web scheme ≡ true → (scheme ≡ codes "http") ⊎ (scheme ≡ codes "https")
web-schemes scheme web =
    ⊎_elim
    (λ http. inl ((bytes_eq-Decides scheme (codes "http")).0 http))
    (λ other. inr ((bytes_eq-Decides scheme (codes "https")).0 (sym (ap (λ (b : Bool). b || bytes_eq scheme (codes "https")) other) ∙ web)))
    (cases_Bool (bytes_eq scheme (codes "http")))

web-special : (scheme : List ℕ) → is_web scheme ≡ true → scheme_type scheme ≡ SpecialNotFile
unfolding scheme_type default_port
web-special scheme web = ⊎_elim (λ http. ap scheme_type http) (λ https. ap scheme_type https) (web-schemes scheme web)

web-no_slash : (url : Parts) → is_web url.scheme ≡ true → begins_with_slash (serialize url) ≡ false
web-no_slash url web =
    let rest = concat (drop 1 (pieces url)) in
    ⊎_elim
    (λ http. ap (λ (s : List ℕ). begins_with_slash (s ++ rest)) http)
    (λ https. ap (λ (s : List ℕ). begins_with_slash (s ++ rest)) https)
    (web-schemes url.scheme web)

-- a valid address is read by its path, where it is ours
address-read : (ours : List ℕ) (url : Parts) → IsValid url → is_web url.scheme ≡ true → destination_of ours (serialize url) ≡ cond (is_ours ours url) (path_destination url.path) (Err OtherServer)
address-read ours url valid web =
    let text = serialize url in
    cond-true _ _ _ (is_utf8-from_IsUtf8 text (IsUtf8-from_ascii text (IsAscii-serialize url valid)))
    ∙ cond-false _ (path_destination (before_query text)) (address_destination ours (parse_url None text)) (web-no_slash url web)
    ∙ ap (address_destination ours) (parse_url-serialize_special url None valid (web-special url.scheme web))

ours-web : (ours : List ℕ) (url : Parts) → is_ours ours url ≡ true → is_web url.scheme ≡ true
ours-web ours url h = (and_parts (is_web url.scheme) _ h).0

-- an address of ours at a link is read as its path
pub address_reads_back : (ours : List ℕ) (url : Parts) (path : Segments) → IsValid url → is_ours ours url ≡ true → url.path ≡ link path → is_path path ≡ true → length (path_text path) ≤ 1024 → destination_of ours (serialize url) ≡ Ok path
address_reads_back ours url path valid mine at sound short =
    address-read ours url valid (ours-web ours url mine) ∙ cond-true _ _ _ mine ∙ ap path_destination at ∙ read-link path sound short

-- one of another host names another server
pub other_address : (ours : List ℕ) (url : Parts) → IsValid url → is_web url.scheme ≡ true → is_ours ours url ≡ false → destination_of ours (serialize url) ≡ Err OtherServer
other_address ours url valid web other =
    address-read ours url valid web ∙ cond-false _ (path_destination url.path) (Err OtherServer) other
