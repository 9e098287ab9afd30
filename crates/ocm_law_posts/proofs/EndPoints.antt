-- `http://`, a host and `/ocm`, as the URL Standard reads it: whatever it makes of the host's name, with the host's port
-- and the path `/ocm`.
use Rattle.std.proofs.Common.{◌≡◌, ◌≢◌, ℕ, ◌+◌, ◌-◌, ◌<◌, inl, inr, Bool, true, false, cond, not, ◌&&◌, ◌||◌, ltb, List, [], ◌∷◌, ◌++◌, length, take, drop, reverse, Option, Some, None, option_map, Ok, Err, All, codes, decimal, refl, sym, ap, ◌∙◌, subst, arith, append_assoc, append-nil, length-append, take_all, take_at, drop_at, ne_eqb}
use Rattle.std.specs.Prelude.{◌==◌, unwrap_or}
use Rattle.std.specs.List.{list_all, prefix_len}
use Rattle.std.specs.Char.{is_ascii_digit}
use Rattle.std.proofs.lemmas.Bool.{and_parts, cond-false}
use Rattle.std.proofs.lemmas.Bool.Decides.{nat_tests}
use Rattle.std.proofs.lemmas.List.{reverse-append}
use Rattle.std.proofs.lemmas.List.Elements.{All-cons, All-head, All-tail, All-append, All-weaker}
use Rattle.std.proofs.lemmas.Fmt.{digits_decimal}
use Rattle.url.specs.declared.host.Host.{Host}
use Rattle.url.specs.declared.error.ParseError.TheVariants.{EmptyHost}
use Rattle.url.specs.declared.scheme.SchemeType.TheVariants.{SpecialNotFile}
use Rattle.url.specs.Input.{is_c0_control_or_space, is_tab_or_new_line, trim_c0_control_and_space, strip_tabs_and_new_lines, split_once}
use Rattle.url.specs.Scheme.{IsScheme, scheme_len, scheme_type, default_port, is_slash}
use Rattle.url.specs.Host.{parse_special_host}
use Rattle.url.specs.Path.{segment_len, parse_path_start}
use Rattle.url.specs.Parts.{Parts, IsPortOf}
use Rattle.url.specs.Head.{with_authority}
use Rattle.url.specs.Parser.{Parsed, and_then, host_len, split_port, parse_port, lacks_host, parse_authority, with_path, with_tail, before_tail, after_double_slash, parse_body, parse_parts, split_scheme, parse_by_scheme, parse_url}
use Rattle.url.proofs.InputLemmas.{IsNot, Passes, StopsAt, split_once_none, rsplit_once_none, prefix_len_at, filter_all, is_empty_nonempty, All_from_list_all}
use Rattle.url.proofs.HostRoundTrip.{parse_port-decimal}
use Rattle.url.proofs.RoundTrip.{split_own_scheme}
use Rattle.url.proofs.OnLiterals.{url_on_literals}
use Rattle.ocm_types.specs.Texts.{has_length}
use Rattle.ocm_types.specs.Hosts.{cut_at_first, is_host_byte, is_host_name, is_host}
use Rattle.ocm_types.proofs.HostTexts.{cut_at_first-at, cut_at_first-none}
use Rattle.ocm_types.proofs.HostReading.{own, name-lacks_colon}
use Rattle.ocm_types.proofs.HostPorts.{hosts_only}
use Rattle.ocm_law_posts.specs.Posts.{end_point}

-- ---- the bytes

-- visible ASCII, and none of `#`, `/`, `?`, `@`, `[`, `\` and `]`
pub record IsPlace (b : ℕ) : Type 0 where
  pub above : 32 < b
  pub below : b < 128
  pub no_hash : b ≢ 35
  pub no_slash : b ≢ 47
  pub no_question : b ≢ 63
  pub no_at : b ≢ 64
  pub no_open : b ≢ 91
  pub no_backslash : b ≢ 92
  pub no_close : b ≢ 93

host_byte-place : (b : ℕ) → is_host_byte b ≡ true → IsPlace b
host_byte-place b h = grind (arith, nat_tests)

digit-place : (b : ℕ) → is_ascii_digit b ≡ true → IsPlace b
digit-place b h = grind (arith, nat_tests)

colon-place : IsPlace 58
colon-place = grind (arith, nat_tests)

pub name-bytes : (name : List ℕ) → is_host_name name ≡ true → All (Passes is_host_byte) name
name-bytes name h = All_from_list_all is_host_byte name (and_parts (has_length 1 240 name) (list_all is_host_byte name) h).1

name-place : (name : List ℕ) → is_host_name name ≡ true → All IsPlace name
name-place name h = All-weaker (Passes is_host_byte) IsPlace host_byte-place name (name-bytes name h)

pub name-some : (name : List ℕ) → is_host_name name ≡ true → 0 < length name
name-some [] h = absurd cc
name-some (b ∷ name) h = omega arith

port-place : (port : ℕ) → port < 65536 → All IsPlace (decimal port)
port-place port below =
    let digits = digits_decimal own port (omega arith) in
    All-weaker (Passes is_ascii_digit) IsPlace digit-place (decimal port) (All_from_list_all is_ascii_digit (decimal port) digits)

-- ---- a host's name and port

abbrev pub port_digits : Option ℕ → Option (List ℕ)
port_digits port = option_map decimal port

name-len : (name rest : List ℕ) → All (Passes is_host_byte) name → host_len false (name ++ rest) ≡ length name + host_len false rest
unfolding host_len
name-len [] rest h = omega arith
name-len (b ∷ name) rest h =
    let passes = All-head (Passes is_host_byte) b name h in
    let place = host_byte-place b passes in
    let colon : b ≢ 58 = grind (arith, nat_tests) in
    let later = name-len name rest (All-tail (Passes is_host_byte) b name h) in
    rw (ne_eqb b 58 colon, ne_eqb b 91 place.no_open, ne_eqb b 93 place.no_close) (omega arith)

-- a host in its parts
pub record HostParts (host : List ℕ) : Type 0 where
  pub name : List ℕ
  pub port : Option ℕ
  pub is_name : is_host_name name ≡ true
  pub fits : IsPortOf (codes "http") port
  pub split : split_port host ≡ (name, port_digits port)
  pub places : All IsPlace host
  pub first : (cut_at_first 58 host).0 ≡ name
  pub spelled : host ≡ name ++ unwrap_or (option_map (λ n. 58 ∷ decimal n) port) []

name-parts : (name : List ℕ) → is_host_name name ≡ true → HostParts name
unfolding host_len
name-parts name h =
    let len : host_len false name ≡ length name = omega (arith, ap (host_len false) (append-nil name), name-len name [] (name-bytes name h)) in
    let short : ltb (length name) (length name) ≡ false = grind (arith, nat_tests) in
    record {
      name = name;
      port = None;
      is_name = h;
      fits = tt;
      split = rw (len, short) (λ i. (take_all (length name) name (omega arith) i, None));
      places = name-place name h;
      first = ap (λ (x : List ℕ × Option (List ℕ)). x.0) (cut_at_first-none 58 name (name-lacks_colon name h));
      spelled = sym (append-nil name);
    }

port-parts : (name : List ℕ) (port : ℕ) → is_host_name name ≡ true → port < 65536 → port ≢ 80 → HostParts (name ++ 58 ∷ decimal port)
unfolding host_len default_port
port-parts name port h below other =
    let host = name ++ 58 ∷ decimal port in
    let len : host_len false host ≡ length name = omega (arith, name-len name (58 ∷ decimal port) (name-bytes name h)) in
    let long : ltb (length name) (length host) ≡ true = simp length-append (grind (arith, nat_tests)) in
    let after = ap (drop (length name + 1)) (sym (append_assoc name (58 ∷ []) (decimal port))) ∙ drop_at (name ++ 58 ∷ []) (decimal port) _ (length-append name (58 ∷ [])) in
    record {
      name = name;
      port = Some port;
      is_name = h;
      fits = (omega arith, λ e. other (cc));
      split = rw (len, long) (λ i. (take_at name (58 ∷ decimal port) _ refl i, Some (after i)));
      places = All-append IsPlace name (58 ∷ decimal port) (name-place name h) (All-cons IsPlace 58 (decimal port) colon-place (port-place port below));
      first = ap (λ (x : List ℕ × Option (List ℕ)). x.0) (cut_at_first-at 58 name (decimal port) (name-lacks_colon name h));
      spelled = refl;
    }

pub host-parts : (host : List ℕ) → is_host host ≡ true → HostParts host
host-parts host h =
    elim (hosts_only host h) [
      | inl name ↦ name-parts host name
      | inr p ↦ subst HostParts (sym p.spelled) (port-parts p.name p.port p.is_name p.below p.not_default)
    ]

-- ---- the authority

port-read : (port : Option ℕ) → IsPortOf (codes "http") port → parse_port (codes "http") (unwrap_or (port_digits port) []) ≡ Ok port
unfolding parse_port
port-read None fits = refl
port-read (Some n) fits = parse_port-decimal (codes "http") n fits

-- what is made of a host as `url` reads it
abbrev pub head_at : Option ℕ → Host (List ℕ) → Parts
head_at port host = with_authority (codes "http") [] [] host port

-- what is made of what stands before an `@`, and of a host and its port
abbrev by_parts : Option (List ℕ) → List ℕ × Option (List ℕ) → Parsed Parts
by_parts before parts =
    let userinfo = split_once 58 (unwrap_or before []) in
    cond (lacks_host before parts.0 parts.1) (Err EmptyHost)
    (and_then (parse_special_host parts.0) (λ host.
    and_then (parse_port (codes "http") (unwrap_or parts.1 [])) (λ port.
    Ok (with_authority (codes "http") userinfo.0 (unwrap_or userinfo.1 []) host port))))

authority-read : (host : List ℕ) (p : HostParts host) → parse_authority (codes "http") host ≡ and_then (parse_special_host p.name) (λ h. Ok (head_at p.port h))
unfolding parse_authority scheme_type default_port split_once
authority-read host p =
    let at = rsplit_once_none 64 host (All-weaker IsPlace (IsNot 64) (λ b place. place.no_at) host p.places) in
    let some = is_empty_nonempty p.name (name-some p.name p.is_name) in
    let split : parse_authority (codes "http") host ≡ by_parts None (p.name, port_digits p.port) = (λ i. by_parts (at i).0 (split_port (at i).1)) ∙ ap (by_parts None) p.split in
    let head : Parsed (Option ℕ) → Parsed Parts = λ r. and_then (parse_special_host p.name) (λ h. and_then r (λ port. Ok (head_at port h))) in
    let there : lacks_host None p.name (port_digits p.port) ≡ false = rw some refl in
    split ∙ (cond-false _ (Err EmptyHost) _ there ∙ ap head (port-read p.port p.fits))

-- ---- the path

path-read : parse_path_start SpecialNotFile [] (codes "/ocm") ≡ codes "/ocm"
unfolding url_on_literals
path-read = refl

-- the address that a host and a port give
abbrev pub address_at : Option ℕ → Host (List ℕ) → Parts
address_at port host = with_path (head_at port host) (codes "/ocm")

abbrev is_place : ℕ → Bool
is_place b = not (is_slash SpecialNotFile b)

place-passes : (b : ℕ) → IsPlace b → Passes is_place b
place-passes b place = rw (ne_eqb b 47 place.no_slash, ne_eqb b 92 place.no_backslash) refl

after-slashes : (host : List ℕ) (p : HostParts host) → after_double_slash (codes "http") (host ++ codes "/ocm") ≡ and_then (parse_special_host p.name) (λ h. Ok (address_at p.port h))
unfolding after_double_slash scheme_type default_port
after-slashes host p =
    let text = host ++ codes "/ocm" in
    let len : segment_len SpecialNotFile text ≡ length host = prefix_len_at is_place host (codes "/ocm") (All-weaker IsPlace (Passes is_place) place-passes host p.places) refl in
    let front : take (segment_len SpecialNotFile text) text ≡ host = ap (λ n. take n text) len ∙ take_at host (codes "/ocm") _ refl in
    let back : drop (segment_len SpecialNotFile text) text ≡ codes "/ocm" = ap (λ n. drop n text) len ∙ drop_at host (codes "/ocm") _ refl in
    let path : parse_path_start SpecialNotFile [] (drop (segment_len SpecialNotFile text) text) ≡ codes "/ocm" = ap (parse_path_start SpecialNotFile []) back ∙ path-read in
    (λ i. and_then (parse_authority (codes "http") (front i)) (λ head. Ok (with_path head (path i))))
    ∙ (ap (λ r. and_then r (λ head. Ok (with_path head (codes "/ocm")))) (authority-read host p) ∙ with_head (parse_special_host p.name) p.port)
  where
    with_head : (r : Parsed (Host (List ℕ))) (port : Option ℕ)
        → and_then (and_then r (λ h. Ok (head_at port h))) (λ head. Ok (with_path head (codes "/ocm"))) ≡ and_then r (λ h. Ok (address_at port h))
    with_head (Ok h) port = refl
    with_head (Err e) port = refl

-- ---- the whole

first-stops : (xs ys : List ℕ) → 0 < length xs → All IsPlace xs → StopsAt (λ b. b == 47 || b == 92) (xs ++ ys)
first-stops [] ys some all = absurd (omega arith)
first-stops (x ∷ xs) ys some all = let place = All-head IsPlace x xs all in rw (ne_eqb x 47 place.no_slash, ne_eqb x 92 place.no_backslash) refl

host-some : (host : List ℕ) (p : HostParts host) → 0 < length host
host-some host p =
    let rest : List ℕ = unwrap_or (option_map (λ n. 58 ∷ decimal n) p.port) [] in
    omega (arith, ap length p.spelled, length-append p.name rest, name-some p.name p.is_name)

-- a byte that is neither trimmed nor stripped, and begins no query and no fragment
abbrev is_safe : ℕ → Bool
is_safe b = ltb 32 b && not (b == 35) && not (b == 63)

pub record IsSafe (b : ℕ) : Type 0 where
  pub above : 32 < b
  pub no_hash : b ≢ 35
  pub no_question : b ≢ 63

safe : (b : ℕ) → Passes is_safe b → IsSafe b
safe b h = grind (arith, nat_tests)

literal-safe : (text : List ℕ) → list_all is_safe text ≡ true → All IsSafe text
literal-safe text h = All-weaker (Passes is_safe) IsSafe safe text (All_from_list_all is_safe text h)

all-safe : (host : List ℕ) → All IsPlace host → All IsSafe (end_point host)
all-safe host places =
    let inner = All-weaker IsPlace IsSafe (λ b place. record { above = place.above; no_hash = place.no_hash; no_question = place.no_question }) host places in
    All-append IsSafe (codes "http://" ++ host) (codes "/ocm") (All-append IsSafe (codes "http://") host (literal-safe (codes "http://") refl) inner) (literal-safe (codes "/ocm") refl)

untrimmed : (host : List ℕ) → trim_c0_control_and_space (end_point host) ≡ end_point host
unfolding trim_c0_control_and_space
untrimmed host =
    let text = end_point host in
    let end : prefix_len is_c0_control_or_space (reverse text) ≡ 0 = ap (prefix_len is_c0_control_or_space) (reverse-append (codes "http://" ++ host) (codes "/ocm")) in
    ap (λ n. take (length text - n) text) end ∙ take_all (length text - 0) text (omega arith)

unstripped : (text : List ℕ) → All IsSafe text → strip_tabs_and_new_lines text ≡ text
unfolding strip_tabs_and_new_lines
unstripped text all = filter_all _ text (All-weaker IsSafe (Passes (λ b. not (is_tab_or_new_line b))) (λ b h. (let above = h.above in grind (arith, nat_tests))) text all)

http-scheme : IsScheme (codes "http")
unfolding scheme_len
http-scheme = record { nonempty = omega arith; whole = refl; lower = refl }

body-read : (host : List ℕ) (p : HostParts host) → parse_body (codes "http") None (47 ∷ 47 ∷ (host ++ codes "/ocm")) ≡ and_then (parse_special_host p.name) (λ h. Ok (address_at p.port h))
unfolding parse_body scheme_type default_port
body-read host p =
    let test : ℕ → Bool = λ b. b == 47 || b == 92 in
    let text = host ++ codes "/ocm" in
    let slashes : prefix_len test (47 ∷ 47 ∷ text) ≡ 2 =
    prefix_len_at test (47 ∷ 47 ∷ []) text (All_from_list_all test (47 ∷ 47 ∷ []) refl) (first-stops host (codes "/ocm") (host-some host p) p.places) in
    ap (λ n. after_double_slash (codes "http") (drop n (47 ∷ 47 ∷ text))) slashes ∙ after-slashes host p

-- an address without a query and a fragment
without-tail : (r : Parsed (Host (List ℕ))) (port : Option ℕ)
    → and_then (and_then r (λ h. Ok (address_at port h))) (λ url. Ok (with_tail (before_tail url None None) None None)) ≡ and_then r (λ h. Ok (address_at port h))
unfolding scheme_type default_port
without-tail (Ok h) port = refl
without-tail (Err e) port = refl

pub end_point-read : (host : List ℕ) (p : HostParts host) → parse_url None (end_point host) ≡ and_then (parse_special_host p.name) (λ h. Ok (address_at p.port h))
unfolding parse_url parse_parts
end_point-read host p =
    let text = end_point host in
    let body : List ℕ = 47 ∷ 47 ∷ (host ++ codes "/ocm") in
    let all = all-safe host p.places in
    let clean : strip_tabs_and_new_lines (trim_c0_control_and_space text) ≡ text = ap strip_tabs_and_new_lines (untrimmed host) ∙ unstripped text all in
    let hash : split_once 35 (strip_tabs_and_new_lines (trim_c0_control_and_space text)) ≡ (text, None) = ap (split_once 35) clean ∙ split_once_none 35 text (All-weaker IsSafe (IsNot 35) (λ b h. h.no_hash) text all) in
    let question : split_once 63 (split_once 35 (strip_tabs_and_new_lines (trim_c0_control_and_space text))).0 ≡ (text, None) = ap (λ r. split_once 63 r.0) hash ∙ split_once_none 63 text (All-weaker IsSafe (IsNot 63) (λ b h. h.no_question) text all) in
    let scheme : split_scheme (split_once 63 (split_once 35 (strip_tabs_and_new_lines (trim_c0_control_and_space text))).0).0 ≡ Some (codes "http", body) = ap (λ r. split_scheme r.0) question ∙ split_own_scheme (codes "http") body http-scheme in
    (λ i. parse_by_scheme (scheme i) None (question i).0 (question i).1 (hash i).1)
    ∙ (ap (λ r. and_then r (λ url. Ok (with_tail (before_tail url None None) None None))) (body-read host p) ∙ without-tail (parse_special_host p.name) p.port)
