-- What the types of an ask's fields keep of their texts.
use Rattle.std.proofs.Common.{◌≡◌, ℕ, ◌+◌, ◌^◌, ◌<◌, ◌≤◌, true, leb, List, ◌∷◌, length, Option, Some, None, inl, inr, ap, ◌∙◌, arith}
use Rattle.std.specs.Prelude.{decimal}
use Rattle.std.specs.List.{list_all}
use Rattle.std.specs.Str.{is_utf8}
use Rattle.std.proofs.lemmas.Bool.{and_parts, cond-true, leb-true}
use Rattle.std.proofs.lemmas.Fmt.{length-decimal-le}
use Rattle.std.proofs.lemmas.List.{length-append}
use Rattle.ocm_types.specs.declared.addresses.Address.{Address}
use Rattle.ocm_types.specs.Addresses.{address_text, canonical_address_of}
use Rattle.ocm_types.specs.Hosts.{is_host_byte, is_host_name, is_host}
use Rattle.ocm_types.specs.Texts.{is_allowed, has_length, is_text, is_name, is_share_name, is_provider_id, is_sender_id, is_secret}
use Rattle.ocm_types.proofs.AddressReading.{address_of-parts, canonical_address_of-is}
use Rattle.ocm_types.proofs.HostPorts.{hosts_only}
use Rattle.ocm_path.specs.Paths.{Segments, path_text}
use Rattle.ocm_path.specs.PathTexts.{path_with_text}
use Rattle.ocm_entry.specs.Proper.{is_short}
use Rattle.ocm_entry_bytes.specs.Spells.{IsName, IsShareName, IsProviderId, IsSenderId, IsSecret, IsAddress, IsShortPath}

-- texts of these types have few bytes
text_short : (high : ℕ) (excluded : Option ℕ) (s : List ℕ) → is_text high excluded s ≡ true → length s ≤ high
text_short high excluded s h =
    let len = and_parts (has_length 1 high s) (list_all (is_allowed excluded) s) h in
    leb-true _ high (and_parts (leb 1 (length s)) (leb (length s) high) len.0).1

pub name_short : (s : List ℕ) → is_name s ≡ true → length s < 2 ^ 16
name_short s h = let le = text_short 64 (Some 47) s h in omega arith

pub share_name_short : (s : List ℕ) → is_share_name s ≡ true → length s < 2 ^ 16
share_name_short s h = let le = text_short 1024 None s h in omega arith

pub provider_id_short : (s : List ℕ) → is_provider_id s ≡ true → length s < 2 ^ 16
provider_id_short s h = let le = text_short 255 None s h in omega arith

pub sender_id_short : (s : List ℕ) → is_sender_id s ≡ true → length s < 2 ^ 16
sender_id_short s h = let le = text_short 64 None s h in omega arith

pub secret_short : (s : List ℕ) → is_secret s ≡ true → length s < 2 ^ 16
secret_short s h = let le = text_short 255 (Some 58) s h in omega arith

pub name_own : (s : List ℕ) → is_utf8 s ≡ true → is_name s ≡ true → IsName s
name_own s utf8 h = record { utf8 = utf8; short = name_short s h; own = cond-true (is_name s) (Some s) None h }

pub share_name_own : (s : List ℕ) → is_utf8 s ≡ true → is_share_name s ≡ true → IsShareName s
share_name_own s utf8 h = record { utf8 = utf8; short = share_name_short s h; own = cond-true (is_share_name s) (Some s) None h }

pub provider_id_own : (s : List ℕ) → is_utf8 s ≡ true → is_provider_id s ≡ true → IsProviderId s
provider_id_own s utf8 h = record { utf8 = utf8; short = provider_id_short s h; own = cond-true (is_provider_id s) (Some s) None h }

pub sender_id_own : (s : List ℕ) → is_utf8 s ≡ true → is_sender_id s ≡ true → IsSenderId s
sender_id_own s utf8 h = record { utf8 = utf8; short = sender_id_short s h; own = cond-true (is_sender_id s) (Some s) None h }

pub secret_own : (s : List ℕ) → is_utf8 s ≡ true → is_secret s ≡ true → IsSecret s
secret_own s utf8 h = record { utf8 = utf8; short = secret_short s h; own = cond-true (is_secret s) (Some s) None h }

-- ---- addresses

host_name_short : (s : List ℕ) → is_host_name s ≡ true → length s ≤ 240
host_name_short s h =
    let len = and_parts (has_length 1 240 s) (list_all is_host_byte s) h in
    leb-true _ 240 (and_parts (leb 1 (length s)) (leb (length s) 240) len.0).1

host_short : (s : List ℕ) → is_host s ≡ true → length s ≤ 246
host_short s h =
    elim (hosts_only s h) [
      | inl name ↦ let le = host_name_short s name in omega arith
      | inr port ↦
          let name = host_name_short port.name port.is_name in
          let digits = length-decimal-le 5 port.port (omega arith) (omega (arith, port.below)) (omega (arith, port.below)) in
          let parts : length s ≡ length port.name + (1 + length (decimal port.port)) = ap length port.spelled ∙ length-append port.name (58 ∷ decimal port.port) ∙ ap (λ n. length port.name + n) (omega arith) in
          omega arith
    ]

pub address_short : (a : Address) → canonical_address_of (address_text a) ≡ Some a → length (address_text a) < 2 ^ 16
address_short a h =
    let parts = address_of-parts (address_text a) a (canonical_address_of-is (address_text a) a h).1 in
    let user = text_short 64 (Some 47) a.user parts.0 in
    let host = host_short a.host parts.1 in
    let lengths : length (address_text a) ≡ length a.user + length (64 ∷ a.host) = length-append a.user (64 ∷ a.host) in
    omega arith

pub address_own : (a : Address) → is_utf8 (address_text a) ≡ true → canonical_address_of (address_text a) ≡ Some a → IsAddress a
address_own a utf8 h = record { utf8 = utf8; short = address_short a h; own = h }

-- ---- paths

pub path_short : (p : Segments) → is_short p ≡ true → length (path_text p) < 2 ^ 16
path_short p h = let le = leb-true (length (path_text p)) 1024 h in omega arith

pub path_own : (p : Segments) → is_short p ≡ true → is_utf8 (path_text p) ≡ true → path_with_text (path_text p) ≡ Some p → IsShortPath p
path_own p short utf8 h = record { utf8 = utf8; short = path_short p short; own = h }
