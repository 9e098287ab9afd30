-- The values that records are written as: their texts are UTF-8, and they have few bytes.
use Rattle.std.proofs.Common.{◌≡◌, ℕ, ◌+◌, ◌*◌, ◌<◌, ◌≤◌, Bool, true, false, List, [], ◌∷◌, ◌++◌, map, length, Option, Some, None, option_map, IsUtf8, decimal, codes, refl, ap, arith, length-append, lit≤, leb-true}
use Rattle.std.specs.Prelude.{nat_le, unwrap_or}
use Rattle.std.specs.List.{AllByRecursion, list_all}
use Rattle.std.proofs.lemmas.Bool.{and_parts, and_from, le-leb}
use Rattle.std.proofs.lemmas.Fmt.{length-decimal-le}
use Rattle.std.proofs.lemmas.List.Elements.{All-weaker}
use Rattle.std.proofs.lemmas.Str.{IsUtf8-append, IsUtf8-from_ascii}
use Rattle.std.proofs.lemmas.Str.Ascii.{IsAscii-from_all}
use Rattle.json.proofs.Printed.Utf8.{are_ascii, IsUtf8-are_ascii}
use Rattle.serde_json.specs.Data.{Data, string, array, object, Items, no_items, item, Members, no_members, member}
use Rattle.serde_json.specs.View.{items_of}
use Rattle.url.specs.Parts.{IsPortOf}
use Rattle.ocm_types.specs.Texts.{has_length, is_allowed, is_text, is_name}
use Rattle.ocm_types.specs.Addresses.{address_text}
use Rattle.ocm_types.specs.Hosts.{is_host_byte, is_host}
use Rattle.ocm_types.specs.Rights.{words_of}
use Rattle.ocm_types.specs.declared.addresses.Address.{Address}
use Rattle.ocm_types.specs.declared.rights.Rights.{Rights}
use Rattle.ocm_types.proofs.AddressReading.{address_of-parts, address_of-same}
use Rattle.ocm_records.specs.Kinds.{most_bytes}
use Rattle.ocm_records.specs.Sound.{ReadsAsItself, AddressIf}
use Rattle.ocm_records.specs.Written.{address_data, perms_data, member_if, data_if}
use Rattle.ocm_law_posts.specs.Letters.{user_if}
use Rattle.ocm_law_posts.proofs.Spelled.{IsSpelled, ItemsAreSpelled, MembersAreSpelled, size, items_size, members_size}
use Rattle.ocm_law_posts.proofs.EndPoints.{IsPlace, HostParts, host-parts}

-- ---- texts

pub text-few : (high : ℕ) (excluded : Option ℕ) (s : List ℕ) → is_text high excluded s ≡ true → length s ≤ high
text-few high excluded s is =
    let within = and_parts (has_length 1 high s) (list_all (is_allowed excluded) s) is in
    leb-true (length s) high (and_parts (nat_le 1 (length s)) (nat_le (length s) high) within.0).1

-- a host has at most 246 bytes
pub host-short : (host : List ℕ) → HostParts host → length host ≤ 246
host-short host p =
    let within = and_parts (has_length 1 240 p.name) (list_all is_host_byte p.name) p.is_name in
    let name : length p.name ≤ 240 = leb-true (length p.name) 240 (and_parts (nat_le 1 (length p.name)) (nat_le (length p.name) 240) within.0).1 in
    by-port p.port p.fits p.name host name p.spelled
  where
    by-port : (port : Option ℕ) → IsPortOf (codes "http") port → (name host : List ℕ) → length name ≤ 240 → host ≡ name ++ unwrap_or (option_map (λ n. 58 ∷ decimal n) port) [] → length host ≤ 246
    by-port None fits name host few spelled = omega (arith, ap length spelled, length-append name [])
    by-port (Some n) fits name host few spelled =
        let digits = length-decimal-le 5 n (lit≤ tt) (omega (arith, fits.0)) (omega (arith, fits.0)) in
        omega (arith, ap length spelled, length-append name (58 ∷ decimal n), digits)

pub host-utf8 : (host : List ℕ) → HostParts host → IsUtf8 host
host-utf8 host p = IsUtf8-from_ascii host (IsAscii-from_all host (All-weaker IsPlace (λ b. b < 128) (λ b place. place.below) host p.places))

-- ---- values of few bytes

pub record Fits (d : Data) (n : ℕ) : Type 0 where
  pub spelled : IsSpelled d
  pub few : size d ≤ n

pub record ItemsFit (ds : Items) (n : ℕ) : Type 0 where
  pub spelled : ItemsAreSpelled ds
  pub few : items_size ds ≤ n

pub record MembersFit (ms : Members) (n : ℕ) : Type 0 where
  pub spelled : MembersAreSpelled ms
  pub few : members_size ms ≤ n

pub string-fits : {s : List ℕ} (high : ℕ) → IsUtf8 s → length s ≤ high → Fits (string s) (6 * high + 2)
string-fits {s} high utf8 few = record { spelled = utf8; few = omega (arith, few) }

pub literal-fits : (s : List ℕ) → are_ascii s ≡ true → Fits (string s) (6 * length s + 2)
literal-fits s ascii = string-fits {s = s} (length s) (IsUtf8-are_ascii s ascii) (omega arith)

pub object-fits : {ms : Members} {n : ℕ} → MembersFit ms n → Fits (object ms) (1 + n)
object-fits {ms} {n} h = record { spelled = h.spelled; few = omega (arith, h.few) }

pub array-fits : {ds : Items} {n : ℕ} → ItemsFit ds n → Fits (array ds) (1 + n)
array-fits {ds} {n} h = record { spelled = h.spelled; few = omega (arith, h.few) }

pub nothing-fits : MembersFit no_members 1
nothing-fits = record { spelled = tt; few = lit≤ tt }

pub member-fits : {d : Data} {ms : Members} {n m : ℕ} (k : List ℕ) → are_ascii k ≡ true → Fits d n → MembersFit ms m → MembersFit (member k d ms) (6 * length k + 4 + n + m)
member-fits {d} {ms} {n} {m} k ascii h rest = record { spelled = (IsUtf8-are_ascii k ascii, h.spelled, rest.spelled); few = omega (arith, h.few, rest.few) }

pub item-fits : {d : Data} {ds : Items} {n m : ℕ} → Fits d n → ItemsFit ds m → ItemsFit (item d ds) (1 + n + m)
item-fits {d} {ds} {n} {m} h rest = record { spelled = (h.spelled, rest.spelled); few = omega (arith, h.few, rest.few) }

pub no_items-fit : ItemsFit no_items 1
no_items-fit = record { spelled = tt; few = lit≤ tt }

-- what fits fits more room
pub roomy : {d : Data} {n : ℕ} (m : ℕ) → n ≤ m → Fits d n → Fits d m
roomy {d} {n} m low h = record { spelled = h.spelled; few = omega (arith, low, h.few) }

pub roomy-items : {ds : Items} {n : ℕ} (m : ℕ) → n ≤ m → ItemsFit ds n → ItemsFit ds m
roomy-items {ds} {n} m low h = record { spelled = h.spelled; few = omega (arith, low, h.few) }

pub roomy-members : {ms : Members} {n : ℕ} (m : ℕ) → n ≤ m → MembersFit ms n → MembersFit ms m
roomy-members {ms} {n} m low h = record { spelled = h.spelled; few = omega (arith, low, h.few) }

-- ---- parts of letters

-- the words of some rights
abbrev words : Bool → Bool → Bool → Items
words r w s = items_of (map string (words_of (record { read = r; write = w; share = s })))

share-fits : (s : Bool) → ItemsFit (words false false s) 34
share-fits true = item-fits (literal-fits (codes "share") refl) no_items-fit
share-fits false = roomy-items 34 (lit≤ tt) no_items-fit

write-fits : (w s : Bool) → ItemsFit (words false w s) 67
write-fits true s = item-fits (literal-fits (codes "write") refl) (share-fits s)
write-fits false s = roomy-items 67 (lit≤ tt) (share-fits s)

words-fit : (r w s : Bool) → ItemsFit (words r w s) 100
words-fit true w s = roomy-items 100 (lit≤ tt) (item-fits (literal-fits (codes "read") refl) (write-fits w s))
words-fit false w s = roomy-items 100 (lit≤ tt) (write-fits w s)

pub perms-fit : (perms : Rights) → Fits (perms_data perms) 101
perms-fit perms = array-fits (words-fit perms.read perms.write perms.share)

-- an address has at most 311 bytes
address-short : (a : Address) → is_name a.user ≡ true → is_host a.host ≡ true → length (address_text a) ≤ 311
address-short a user host =
    let few : length a.user ≤ 64 = text-few 64 (Some 47) a.user user in
    omega (arith, few, host-short a.host (host-parts a.host host), length-append a.user (64 ∷ a.host))

pub reads_itself : (a : Address) → is_name a.user ≡ true → is_host a.host ≡ true → ReadsAsItself a
reads_itself a user host =
    let short = address-short a user host in
    let most : length (address_text a) ≤ most_bytes = omega (arith, short) in
    record { read = address_of-same a user host; fits = and_from (nat_le 0 (length (address_text a))) (nat_le (length (address_text a)) most_bytes) (le-leb 0 (length (address_text a)) (omega arith)) (le-leb (length (address_text a)) most_bytes most) }

pub address-fits : (a : Address) → ReadsAsItself a → IsUtf8 a.user → Fits (address_data a) 1868
address-fits a sound utf8 =
    let parts = address_of-parts (address_text a) a sound.read in
    let host : IsUtf8 a.host = host-utf8 a.host (host-parts a.host parts.1) in
    let whole : IsUtf8 (address_text a) = IsUtf8-append a.user (64 ∷ a.host) utf8 (IsUtf8-append (64 ∷ []) a.host (IsUtf8-are_ascii (64 ∷ []) refl) host) in
    string-fits 311 whole (address-short a parts.0 parts.1)

-- members that may be absent
pub address_if-fits : {ms : Members} {m : ℕ} (k : List ℕ) (o : Option Address) → are_ascii k ≡ true → AddressIf o → AllByRecursion IsUtf8 (user_if o) → MembersFit ms m
    → MembersFit (member_if k (data_if address_data o) ms) (6 * length k + 1872 + m)
address_if-fits {ms} {m} k None ascii sound utf8 rest = roomy-members (6 * length k + 1872 + m) (omega arith) rest
address_if-fits {ms} {m} k (Some a) ascii sound utf8 rest =
    roomy-members (6 * length k + 1872 + m) (omega arith) (member-fits k ascii (address-fits a sound utf8.0) rest)

pub perms_if-fit : {ms : Members} {m : ℕ} (k : List ℕ) (o : Option Rights) → are_ascii k ≡ true → MembersFit ms m
    → MembersFit (member_if k (data_if perms_data o) ms) (6 * length k + 105 + m)
perms_if-fit {ms} {m} k None ascii rest = roomy-members (6 * length k + 105 + m) (omega arith) rest
perms_if-fit {ms} {m} k (Some perms) ascii rest = roomy-members (6 * length k + 105 + m) (omega arith) (member-fits k ascii (perms-fit perms) rest)
