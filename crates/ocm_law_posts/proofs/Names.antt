-- Which names of hosts the URL Standard takes as they stand.
use Rattle.std.proofs.Common.{◌≡◌, ℕ, ◌<◌, Bool, true, false, List, refl, subst, sym, arith}
use Rattle.std.specs.Prelude.{◌&&◌}
use Rattle.std.specs.Char.{to_ascii_lowercase}
use Rattle.std.proofs.lemmas.Bool.{agree_below, agree_below_at}
use Rattle.std.proofs.lemmas.Bool.Decides.{nat_tests}
use Rattle.std.proofs.lemmas.List.Elements.{All-weaker}
use Rattle.percent_encoding.specs.AsciiSet.{should_percent_encode}
use Rattle.percent_encoding.specs.Percent.{IsKept}
use Rattle.url.specs.declared.sets.TheConstants.{FORBIDDEN_DOMAIN}
use Rattle.url.specs.declared.host.Host.TheVariants.{Domain, Ipv4}
use Rattle.url.specs.Ipv4.{ends_in_a_number}
use Rattle.url.specs.Host.{IsDomain}
use Rattle.url.proofs.InputLemmas.{Passes, map_fixed}
use Rattle.url.proofs.HostRoundTrip.{parse_special_host-host_text}
use Rattle.ocm_types.specs.Hosts.{is_host_byte, is_host_name}
use Rattle.ocm_law_posts.specs.Names.{StandsInUrls, PlainNamesStand, AddressesStand}
use Rattle.ocm_law_posts.proofs.EndPoints.{host-parts, name-bytes, name-some}

table : agree_below (λ b. is_host_byte b && should_percent_encode FORBIDDEN_DOMAIN b) (λ _. false) 128 ≡ true
unfolding should_percent_encode
table = refl

host_byte-small : (b : ℕ) → is_host_byte b ≡ true → b < 128
host_byte-small b h = grind (arith, nat_tests)

not_both : (a b : Bool) → (a && b) ≡ false → a ≡ true → b ≡ false
not_both true b none is = none
not_both false b none is = absurd cc

host_byte-kept : (b : ℕ) → is_host_byte b ≡ true → IsKept FORBIDDEN_DOMAIN b
host_byte-kept b h = not_both _ _ (agree_below_at (λ x. is_host_byte x && should_percent_encode FORBIDDEN_DOMAIN x) (λ _. false) 128 b table (host_byte-small b h)) h

host_byte-lower : (b : ℕ) → is_host_byte b ≡ true → to_ascii_lowercase b ≡ b
host_byte-lower b h = grind (arith, nat_tests)

name-domain : (name : List ℕ) → is_host_name name ≡ true → ends_in_a_number name ≡ false → IsDomain name
name-domain name h named =
    let bytes = name-bytes name h in
    record {
      allowed = All-weaker (Passes is_host_byte) (IsKept FORBIDDEN_DOMAIN) host_byte-kept name bytes;
      lower = map_fixed to_ascii_lowercase name (All-weaker (Passes is_host_byte) (λ b. to_ascii_lowercase b ≡ b) host_byte-lower name bytes);
      named = named;
    }

name-stands : (name : List ℕ) → is_host_name name ≡ true → ends_in_a_number name ≡ false → StandsInUrls name
name-stands name h named = record { host = Domain name; read = parse_special_host-host_text (Domain name) (name-domain name h named, name-some name h); same = refl }

pub plain-stands : PlainNamesStand
plain-stands host is named =
    let p = host-parts host is in
    subst StandsInUrls (sym p.first) (name-stands p.name p.is_name (subst (λ n. ends_in_a_number n ≡ false) p.first named))

pub addresses-stand : AddressesStand
addresses-stand address valid = record { host = Ipv4 address; read = parse_special_host-host_text (Ipv4 address) valid; same = refl }
