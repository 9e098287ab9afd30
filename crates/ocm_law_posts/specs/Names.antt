-- Which names of hosts the URL Standard takes as they stand.
use Rattle.std.specs.Prelude.{◌≡◌, ℕ, List, false, Ok, IsTrue}
use Rattle.std.specs.declared.net.ipv4_addr.Ipv4Addr.{Ipv4Addr}
use Rattle.std.specs.Net.Addr.{IsIpv4Addr, ipv4_octets}
use Rattle.std.specs.Net.Text.{ipv4_text}
use Rattle.url.specs.declared.host.Host.{Host}
use Rattle.url.specs.Ipv4.{ends_in_a_number}
use Rattle.url.specs.Host.{host_text, parse_special_host}
use Rattle.ocm_types.specs.Hosts.{colon, cut_at_first, is_host}

-- a host's name, without its port
abbrev pub name_of : List ℕ → List ℕ
name_of host = (cut_at_first colon host).0

-- The URL Standard takes a name as it stands: it reads neither as another host nor as none. A name whose last label is a
-- number is read as an IPv4 address, `1` as `0.0.0.1`.
pub record StandsInUrls (name : List ℕ) : Type 0 where
  pub host : Host (List ℕ)
  pub read : parse_special_host name ≡ Ok host
  pub same : host_text host ≡ name

-- names that do not end in a number stand so, and IPv4 addresses in their usual form
abbrev pub PlainNamesStand : Type 0
PlainNamesStand = (host : List ℕ) → IsTrue (is_host host) → ends_in_a_number (name_of host) ≡ false → StandsInUrls (name_of host)

abbrev pub AddressesStand : Type 0
AddressesStand = (address : Ipv4Addr) → IsIpv4Addr address → StandsInUrls (ipv4_text (ipv4_octets address))
