-- Which addresses a server's peers may have, by the blocks that the standards set aside.
use Rattle.std.specs.Prelude.{◌≡◌, ℕ, nat_eq, nat_le, List, [], ◌∷◌, ◌++◌, take, drop, replicate, slice_index, Bool, true, false, not, ◌&&◌, ◌||◌, ◌==◌, if◌then◌else◌, bytes_eq, codes}
use Rattle.std.specs.List.{starts_with, ends_with}
use Rattle.std.specs.declared.net.ipv4_addr.Ipv4Addr.{Ipv4Addr}
use Rattle.std.specs.Net.Addr.{ipv4_octets}
use Rattle.std.specs.Net.Grammar.{IsIpv4Text}
use Rattle.std.specs.Int.{w16, from_le_bytes}
use Rattle.ocm_net_flights.specs.declared.peers.Peers.{Peers}
use Rattle.ocm_net_flights.specs.declared.peers.Peers.TheVariants.{Any, Public}

-- whether an address of IPv4 with these first two octets is of its own machine or network alone:
-- 0.0.0.0/8, where 0.0.0.0 is unspecified, and 127.0.0.0/8, loopback (RFC 1122 section 3.2.1.3),
-- 10.0.0.0/8, 172.16.0.0/12 and 192.168.0.0/16, private (RFC 1918 section 3),
-- 169.254.0.0/16, link-local (RFC 3927 section 2.1)
abbrev pub is_local_v4 : ℕ → ℕ → Bool
is_local_v4 a b =
    a == 0 || a == 127
    || a == 10 || (a == 172 && (nat_le 16 b && nat_le b 31)) || (a == 192 && b == 168)
    || (a == 169 && b == 254)

-- ::ffff:0:0/96, an address of IPv4 as one of IPv6 (RFC 4291 section 2.5.5.2)
abbrev pub mapped : List ℕ
mapped = replicate 10 0 ++ 255 ∷ 255 ∷ []

-- 64:ff9b::/96, an address of IPv4 behind a translator (RFC 6052 section 2.1)
abbrev pub translated : List ℕ
translated = 0 ∷ 100 ∷ 255 ∷ 155 ∷ replicate 8 0

-- whether the 16 octets of an address of IPv6 are of its own machine or network alone:
-- fc00::/7, unique local (RFC 4193 section 3.1),
-- fe80::/10, link-local (RFC 4291 section 2.5.6),
-- ::/96, with the unspecified address, loopback, and the old form of an address of IPv4 (sections 2.5.2, 2.5.3, 2.5.5.1),
-- or those of such an address of IPv4
abbrev pub is_local_v6 : List ℕ → Bool
is_local_v6 octets =
    slice_index octets 0 == 252 || slice_index octets 0 == 253
    || (slice_index octets 0 == 254 && (nat_le 128 (slice_index octets 1) && nat_le (slice_index octets 1) 191))
    || starts_with nat_eq octets (replicate 12 0)
    || ((starts_with nat_eq octets mapped || starts_with nat_eq octets translated)
    && is_local_v4 (slice_index octets 12) (slice_index octets 13))

-- whether an address may be anybody's, by the bytes that C has for it: their first two are its family, 2 for IPv4 and 10
-- for IPv6
abbrev pub is_public : List ℕ → Bool
is_public raw =
    if from_le_bytes w16 (take 2 raw) == 2 then not (is_local_v4 (slice_index raw 4) (slice_index raw 5))
    else if from_le_bytes w16 (take 2 raw) == 10 then not (is_local_v6 (take 16 (drop 8 raw)))
    else false

-- whether a peer may have an address
abbrev pub allows : Peers → List ℕ → Bool
allows Any raw = true
allows Public raw = is_public raw

-- whether a name is localhost or below it (RFC 6761 section 6.3)
abbrev pub is_localhost : List ℕ → Bool
is_localhost name = bytes_eq name (codes "localhost") || ends_with nat_eq name (codes ".localhost")

-- a name that is of its own machine or network alone, whoever is asked for its addresses
pub data IsLocalName (name : List ℕ) : Type 0 where
  word : is_localhost name ≡ true → IsLocalName name
  address : (ip : Ipv4Addr) → IsIpv4Text name ip → is_local_v4 (slice_index (ipv4_octets ip) 0) (slice_index (ipv4_octets ip) 1) ≡ true → IsLocalName name
