-- The discovery document of each host can be written: its texts are short.
use Rattle.std.proofs.Common.{◌≡◌, ◌≤◌, inl, inr, List, ℕ, ◌++◌, length, true, IsTrue, refl, arith, length-append}
use Rattle.std.proofs.lemmas.Bool.{and_from, and_parts, le-leb, leb-true}
use Rattle.std.proofs.lemmas.Fmt.{length-decimal-le}
use Rattle.std.specs.Prelude.{nat_le, codes}
use Rattle.std.specs.List.{list_all}
use Rattle.ocm_types.specs.Texts.{has_length}
use Rattle.ocm_types.specs.Hosts.{is_host, is_host_name, is_host_byte, HasPort}
use Rattle.ocm_types.proofs.HostPorts.{hosts_only}
use Rattle.ocm_records.specs.Documents.{is_discovery}
use Rattle.ocm_dav_pages.specs.Pages.{document_of}

-- a name has at most 240 bytes
name_short : (name : List ℕ) → is_host_name name ≡ true → length name ≤ 240
name_short name h =
    let a = and_parts (has_length 1 240 name) (list_all is_host_byte name) h in
    let b = and_parts (nat_le 1 (length name)) (nat_le (length name) 240) a.0 in
    leb-true (length name) 240 b.1

-- and a host with a port 6 more
port_short : (text : List ℕ) → HasPort text → length text ≤ 246
port_short text p =
    let name = name_short p.name p.is_name in
    let port = length-decimal-le 5 p.port (omega arith) (omega (arith, p.below)) (omega (arith, p.below)) in
    rw p.spelled (simp length-append (omega arith))

host_short : (host : List ℕ) → is_host host ≡ true → length host ≤ 246
host_short host h =
    elim (hosts_only host h) [
      | inl name ↦ let short = name_short host name in omega arith
      | inr port ↦ port_short host port
    ]

pub document_is_discovery : (host : List ℕ) → IsTrue (is_host host) → IsTrue (is_discovery (document_of host))
document_is_discovery host h =
    let short = host_short host h in
    let url = codes "http://" ++ host ++ codes "/ocm" in
    let low : 1 ≤ length url = simp length-append (omega arith) in
    let high : length url ≤ 1024 = simp length-append (omega arith) in
    and_from _ _ (and_from _ _ refl (and_from _ _ (le-leb 1 (length url) low) (le-leb (length url) 1024 high))) refl
