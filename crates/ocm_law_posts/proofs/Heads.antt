-- Requests without credentials, with a short target and body, are read back.
use Rattle.std.proofs.Common.{ℕ, ◌≤◌, List, [], length, codes, None, IsUtf8, IsTrue, refl, arith, length-append, lit≤, lit<}
use Rattle.std.proofs.lemmas.Fmt.{length-decimal-le}
use Rattle.std.proofs.lemmas.List.Sums.{AllPass-from_list_all}
use Rattle.json.proofs.Printed.Utf8.{IsUtf8-are_ascii}
use Rattle.httparse.specs.Grammar.{is_token_byte, is_uri_byte}
use Rattle.ocm_types.specs.Hosts.{is_host}
use Rattle.ocm_http.specs.Written.{request_head, written_request}
use Rattle.ocm_http.specs.ReadBack.{IsAsked, ReadsAs, request_message}
use Rattle.ocm_http.specs.declared.messages.Kind.TheVariants.{Requests}
use Rattle.ocm_http.proofs.ReadRequests.{request_is_read_back}

-- ---- targets

-- a target that may be asked for by a method, and is short
pub record IsTarget (method target : List ℕ) : Type 0 where
  pub asked : IsAsked method target
  pub text : IsUtf8 target
  pub few : length target ≤ 64

pub shares-target : IsTarget (codes "POST") (codes "/ocm/shares")
unfolding is_token_byte
shares-target = record {
  asked = record {
    is_method = (lit< tt, AllPass-from_list_all is_token_byte (codes "POST") refl);
    is_target = (lit< tt, AllPass-from_list_all is_uri_byte (codes "/ocm/shares") refl);
  };
  text = IsUtf8-are_ascii (codes "/ocm/shares") refl;
  few = lit≤ tt;
}

pub notifications-target : IsTarget (codes "POST") (codes "/ocm/notifications")
unfolding is_token_byte
notifications-target = record {
  asked = record {
    is_method = (lit< tt, AllPass-from_list_all is_token_byte (codes "POST") refl);
    is_target = (lit< tt, AllPass-from_list_all is_uri_byte (codes "/ocm/notifications") refl);
  };
  text = IsUtf8-are_ascii (codes "/ocm/notifications") refl;
  few = lit≤ tt;
}

pub document-target : IsTarget (codes "GET") (codes "/.well-known/ocm")
unfolding is_token_byte
document-target = record {
  asked = record {
    is_method = (lit< tt, AllPass-from_list_all is_token_byte (codes "GET") refl);
    is_target = (lit< tt, AllPass-from_list_all is_uri_byte (codes "/.well-known/ocm") refl);
  };
  text = IsUtf8-are_ascii (codes "/.well-known/ocm") refl;
  few = lit≤ tt;
}

pub second-target : IsTarget (codes "GET") (codes "/ocm-provider/")
unfolding is_token_byte
second-target = record {
  asked = record {
    is_method = (lit< tt, AllPass-from_list_all is_token_byte (codes "GET") refl);
    is_target = (lit< tt, AllPass-from_list_all is_uri_byte (codes "/ocm-provider/") refl);
  };
  text = IsUtf8-are_ascii (codes "/ocm-provider/") refl;
  few = lit≤ tt;
}

-- ---- heads

post-head : (host target : List ℕ) (n : ℕ) → length host ≤ 246 → length target ≤ 64 → n ≤ 65536 → length (request_head host (codes "POST") target None n) ≤ 16384
post-head host target n host-few target-few small =
    let digits = length-decimal-le 5 n (lit≤ tt) (omega arith) (omega arith) in
    simp length-append (omega (arith, host-few, target-few, digits))

get-head : (host target : List ℕ) (n : ℕ) → length host ≤ 246 → length target ≤ 64 → n ≤ 65536 → length (request_head host (codes "GET") target None n) ≤ 16384
get-head host target n host-few target-few small =
    let digits = length-decimal-le 5 n (lit≤ tt) (omega arith) (omega arith) in
    simp length-append (omega (arith, host-few, target-few, digits))

-- ---- messages

pub post-read : (host target body : List ℕ) → IsTrue (is_host host) → length host ≤ 246 → IsTarget (codes "POST") target → length body ≤ 65536
    → ReadsAs Requests 1048576 (written_request host (codes "POST") target None body) (request_message host (codes "POST") target None body)
post-read host target body is few t short =
    request_is_read_back host (codes "POST") target None body is t.text tt 1048576 t.asked (post-head host target (length body) few t.few short) (omega (arith, short), omega (arith, short))

pub get-read : (host target : List ℕ) → IsTrue (is_host host) → length host ≤ 246 → IsTarget (codes "GET") target
    → ReadsAs Requests 1048576 (written_request host (codes "GET") target None []) (request_message host (codes "GET") target None [])
get-read host target is few t =
    request_is_read_back host (codes "GET") target None [] is t.text tt 1048576 t.asked (get-head host target 0 few t.few (lit≤ tt)) (lit≤ tt, lit< tt)
