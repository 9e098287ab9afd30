-- What compares equal is equal.
use Rattle.std.proofs.Common.{◌≡◌, ℕ, List, true, refl}
use Rattle.std.proofs.lemmas.Slice.Eq.{bytes_eq-Decides}
use Rattle.ocm_types.specs.declared.addresses.Address.{Address}
use Rattle.ocm_rules.specs.Numbers.{same_text}
use Rattle.ocm_rules.specs.Equal.{same_address}
use Rattle.ocm_rules.proofs.Lists.{both_pass}

pub text-equal : (a b : List ℕ) → same_text a b ≡ true → a ≡ b
text-equal a b h = (bytes_eq-Decides a b).0 h

pub text-same : (a : List ℕ) → same_text a a ≡ true
text-same a = (bytes_eq-Decides a a).1 refl

address_of : (a b : Address) → a.user ≡ b.user → a.host ≡ b.host → a ≡ b
address_of a b p q = λ i. record { user = p i; host = q i }

pub address-equal : (a b : Address) → same_address a b ≡ true → a ≡ b
address-equal a b h =
    let r = both_pass (same_text a.user b.user) (same_text a.host b.host) h in
    address_of a b (text-equal a.user b.user r.0) (text-equal a.host b.host r.1)
