-- Ports are decimals, and canonical hosts are names with or without such a port.
use Rattle.std.proofs.Common.{◌≡◌, ◌≢◌, ℕ, ◌<◌, ◌^◌, ◌⊎◌, inl, inr, true, not, List, [], ◌∷◌, ◌++◌, get_or, Option, Some, None, refl, sym, ap, subst, ◌∙◌, arith, ne_eqb, eq-eqb}
use Rattle.std.specs.Prelude.{nat_eq, nat_lt, codes, decimal, ◌&&◌}
use Rattle.std.specs.List.{list_all}
use Rattle.std.specs.Char.{is_ascii_digit}
use Rattle.std.specs.Str.Parse.{digits_value}
use Rattle.std.proofs.lemmas.Bool.{and_parts, and_from, false_from_ne_true, both_ways, not-true, not_from_false, lt-ltb, ltb-true, cases_lt}
use Rattle.std.proofs.lemmas.Fmt.{decimal_digit, first_decimal, digits_decimal, digits_value-decimal, decimal-digits_value}
use Rattle.std.proofs.lemmas.Slice.Eq.{bytes_eq-Decides}
use Rattle.ocm_types.specs.Hosts.{cut_at_first, begins_above_zero, is_port, is_default_port, host_text, is_host_name, is_kept_port, is_host, HasPort}
use Rattle.ocm_types.proofs.HostTexts.{host_text-cut}
use Rattle.ocm_types.proofs.HostReading.{own, begins_some, cut-host_text, name-lacks_colon}

-- digits above `0` at their first place
begins-from_first : (digits : List ℕ) → 48 < get_or digits 0 0 → begins_above_zero digits ≡ true
begins-from_first [] h = absurd (omega arith)
begins-from_first (d ∷ digits) h = not_from_false (nat_eq d 48) (ne_eqb d 48 (λ e. omega arith))

-- and back
begins-first : (digits : List ℕ) → begins_above_zero digits ≡ true → get_or digits 0 0 ≡ 48 → ⊥
begins-first [] h e = absurd cc
begins-first (d ∷ digits) h e = both_ways (nat_eq d 48) (not-true (nat_eq d 48) h) (eq-eqb d 48 e)

-- the decimal of each port is one
pub is_port-decimal : (port : ℕ) → 0 < port → port < 65536 → is_port (decimal port) ≡ true
is_port-decimal port some small =
    let fits : port < 2 ^ 64 = omega arith in
    let digits = digits_decimal own port fits in
    let begins = begins-from_first (decimal port) (first_decimal port some fits) in
    let value : digits_value 10 (decimal port) < 65536 = rw (digits_value-decimal own port fits) small in
    and_from _ _ (and_from _ _ digits begins) (lt-ltb _ _ value)

-- digits that are a port are the decimal of what they write
decimal-same : (digits : List ℕ) → is_port digits ≡ true → decimal (digits_value 10 digits) ≡ digits
decimal-same digits h =
    let a = and_parts (list_all is_ascii_digit digits && begins_above_zero digits) (nat_lt (digits_value 10 digits) 65536) h in
    let b = and_parts (list_all is_ascii_digit digits) (begins_above_zero digits) a.0 in
    let small : digits_value 10 digits < 65536 = ltb-true (digits_value 10 digits) 65536 a.1 in
    decimal-digits_value own digits b.0 (begins_some digits b.1) (λ e. absurd (begins-first digits b.1 e)) (omega arith)

-- a port is below 65,536
value_below : (digits : List ℕ) → is_port digits ≡ true → digits_value 10 digits < 65536
value_below digits h = ltb-true (digits_value 10 digits) 65536 (and_parts (list_all is_ascii_digit digits && begins_above_zero digits) (nat_lt (digits_value 10 digits) 65536) h).1

-- no port is 0
zero_is_no_port : (digits : List ℕ) → is_port digits ≡ true → digits_value 10 digits ≡ 0 → ⊥
zero_is_no_port digits h e =
    let a = and_parts (list_all is_ascii_digit digits && begins_above_zero digits) (nat_lt (digits_value 10 digits) 65536) h in
    let b = and_parts (list_all is_ascii_digit digits) (begins_above_zero digits) a.0 in
    let zero_text : decimal 0 ≡ digits = ap decimal (sym e) ∙ decimal-same digits h in
    begins-first digits b.1 (ap (λ (l : List ℕ). get_or l 0 0) (sym zero_text ∙ decimal_digit 0 (omega arith)))

-- so each is above
value_above : (digits : List ℕ) → is_port digits ≡ true → 0 < digits_value 10 digits
value_above digits h =
    elim (cases_lt 0 (digits_value 10 digits)) [
      | inl some ↦ some
      | inr none ↦ absurd (zero_is_no_port digits h (omega arith))
    ]

-- a port is the decimal of some number from 1 to 65,535
pub ports_only : (digits : List ℕ) → is_port digits ≡ true → (port : ℕ) × (0 < port) × (port < 65536) × (digits ≡ decimal port)
ports_only digits h = (digits_value 10 digits, value_above digits h, value_below digits h, sym (decimal-same digits h))

-- the decimal of 80
eighty : decimal 80 ≡ codes "80"
eighty = decimal-digits_value own (codes "80") refl (omega arith) (λ e. absurd cc) (omega arith)

-- no other number has that decimal
default_port : (port : ℕ) → port < 65536 → is_default_port (decimal port) ≡ true → port ≡ 80
default_port port small h =
    let fits : port < 2 ^ 64 = omega arith in
    sym (digits_value-decimal own port fits) ∙ ap (digits_value 10) ((bytes_eq-Decides (decimal port) (codes "80")).0 h)

-- a name is a host
pub is_host-name : (name : List ℕ) → is_host_name name ≡ true → is_host name ≡ true
is_host-name name h = rw (cut-host_text name None (name-lacks_colon name h)) (and_from _ _ h refl)

-- and so is a name with a port
pub is_host-name_and_port : (name : List ℕ) (port : ℕ) → is_host_name name ≡ true → 0 < port → port < 65536 → port ≢ 80 → is_host (name ++ 58 ∷ decimal port) ≡ true
is_host-name_and_port name port h some small other =
    let kept : is_kept_port (Some (decimal port)) ≡ true = and_from _ _ (is_port-decimal port some small) (not_from_false _ (false_from_ne_true _ (λ e. other (default_port port small e)))) in
    rw (cut-host_text name (Some (decimal port)) (name-lacks_colon name h)) (and_from _ _ h kept)

-- a host by its parts
parts_only : (name : List ℕ) (port : Option (List ℕ)) → is_host_name name ≡ true → is_kept_port port ≡ true → (is_host_name (host_text name port) ≡ true) ⊎ HasPort (host_text name port)
parts_only name None h k = inl h
parts_only name (Some digits) h k =
    let parts = and_parts (is_port digits) (not (is_default_port digits)) k in
    let value = digits_value 10 digits in
    let same : digits ≡ decimal value = sym (decimal-same digits parts.0) in
    inr (record {
      name = name;
      port = value;
      is_name = h;
      above_zero = value_above digits parts.0;
      below = value_below digits parts.0;
      not_default = λ e. both_ways (is_default_port digits) (not-true _ parts.1) ((bytes_eq-Decides digits (codes "80")).1 (same ∙ ap decimal e ∙ eighty));
      spelled = ap (λ (l : List ℕ). name ++ 58 ∷ l) same;
    })

-- a host is one of the two
pub hosts_only : (text : List ℕ) → is_host text ≡ true → (is_host_name text ≡ true) ⊎ HasPort text
hosts_only text h =
    let cut = cut_at_first 58 text in
    let parts = and_parts (is_host_name cut.0) (is_kept_port cut.1) h in
    subst (λ (t : List ℕ). (is_host_name t ≡ true) ⊎ HasPort t) (host_text-cut text) (parts_only cut.0 cut.1 parts.0 parts.1)
