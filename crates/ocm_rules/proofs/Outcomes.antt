use Rattle.std.proofs.Common.{◌≡◌, ℕ, ◌+◌, List, [], ◌∷◌, ◌++◌, length, Bool, true, false, ◌&&◌, ◌||◌, refl, sym, ap, subst, ◌∙◌, arith, eqb-true}
use Rattle.std.specs.Prelude.{Option, Some, None, nat_eq, if◌then◌else◌, option_and_then}
use Rattle.std.specs.List.{list_any}
use Rattle.std.specs.Option.{option_or, option_map_or}
use Rattle.ocm_entry.specs.declared.asks.Ask.{Ask}
use Rattle.ocm_entry.specs.declared.asks.Ask.TheVariants as asks
use Rattle.ocm_entry.specs.declared.entries.Entry.{Entry}
use Rattle.ocm_rules.specs.declared.rows.Message.{Message}
use Rattle.ocm_rules.specs.Numbers.{at_number, number_of}
use Rattle.ocm_rules.specs.Settlements.{Settlement, settlement}
use Rattle.ocm_rules.proofs.Lists.{not_both}
use Rattle.ocm_rules.proofs.Numbering.{not_none}
use Rattle.ocm_rules.proofs.Searches.{number_of-more, number_of-found, at_number-absent, some-same, Unique}

-- how the first message of a kind was settled
abbrev pub outcome_of : (Message → Bool) → List Entry → List Message → Option Settlement
outcome_of p g messages = option_and_then (settlement g) (number_of p messages)

-- whether the message of this number is of a kind
abbrev pub is_kind : (Message → Bool) → List Message → ℕ → Bool
is_kind p messages number = option_map_or p (at_number messages number) false

-- how the message of a kind is settled after an ask, where this is how it was settled before
abbrev pub settled_outcome : (Message → Bool) → List Message → Ask → Option Settlement → Option Settlement
settled_outcome p messages (asks.Settle number status id) o = if is_kind p messages number then Some (record { status = status; id = id }) else o
settled_outcome p messages _ o = o

-- the message of a number, where it is of a kind, is the first of its kind
pub kind-first : (p : Message → Bool) (messages : List Message) (number : ℕ) → Unique p messages → is_kind p messages number ≡ true → number_of p messages ≡ Some number
kind-first p messages number unique h = by_message (at_number messages number) refl h
  where
    by_message : (o : Option Message) → at_number messages number ≡ o → option_map_or p o false ≡ true → number_of p messages ≡ Some number
    by_message None e k = absurd (cc)
    by_message (Some m) e k = unique number m e k

-- and there is one of its kind
pub kind-there : (p : Message → Bool) (messages : List Message) (number : ℕ) → is_kind p messages number ≡ true → list_any p messages ≡ true
kind-there p messages number h = by_message (at_number messages number) refl h
  where
    by_message : (o : Option Message) → at_number messages number ≡ o → option_map_or p o false ≡ true → list_any p messages ≡ true
    by_message None e k = absurd (cc)
    by_message (Some m) e k = by_test (list_any p messages) refl
      where
        by_test : (b : Bool) → list_any p messages ≡ b → b ≡ true
        by_test true f = refl
        by_test false f = absurd (not_both (p m) k (at_number-absent p messages number m f e))

-- an answer to a message, where this is the number of the first of a kind
settle-step : (p : Message → Bool) (before : List Entry) (messages : List Message) (number status : ℕ) (id : Option (List ℕ)) → Unique p messages → (q : Option ℕ) → number_of p messages ≡ q
    → option_and_then (λ k. option_or (if nat_eq number k then (let s : Option Settlement = Some (record { status = status; id = id }) in s) else None) (settlement before k)) q
    ≡ (if is_kind p messages number then Some (record { status = status; id = id }) else option_and_then (settlement before) q)
settle-step p before messages number status id unique None e = by_test (is_kind p messages number) refl
  where
    by_test : (b : Bool) → is_kind p messages number ≡ b → (let n : Option Settlement = None in n) ≡ (if b then Some (record { status = status; id = id }) else None)
    by_test true h = absurd (not_none (number_of p messages) number (kind-first p messages number unique h) e)
    by_test false h = refl
settle-step p before messages number status id unique (Some k) e = by_tests (nat_eq number k) refl (is_kind p messages number) refl
  where
    found : (x : Message) × (at_number messages k ≡ Some x) × (p x ≡ true)
    found = number_of-found p messages k e

    of_kind : is_kind p messages k ≡ true
    of_kind = rw found.1 found.2

    by_tests : (b : Bool) → nat_eq number k ≡ b → (c : Bool) → is_kind p messages number ≡ c
        → option_or (if b then (let s : Option Settlement = Some (record { status = status; id = id }) in s) else None) (settlement before k) ≡ (if c then Some (record { status = status; id = id }) else settlement before k)
    by_tests true h true m = refl
    by_tests true h false m = absurd (not_both (is_kind p messages number) (subst (λ j. is_kind p messages j ≡ true) (sym (eqb-true number k h)) of_kind) m)
    by_tests false h true m =
        absurd (not_both (nat_eq number k) (let same = some-same number k (sym (kind-first p messages number unique m) ∙ e) in rw same (eqb-same k)) h)
      where
        eqb-same : (j : ℕ) → nat_eq j j ≡ true
        eqb-same j = Rattle.std.proofs.Common.eq-eqb j j refl
    by_tests false h false m = refl

-- how the message of a kind is settled, one entry on that sends none of its kind
pub outcome-step : (p : Message → Bool) (ask : Ask) (reply : _) (before : List Entry) (messages extra : List Message) → Unique p messages → list_any p extra ≡ false
    → outcome_of p (record { ask = ask; reply = reply } ∷ before) (messages ++ extra) ≡ settled_outcome p messages ask (outcome_of p before messages)
outcome-step p (asks.Settle number status id) reply before messages extra unique none =
    rw (number_of-more p messages extra none) (settle-step p before messages number status id unique (number_of p messages) refl)
outcome-step p _ reply before messages extra unique none = rw (number_of-more p messages extra none) refl
