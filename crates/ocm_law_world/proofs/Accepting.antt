-- Which messages tell that an offer was taken.
use Rattle.std.proofs.Common.{◌≡◌, ℕ, zero, suc, List, [], ◌∷◌, ◌++◌, Bool, true, false, refl, sym, subst, eqb-true}
use Rattle.std.specs.Prelude.{Option, Some, None, ◌⊎◌, slice_get, option_map, option_to_list}
use mathlib.Core.Logic.{inl, inr}
use Rattle.ocm_types.specs.declared.letters.Offer.{Offer}
use Rattle.ocm_entry.specs.declared.asks.Ask.{Ask}
use Rattle.ocm_entry.specs.declared.asks.Ask.TheVariants as asks
use Rattle.ocm_entry.specs.declared.asks.Cmd.TheVariants as commands
use Rattle.ocm_entry.specs.declared.entries.Entry.{Entry}
use Rattle.ocm_rules.specs.declared.rows.Message.{Message}
use Rattle.ocm_rules.specs.Numbers.{added, at_number}
use Rattle.ocm_rules.specs.Offers.{offers, offer_by, accepts}
use Rattle.ocm_rules.specs.Views.{View}
use Rattle.ocm_rules.specs.Messages.{acceptance, sends, out, view_of}
use Rattle.ocm_rules.proofs.Lists.{not_both}
use Rattle.ocm_rules.proofs.Searches.{at_number-absent, some-same}
use Rattle.ocm_rules.proofs.Letters.{accepts_record, no_acceptance}
use Rattle.ocm_law_world.proofs.Owners.{at_number-added}

-- ---- one of two lists

slice_get-either : {X : Type 0} (xs ys : List X) (i : ℕ) (x : X) → slice_get (xs ++ ys) i ≡ Some x → (slice_get xs i ≡ Some x) ⊎ ((j : ℕ) × (slice_get ys j ≡ Some x))
slice_get-either [] ys i x h = inr (i, h)
slice_get-either (y ∷ xs) ys zero x h = inl h
slice_get-either (y ∷ xs) ys (suc i) x h = slice_get-either xs ys i x h

-- what stands in two lists, one behind the other, stands in the first or in the second
pub at_number-either : {X : Type 0} (xs ys : List X) (i : ℕ) (x : X) → at_number (xs ++ ys) i ≡ Some x → (at_number xs i ≡ Some x) ⊎ ((j : ℕ) × (at_number ys j ≡ Some x))
at_number-either xs ys zero x h = absurd (cc)
at_number-either xs ys (suc i) x h = turned (slice_get-either xs ys i x h)
  where
    turned : (slice_get xs i ≡ Some x) ⊎ ((j : ℕ) × (slice_get ys j ≡ Some x)) → (slice_get xs i ≡ Some x) ⊎ ((j : ℕ) × (at_number ys j ≡ Some x))
    turned (inl e) = inl e
    turned (inr (j, e)) = inr (suc j, e)

-- the only one of a list of at most one
pub at_number-only : {X : Type 0} (o : Option X) (j : ℕ) (x : X) → at_number (option_to_list o) j ≡ Some x → o ≡ Some x
at_number-only None zero x h = absurd (cc)
at_number-only None (suc j) x h = absurd (cc)
at_number-only (Some y) zero x h = absurd (cc)
at_number-only (Some y) (suc zero) x h = h
at_number-only (Some y) (suc (suc j)) x h = absurd (cc)

-- what is made of a value that may be there
pub made-of : {X Y : Type 0} (f : X → Y) (o : Option X) (y : Y) → option_map f o ≡ Some y → (x : X) × (o ≡ Some x) × (y ≡ f x)
made-of f None y h = absurd (cc)
made-of f (Some x) y h = (x, refl, sym (some-same (f x) y h))

-- ---- acceptances

-- the acceptance of the record of this number, where it is there
abbrev pub IsAcceptance : List Offer → ℕ → Message → Type 0
IsAcceptance os n message = (offer : Offer) × (at_number os n ≡ Some offer) × (message ≡ acceptance n offer)

-- an entry that accepts a record sends its acceptance
sent-acceptance : (v : View) (ask : Ask) (n j : ℕ) (message : Message) → at_number (sends v ask) j ≡ Some message → accepts n ask ≡ true → IsAcceptance (added v.offers (offer_by ask)) n message
sent-acceptance v (asks.Local key (commands.Accept number)) n j message is h =
    let one = made-of (acceptance number) (at_number v.offers number) message (at_number-only _ j message is) in
    let P : ℕ → Type 0 = λ k. IsAcceptance v.offers k message in
    subst P (eqb-true number n h) one
sent-acceptance v _ n j message is h = absurd (cc)

-- what is about the acceptance of a record is its acceptance
pub acceptances : (host : List ℕ) (g : List Entry) (number n : ℕ) (message : Message) → at_number (out host g) number ≡ Some message → accepts_record n message ≡ true → IsAcceptance (offers g) n message
acceptances host [] zero n message is h = absurd (cc)
acceptances host [] (suc number) n message is h = absurd (cc)
acceptances host (e ∷ before) number n message is h = by_place (λ f. acceptances host before number n message f h) (at_number-either (out host before) (sends (view_of host before) e.ask) number message is)
  where
    by_test : (j : ℕ) → at_number (sends (view_of host before) e.ask) j ≡ Some message → (b : Bool) → accepts n e.ask ≡ b → IsAcceptance (offers (e ∷ before)) n message
    by_test j f true k = sent-acceptance (view_of host before) e.ask n j message f k
    by_test j f false k = absurd (not_both (accepts_record n message) h (at_number-absent (accepts_record n) (sends (view_of host before) e.ask) j message (no_acceptance (view_of host before) e.ask n k) f))

    by_place : (at_number (out host before) number ≡ Some message → IsAcceptance (offers before) n message) → (at_number (out host before) number ≡ Some message) ⊎ ((j : ℕ) × (at_number (sends (view_of host before) e.ask) j ≡ Some message)) → IsAcceptance (offers (e ∷ before)) n message
    by_place again (inl f) = let older = again f in (older.0, at_number-added (offers before) (offer_by e.ask) n older.0 older.1, older.2)
    by_place again (inr (j, f)) = by_test j f (accepts n e.ask) refl
