-- What records open to, one after another.
use Rattle.std.proofs.Common.{◌≡◌, ℕ, List, [], ◌∷◌, ◌++◌, Bool, true, false, refl, sym, ap, ◌∙◌, subst, Option, Some, None}
use Rattle.std.specs.Prelude.{if◌then◌else◌, nat_le, nat_lt, option_and_then}
use Rattle.ocm_entry.specs.declared.asks.Ask.{Ask}
use Rattle.ocm_entry.specs.declared.asks.Ask.TheVariants as asks
use Rattle.ocm_entry.specs.declared.entries.Entry.{Entry}
use Rattle.ocm_journal_image.specs.declared.readings.RawRecord.{RawRecord}
use Rattle.ocm_journal_image.specs.Layout.{contents}
use Rattle.ocm_rules.specs.Shares.{moment}
use Rattle.ocm_rules.specs.History.{IsAnswered}
use Rattle.ocm_journal_records.specs.declared.stamps.Stamped.{Stamped}
use Rattle.ocm_journal_records.specs.declared.stamps.Stamped.TheVariants as stamps
use Rattle.ocm_journal_records.specs.Stamps.{stamped_of}
use Rattle.ocm_law_sessions.specs.Readings.{entry_after, with_ask, with_moment, with_stamped, goes_on, opened_from, opened, refused_from, refused_at}
use Rattle.ocm_law_sessions.proofs.Entries.{with_ask-gives}

-- ---- more records

-- a history, or none
abbrev Maybe : Type 0
Maybe = Option (List Entry)

and_then-some : (o : Maybe) → option_and_then (λ (now : List Entry). Some now) o ≡ o
and_then-some None = refl
and_then-some (Some now) = refl

and_then-twice : (f g h : List Entry → Maybe) → ((now : List Entry) → h now ≡ option_and_then g (f now)) → (o : Maybe) → option_and_then h o ≡ option_and_then g (option_and_then f o)
and_then-twice f g h each None = refl
and_then-twice f g h each (Some now) = each now

-- records, and then more, open as the first of them and then the others do
pub opened-append : (host : List ℕ) (form : ℕ) (xs ys : List (List ℕ)) (k : List Entry) → opened_from host form k (xs ++ ys) ≡ option_and_then (λ now. opened_from host form now ys) (opened_from host form k xs)
opened-append host form [] ys k = refl
opened-append host form (r ∷ xs) ys k =
    and_then-twice (λ now. opened_from host form now xs) (λ now. opened_from host form now ys) (λ now. opened_from host form now (xs ++ ys)) (λ now. opened-append host form xs ys now) (goes_on host form k r)

-- one record more
pub opened-more : (host : List ℕ) (form : ℕ) (records : List (List ℕ)) (r : List ℕ) (k : List Entry) → opened host form records ≡ Some k → opened host form (records ++ r ∷ []) ≡ goes_on host form k r
opened-more host form records r k is =
    opened-append host form records (r ∷ []) []
    ∙ ap (λ o. option_and_then (λ now. opened_from host form now (r ∷ [])) o) is
    ∙ and_then-some (goes_on host form k r)

-- ---- what is opened is answered

with_ask-answered : (host : List ℕ) (ask : Ask) (k now : List Entry) → IsAnswered host k → with_ask host ask k ≡ Some now → IsAnswered host now
with_ask-answered host ask k now answered h =
    let g = with_ask-gives host ask k now h in
    let P : List Entry → Type 0 = λ l. IsAnswered host l in
    subst P g.1 (refl, g.0, answered)

with_moment-answered : (host : List ℕ) (clock : ℕ) (k : List Entry) → IsAnswered host k → IsAnswered host (with_moment host clock k)
with_moment-answered host clock k answered = by_test (nat_lt (moment k) clock) refl
  where
    by_test : (b : Bool) → nat_lt (moment k) clock ≡ b → IsAnswered host (if b then entry_after host k (asks.Tick clock) ∷ k else k)
    by_test true is = (refl, is, answered)
    by_test false is = answered

with_stamped-answered : (host : List ℕ) (said : Stamped) (k now : List Entry) → IsAnswered host k → with_stamped host said k ≡ Some now → IsAnswered host now
with_stamped-answered host (stamps.Bare ask) k now answered h = with_ask-answered host ask k now answered h
with_stamped-answered host (stamps.Moment clock) k now answered h = with_ask-answered host (asks.Tick clock) k now answered h
with_stamped-answered host (stamps.Timed clock ask) k now answered h = by_test (nat_le (moment k) clock) h
  where
    nothing : Maybe
    nothing = None

    by_test : (b : Bool) → (if b then with_ask host ask (with_moment host clock k) else nothing) ≡ Some now → IsAnswered host now
    by_test true g = with_ask-answered host ask (with_moment host clock k) now (with_moment-answered host clock k answered) g
    by_test false g = absurd (cc)

pub goes_on-answered : (host : List ℕ) (form : ℕ) (k : List Entry) (bytes : List ℕ) (now : List Entry) → IsAnswered host k → goes_on host form k bytes ≡ Some now → IsAnswered host now
unfolding goes_on
goes_on-answered host form k bytes now answered h = by_record (stamped_of form bytes) h
  where
    by_record : (o : Option Stamped) → option_and_then (λ said. with_stamped host said k) o ≡ Some now → IsAnswered host now
    by_record None g = absurd (cc)
    by_record (Some said) g = with_stamped-answered host said k now answered g

pub opened_from-answered : (host : List ℕ) (form : ℕ) (records : List (List ℕ)) (k now : List Entry) → IsAnswered host k → opened_from host form k records ≡ Some now → IsAnswered host now
opened_from-answered host form [] k now answered h =
    let same : k ≡ now = cc in
    let P : List Entry → Type 0 = λ l. IsAnswered host l in
    subst P same answered
opened_from-answered host form (r ∷ rs) k now answered h =
    by_record (λ mid is g. opened_from-answered host form rs mid now (goes_on-answered host form k r mid answered is) g) (goes_on host form k r) refl h
  where
    by_record : ((mid : List Entry) → goes_on host form k r ≡ Some mid → opened_from host form mid rs ≡ Some now → IsAnswered host now)
        → (o : Maybe) → goes_on host form k r ≡ o → option_and_then (λ mid. opened_from host form mid rs) o ≡ Some now → IsAnswered host now
    by_record further None is g = absurd (cc)
    by_record further (Some mid) is g = further mid is g

pub opened-answered : (host : List ℕ) (form : ℕ) (records : List (List ℕ)) (k : List Entry) → opened host form records ≡ Some k → IsAnswered host k
opened-answered host form records k is = opened_from-answered host form records [] k tt is

-- ---- the first that is refused

pub unrefused-opens : (host : List ℕ) (form : ℕ) (records : List RawRecord) (k : List Entry) → refused_from host form k records ≡ None → (now : List Entry) × (opened_from host form k (contents records) ≡ Some now)
unrefused-opens host form [] k h = (k, refl)
unrefused-opens host form (r ∷ rs) k h = by_record (λ mid g. unrefused-opens host form rs mid g) (goes_on host form k r.bytes) h
  where
    Opens : Maybe → Type 0
    Opens o = (now : List Entry) × (option_and_then (λ mid. opened_from host form mid (contents rs)) o ≡ Some now)

    refused : Maybe → Option ℕ
    refused o = elim o [
      | None ↦ Some r.place
      | Some mid ↦ refused_from host form mid rs
    ]

    by_record : ((mid : List Entry) → refused_from host form mid rs ≡ None → Opens (Some mid)) → (o : Maybe) → refused o ≡ None → Opens o
    by_record further None g = absurd (cc)
    by_record further (Some mid) g = further mid g

pub refused-opens : (host : List ℕ) (form : ℕ) (records : List RawRecord) (k : List Entry) (place : ℕ) → refused_from host form k records ≡ Some place → opened_from host form k (contents records) ≡ None
refused-opens host form [] k place h = absurd (cc)
refused-opens host form (r ∷ rs) k place h = by_record (λ mid g. refused-opens host form rs mid place g) (goes_on host form k r.bytes) h
  where
    refused : Maybe → Option ℕ
    refused o = elim o [
      | None ↦ Some r.place
      | Some mid ↦ refused_from host form mid rs
    ]

    by_record : ((mid : List Entry) → refused_from host form mid rs ≡ Some place → opened_from host form mid (contents rs) ≡ None) → (o : Maybe) → refused o ≡ Some place
        → option_and_then (λ mid. opened_from host form mid (contents rs)) o ≡ None
    by_record further None g = refl
    by_record further (Some mid) g = further mid g

-- where records open none of them is refused
pub opened-unrefused : (host : List ℕ) (form : ℕ) (records : List RawRecord) (k : List Entry) → opened host form (contents records) ≡ Some k → refused_at host form records ≡ None
opened-unrefused host form records k is = by_place (refused_at host form records) refl
  where
    clash : (o : Maybe) → o ≡ Some k → o ≡ None → ⊥
    clash None a b = cc
    clash (Some now) a b = cc

    by_place : (o : Option ℕ) → refused_at host form records ≡ o → refused_at host form records ≡ None
    by_place None h = h
    by_place (Some place) h = absurd (clash (opened host form (contents records)) is (refused-opens host form records [] place h))

-- the first by which the list of those before it does not go on is refused
pub refused-first : (host : List ℕ) (form : ℕ) (front rest : List RawRecord) (r : RawRecord) (k now : List Entry) → opened_from host form k (contents front) ≡ Some now → goes_on host form now r.bytes ≡ None
    → refused_from host form k (front ++ r ∷ rest) ≡ Some r.place
refused-first host form [] rest r k now is none =
    let same : k ≡ now = cc in
    let P : List Entry → Type 0 = λ l. goes_on host form l r.bytes ≡ None in
    by_record (goes_on host form k r.bytes) (subst P (sym same) none)
  where
    refused : Maybe → Option ℕ
    refused o = elim o [
      | None ↦ Some r.place
      | Some mid ↦ refused_from host form mid rest
    ]

    by_record : (o : Maybe) → o ≡ None → refused o ≡ Some r.place
    by_record None h = refl
    by_record (Some mid) h = absurd (cc)
refused-first host form (x ∷ front) rest r k now is none = by_record (λ mid g. refused-first host form front rest r mid now g none) (goes_on host form k x.bytes) is
  where
    refused : Maybe → Option ℕ
    refused o = elim o [
      | None ↦ Some x.place
      | Some mid ↦ refused_from host form mid (front ++ r ∷ rest)
    ]

    by_record : ((mid : List Entry) → opened_from host form mid (contents front) ≡ Some now → refused_from host form mid (front ++ r ∷ rest) ≡ Some r.place)
        → (o : Maybe) → option_and_then (λ mid. opened_from host form mid (contents front)) o ≡ Some now → refused o ≡ Some r.place
    by_record further None g = absurd (cc)
    by_record further (Some mid) g = further mid g
