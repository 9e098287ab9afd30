-- What the image of a host's disk opens to, and how large its places and moments are.
use Rattle.std.proofs.Common.{◌≡◌, ℕ, ◌+◌, ◌^◌, ◌<◌, ◌≤◌, List, [], ◌∷◌, ◌++◌, length, take, drop, Bool, true, false, Option, Some, None, Result, Ok, refl, sym, ap, subst, ◌∙◌, arith, take-append-drop}
use Rattle.std.specs.Prelude.{nat_le, nat_lt, if◌then◌else◌, unwrap_or, option_and_then}
use Rattle.std.specs.Int.{w32, to_be_bytes}
use Rattle.std.specs.Option.{option_or}
use mathlib.Core.Logic.{inr}
use Rattle.std.proofs.lemmas.Bool.{cond-true, leb-true, le-leb, lt-ltb, ltb-false}
use Rattle.ocm_entry.specs.declared.asks.Ask.{Ask}
use Rattle.ocm_entry.specs.declared.asks.Ask.TheVariants as asks
use Rattle.ocm_entry.specs.declared.entries.Entry.{Entry}
use Rattle.ocm_entry_bytes.specs.Spells.{AreBytes}
use Rattle.ocm_entry_bytes.proofs.FieldLaws.{AreBytes-front, AreBytes-rest}
use Rattle.ocm_journal_image.specs.Blank.{IsBlankForAny}
use Rattle.ocm_journal_image.specs.Layout.{IsImage, area_text, block, blocks, blocks_size, contents, live_start, placed}
use Rattle.ocm_journal_image.specs.Reading.{image_of}
use Rattle.ocm_journal_image.specs.declared.readings.Image.{Image}
use Rattle.ocm_journal_image.specs.declared.readings.RawRecord.{RawRecord}
use Rattle.ocm_journal_image.proofs.ImageRead.{image_read}
use Rattle.ocm_journal_image.proofs.OneImage.{blank_is_none, contents-placed}
use Rattle.ocm_rules.specs.History.{IsAnswered, changes, kept}
use Rattle.ocm_rules.specs.Lean.{count}
use Rattle.ocm_entry.specs.Ticks.{is_tick}
use Rattle.ocm_rules.specs.Shares.{moment}
use Rattle.ocm_journal_audit.specs.Audits.{is_own_host}
use Rattle.ocm_journal_records.specs.Stamps as stamps
use Rattle.ocm_journal_records.specs.declared.stamps.Stamped.{Stamped}
use Rattle.ocm_journal_records.specs.declared.stamps.Stamped.TheVariants as stamped
use Rattle.ocm_law_sessions.specs.Readings.{entry_after, goes_on, opened, opened_from, refused_at, with_ask, with_moment, with_stamped}
use Rattle.ocm_law_sessions.specs.Written.{AreAllBytes}
use Rattle.ocm_law_sessions.proofs.Entries.{answered-kept, with_ask-gives}
use Rattle.ocm_law_sessions.proofs.Opening.{goes_on-answered, opened-answered, opened-unrefused}
use Rattle.ocm_law_sessions.proofs.Spelling.{moment-below, opened_from-spelled}
use Rattle.ocm_law_logs.proofs.Fronts.{tally, tally-other, tally-tick}
use Rattle.ocm_law_logs.proofs.Growing.{kept-tick, moment-grows}
use Rattle.ocm_store.specs.Opening.{IsImageIn}
use Rattle.ocm_logcheck.specs.Checks.{Opened, Opens, opened_in, opening_of, refused_in, unless_refused}

-- ---- the bytes of records

blocks-bytes : (records : List (List ℕ)) → AreBytes (blocks records) → AreAllBytes records
blocks-bytes [] are = tt
blocks-bytes (r ∷ rs) are =
    (AreBytes-rest (1 ∷ to_be_bytes w32 (length r)) r (AreBytes-front (block r) (blocks rs) are), blocks-bytes rs (AreBytes-rest (block r) (blocks rs) are))

record-bytes : (label : List ℕ) (area form : ℕ) (records : List (List ℕ)) (bytes : List ℕ) → IsImage label area form records bytes → AreBytes bytes → AreAllBytes records
record-bytes label area form records bytes image are =
    let start : ℕ = live_start area image.selector in
    let text : List ℕ = area_text form records image.gate in
    let behind : AreBytes (drop start bytes) = AreBytes-rest (take start bytes) (drop start bytes) (subst AreBytes (sym (take-append-drop start bytes)) are) in
    let own : AreBytes (take (length text) (drop start bytes)) = AreBytes-front (take (length text) (drop start bytes)) (drop (length text) (drop start bytes)) (subst AreBytes (sym (take-append-drop (length text) (drop start bytes))) behind) in
    let same : AreBytes text = subst AreBytes image.live own in
    blocks-bytes records (AreBytes-front (blocks records) (image.gate ∷ []) (AreBytes-rest (form ∷ []) (blocks records ++ image.gate ∷ []) same))

-- ---- how many entries records make that are no tick

tally-more : (e : Entry) (l : List Entry) → tally (e ∷ l) ≤ tally l + 1
tally-more e l = by (is_tick e.ask) refl
  where
    by : (b : Bool) → is_tick e.ask ≡ b → tally (e ∷ l) ≤ tally l + 1
    by true tick = let same = tally-tick e l tick in omega arith
    by false other = let more = tally-other e l other in omega arith

tally-moment : (host : List ℕ) (clock : ℕ) (k : List Entry) → tally (with_moment host clock k) ≤ tally k
tally-moment host clock k = by (nat_lt (moment k) clock)
  where
    by : (b : Bool) → tally (if b then entry_after host k (asks.Tick clock) ∷ k else k) ≤ tally k
    by true = let same = tally-tick (entry_after host k (asks.Tick clock)) k refl in omega arith
    by false = omega arith

tally-ask : (host : List ℕ) (ask : Ask) (k now : List Entry) → with_ask host ask k ≡ Some now → tally now ≤ tally k + 1
tally-ask host ask k now is = let gives = with_ask-gives host ask k now is in subst (λ (l : List Entry). tally l ≤ tally k + 1) gives.1 (tally-more (entry_after host k ask) k)

tally-stamped : (host : List ℕ) (said : Stamped) (k now : List Entry) → with_stamped host said k ≡ Some now → tally now ≤ tally k + 1
tally-stamped host (stamped.Bare ask) k now is = tally-ask host ask k now is
tally-stamped host (stamped.Moment clock) k now is = tally-ask host (asks.Tick clock) k now is
tally-stamped host (stamped.Timed clock ask) k now is = by (nat_le (moment k) clock) is
  where
    by : (b : Bool) → (if b then with_ask host ask (with_moment host clock k) else None) ≡ Some now → tally now ≤ tally k + 1
    by true e = let more = tally-ask host ask (with_moment host clock k) now e in let same = tally-moment host clock k in omega arith
    by false e = absurd cc

tally-record : (host : List ℕ) (form : ℕ) (k : List Entry) (bytes : List ℕ) (now : List Entry) → goes_on host form k bytes ≡ Some now → tally now ≤ tally k + 1
unfolding goes_on
tally-record host form k bytes now is = by (stamps.stamped_of form bytes) is
  where
    by : (o : Option Stamped) → option_and_then (λ said. with_stamped host said k) o ≡ Some now → tally now ≤ tally k + 1
    by None e = absurd cc
    by (Some said) e = tally-stamped host said k now e

tally-opened : (host : List ℕ) (form : ℕ) (records : List (List ℕ)) (k now : List Entry) → opened_from host form k records ≡ Some now → tally now ≤ tally k + length records
tally-opened host form [] k now is = let same : k ≡ now = cc in subst (λ (l : List Entry). tally l ≤ tally k + 0) same (omega arith)
tally-opened host form (r ∷ rs) k now is = by (λ mid e. tally-opened host form rs mid now e) (goes_on host form k r) refl is
  where
    by : ((mid : List Entry) → opened_from host form mid rs ≡ Some now → tally now ≤ tally mid + length rs)
        → (o : Option (List Entry)) → goes_on host form k r ≡ o → option_and_then (λ mid. opened_from host form mid rs) o ≡ Some now → tally now ≤ tally k + length (r ∷ rs)
    by further None on e = absurd cc
    by further (Some mid) on e = let first = tally-record host form k r mid on in let later = further mid e in omega arith

records-few : (records : List (List ℕ)) → length records ≤ blocks_size records
records-few [] = omega arith
records-few (r ∷ rs) = let fewer = records-few rs in omega arith

-- what is opened of an image has fewer entries that are no tick than an area has bytes, and a moment of eight bytes
pub image-count : (host : List ℕ) (area : ℕ) (k : List Entry) (bytes : List ℕ) → IsImageIn host area k bytes → count host k ≤ area
image-count host area k bytes (form, records, image, opens) =
    let within = image.within in
    let few = records-few records in
    let made = tally-opened host form records [] k opens in
    let none : tally [] ≡ 0 = refl in
    subst (λ (l : List Entry). tally l ≤ area) (sym (answered-kept host k (opened-answered host form records k opens))) (omega arith)

pub image-moment : (host : List ℕ) (area : ℕ) (k : List Entry) (bytes : List ℕ) → AreBytes bytes → IsImageIn host area k bytes → moment k < 2 ^ 64
image-moment host area k bytes are (form, records, image, opens) = moment-below k (opened_from-spelled host form records [] k tt (record-bytes host area form records bytes image are) opens)

-- ---- no record is refused

-- the moment so far behind a record by an audit, which is not above that of the list
abbrev Past : Option ℕ → List Entry → Type 0
Past read now = (past : ℕ) × (read ≡ Some past) × (past ≤ moment now)

ask-later : (host : List ℕ) (ask : Ask) (k now : List Entry) → IsAnswered host now → with_ask host ask k ≡ Some now → (kept host k ≡ k) × (changes host k (entry_after host k ask) ≡ true) × (now ≡ entry_after host k ask ∷ k)
ask-later host ask k now answered is =
    let gives = with_ask-gives host ask k now is in
    let all : IsAnswered host (entry_after host k ask ∷ k) = subst (IsAnswered host) (sym gives.1) answered in
    (answered-kept host k all.2, gives.0, sym gives.1)

ask-grows : (host : List ℕ) (ask : Ask) (k now : List Entry) → IsAnswered host now → with_ask host ask k ≡ Some now → moment k ≤ moment now
ask-grows host ask k now answered is =
    let later = ask-later host ask k now answered is in
    subst (λ (l : List Entry). moment k ≤ moment l) (sym later.2) (moment-grows host (entry_after host k ask) k (later.0, later.1))

tick-grows : (host : List ℕ) (clock : ℕ) (k now : List Entry) → IsAnswered host now → with_ask host (asks.Tick clock) k ≡ Some now → (moment k < clock) × (clock ≤ moment now)
tick-grows host clock k now answered is =
    let later = ask-later host (asks.Tick clock) k now answered is in
    let rises = kept-tick host (entry_after host k (asks.Tick clock)) k (later.0, later.1) refl in
    (rises.1, subst (λ (l : List Entry). clock ≤ moment l) (sym later.2) (omega arith))

clock-reached : (host : List ℕ) (clock : ℕ) (k : List Entry) → moment k ≤ clock → clock ≤ moment (with_moment host clock k)
clock-reached host clock k reaches = by (nat_lt (moment k) clock) refl
  where
    by : (b : Bool) → nat_lt (moment k) clock ≡ b → clock ≤ moment (if b then entry_after host k (asks.Tick clock) ∷ k else k)
    by true below = omega arith
    by false above = ltb-false (moment k) clock above

past-said : (host : List ℕ) (said : Stamped) (k now : List Entry) (before : ℕ) → IsAnswered host now → before ≤ moment k → with_stamped host said k ≡ Some now → Past (stamps.moment_behind before said) now
unfolding stamps.moment_behind
past-said host (stamped.Bare ask) k now before answered low is = let grows = ask-grows host ask k now answered is in (before, refl, omega arith)
past-said host (stamped.Moment clock) k now before answered low is =
    let grows = tick-grows host clock k now answered is in
    let above = grows.0 in
    (clock, cond-true (nat_lt before clock) _ _ (lt-ltb before clock (omega arith)), grows.1)
past-said host (stamped.Timed clock ask) k now before answered low is = by (nat_le (moment k) clock) refl is
  where
    by : (b : Bool) → nat_le (moment k) clock ≡ b → (if b then with_ask host ask (with_moment host clock k) else None) ≡ Some now → Past (if nat_le before clock then Some clock else None) now
    by true reaches e =
        let high = leb-true (moment k) clock reaches in
        let first = clock-reached host clock k high in
        let grows = ask-grows host ask (with_moment host clock k) now answered e in
        (clock, cond-true (nat_le before clock) _ _ (le-leb before clock (omega arith)), omega arith)
    by false other e = absurd cc

past-record : (host : List ℕ) (form : ℕ) (k : List Entry) (bytes : List ℕ) (now : List Entry) (before : ℕ) → IsAnswered host k → before ≤ moment k → goes_on host form k bytes ≡ Some now → Past (stamps.moment_past form before bytes) now
unfolding goes_on stamps.moment_past
past-record host form k bytes now before answered low is = by (stamps.stamped_of form bytes) is (goes_on-answered host form k bytes now answered is)
  where
    by : (o : Option Stamped) → option_and_then (λ said. with_stamped host said k) o ≡ Some now → IsAnswered host now → Past (option_and_then (stamps.moment_behind before) o) now
    by None e whole = absurd cc
    by (Some said) e whole = past-said host said k now before whole low e

-- what opens is refused by no audit
unrefused : (host : List ℕ) (form : ℕ) (records : List RawRecord) (k now : List Entry) (before : ℕ) → IsAnswered host k → before ≤ moment k → opened_from host form k (contents records) ≡ Some now → stamps.refused_from form before records ≡ None
unrefused host form [] k now before answered low is = refl
unrefused host form (r ∷ rs) k now before answered low is = by (λ mid past whole high e. unrefused host form rs mid now past whole high e) (goes_on host form k r.bytes) refl is
  where
    by : ((mid : List Entry) (past : ℕ) → IsAnswered host mid → past ≤ moment mid → opened_from host form mid (contents rs) ≡ Some now → stamps.refused_from form past rs ≡ None)
        → (o : Option (List Entry)) → goes_on host form k r.bytes ≡ o → option_and_then (λ mid. opened_from host form mid (contents rs)) o ≡ Some now → stamps.refused_from form before (r ∷ rs) ≡ None
    by further None on e = absurd cc
    by further (Some mid) on e =
        let past = past-record host form k r.bytes mid before answered low on in
        ap (λ (o : Option ℕ). elim o [ None ↦ Some r.place | Some p ↦ stamps.refused_from form p rs ]) past.1
        ∙ further mid past.0 (goes_on-answered host form k r.bytes mid answered on) past.2 e

-- ---- the image

not_blank : (host : List ℕ) (area form : ℕ) (records : List (List ℕ)) (bytes : List ℕ) → IsImage host area form records bytes → IsBlankForAny bytes → ⊥
not_blank host area form records bytes image (label, size, named, small, blank) = blank_is_none bytes label host size area form records blank image

-- an image of a host opens to its list
pub opens-image : (host : List ℕ) (area : ℕ) (k : List Entry) (bytes : List ℕ) → is_own_host host ≡ true → IsImageIn host area k bytes → Opens bytes (Ok (host, k))
opens-image host area k bytes own (form, records, image, opens) = inr (not_blank host area form records bytes image, sym (ap opening_of read ∙ found))
  where
    raw : List RawRecord
    raw = placed (live_start area image.selector + 1) records

    whole : Image
    whole = record { header = record { label = host; area = area; selector = image.selector }; live = record { form = form; records = raw; end = live_start area image.selector + 1 + blocks_size records } }

    read : image_of bytes ≡ Ok whole
    read = image_read host area form records bytes image

    same : opened host form (contents raw) ≡ Some k
    same = ap (opened host form) (contents-placed (live_start area image.selector + 1) records) ∙ opens

    none : refused_in whole ≡ None
    none = ap (λ (o : Option ℕ). option_or o (refused_at host form raw)) (unrefused host form raw [] k 0 tt (omega arith) same) ∙ opened-unrefused host form raw k same

    found : opening_of (Ok whole) ≡ Ok (host, k)
    found =
        cond-true (is_own_host host) _ _ own
        ∙ ap (λ (o : Option ℕ). unless_refused o (opened_in whole)) none
        ∙ ap (λ (o : Option (List Entry)). opening (unwrap_or o [])) same
      where
        opening : List Entry → Result Opened ℕ
        opening l = Ok (host, l)
