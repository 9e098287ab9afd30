-- What a check tells.
use Rattle.std.proofs.Common.{◌≡◌, ℕ, ◌+◌, nat_lt, List, [], ◌∷◌, length, Bool, true, false, refl, sym, ap, ◌∙◌, subst, arith, Option, Some, None, Result, Ok, Err}
use Rattle.std.specs.Prelude.{◌≢◌, if◌then◌else◌, unwrap_or}
use Rattle.std.specs.Option.{option_or}
use Rattle.std.proofs.lemmas.Bool.Decides.{nat_tests}
use mathlib.Core.Logic.{inl, inr}
use Rattle.ocm_entry.specs.declared.entries.Entry.{Entry}
use Rattle.ocm_journal_image.specs.Blank.{IsBlankForAny}
use Rattle.ocm_journal_image.specs.Layout.{contents}
use Rattle.ocm_journal_image.specs.Reading.{Gives, image_of}
use Rattle.ocm_journal_image.specs.declared.faults.ImageFault.{ImageFault}
use Rattle.ocm_journal_image.specs.declared.faults.ImageFault.TheVariants as image_faults
use Rattle.ocm_journal_image.specs.declared.readings.Image.{Image}
use Rattle.ocm_journal_image.specs.declared.readings.RawRecord.{RawRecord}
use Rattle.ocm_journal_audit.specs.Audits.{Audits, is_own_host}
use Rattle.ocm_journal_audit.specs.Audits as audits
use Rattle.ocm_journal_records.specs.Stamps as stamps
use Rattle.ocm_law_sessions.specs.Readings.{opened, refused_at}
use Rattle.ocm_law_sessions.proofs.Opening.{opened-unrefused}
use Rattle.ocm_access_log.specs.declared.lines.LogLine.{LogLine}
use Rattle.ocm_access_log.specs.Lines.{log_of}
use Rattle.ocm_access_log.specs.Truth.{first_false, is_true}
use Rattle.ocm_logcheck.specs.declared.faults.LogFault.{LogFault}
use Rattle.ocm_logcheck.specs.declared.faults.LogFault.TheVariants as faults
use Rattle.ocm_logcheck.specs.Checks.{Checks, Opened, Opens, fault_of, opened_in, opening_of, refused_in, told_of, unless_false, unless_refused}
use Rattle.ocm_logcheck.specs.Replays.{GivesCount, count_true, number_told}

-- ---- the first false line

-- the number of the line behind so many true ones
abbrev number_if : Bool → ℕ → Option ℕ
number_if b n = if b then Some n else None

first-counted : (host : List ℕ) (k : List Entry) (n : ℕ) (lines : List LogLine) → first_false host k n lines ≡ number_if (nat_lt (count_true host k lines) (length lines)) (n + count_true host k lines)
first-counted host k n [] = refl
first-counted host k n (line ∷ lines) = by_test (first-counted host k (n + 1) lines) (is_true host k line)
  where
    found : ℕ
    found = count_true host k lines

    by_test : first_false host k (n + 1) lines ≡ number_if (nat_lt found (length lines)) (n + 1 + found) → (b : Bool)
        → (if b then first_false host k (n + 1) lines else Some n) ≡ number_if (nat_lt (if b then 1 + found else 0) (length (line ∷ lines))) (n + (if b then 1 + found else 0))
    by_test rest true =
        let sums : n + 1 + found ≡ n + (1 + found) = omega arith in
        let tests : nat_lt found (length lines) ≡ nat_lt (1 + found) (length (line ∷ lines)) = grind (arith, nat_tests) in
        rest ∙ ap (λ m. number_if (nat_lt found (length lines)) m) sums ∙ ap (λ b. number_if b (n + (1 + found))) tests
    by_test rest false =
        let own : n ≡ n + 0 = omega arith in
        let some : true ≡ nat_lt 0 (length (line ∷ lines)) = grind (arith, nat_tests) in
        ap (λ m. Some m) own ∙ ap (λ b. number_if b (n + 0)) some

pub told-lines : (host : List ℕ) (k : List Entry) (lines : List LogLine) → number_told (count_true host k lines) (length lines) ≡ unless_false (first_false host k 1 lines) (length lines)
told-lines host k lines = by_test (nat_lt found (length lines)) ∙ ap (λ o. unless_false o (length lines)) (sym (first-counted host k 1 lines))
  where
    found : ℕ
    found = count_true host k lines

    by_test : (b : Bool) → (if b then Err (faults.False (found + 1)) else Ok (length lines)) ≡ unless_false (number_if b (1 + found)) (length lines)
    by_test true = let same : found + 1 ≡ 1 + found = omega arith in ap (λ m. Err (faults.False m)) same
    by_test false = refl

-- where the log is read
pub told-read : (host : List ℕ) (k : List Entry) (log : Result (List LogLine) ℕ) (lines : List LogLine) (found len : ℕ) → log ≡ Ok lines → found ≡ count_true host k lines → len ≡ length lines → number_told found len ≡ told_of (Ok (host, k)) log
told-read host k log lines found len read counted whole =
    ap (λ n. number_told n len) counted ∙ ap (number_told (count_true host k lines)) whole ∙ told-lines host k lines ∙ sym (ap (λ l. told_of (Ok (host, k)) l) read)

-- ---- by the records

-- what records open to, or the first that is refused
abbrev pub opening_by : List ℕ → ℕ → List RawRecord → Result Opened ℕ
opening_by host form records = unless_refused (refused_at host form records) (host, unwrap_or (opened host form (contents records)) [])

opening-is : (host : List ℕ) (form : ℕ) (records : List RawRecord) (k : List Entry) → opened host form (contents records) ≡ Some k → opening_by host form records ≡ Ok (host, k)
opening-is host form records k opens =
    ap (λ o. unless_refused o (host, unwrap_or (opened host form (contents records)) [])) (opened-unrefused host form records k opens)
    ∙ ap (λ (o : Option (List Entry)). Ok (host, unwrap_or o [])) opens

-- where all records are taken and the log is read
pub told-counted : (host : List ℕ) (form : ℕ) (records : List RawRecord) (log : Result (List LogLine) ℕ) (lines : List LogLine) (found len : ℕ) → log ≡ Ok lines → len ≡ length lines → GivesCount host form records lines (Ok found)
    → number_told found len ≡ told_of (opening_by host form records) log
told-counted host form records log lines found len read whole counted =
    told-read host counted.0 log lines found len read counted.2 whole ∙ sym (ap (λ o. told_of o log) (opening-is host form records counted.0 counted.1))

-- where all records are taken and a line is bad
pub told-bad : (host : List ℕ) (form : ℕ) (records : List RawRecord) (log : Result (List LogLine) ℕ) (number found : ℕ) → log ≡ Err number → GivesCount host form records [] (Ok found)
    → Err (faults.BadLine number) ≡ told_of (opening_by host form records) log
told-bad host form records log number found bad counted =
    sym (ap (λ o. told_of o log) (opening-is host form records counted.0 counted.1) ∙ ap (λ l. told_of (Ok (host, counted.0)) l) bad)

-- the same records and lines
pub gives-same : (host : List ℕ) (form : ℕ) (xs records : List RawRecord) (ys lines : List LogLine) (told : Result ℕ LogFault) → xs ≡ records → ys ≡ lines → GivesCount host form xs ys told → GivesCount host form records lines told
gives-same host form xs records ys lines told a b given = subst (λ l. GivesCount host form records l told) b (subst (λ rs. GivesCount host form rs ys told) a given)

-- ---- by an image

-- what the records of an image open to
pub opening-image : (image : Image) (host : List ℕ) → host ≡ image.header.label
    → opening_by host image.live.form image.live.records ≡ unless_refused (refused_at host image.live.form image.live.records) (opened_in image)
opening-image image host own =
    ap (λ h. unless_refused (refused_at host image.live.form image.live.records) (h, unwrap_or (opened h image.live.form (contents image.live.records)) [])) own

-- a label that is no host's
pub told-label : (image : Image) (log : Result (List LogLine) ℕ) → is_own_host image.header.label ≡ false → Err (faults.NotJournal 9) ≡ told_of (opening_of (Ok image)) log
told-label image log foreign = sym (ap (λ b. told_of (if b then unless_refused (refused_in image) (opened_in image) else Err 9) log) foreign)

-- a record that an audit refuses
pub told-form : (image : Image) (log : Result (List LogLine) ℕ) (place : ℕ) → is_own_host image.header.label ≡ true → stamps.refused_from image.live.form 0 image.live.records ≡ Some place
    → Err (faults.NotJournal place) ≡ told_of (opening_of (Ok image)) log
told-form image log place own refused =
    sym (ap (λ b. told_of (if b then unless_refused (refused_in image) (opened_in image) else Err 9) log) own
    ∙ ap (λ o. told_of (unless_refused (option_or o (refused_at image.header.label image.live.form image.live.records)) (opened_in image)) log) refused)

-- records that an audit does not refuse
pub told-image : (image : Image) (log : Result (List LogLine) ℕ) → is_own_host image.header.label ≡ true → stamps.refused_from image.live.form 0 image.live.records ≡ None
    → told_of (opening_by image.header.label image.live.form image.live.records) log ≡ told_of (opening_of (Ok image)) log
told-image image log own none =
    sym (ap (λ b. told_of (if b then unless_refused (refused_in image) (opened_in image) else Err 9) log) own
    ∙ ap (λ o. told_of (unless_refused (option_or o (refused_at image.header.label image.live.form image.live.records)) (opened_in image)) log) none)

-- ---- by the bytes

pub checks-blank : (image log : List ℕ) (told : Result ℕ LogFault) → IsBlankForAny image → told ≡ told_of (Ok ([], [])) (log_of log) → Checks image log told
checks-blank image log told blank is = (Ok ([], []), inl (blank, refl), is)

pub checks-image : (image log : List ℕ) (read : Result Image ℕ) (told : Result ℕ LogFault) → (IsBlankForAny image → ⊥) → image_of image ≡ read → told ≡ told_of (opening_of read) (log_of log) → Checks image log told
checks-image image log read told other is tells = (opening_of read, inr (other, ap opening_of (sym is)), tells)

-- a fault, as it is read
abbrev read_as : ImageFault → Result Image ImageFault
read_as fault = Err fault

-- a fault, as it is told
abbrev told_as : LogFault → Result ℕ LogFault
told_as fault = Err fault

-- where the bytes are no image
pub checks-fault : (image log : List ℕ) (fault : ImageFault) (told : LogFault) → (IsBlankForAny image → ⊥) → Gives (read_as fault) (image_of image) → told ≡ fault_of fault → told_as told ≢ told_as faults.NoMemory → Checks image log (told_as told)
checks-fault image log (image_faults.NotJournal place) told other read is some = checks-image image log (Err place) (told_as told) other read (ap told_as is)
checks-fault image log image_faults.NoMemory told other read is some = absurd (some (ap told_as is))

opens-one : (image : List ℕ) (x y : Result Opened ℕ) → Opens image x → Opens image y → x ≡ y
opens-one image x y (inl (blank, is)) (inl (also, same)) = is ∙ sym same
opens-one image x y (inl (blank, is)) (inr (other, same)) = absurd (other blank)
opens-one image x y (inr (other, is)) (inl (blank, same)) = absurd (other blank)
opens-one image x y (inr (other, is)) (inr (also, same)) = is ∙ sym same

-- a check tells one thing
pub checks-one : (image log : List ℕ) (told other : Result ℕ LogFault) → Checks image log told → Checks image log other → told ≡ other
checks-one image log told other (x, opens, is) (y, also, same) = is ∙ ap (λ o. told_of o (log_of log)) (opens-one image x y opens also) ∙ sym same

-- it refuses what an audit refuses
pub checks-audit : (image log : List ℕ) (place : ℕ) → Audits image (Err place) → Checks image log (Err (faults.NotJournal place))
checks-audit image log place (inl (blank, told)) = absurd (cc)
checks-audit image log place (inr (other, told)) = checks-image image log (image_of image) (Err (faults.NotJournal place)) other refl (by_image (image_of image) told)
  where
    by_place : (found : Image) → is_own_host found.header.label ≡ true → (o : Option ℕ) → stamps.refused_from found.live.form 0 found.live.records ≡ o → Err place ≡ audits.unless_refused o (audits.text_of found)
        → Err (faults.NotJournal place) ≡ told_of (opening_of (Ok found)) (log_of log)
    by_place found own None none h = absurd (cc)
    by_place found own (Some p) some h = let same : place ≡ p = cc in ap (λ n. Err (faults.NotJournal n)) same ∙ told-form found (log_of log) p own some

    by_label : (found : Image) (b : Bool) → is_own_host found.header.label ≡ b
        → Err place ≡ (if b then audits.unless_refused (stamps.refused_from found.live.form 0 found.live.records) (audits.text_of found) else Err 9)
        → Err (faults.NotJournal place) ≡ told_of (opening_of (Ok found)) (log_of log)
    by_label found true own h = by_place found own (stamps.refused_from found.live.form 0 found.live.records) refl h
    by_label found false foreign h = let same : place ≡ 9 = cc in ap (λ n. Err (faults.NotJournal n)) same ∙ told-label found (log_of log) foreign

    by_image : (read : Result Image ℕ) → Err place ≡ audits.told_of read → Err (faults.NotJournal place) ≡ told_of (opening_of read) (log_of log)
    by_image (Err p) h = let same : place ≡ p = cc in ap (λ n. Err (faults.NotJournal n)) same
    by_image (Ok found) h = by_label found (is_own_host found.header.label) refl h
