-- A text is sent in parts: some of it is written, some is held, and more follows.
use Rattle.std.proofs.Common.{◌≡◌, ℕ, ◌+◌, ◌-◌, arith, List, [], ◌++◌, length, take, drop, Option, Some, Result, Ok, Err, IsOk, OnErr, sym, ◌∙◌, ap, subst, append_assoc, append-nil}
use Rattle.std.proofs.lemmas.List.{length-drop, take-append-drop, take_all}
use Rattle.ocm_base.specs.Outside.{Appends, AppendsPart}
use Rattle.ocm_base.proofs.Pieces.{Appends-twice}
use Rattle.ocm_journal_image.specs.Reading.{FirstIs, records_from}
use Rattle.ocm_journal_image.specs.declared.readings.Records.{Records}
use Rattle.ocm_journal_audit.specs.Audits.{end_line, line_of}
use Rattle.ocm_journal_audit.specs.Passes.{AppendsFront, told_lines}
use Rattle.ocm_journal_audit.proofs.Telling.{IsOk-rest, told_lines-more}

-- what was written, what is held and what follows are the whole text
pub record Sent (old new : Option (List ℕ)) (held more all : List ℕ) : Type 0 where
  pub written : List ℕ
  pub appends : Appends old new written
  pub whole : written ++ (held ++ more) ≡ all

-- more of the text is held
pub Sent-held : (old new : Option (List ℕ)) (held piece more all held2 : List ℕ) → held2 ≡ held ++ piece → Sent old new held (piece ++ more) all → Sent old new held2 more all
Sent-held old new held piece more all held2 is sent = record {
  written = sent.written;
  appends = sent.appends;
  whole = rw is (rw append_assoc sent.whole);
}

-- a part of what is held is written
pub Sent-written : (old mid new : Option (List ℕ)) (held held2 more all : List ℕ) → (part : List ℕ) × Appends mid new part × (held ≡ part ++ held2) → Sent old mid held more all → Sent old new held2 more all
Sent-written old mid new held held2 more all (part, appends, is) sent = record {
  written = sent.written ++ part;
  appends = Appends-twice old mid new _ _ sent.appends appends;
  whole = append_assoc sent.written part (held2 ++ more) ∙ ap (λ (l : List ℕ). sent.written ++ l) (sym (append_assoc part held2 more)) ∙ ap (λ (l : List ℕ). sent.written ++ (l ++ more)) (sym is) ∙ sent.whole;
}

-- where sending stops a front of the text was written
pub Sent-stopped : (old new : Option (List ℕ)) (held more all : List ℕ) → Sent old new held more all → AppendsFront old new all
Sent-stopped old new held more all sent = (sent.written, held ++ more, sent.appends, sym sent.whole)

-- the same where a part of what is held was written
pub Sent-failed : (old mid new : Option (List ℕ)) (held more all : List ℕ) → Sent old mid held more all → AppendsPart mid new held → AppendsFront old new all
Sent-failed old mid new held more all sent (n, le, appends) =
    Sent-stopped old new (drop n held) more all (Sent-written old mid new held (drop n held) more all (take n held, appends, sym (take-append-drop n held)) sent)

-- what holds where a call fails
pub OnErr-known : {T E : Type 0} (r : Result T E) (P : Type 0) → P → OnErr r P
OnErr-known (Ok value) P known = tt
OnErr-known (Err fault) P known = known

-- what follows a record is the bytes behind it
rest-is : (rest : List ℕ) (k : ℕ) → take (length rest - k) (drop k rest) ≡ drop k rest
rest-is rest k = take_all (length rest - k) (drop k rest) (omega (arith, length-drop k rest))

-- the line of a record is held
pub Sent-line : (old new : Option (List ℕ)) (form end : ℕ) (rest bytes held held2 all : List ℕ) → FirstIs end rest (Some bytes) → IsOk (records_from 0 end rest) → held2 ≡ held ++ line_of form end bytes → Sent old new held (told_lines form (records_from 0 end rest)) all → Sent old new held2 (told_lines form (records_from 0 (end + (5 + length bytes)) (take (length rest - (5 + length bytes)) (drop (5 + length bytes) rest)))) all
Sent-line old new form end rest bytes held held2 all first ok is sent =
    let more = told_lines-more form (record { place = end; bytes = bytes }) (records_from 0 end rest) (records_from 0 (end + (5 + length bytes)) (drop (5 + length bytes) rest)) first.2 ok in
    let P : List ℕ → Type 0 = λ l. Sent old new held2 (told_lines form (records_from 0 (end + (5 + length bytes)) l)) all in
    subst P (sym (rest-is rest (5 + length bytes))) (Sent-held old new held (line_of form end bytes) _ all held2 is (subst (λ (l : List ℕ). Sent old new held l all) more sent))

-- the same where a part of what is held is written then
pub Sent-line_written : (old mid new : Option (List ℕ)) (form end : ℕ) (rest bytes held held2 held3 all : List ℕ) → FirstIs end rest (Some bytes) → IsOk (records_from 0 end rest) → held2 ≡ held ++ line_of form end bytes → Sent old mid held (told_lines form (records_from 0 end rest)) all → (part : List ℕ) × Appends mid new part × (held2 ≡ part ++ held3) → Sent old new held3 (told_lines form (records_from 0 (end + (5 + length bytes)) (take (length rest - (5 + length bytes)) (drop (5 + length bytes) rest)))) all
Sent-line_written old mid new form end rest bytes held held2 held3 all first ok is sent part =
    Sent-written old mid new held2 held3 _ all part (Sent-line old mid form end rest bytes held held2 all first ok is sent)

-- the records behind a record are framed
pub IsOk-behind_first : (end : ℕ) (rest bytes : List ℕ) → FirstIs end rest (Some bytes) → IsOk (records_from 0 end rest) → IsOk (records_from 0 (end + (5 + length bytes)) (take (length rest - (5 + length bytes)) (drop (5 + length bytes) rest)))
IsOk-behind_first end rest bytes first ok =
    let P : List ℕ → Type 0 = λ l. IsOk (records_from 0 (end + (5 + length bytes)) l) in
    subst P (sym (rest-is rest (5 + length bytes))) (IsOk-rest (record { place = end; bytes = bytes }) (records_from 0 end rest) (records_from 0 (end + (5 + length bytes)) (drop (5 + length bytes) rest)) first.2 ok)

-- the same where writing fails then
pub Sent-line_failed : (old mid new : Option (List ℕ)) (form end : ℕ) (rest bytes held held2 all : List ℕ) → FirstIs end rest (Some bytes) → IsOk (records_from 0 end rest) → held2 ≡ held ++ line_of form end bytes → Sent old mid held (told_lines form (records_from 0 end rest)) all → AppendsPart mid new held2 → AppendsFront old new all
Sent-line_failed old mid new form end rest bytes held held2 all first ok is sent part =
    Sent-failed old mid new held2 _ all (Sent-line old mid form end rest bytes held held2 all first ok is sent) part

-- where the line of the end is held and writing fails
pub Sent-end_failed : (old mid new : Option (List ℕ)) (form end : ℕ) (read : Result Records ℕ) (held held2 all : List ℕ) → read ≡ Ok (record { items = []; end = end }) → held2 ≡ held ++ end_line end → Sent old mid held (told_lines form read) all → AppendsPart mid new held2 → AppendsFront old new all
Sent-end_failed old mid new form end read held held2 all none is sent part =
    let P : Result Records ℕ → Type 0 = λ r. Sent old mid held (told_lines form r) all in
    let last : Sent old mid held (end_line end) all = subst P none sent in
    let Q : List ℕ → Type 0 = λ l. Sent old mid held l all in
    let last2 : Sent old mid held (end_line end ++ []) all = subst Q (sym (append-nil (end_line end))) last in
    Sent-failed old mid new held2 [] all (Sent-held old mid held (end_line end) [] all held2 is last2) part

-- framed records have no fault
pub framed-no_fault : (read : Result Records ℕ) (place : ℕ) → IsOk read → read ≡ Err place → ⊥
framed-no_fault (Ok read) place ok is = absurd cc
framed-no_fault (Err fault) place ok is = absurd cc
