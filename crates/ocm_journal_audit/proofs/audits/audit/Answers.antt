use Rattle.std.proofs.Common.{rules, ◌≡◌, ◌++◌, ℕ, List, Option, Result, Ok, Err, OnOk, OnErr, inl, inr, take, drop, sym, ◌∙◌, ap, subst}
use Rattle.std.proofs.lemmas.List.{take-append-drop}
use Rattle.ocm_base.specs.Outside.{Appends, AppendsPart}
use Rattle.ocm_journal_image.specs.Blank.{IsBlankForAny}
use Rattle.ocm_journal_image.specs.Reading.{image_of}
use Rattle.ocm_journal_audit.specs.Audits.{Audits, WritesFront, blank_line, host_line, told_of}
use Rattle.ocm_journal_audit.specs.Passes.{AppendsFront}
use Rattle.ocm_journal_audit.proofs.Sending.{OnErr-known}
use Rattle.ocm_journal_audit.proofs.audits.audit.Goals as goal

-- a front of the line of a blank file
WritesFront-blank : (bytes : List ℕ) (old new : Option (List ℕ)) → IsBlankForAny bytes → AppendsPart old new blank_line → WritesFront bytes old new
WritesFront-blank bytes old new blank (n, le, appends) =
    inr (take n blank_line, drop n blank_line, appends, inl (blank, ap (λ (l : List ℕ). Ok l) (take-append-drop n blank_line)))

-- the text that is told of an image
Audits-text : (bytes text label label2 lines : List ℕ) → (IsBlankForAny bytes → ⊥) → told_of (image_of bytes) ≡ Ok (host_line label ++ lines) → text ≡ host_line label2 → label2 ≡ label → Audits bytes (Ok (text ++ lines))
Audits-text bytes text label label2 lines other told is_text is_label =
    inr (other, ap (λ (l : List ℕ). Ok (l ++ lines)) (is_text ∙ ap (λ (l : List ℕ). host_line l) is_label) ∙ sym told)

OnOk-told : {T E : Type 0} (r : Result T E) (bytes text : List ℕ) (old new : Option (List ℕ)) → Audits bytes (Ok text) → OnOk r (Appends old new text) → OnOk r ((x : List ℕ) × Audits bytes (Ok x) × Appends old new x)
OnOk-told (Ok value) bytes text old new told appends = (text, told, appends)
OnOk-told (Err fault) bytes text old new told appends = tt

OnErr-told : {T E : Type 0} (r : Result T E) (bytes text : List ℕ) (old new : Option (List ℕ)) → Audits bytes (Ok text) → OnErr r (AppendsFront old new text) → OnErr r (WritesFront bytes old new)
OnErr-told (Ok value) bytes text old new told sent = tt
OnErr-told (Err fault) bytes text old new told (front, rest, appends, is) = inr (front, rest, appends, subst (λ (l : List ℕ). Audits bytes (Ok l)) is told)

pub returns-in_err-write_all-clause-part : goal.returns-in_err-write_all-clause-part
returns-in_err-write_all-clause-part g c =
    let blank : IsBlankForAny c.args.bytes.now = search rules in
    OnErr-known _ _ (WritesFront-blank c.args.bytes.now _ _ blank c.in_err-write_all.ensures.err)

pub returns-in_ok-text-in-Ok-clause-ok : goal.returns-in_ok-text-in-Ok-clause-ok
returns-in_ok-text-in-Ok-clause-ok g c =
    let other : IsBlankForAny c.args.bytes.now → ⊥ = search rules in
    OnOk-told _ c.args.bytes.now _ _ _ (Audits-text c.args.bytes.now c.in_ok-text-in-Ok.text _ c.as_slice.result.now _ other c.in-Ok.ensures.tells c.in_ok-text-in-Ok.ensures c.as_slice.ensures) c.write_records.ensures.ok

pub returns-in_ok-text-in-Ok-clause-part : goal.returns-in_ok-text-in-Ok-clause-part
returns-in_ok-text-in-Ok-clause-part g c =
    let other : IsBlankForAny c.args.bytes.now → ⊥ = search rules in
    OnErr-told _ c.args.bytes.now _ _ _ (Audits-text c.args.bytes.now c.in_ok-text-in-Ok.text _ c.as_slice.result.now _ other c.in-Ok.ensures.tells c.in_ok-text-in-Ok.ensures c.as_slice.ensures) c.write_records.ensures.err
