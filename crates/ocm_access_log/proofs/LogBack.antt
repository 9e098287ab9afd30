-- What is written of lines is read back as these lines.
use Rattle.std.proofs.Common.{◌≡◌, ℕ, ◌+◌, ◌≤◌, List, [], ◌∷◌, ◌++◌, length, true, false, Option, Some, Ok, All, refl, sym, ap, subst, ◌∙◌, arith, append_assoc}
use Rattle.std.specs.Prelude.{◌&&◌, nat_eq, decimal, option_and_then}
use Rattle.std.specs.List.{slice_split}
use Rattle.std.proofs.lemmas.Bool.{and_parts, and_from, cond-true, ne_eqb, leb-true, le-leb}
use Rattle.std.proofs.lemmas.List.Elements.{All-cons, All-head, All-tail, All-append, All-weaker}
use Rattle.std.proofs.lemmas.List.Splits.{slice_split_none, slice_split_at}
use Rattle.ocm_path.specs.Escapes.{escape}
use Rattle.ocm_path.specs.Paths.{Segments, path_text, path_escaped}
use Rattle.ocm_entry.specs.Proper.{is_short, takes_body}
use Rattle.ocm_entry.specs.declared.asks.Ask.{Ask}
use Rattle.ocm_entry.specs.declared.asks.Ask.TheVariants.{Dav}
use Rattle.ocm_entry.specs.declared.asks.Method.{Method}
use Rattle.ocm_entry.specs.declared.asks.Method.TheVariants.{Get, Head, List0, List1}
use Rattle.ocm_access_log.specs.declared.lines.LogLine.{LogLine}
use Rattle.ocm_access_log.specs.Cuts.{Lacks}
use Rattle.ocm_access_log.specs.Lines.{is_reading, method_text, is_space, is_behind, when, line_text, line_in, line_of, line_behind, put_first, lines_from}
use Rattle.ocm_access_log.specs.Reads.{AreLoggedFrom}
use Rattle.ocm_access_log.specs.Written.{IsLoggable, written, written_log}
use Rattle.ocm_access_log.proofs.LineSteps.{lines_after, lines_from-line}
use Rattle.ocm_access_log.proofs.ReadBack.{IsPlain, plain-decimal, plain-method, plain-escape, plain-path, number-back, method-back, secret-back, path-back, status-back}

-- ---- one line

plain-space : (b : ℕ) → IsPlain b → is_space b ≡ false
plain-space b plain = ne_eqb b 32 (λ e. let above = plain.above in absurd (omega arith))

cut_word : (word rest : List ℕ) → All IsPlain word → slice_split is_space (word ++ 32 ∷ rest) ≡ word ∷ slice_split is_space rest
cut_word word rest plain = slice_split_at is_space word 32 rest (All-weaker IsPlain (λ b. is_space b ≡ false) plain-space word plain) refl

last_word : (word : List ℕ) → All IsPlain word → slice_split is_space word ≡ word ∷ []
last_word word plain = slice_split_none is_space word (All-weaker IsPlain (λ b. is_space b ≡ false) plain-space word plain)

-- six words, each with a space and all that follows it
nested : (a b c d e f : List ℕ) → a ++ 32 ∷ b ++ 32 ∷ c ++ 32 ∷ d ++ 32 ∷ e ++ 32 ∷ f ≡ a ++ 32 ∷ (b ++ 32 ∷ (c ++ 32 ∷ (d ++ 32 ∷ (e ++ 32 ∷ f))))
nested a b c d e f =
    append_assoc (a ++ 32 ∷ b ++ 32 ∷ c ++ 32 ∷ d) (32 ∷ e) (32 ∷ f)
    ∙ append_assoc (a ++ 32 ∷ b ++ 32 ∷ c) (32 ∷ d) (32 ∷ (e ++ 32 ∷ f))
    ∙ append_assoc (a ++ 32 ∷ b) (32 ∷ c) (32 ∷ (d ++ 32 ∷ (e ++ 32 ∷ f)))
    ∙ append_assoc a (32 ∷ b) (32 ∷ (c ++ 32 ∷ (d ++ 32 ∷ (e ++ 32 ∷ f))))

-- the words of a line that was written
words-back : (a b c d e f : List ℕ) → All IsPlain a → All IsPlain b → All IsPlain c → All IsPlain d → All IsPlain e → All IsPlain f → slice_split is_space (a ++ 32 ∷ b ++ 32 ∷ c ++ 32 ∷ d ++ 32 ∷ e ++ 32 ∷ f) ≡ a ∷ b ∷ c ∷ d ∷ e ∷ f ∷ []
words-back a b c d e f pa pb pc pd pe pf =
    rw (nested a b c d e f, cut_word a (b ++ 32 ∷ (c ++ 32 ∷ (d ++ 32 ∷ (e ++ 32 ∷ f)))) pa, cut_word b (c ++ 32 ∷ (d ++ 32 ∷ (e ++ 32 ∷ f))) pb, cut_word c (d ++ 32 ∷ (e ++ 32 ∷ f)) pc, cut_word d (e ++ 32 ∷ f) pd, cut_word e f pe, last_word f pf) refl

-- what is written of a read is read back as that read
pub line-back : (place moment : ℕ) (method : Method) (secret : List ℕ) (path : Segments) (status : ℕ)
    → IsLoggable (record { place = place; moment = moment; ask = Dav secret method path []; status = status })
    → line_of (line_text place moment method secret path (decimal status)) ≡ Some (record { place = place; moment = moment; ask = Dav secret method path []; status = status })
unfolding line_of line_in
line-back place moment method secret path status sound =
    let reads = and_parts (is_reading method) (is_short path) sound.reads in
    let short = leb-true (length (path_text path)) 1024 reads.1 in
    let digits = sound.digits in
    let texts = sound.texts in
    rw (words-back (decimal place) (decimal moment) (method_text method) (escape secret) (path_escaped path) (decimal status) (plain-decimal place sound.place) (plain-decimal moment sound.moment) (plain-method method reads.0) (plain-escape secret) (plain-path path) (plain-decimal status (omega arith)), number-back place sound.place, number-back moment sound.moment, method-back method reads.0, secret-back secret texts.0 texts.1, path-back path texts.2 short, status-back status digits.0 digits.1) refl

-- ---- a line feed stands at its end alone

plain-feed : (b : ℕ) → IsPlain b → nat_eq b 10 ≡ false
plain-feed b plain = ne_eqb b 10 (λ e. let above = plain.above in absurd (omega arith))

lacks-word : (word rest : List ℕ) → All IsPlain word → Lacks 10 rest → Lacks 10 (word ++ 32 ∷ rest)
lacks-word word rest plain lacks =
    All-append (λ b. nat_eq b 10 ≡ false) word (32 ∷ rest) (All-weaker IsPlain (λ b. nat_eq b 10 ≡ false) plain-feed word plain) (All-cons (λ b. nat_eq b 10 ≡ false) 32 rest refl lacks)

line-lacks : (place moment : ℕ) (method : Method) (secret : List ℕ) (path : Segments) (digits : List ℕ) → All IsPlain (decimal place) → All IsPlain (decimal moment) → All IsPlain (method_text method) → All IsPlain digits → Lacks 10 (line_text place moment method secret path digits)
line-lacks place moment method secret path digits p m h d =
    subst (Lacks 10) (sym (nested (decimal place) (decimal moment) (method_text method) (escape secret) (path_escaped path) digits))
    (lacks-word (decimal place) _ p (lacks-word (decimal moment) _ m (lacks-word (method_text method) _ h (lacks-word (escape secret) _ (plain-escape secret) (lacks-word (path_escaped path) digits (plain-path path) (All-weaker IsPlain (λ b. nat_eq b 10 ≡ false) plain-feed digits d))))))

-- a method that reads takes no body
no_body : (method : Method) → is_reading method ≡ true → takes_body method ≡ true → ⊥
no_body Get reads takes = cc
no_body Head reads takes = cc
no_body List0 reads takes = cc
no_body List1 reads takes = cc
no_body _ reads takes = cc

-- a line, written without its line feed, and read
pub record IsBack (line : LogLine) : Type 0 where
  pub text : List ℕ
  pub is : written line ≡ text ++ 10 ∷ []
  pub lacks : Lacks 10 text
  pub back : line_of text ≡ Some line

pub ask-back : (place moment status : ℕ) (ask : Ask) → IsLoggable (record { place = place; moment = moment; ask = ask; status = status }) → IsBack (record { place = place; moment = moment; ask = ask; status = status })
ask-back place moment status (Dav secret method path []) sound =
    let reads = and_parts (is_reading method) (is_short path) sound.reads in
    let digits = sound.digits in
    record {
      text = line_text place moment method secret path (decimal status);
      is = refl;
      lacks = line-lacks place moment method secret path (decimal status) (plain-decimal place sound.place) (plain-decimal moment sound.moment) (plain-method method reads.0) (plain-decimal status (omega arith));
      back = line-back place moment method secret path status sound;
    }
ask-back place moment status (Dav secret method path (b ∷ body)) sound =
    let reads = and_parts (is_reading method) (takes_body method && is_short path) sound.reads in
    absurd (no_body method reads.0 (and_parts (takes_body method) (is_short path) reads.1).0)
ask-back place moment status _ sound = absurd cc

line_behind-back : (place moment : ℕ) (bytes : List ℕ) (line : LogLine) → line_of bytes ≡ Some line → place ≤ line.place → moment ≤ line.moment → line_behind place moment bytes ≡ Some line
line_behind-back place moment bytes line is above later =
    ap (λ (read : Option LogLine). option_and_then (λ (l : LogLine). when (is_behind place moment l) l) read) is
    ∙ cond-true _ _ _ (and_from _ _ (le-leb place line.place above) (le-leb moment line.moment later))

-- ---- a log

pub log-back : (number place moment : ℕ) (lines : List LogLine) → All IsLoggable lines → AreLoggedFrom place moment lines → lines_from number place moment [] (written_log lines) ≡ Ok lines
log-back number place moment [] sound logged = refl
log-back number place moment (line ∷ lines) sound logged =
    let one = ask-back line.place line.moment line.status line.ask (All-head IsLoggable line lines sound) in
    ap (λ (l : List ℕ). lines_from number place moment [] (l ++ written_log lines)) one.is
    ∙ ap (lines_from number place moment []) (append_assoc one.text (10 ∷ []) (written_log lines))
    ∙ lines_from-line number place moment [] one.text (written_log lines) one.lacks
    ∙ ap (lines_after number (written_log lines)) (line_behind-back place moment one.text line one.back logged.1 logged.2)
    ∙ ap (put_first line) (log-back (number + 1) line.place line.moment lines (All-tail IsLoggable line lines sound) logged.3)
