-- What a trace writes, as a check of it reads it.
use Rattle.std.proofs.Common.{◌≡◌, ◌<◌, ◌≤◌, ◌^◌, ℕ, ◌+◌, List, [], ◌++◌, length, take, drop, Option, Some, None, Result, Ok, refl, sym, ap, subst, ◌∙◌, append_assoc, length-append, arith}
use Rattle.std.specs.Prelude.{◌||◌, Bool, false, nat_lt, if◌then◌else◌}
use Rattle.std.specs.Int.{w64, from_be_bytes, to_be_bytes}
use Rattle.std.proofs.Math.Seq.{drop-append_seam, take-append_seam}
use Rattle.std.proofs.lemmas.Bool.Decides.{nat_tests}
use Rattle.std.proofs.lemmas.Nat.{from_be_bytes-to_be_bytes_8}
use Rattle.ocm_limits.specs.Limits.{most_audited_bytes}
use Rattle.ocm_base.specs.Outside.{Appends}
use Rattle.ocm_disk.specs.declared.shelf.ShelfPlace.{ShelfPlace}
use Rattle.ocm_logcheck.specs.Checks.{Checks}
use Rattle.ocm_logcheck.specs.declared.faults.LogFault.{LogFault}
use Rattle.ocm_script.specs.declared.events.Event.{Event}
use Rattle.ocm_script_run.specs.Traces.{log_input}
use Rattle.ocm_world.proofs.Tracing.{traced-logged}
use Rattle.ocm_commands.specs.Commands.{Writes}
use Rattle.ocm_commands.specs.Scripts.{TracesRun}
use Rattle.ocm_commands_files.specs.Commands.{IsLong}
use Rattle.ocm_commands_files.specs.Logchecks.{Tells, TellsParts, image_length, log_parts, ok_line}
use Rattle.ocm_commands_files.specs.Words.{most_bytes}
use Rattle.ocm_commands_files.specs.declared.ends.End.{End}
use Rattle.ocm_commands_files.specs.declared.ends.End.TheVariants as ends
use Rattle.ocm_commands_files.specs.declared.words.Command.TheVariants as commands
use Rattle.ocm_law_traces.specs.Texts.{HaveSoundTexts}
use Rattle.ocm_law_traces.specs.TrueLogs.{IsFoundTrue, IsTrueLog}
use Rattle.ocm_law_traces.proofs.Joined.{traced-true}
use Rattle.ocm_law_traces.proofs.ScriptTexts.{script-sound}

-- how many bytes an input has
input-length : (image log : List ℕ) → length (log_input image log) ≡ 8 + length image + length log
input-length image log = length-append (to_be_bytes w64 (length image) ++ image) log ∙ ap (λ n. n + length log) (length-append (to_be_bytes w64 (length image)) image)

-- the length is read back
length-back : (image log : List ℕ) → length image ≤ most_audited_bytes → image_length (log_input image log) ≡ length image
length-back image log few =
    ap (λ l. from_be_bytes w64 (take 8 l)) (append_assoc (to_be_bytes w64 (length image)) image log)
    ∙ ap (from_be_bytes w64) (take-append_seam (to_be_bytes w64 (length image)) (image ++ log))
    ∙ from_be_bytes-to_be_bytes_8 (length image) (omega (arith, few))

behind-length : (image log : List ℕ) → drop 8 (log_input image log) ≡ image ++ log
behind-length image log = ap (drop 8) (append_assoc (to_be_bytes w64 (length image)) image log) ∙ drop-append_seam (to_be_bytes w64 (length image)) (image ++ log)

-- an image and a log are the parts of what is written of them
pub parts-back : (image log : List ℕ) → length image ≤ most_audited_bytes → log_parts (log_input image log) ≡ Some (image, log)
parts-back image log few =
    let all : List ℕ = log_input image log in
    let same = length-back image log few in
    let sized = input-length image log in
    let whole : nat_lt (length all) (image_length all + 8) ≡ false = grind (arith, nat_tests, same, sized) in
    let within : nat_lt most_audited_bytes (image_length all) ≡ false = grind (arith, nat_tests, same, few) in
    let pair : ℕ → List ℕ → Option (List ℕ × List ℕ) = λ n rest. Some (take n rest, drop n rest) in
    ap (λ (b : Bool). if b || nat_lt most_audited_bytes (image_length all) then None else pair (image_length all) (drop 8 all)) whole
    ∙ ap (λ (b : Bool). if b then None else pair (image_length all) (drop 8 all)) within
    ∙ (λ i. pair (same i) (behind-length image log i))
    ∙ (λ i. Some (take-append_seam image log i, drop-append_seam image log i))

-- what a check of a true log tells is how many lines it has
ended : (host image log : List ℕ) (true_log : IsTrueLog host image log) (told : Result ℕ LogFault) (end : End) (line : List ℕ) → Checks image log told → Tells told end line → (end ≡ ends.Done) × (line ≡ ok_line (length true_log.lines))
ended host image log true_log told end line checks tells =
    subst (λ (r : Result ℕ LogFault). Tells r end line) (true_log.told told checks) tells

-- an input of a true log is found true
found-true : (host image log text : List ℕ) → text ≡ log_input image log → length text ≤ most_audited_bytes → IsTrueLog host image log → IsFoundTrue text
found-true host image log text is few true_log = record {
  lines = length true_log.lines;
  taken = λ long. omega (arith, long, few);
  told = λ end old new shelf writes.
      let gives = writes.3 in
      let so = ended host image log true_log gives.0 end writes.1 (subst (λ (o : Option (List ℕ × List ℕ)). TellsParts o gives.0) parts gives.1) gives.2 in
      (so.0, subst (Appends old new) so.1 writes.2);
  may = λ old new shelf appends.
      (omega (arith, few), ok_line (length true_log.lines), appends, (Ok (length true_log.lines), subst (λ (o : Option (List ℕ × List ℕ)). TellsParts o (Ok (length true_log.lines))) (sym parts) true_log.checks, (refl, refl)));
}
  where
    small : length image ≤ most_audited_bytes
    small = let sized = input-length image log in let same = ap length is in omega (arith, sized, same, few)

    parts : log_parts text ≡ Some (image, log)
    parts = ap log_parts is ∙ parts-back image log small

-- what a trace adds to nothing
added : (text : List ℕ) (line : List ℕ) → Appends (Some []) (Some text) line → text ≡ line
added text line appends = cc

-- what a trace wrote of a run
run-true : (host text bytes : List ℕ) (events : List Event) (shelf : Option (List ShelfPlace)) → HaveSoundTexts events → length text ≤ most_audited_bytes → TracesRun host events text shelf → IsFoundTrue text
run-true host text bytes events shelf sound few (final, places, transcript, image, log, traced, are, told, made, held, is) =
    found-true host image log text is few (traced-true host image log events final places (traced-logged [] 1 host events transcript log final traced) sound made are held)

pub written-true : (host bytes text : List ℕ) (shelf : List ShelfPlace) → Writes (commands.Trace host) bytes ends.Done (Some []) (Some text) shelf → length text ≤ most_audited_bytes → IsFoundTrue text
written-true host bytes text shelf (le, line, appends, (events, read, named, run)) few =
    run-true host text bytes events (Some shelf) (script-sound bytes events read) few (subst (λ (l : List ℕ). TracesRun host events l (Some shelf)) (sym (added text line appends)) run)
