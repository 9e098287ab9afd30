use Rattle.std.proofs.Common.{◌≡◌, ◌≤◌, ◌⊎◌, ◌==◌, ◌||◌, Bool, true, false, List, ◌++◌, drop, take, length, ℕ, refl, sym, ◌∙◌, ap, subst}
use Rattle.std.specs.Prelude.{◌↔◌, Option, Some, None, Result, Ok, Err, IfOk, IfSome, OnErr}
use Rattle.std.proofs.lemmas.Option.{same_Some}
use Rattle.std.proofs.lemmas.Result.{on_err_weaker}
use Rattle.std.proofs.lemmas.List.{take-append-drop}
use mathlib.Core.Logic.{inl, inr}
use Rattle.ocm_base.specs.Outside.{AppendsPart}
use Rattle.ocm_disk.specs.declared.shelf.ShelfPlace.{ShelfPlace}
use Rattle.ocm_commands.specs.Commands.{Gives, Writes, WritesOnCome, WritesPart}
use Rattle.ocm_commands_files.specs.Commands.{GivesPlain, IsStatus, IsWhole, WritesPlain, WritesPlainPart, end_status, status_of}
use Rattle.ocm_commands_files.specs.Words.{AreOf, AreOther, HasCome, input_of, most_bytes}
use Rattle.ocm_commands_files.specs.declared.ends.End.{End}
use Rattle.ocm_commands_files.specs.declared.ends.End.TheVariants as whole
use Rattle.ocm_commands_files.specs.declared.ends.Fault.{Fault}
use Rattle.ocm_commands_files.specs.declared.ends.Fault.TheVariants as faults
use Rattle.ocm_commands_files.specs.declared.words.Command.{Command}
use Rattle.ocm_commands_files.specs.declared.words.Command.TheVariants as commands

-- a front of the text of a whole run is a front of what the command writes
pub front-part : (command : Command) (bytes : List ℕ) (old new : Option (List ℕ)) (end : End) (text : List ℕ) → length bytes ≤ most_bytes command → Gives command bytes end text None → AppendsPart old new text → WritesPart command bytes old new
front-part command bytes old new end text le gives part =
    inr (le, end, take part.0 text, drop part.0 text, part.2, subst (λ t. Gives command bytes end t None) (sym (take-append-drop part.0 text)) gives)

-- the statuses of words that are no command's are statuses
pub IsStatus-usage : (n : ℕ) → (n ≡ 1) ⊎ (n ≡ 4) → IsStatus n
IsStatus-usage n (inl one) = inl one
IsStatus-usage n (inr four) = inr (Err faults.WriteFault, four)

-- words of a command are not other words
pub not-other : (words : List (List ℕ)) (command : Command) → ((c : Command) → (Some command ≡ Some c) ↔ AreOf c words) → AreOther words → ⊥
not-other words command read other = other command ((read command).0 refl)

-- whether it is the status of a run that ended early
abbrev is_early : ℕ → Bool
is_early n = (n == 3) || (n == 4) || (n == 5) || (n == 9)

whole-status : (end : End) → is_early (end_status end) ≡ false
whole-status whole.Done = refl
whole-status _ = refl

early-status : (fault : Fault) → is_early (status_of (Err fault)) ≡ true
early-status faults.ReadFault = refl
early-status _ = refl

-- a run whose text is whole has another status than one that ended early
apart : (end : End) (n m : ℕ) → n ≡ end_status end → n ≡ m → is_early m ≡ true → ⊥
apart end n m is other early = (let wrong : false ≡ true = sym (ap is_early is ∙ whole-status end) ∙ ap is_early other ∙ early in absurd (cc))

not-early : (end : End) (n : ℕ) → n ≡ end_status end → (n ≡ 4) ⊎ (n ≡ 5) → ⊥
not-early end n is (inl four) = apart end n 4 is four refl
not-early end n is (inr five) = apart end n 5 is five refl

-- with the status 4 or 5 a run ended early
early : (run : Result End Fault) (n : ℕ) (P : Type 0) → n ≡ status_of run → (n ≡ 4) ⊎ (n ≡ 5) → OnErr run P → P
early (Ok end) n P is fault part = absurd (not-early end n is fault)
early (Err e) n P is fault part = part

-- what holds of a run that ended early holds of the words' command
pub run-early : (P : Command → List ℕ → Type 0) (words : List (List ℕ)) (command c : Command) (run : Result End Fault) (n : ℕ) (left : Option (List ℕ)) → ((d : Command) → (Some command ≡ Some d) ↔ AreOf d words) → AreOf c words → n ≡ status_of run → (n ≡ 4) ⊎ (n ≡ 5) → OnErr run (IfSome (input_of command left) (P command)) → IfSome (input_of c left) (P c)
run-early P words command c run n left read are is fault part =
    subst (λ d. IfSome (input_of d left) (P d)) (same_Some command c ((read c).1 are)) (early run n _ is fault part)

-- with the input, where it is told
with-input : (input : Option (List ℕ)) (P Q : List ℕ → Type 0) → ((bytes : List ℕ) → P bytes → Q bytes) → IfSome input P → IfSome input Q
with-input None P Q gives holds = tt
with-input (Some bytes) P Q gives holds = gives bytes holds

-- what a run wrote whose text is whole is what the words' command writes
whole-of : (command : Command) (run : Result End Fault) (n : ℕ) (left old new : Option (List ℕ)) (shelf : List ShelfPlace) → n ≡ status_of run → IsWhole n
    → IfOk run (λ end. IfSome (input_of command left) (λ bytes. Writes command bytes end old new shelf)) → IfSome (input_of command left) (λ bytes. (end : End) × (n ≡ end_status end) × Writes command bytes end old new shelf)
whole-of command (Ok end) n left old new shelf is done wrote =
    with-input (input_of command left) (λ bytes. Writes command bytes end old new shelf) (λ bytes. (e : End) × (n ≡ end_status e) × Writes command bytes e old new shelf) (λ bytes writes. (end, is, writes)) wrote
whole-of command (Err fault) n left old new shelf is done wrote = absurd (apart done.0 n (status_of (Err fault)) done.1 is (early-status fault))

pub run-whole : (words : List (List ℕ)) (command c : Command) (run : Result End Fault) (n : ℕ) (left old new : Option (List ℕ)) (shelf : List ShelfPlace) → ((d : Command) → (Some command ≡ Some d) ↔ AreOf d words) → AreOf c words → n ≡ status_of run → IsWhole n
    → IfOk run (λ end. IfSome (input_of command left) (λ bytes. Writes command bytes end old new shelf)) → IfSome (input_of c left) (λ bytes. (end : End) × (n ≡ end_status end) × Writes c bytes end old new shelf)
run-whole words command c run n left old new shelf read are is done wrote =
    subst (λ d. IfSome (input_of d left) (λ bytes. (end : End) × (n ≡ end_status end) × Writes d bytes end old new shelf)) (same_Some command c ((read c).1 are)) (whole-of command run n left old new shelf is done wrote)

-- the same on the bytes that came
came-of : (command : Command) (run : Result End Fault) (n : ℕ) (before after old new : Option (List ℕ)) (shelf : List ShelfPlace) → n ≡ status_of run → IsWhole n
    → IfOk run (λ end. (bytes : List ℕ) × HasCome command before after bytes × Writes command bytes end old new shelf) → WritesOnCome command n before after old new shelf
came-of command (Ok end) n before after old new shelf is done wrote = (wrote.0, wrote.1, end, is, wrote.2)
came-of command (Err fault) n before after old new shelf is done wrote = absurd (apart done.0 n (status_of (Err fault)) done.1 is (early-status fault))

pub run-came : (words : List (List ℕ)) (command c : Command) (run : Result End Fault) (n : ℕ) (before after old new : Option (List ℕ)) (shelf : List ShelfPlace) → ((d : Command) → (Some command ≡ Some d) ↔ AreOf d words) → AreOf c words → n ≡ status_of run → IsWhole n
    → IfOk run (λ end. (bytes : List ℕ) × HasCome command before after bytes × Writes command bytes end old new shelf) → WritesOnCome c n before after old new shelf
run-came words command c run n before after old new shelf read are is done wrote =
    subst (λ d. WritesOnCome d n before after old new shelf) (same_Some command c ((read c).1 are)) (came-of command run n before after old new shelf is done wrote)

-- what a plain command gives is what the command gives, with any shelf
plain-gives : (command : Command) (bytes : List ℕ) (end : End) (text : List ℕ) (shelf : Option (List ShelfPlace)) → GivesPlain command bytes end text → Gives command bytes end text shelf
plain-gives commands.Replay bytes end text shelf gives = absurd gives
plain-gives (commands.Trace host) bytes end text shelf gives = absurd gives
plain-gives commands.Audit bytes end text shelf gives = gives
plain-gives commands.Logcheck bytes end text shelf gives = gives
plain-gives commands.Compact bytes end text shelf gives = gives
plain-gives (commands.Check kind) bytes end text shelf gives = gives
plain-gives (commands.Drill number events) bytes end text shelf gives = absurd gives
plain-gives commands.Help bytes end text shelf gives = gives
plain-gives commands.ServeHelp bytes end text shelf gives = gives
plain-gives commands.DavHelp bytes end text shelf gives = gives
plain-gives commands.Version bytes end text shelf gives = gives

-- what a plain command writes is what the command writes, with any shelf
pub plain-whole : (command : Command) (bytes : List ℕ) (old new : Option (List ℕ)) (shelf : List ShelfPlace) (run : Result End Fault) → IfOk run (λ end. WritesPlain command bytes end old new) → IfOk run (λ end. Writes command bytes end old new shelf)
plain-whole command bytes old new shelf (Ok end) writes = (writes.0, writes.1, writes.2, plain-gives command bytes end writes.1 (Some shelf) writes.3)
plain-whole command bytes old new shelf (Err fault) writes = tt

-- so is a part of it
plain-front : (command : Command) (bytes : List ℕ) (old new : Option (List ℕ)) → WritesPlainPart command bytes old new → WritesPart command bytes old new
plain-front command bytes old new (inl same) = inl same
plain-front command bytes old new (inr part) = inr (part.0, part.1, part.2, part.3, part.4, plain-gives command bytes part.1 (part.2 ++ part.3) None part.5)

pub plain-part : (command : Command) (bytes : List ℕ) (old new : Option (List ℕ)) (run : Result End Fault) → OnErr run (WritesPlainPart command bytes old new) → OnErr run (WritesPart command bytes old new)
plain-part command bytes old new run part = on_err_weaker run (plain-front command bytes old new) part
