-- Steps in a head.
use Rattle.std.proofs.Common.{◌≡◌, ℕ, ◌+◌, ◌<◌, ◌≤◌, suc, zero, List, [], ◌∷◌, ◌++◌, length, take, drop, Bool, true, false, cond, refl, sym, ap, ◌∙◌, subst, arith, append_assoc, length-append}
use Rattle.std.proofs.lemmas.List.{length-take-le}
use Rattle.std.proofs.Math.Seq.{take-append-add}
use Rattle.ocm_http_heads.specs.declared.fields.Head.{Head}
use Rattle.ocm_http_heads.specs.declared.lengths.Length.TheVariants as lengths
use Rattle.ocm_http_heads.specs.declared.endings.Look.{Look}
use Rattle.ocm_http_heads.specs.declared.endings.Found.TheVariants as finds
use Rattle.ocm_http_heads.specs.Endings.{found, moved, further, blanks, lines, of_head}
use Rattle.ocm_http_heads.proofs.Looks.{found_on, moved-append, whole_stays, long_stays, blanks_stay, unfinished_size, whole_within}
use Rattle.ocm_http.specs.Places.{past}
use Rattle.ocm_http.specs.Frames.{Frame, Given, Refused, Ended, IsFrame}
use Rattle.ocm_http.specs.Stages.{Goes, Makes, Faults, Stands, HeadedBy, Begins, BeginsBody}
use Rattle.ocm_http.specs.declared.messages.Message.{Message}
use Rattle.ocm_http.specs.declared.messages.FrameFault.{FrameFault}
use Rattle.ocm_http.specs.declared.messages.FrameFault.TheVariants.{HeadTooLong, ReadFault, NoMemory}
use Rattle.ocm_http.specs.declared.stages.Rules.{Rules}
use Rattle.ocm_http.specs.declared.stages.Stage.{Stage}
use Rattle.ocm_http.specs.declared.stages.Stage.TheVariants as stage
use Rattle.ocm_http.specs.declared.stages.Begun.TheVariants.{On, All}
use Rattle.ocm_http.proofs.Pieces.{take_two, drop_two, goes_all}
use Rattle.ocm_http.proofs.LineSteps.{open_nothing}

-- ---- where a body begins

pub begins_chunks : (rules : Rules) (head : Head) (first next : ℕ) → BeginsBody rules head lengths.Chunked first next (On (stage.Line (record { head = head; body = [] }) next []))
begins_chunks rules head first next = ((omega arith, open_nothing), omega arith, λ bytes ended frame r. r)

-- ---- the head's text

lines_drop : (k : ℕ) (text : List ℕ) → lines (drop k text) ≤ lines text
lines_drop zero text = omega arith
lines_drop (suc k) [] = omega arith
lines_drop (suc k) (b ∷ text) =
    let rest : lines (drop k text) ≤ lines text = lines_drop k text in
    omega arith

-- without what stands before it, it has no more lines
pub few_lines : (k : ℕ) (text : List ℕ) → lines text ≤ 66 → lines (drop k text) ≤ 66
few_lines k text h =
    let fewer : lines (drop k text) ≤ lines text = lines_drop k text in
    omega arith

-- ---- a piece in which it doesn't end

pub head_goes : (rules : Rules) (text : List ℕ) (look : Look) (piece : List ℕ) → 0 < length piece → Stands rules (stage.Head text look) → found look piece ≡ finds.Unfinished
    → Goes rules (stage.Head text look) (stage.Head (text ++ piece) (moved look piece)) piece (length piece)
head_goes rules text look piece some stands none =
    let on : found of_head (text ++ piece) ≡ finds.Unfinished =
    found_on of_head text piece stands.0 ∙ ap (λ l. further (length text) (found l piece)) stands.1 ∙ ap (further (length text)) none in
    let move : moved of_head (text ++ piece) ≡ moved look piece = moved-append of_head text piece ∙ ap (λ l. moved l piece) stands.1 in
    let size : length piece + (moved look piece).size ≡ look.size = unfinished_size look piece none in
    let count : length (text ++ piece) ≡ length text + length piece = length-append text piece in
    goes_all rules (stage.Head text look) (stage.Head (text ++ piece) (moved look piece)) piece some
    (on, move, omega (arith, stands.2)) (omega arith)
    (λ more ended frame r. subst (λ b. IsFrame rules.kind rules.max rules.place b ended frame) (append_assoc text piece more) r)

found_in : (text piece : List ℕ) (look : Look) → found of_head text ≡ finds.Unfinished → moved of_head text ≡ look → found of_head (text ++ piece) ≡ further (length text) (found look piece)
found_in text piece look none moves = found_on of_head text piece none ∙ ap (λ l. further (length text) (found l piece)) moves

-- ---- a piece in which a limit is passed

pub long_blanks : (place : ℕ) (bare : Bool) (x y : List ℕ) → found of_head x ≡ finds.TooLong bare → cond bare (past place 0) (past place (blanks x)) ≡ cond bare (past place 0) (past place (blanks (x ++ y)))
long_blanks place true x y long = refl
long_blanks place false x y long = ap (past place) (sym (blanks_stay of_head x y refl long))

pub head_long : (rules : Rules) (text : List ℕ) (look : Look) (piece : List ℕ) (bare : Bool) (place : ℕ) → Stands rules (stage.Head text look) → found look piece ≡ finds.TooLong bare
    → place ≡ cond bare (past rules.place 0) (past rules.place (blanks (text ++ piece)))
    → Faults rules (stage.Head text look) piece (HeadTooLong place)
head_long rules text look piece bare place stands long is =
    let all : found of_head (text ++ piece) ≡ finds.TooLong bare = found_in text piece look stands.0 stands.1 ∙ ap (further (length text)) long in
    record {
      of_bytes = λ e. cc;
      rest = λ _ more ended.
          let whole : found of_head ((text ++ piece) ++ more) ≡ finds.TooLong bare = long_stays of_head (text ++ piece) more bare all in
          let at_place : Refused (HeadTooLong place) ≡ Refused (HeadTooLong (cond bare (past rules.place 0) (past rules.place (blanks ((text ++ piece) ++ more))))) =
          ap (λ p. Refused (HeadTooLong p)) (is ∙ long_blanks rules.place bare (text ++ piece) more all) in
          let frame : IsFrame rules.kind rules.max rules.place ((text ++ piece) ++ more) ended (Refused (HeadTooLong place)) =
          subst (λ f. Ended f rules.kind rules.max rules.place ((text ++ piece) ++ more) ended (Refused (HeadTooLong place))) (sym whole) at_place in
          subst (λ b. IsFrame rules.kind rules.max rules.place b ended (Refused (HeadTooLong place))) (append_assoc text piece more) frame;
    }

-- ---- a piece in which it ends

pub end_within : (text : List ℕ) (look : Look) (piece : List ℕ) (n : ℕ) → found look piece ≡ finds.Whole n → n ≤ length piece
end_within text look piece n whole = (whole_within look piece n whole).length

pub head_lines : (rules : Rules) (text : List ℕ) (look : Look) (piece : List ℕ) (n : ℕ) → Stands rules (stage.Head text look) → found look piece ≡ finds.Whole n → lines (text ++ take n piece) ≤ 66
head_lines rules text look piece n stands whole =
    let all : found of_head (text ++ piece) ≡ finds.Whole (length text + n) = found_in text piece look stands.0 stands.1 ∙ ap (further (length text)) whole in
    let few : lines (take (length text + n) (text ++ piece)) ≤ 66 = (whole_within of_head (text ++ piece) (length text + n) all).lines in
    let same : take (length text + n) (text ++ piece) ≡ text ++ take n piece = take-append-add text piece n in
    subst (λ t. lines t ≤ 66) same few

pub head_frame : (rules : Rules) (text : List ℕ) (look : Look) (piece : List ℕ) (n : ℕ) → Stands rules (stage.Head text look) → found look piece ≡ finds.Whole n
    → (more : List ℕ) (ended : Bool) (frame : Frame) → HeadedBy rules (text ++ take n piece) (drop n piece ++ more) ended frame
    → IsFrame rules.kind rules.max rules.place (text ++ (piece ++ more)) ended frame
head_frame rules text look piece n stands whole more ended frame headed =
    let within : n ≤ length piece = (whole_within look piece n whole).length in
    let stays : found look (piece ++ more) ≡ finds.Whole n = whole_stays look piece more n whole in
    let all : found of_head (text ++ (piece ++ more)) ≡ finds.Whole (length text + n) = found_in text (piece ++ more) look stands.0 stands.1 ∙ ap (further (length text)) stays in
    let front : take (length text + n) (text ++ (piece ++ more)) ≡ text ++ take n piece = take_two text piece more n within in
    let behind : drop (length text + n) (text ++ (piece ++ more)) ≡ drop n piece ++ more = drop_two text piece more n within in
    let size : length (text ++ take n piece) ≡ length text + n = length-append text (take n piece) ∙ ap (λ k. length text + k) (length-take-le n piece within) in
    let whole_frame : Ended (finds.Whole (length text + n)) rules.kind rules.max rules.place (text ++ (piece ++ more)) ended frame =
    rw (front, behind, ← size) headed in
    subst (λ f. Ended f rules.kind rules.max rules.place (text ++ (piece ++ more)) ended frame) (sym all) whole_frame

pub head_begins : (rules : Rules) (text : List ℕ) (look : Look) (piece : List ℕ) (n : ℕ) (next : Stage) → Stands rules (stage.Head text look) → found look piece ≡ finds.Whole n
    → Begins rules (text ++ take n piece) (On next) → Goes rules (stage.Head text look) next piece n
head_begins rules text look piece n next stands whole begins =
    let w = whole_within look piece n whole in
    let spends = begins.1 in
    record {
      some = w.some;
      within = w.length;
      stands = begins.0;
      spends = omega (arith, w.size, spends);
      rest = λ more ended frame r. head_frame rules text look piece n stands whole more ended frame (begins.2 (drop n piece ++ more) ended frame r);
    }

pub head_makes : (rules : Rules) (text : List ℕ) (look : Look) (piece : List ℕ) (n : ℕ) (message : Message) → Stands rules (stage.Head text look) → found look piece ≡ finds.Whole n
    → Begins rules (text ++ take n piece) (All message) → Makes rules (stage.Head text look) message piece n
head_makes rules text look piece n message stands whole begins =
    let w = whole_within look piece n whole in
    record {
      some = w.some;
      within = w.length;
      spends = omega (arith, w.size);
      rest = λ more ended. head_frame rules text look piece n stands whole more ended (Given message (drop n piece ++ more)) (begins (drop n piece ++ more) ended);
    }

pub head_faults : (rules : Rules) (text : List ℕ) (look : Look) (piece : List ℕ) (n : ℕ) (fault : FrameFault) → Stands rules (stage.Head text look) → found look piece ≡ finds.Whole n
    → (((fault ≡ NoMemory) → ⊥) → (bytes : List ℕ) (ended : Bool) → HeadedBy rules (text ++ take n piece) bytes ended (Refused fault))
    → ((fault ≡ ReadFault) → ⊥) → Faults rules (stage.Head text look) piece fault
head_faults rules text look piece n fault stands whole refused other = record {
  of_bytes = other;
  rest = λ not_memory more ended. head_frame rules text look piece n stands whole more ended (Refused fault) (refused not_memory (drop n piece ++ more) ended);
}
