-- Steps in a body's bytes, in a chunk's data and in trailers.
use Rattle.std.proofs.Common.{◌≡◌, ℕ, ◌+◌, ◌-◌, ◌<◌, List, ◌++◌, length, take, drop, Bool, leb, refl, sym, ap, ◌∙◌, subst, arith, length-append}
use Rattle.std.proofs.lemmas.List.{drop-append-le}
use Rattle.std.proofs.lemmas.Bool.Decides.{nat_tests}
use Rattle.std.proofs.Math.Seq.{take-append-add, drop-append-add}
use Rattle.ocm_http_heads.specs.Endings.{found, moved, further}
use Rattle.ocm_http_heads.specs.declared.endings.Look.{Look}
use Rattle.ocm_http_heads.specs.declared.endings.Found.{Found}
use Rattle.ocm_http_heads.specs.declared.endings.Found.TheVariants as finds
use Rattle.ocm_http_heads.proofs.Looks.{found_on, whole_stays, long_stays, unfinished_size, whole_within}
use Rattle.ocm_http.specs.Places.{past}
use Rattle.ocm_http.specs.Messages.{more_of}
use Rattle.ocm_http.specs.Frames.{Frame, Given, sized, trailers, trailers_end}
use Rattle.ocm_http.specs.Stages.{Goes, Makes, Faults, Stands, chunks_budget, InData, short, full}
use Rattle.ocm_http.specs.declared.messages.Message.{Message}
use Rattle.ocm_http.specs.declared.messages.FrameFault.TheVariants.{BadChunk}
use Rattle.ocm_http.specs.declared.stages.Rules.{Rules}
use Rattle.ocm_http.specs.declared.stages.Stage.TheVariants.{Sized, Data, Trailers}
use Rattle.ocm_http.proofs.Pieces.{more_twice, past_twice, goes_all}

-- whether as many bytes are there, with and without those in front
shifted : (a k n m : ℕ) → n ≡ a + m → leb (a + k) n ≡ leb k m
shifted a k n m e = grind (arith, nat_tests)

sized_on : (m : Message) (x y : List ℕ) (k : ℕ) (ended : Bool) → sized m (length x + k) (x ++ y) ended ≡ sized (more_of m x) k y ended
sized_on m x y k ended =
    let test : leb (length x + k) (length (x ++ y)) ≡ leb k (length y) = shifted (length x) k (length (x ++ y)) (length y) (length-append x y) in
    rw (test, take-append-add x y k, drop-append-add x y k, ← (more_twice m x (take k y))) refl

wanted_left : (x wanted : ℕ) → x < wanted → x + (wanted - x) ≡ wanted
wanted_left x wanted h = omega arith

room_left : (max : ℕ) (m : Message) (piece : List ℕ) (wanted : ℕ) → length piece < wanted → length (m.body ++ piece) + (wanted - length piece) ≡ length m.body + wanted
room_left max m piece wanted h = omega (arith, length-append m.body piece)

-- fewer bytes than are wanted
pub sized_goes : (rules : Rules) (m : Message) (wanted : ℕ) (piece : List ℕ) → 0 < length piece → Stands rules (Sized m wanted) → length piece < wanted → Goes rules (Sized m wanted) (Sized (more_of m piece) (wanted - length piece)) piece (length piece)
sized_goes rules m wanted piece some stands less =
    let room = room_left rules.max m piece wanted less in
    goes_all rules (Sized m wanted) (Sized (more_of m piece) (wanted - length piece)) piece some
    (omega arith, omega (arith, stands.1, room)) (omega arith)
    (λ more ended frame r. r ∙ (sym (sized_on m piece more (wanted - length piece) ended) ∙ ap (λ w. sized m w (piece ++ more) ended) (wanted_left (length piece) wanted less)))

in_data_on : (max place : ℕ) (m : Message) (x y : List ℕ) (k : ℕ) (ended : Bool) (frame : Frame) → InData max (past place (length x)) (more_of m x) k y ended frame → InData max place m (length x + k) (x ++ y) ended frame
in_data_on max place m x y k ended frame (short less same) = short (omega (arith, length-append x y)) same
in_data_on max place m x y k ended frame (full enough after) =
    full (omega (arith, length-append x y))
    (rw (take-append-add x y k, drop-append-add x y k, ← (past_twice place (length x) k), ← (more_twice m x (take k y))) after)

pub data_goes : (rules : Rules) (m : Message) (place wanted : ℕ) (piece : List ℕ) → 0 < length piece → Stands rules (Data m place wanted) → length piece < wanted → Goes rules (Data m place wanted) (Data (more_of m piece) (past place (length piece)) (wanted - length piece)) piece (length piece)
data_goes rules m place wanted piece some stands less =
    let room = room_left rules.max m piece wanted less in
    let same : chunks_budget (rules.max - (length (m.body ++ piece) + (wanted - length piece))) ≡ chunks_budget (rules.max - (length m.body + wanted)) = ap (λ n. chunks_budget (rules.max - n)) room in
    goes_all rules (Data m place wanted) (Data (more_of m piece) (past place (length piece)) (wanted - length piece)) piece some
    (omega arith, omega (arith, stands.1, room)) (omega (arith, same))
    (λ more ended frame r. subst (λ w. InData rules.max place m w (piece ++ more) ended frame) (wanted_left (length piece) wanted less) (in_data_on rules.max place m piece more (wanted - length piece) ended frame r))

-- ---- trailers

trailers_further : (n : ℕ) (f : Found) (place : ℕ) (m : Message) (x y : List ℕ) (ended : Bool) → length x ≡ n → trailers_end (further n f) place m (x ++ y) ended ≡ trailers_end f place m y ended
trailers_further n (finds.Whole k) place m x y ended e =
    let behind : drop (n + k) (x ++ y) ≡ drop k y = subst (λ i. drop (i + k) (x ++ y) ≡ drop k y) e (drop-append-add x y k) in
    ap (Given m) behind
trailers_further n (finds.TooLong bare) place m x y ended e = refl
trailers_further n finds.Unfinished place m x y ended e = refl

trailers_on : (look : Look) (place : ℕ) (m : Message) (x y : List ℕ) (ended : Bool) → found look x ≡ finds.Unfinished → trailers look place m (x ++ y) ended ≡ trailers (moved look x) place m y ended
trailers_on look place m x y ended none =
    ap (λ f. trailers_end f place m (x ++ y) ended) (found_on look x y none)
    ∙ trailers_further (length x) (found (moved look x) y) place m x y ended refl

pub trailers_go : (rules : Rules) (m : Message) (place : ℕ) (look : Look) (piece : List ℕ) → 0 < length piece → Stands rules (Trailers m place look) → found look piece ≡ finds.Unfinished → Goes rules (Trailers m place look) (Trailers m place (moved look piece)) piece (length piece)
trailers_go rules m place look piece some stands none =
    let size : length piece + (moved look piece).size ≡ look.size = unfinished_size look piece none in
    goes_all rules (Trailers m place look) (Trailers m place (moved look piece)) piece some
    (omega (arith, size)) (omega (arith, size))
    (λ more ended frame r. r ∙ sym (trailers_on look place m piece more ended none))

pub trailers_made : (rules : Rules) (m : Message) (place : ℕ) (look : Look) (piece : List ℕ) (n : ℕ) → found look piece ≡ finds.Whole n → Makes rules (Trailers m place look) m piece n
trailers_made rules m place look piece n whole =
    let w = whole_within look piece n whole in
    record {
      some = w.some;
      within = w.length;
      spends = w.size;
      rest = λ more ended. ap (Given m) (sym (drop-append-le n piece more w.length)) ∙ sym (ap (λ f. trailers_end f place m (piece ++ more) ended) (whole_stays look piece more n whole));
    }

pub trailers_long : (rules : Rules) (m : Message) (place : ℕ) (look : Look) (piece : List ℕ) (bare : Bool) → found look piece ≡ finds.TooLong bare → Faults rules (Trailers m place look) piece (BadChunk place)
trailers_long rules m place look piece bare long = record {
  of_bytes = λ e. cc;
  rest = λ _ more ended. sym (ap (λ f. trailers_end f place m (piece ++ more) ended) (long_stays look piece more bare long));
}
