-- Steps at chunk lines and between chunks.
use Rattle.std.proofs.Common.{◌≡◌, ℕ, ◌+◌, ◌-◌, ◌<◌, ◌≤◌, inl, inr, List, [], ◌∷◌, ◌++◌, length, get_or, take, drop, Bool, true, false, refl, sym, ap, ◌∙◌, subst, arith, append_assoc, append-nil, length-append, lit≤}
use Rattle.std.proofs.lemmas.List.{take-append-drop, drop-append-le, take-append-le, take_at, length-take-le}
use Rattle.std.proofs.lemmas.Bool.{cases_lt}
use Rattle.std.proofs.lemmas.Bool.Decides.{nat_tests}
use Rattle.std.proofs.Math.ListN.{length-take}
use Rattle.httparse.specs.Grammar.{ChunkLine, ReadsChunkLine, print_chunk_line, print_extension, print_end, crlf, HasNoChunkLine, NeverHasChunkLine, MayBecomeChunkLine}
use Rattle.httparse.proofs.ChunkLemmas.{ReadsChunkLine-append}
use Rattle.httparse.proofs.OpenLemmas.{digits_cut, chunk_may}
use Rattle.ocm_http_heads.specs.ChunkLines.{LineOf}
use Rattle.ocm_http_heads.specs.Endings.{of_trailers}
use Rattle.ocm_http.specs.Places.{past}
use Rattle.ocm_http.specs.Messages.{more_of}
use Rattle.ocm_http.specs.Frames as frames
use Rattle.ocm_http.specs.Frames.{Frame, Given, Refused, unfinished, trailers, Break, Broken, Wrong, Unbroken, break_of, break_after_return, fits, IsLine, IsBadLine, IsOpenLine, Chunks}
use Rattle.ocm_http.specs.Stages.{Goes, Faults, GoesFrom, Stands, Rest, InData, short, full, AfterData, Broken_by}
use Rattle.ocm_http.specs.declared.messages.Message.{Message}
use Rattle.ocm_http.specs.declared.messages.FrameFault.{FrameFault}
use Rattle.ocm_http.specs.declared.messages.FrameFault.TheVariants.{BadChunk, BodyTooLong, Cut, ReadFault}
use Rattle.ocm_http.specs.declared.stages.Rules.{Rules}
use Rattle.ocm_http.specs.declared.stages.Stage.{Stage}
use Rattle.ocm_http.specs.declared.stages.Stage.TheVariants as stage
use Rattle.ocm_http.proofs.Pieces.{regroup, drop_two}

-- ---- lines

print_some : (l : ChunkLine) → 2 ≤ length (print_chunk_line l)
unfolding print_chunk_line
print_some l = omega (arith, length-append (l.digits ++ l.pad ++ print_extension l.extension) (print_end crlf))

none_in_nothing : HasNoChunkLine []
none_in_nothing l rest reads =
    let size : 0 ≡ length (print_chunk_line l) + length rest = ap length reads.1 ∙ length-append (print_chunk_line l) rest in
    let some : 2 ≤ length (print_chunk_line l) = print_some l in
    omega arith

may_from_nothing : MayBecomeChunkLine []
may_from_nothing = chunk_may (digits_cut [] (λ k d less. absurd (omega arith)) (lit≤ tt))

-- before a line's first byte
pub open_nothing : IsOpenLine []
open_nothing = (lit≤ tt, none_in_nothing, may_from_nothing)

pub never_on : (x y : List ℕ) → NeverHasChunkLine x → NeverHasChunkLine (x ++ y)
never_on x y never more l rest reads = never (y ++ more) l rest (reads.0, sym (append_assoc x y more) ∙ reads.1)

-- a line is longer than bytes that have none
pub line_longer : (line part : List ℕ) (len size : ℕ) → HasNoChunkLine line → LineOf (line ++ part) len size → len ≤ length (line ++ part) → length line < len
line_longer line part len size none found within =
    elim (cases_lt (length line) len) [
      | inl less ↦ less
      | inr more ↦
          let text : line ++ part ≡ print_chunk_line found.0 ++ drop len (line ++ part) = found.1.1 in
          let front : take len (line ++ part) ≡ print_chunk_line found.0 = ap (take len) text ∙ take_at (print_chunk_line found.0) (drop len (line ++ part)) len (sym found.2) in
          let short : take len line ≡ print_chunk_line found.0 = sym (take-append-le len line part more) ∙ front in
          let whole : line ≡ print_chunk_line found.0 ++ drop len line = sym (take-append-drop len line) ∙ ap (λ l. l ++ drop len line) short in
          absurd (none found.0 (drop len line) (found.1.0, whole))
    ]

-- a line that stands in a front stands in the whole
pub line_on : (front more : List ℕ) (len size : ℕ) → LineOf front len size → len ≤ length front → LineOf (front ++ more) len size
line_on front more len size found within =
    (found.0, subst (λ r. ReadsChunkLine (front ++ more) found.0 r) (sym (drop-append-le len front more within)) (ReadsChunkLine-append front found.0 (drop len front) more found.1), found.2, found.3)

pub is_line : (line piece more : List ℕ) (n len size : ℕ) → length line ≤ 256 → n ≤ 256 - length line → LineOf (line ++ take n piece) len size → len ≤ length (line ++ take n piece) → IsLine (line ++ (piece ++ more)) len size
is_line line piece more n len size small few found within =
    let taken : length (take n piece) ≤ n = omega (arith, length-take n piece) in
    let front : length (line ++ take n piece) ≡ length line + length (take n piece) = length-append line (take n piece) in
    let whole : LineOf ((line ++ take n piece) ++ (drop n piece ++ more)) len size = line_on (line ++ take n piece) (drop n piece ++ more) len size found within in
    let all : length ((line ++ take n piece) ++ (drop n piece ++ more)) ≡ length (line ++ take n piece) + length (drop n piece ++ more) = length-append (line ++ take n piece) (drop n piece ++ more) in
    let long : IsLine ((line ++ take n piece) ++ (drop n piece ++ more)) len size = (whole, omega arith, omega arith) in
    subst (λ b. IsLine b len size) (regroup line piece more n) long

-- ---- faults of a line

pub line_full : (rules : Rules) (m : Message) (place : ℕ) (line piece : List ℕ) → 0 < length piece → Stands rules (stage.Line m place line) → length line ≡ 256 → Faults rules (stage.Line m place line) piece (BadChunk place)
line_full rules m place line piece some stands size = record {
  of_bytes = λ e. cc;
  rest = λ _ more ended.
      let count : length (line ++ (piece ++ more)) ≡ length line + length (piece ++ more) = length-append line (piece ++ more) in
      let behind : length (piece ++ more) ≡ length piece + length more = length-append piece more in
      let none : HasNoChunkLine (take 256 (line ++ (piece ++ more))) = subst HasNoChunkLine (sym (take_at line (piece ++ more) 256 size)) stands.1.1 in
      frames.bad_line place m (line ++ (piece ++ more)) ended _ (inr (omega arith, none)) refl;
}

pub line_refused : (rules : Rules) (m : Message) (place : ℕ) (line piece : List ℕ) (n : ℕ) → NeverHasChunkLine (line ++ take n piece) → Faults rules (stage.Line m place line) piece (BadChunk place)
line_refused rules m place line piece n never = record {
  of_bytes = λ e. cc;
  rest = λ _ more ended.
      frames.bad_line place m (line ++ (piece ++ more)) ended _ (inl (subst NeverHasChunkLine (regroup line piece more n) (never_on (line ++ take n piece) (drop n piece ++ more) never))) refl;
}

-- ---- an unfinished line

pub line_goes : (rules : Rules) (m : Message) (place : ℕ) (line piece : List ℕ) (n : ℕ) → 0 < n → n ≤ length piece → Stands rules (stage.Line m place line) → n ≤ 256 - length line
    → HasNoChunkLine (line ++ take n piece) → MayBecomeChunkLine (line ++ take n piece)
    → Goes rules (stage.Line m place line) (stage.Line m place (line ++ take n piece)) piece n
line_goes rules m place line piece n some within stands few none may =
    let taken : length (take n piece) ≡ n = length-take-le n piece within in
    let front : length (line ++ take n piece) ≡ length line + length (take n piece) = length-append line (take n piece) in
    let small = stands.1.0 in
    record {
      some = some;
      within = within;
      stands = (stands.0, (omega (arith, small), none, may));
      spends = omega (arith, small);
      rest = λ more ended frame r. subst (λ b. Chunks rules.max place m b ended frame) (regroup line piece more n) r;
    }

-- ---- after a whole line

fits_yes : (max : ℕ) (m : Message) (size : ℕ) → length m.body + size ≤ max → fits max m size ≡ true
fits_yes max m size h = grind (arith, nat_tests)

fits_no : (max : ℕ) (m : Message) (size : ℕ) → max < length m.body + size → fits max m size ≡ false
fits_no max m size h = grind (arith, nat_tests)

pub too_large : (rules : Rules) (m : Message) (place len size : ℕ) → length m.body ≤ rules.max → rules.max - length m.body < size
    → (bytes : List ℕ) (ended : Bool) → IsLine bytes len size → Chunks rules.max place m bytes ended (Refused (BodyTooLong place))
too_large rules m place len size body more bytes ended line =
    let past_max : rules.max < length m.body + size = omega arith in
    frames.too_large place m bytes ended _ len size line (fits_no rules.max m size past_max) refl

pub goes_to_trailers : (rules : Rules) (m : Message) (place len size : ℕ) → length m.body ≤ rules.max → len ≤ 256 → size ≡ 0
    → GoesFrom rules place len m size (stage.Trailers m (past place len) of_trailers)
goes_to_trailers rules m place len size body small none = record {
  stands = lit≤ tt;
  spends = omega arith;
  rest = λ bytes behind ended frame line same r.
      let fit : length m.body + 0 ≤ rules.max = omega arith in
      frames.last place m bytes ended frame len (subst (λ s. IsLine bytes len s) none line) (fits_yes rules.max m 0 fit)
      (r ∙ ap (λ b. trailers of_trailers (past place len) m b ended) same);
}

after_break : (max place : ℕ) (m : Message) (bytes : List ℕ) (ended : Bool) (frame : Frame) (len size : ℕ) (kind : Break)
    → IsLine bytes len size → 0 < size → fits max m size ≡ true → size ≤ length (drop len bytes)
    → break_of (drop size (drop len bytes)) ≡ kind
    → Broken_by kind max (past (past place len) size) (more_of m (take size (drop len bytes))) (drop size (drop len bytes)) ended frame
    → Chunks max place m bytes ended frame
after_break max place m bytes ended frame len size Broken line some fit enough is rest = frames.chunk place m bytes ended frame len size line some fit enough is rest
after_break max place m bytes ended frame len size Wrong line some fit enough is rest = frames.wrong_break place m bytes ended frame len size line some fit enough is rest
after_break max place m bytes ended frame len size Unbroken line some fit enough is rest = frames.open_break place m bytes ended frame len size line some fit enough is rest

chunk_data : (max place : ℕ) (m : Message) (bytes : List ℕ) (ended : Bool) (frame : Frame) (len size : ℕ)
    → IsLine bytes len size → 0 < size → fits max m size ≡ true
    → InData max (past place len) m size (drop len bytes) ended frame → Chunks max place m bytes ended frame
chunk_data max place m bytes ended frame len size line some fit (short less same) = frames.open_data place m bytes ended frame len size line some fit less same
chunk_data max place m bytes ended frame len size line some fit (full enough after) =
    after_break max place m bytes ended frame len size (break_of (drop size (drop len bytes))) line some fit enough refl after

pub goes_to_data : (rules : Rules) (m : Message) (place len size : ℕ) → length m.body ≤ rules.max → len ≤ 256 → 0 < size → size ≤ rules.max - length m.body
    → GoesFrom rules place len m size (stage.Data m (past place len) size)
goes_to_data rules m place len size body small some room = record {
  stands = (some, omega arith);
  spends = omega arith;
  rest = λ bytes behind ended frame line same r.
      let fit : length m.body + size ≤ rules.max = omega arith in
      chunk_data rules.max place m bytes ended frame len size line some (fits_yes rules.max m size fit)
      (subst (λ b. InData rules.max (past place len) m size b ended frame) same r);
}

-- the whole line, as a step
pub line_done : (rules : Rules) (m : Message) (place : ℕ) (line piece : List ℕ) (n len size : ℕ) (next : Stage) → n ≤ length piece → Stands rules (stage.Line m place line) → n ≤ 256 - length line
    → LineOf (line ++ take n piece) len size → len ≤ length (line ++ take n piece)
    → GoesFrom rules place len m size next → Goes rules (stage.Line m place line) next piece (len - length line)
line_done rules m place line piece n len size next within stands few found inside goes =
    let more_than : length line < len = line_longer line (take n piece) len size stands.1.1 found inside in
    let taken : length (take n piece) ≡ n = length-take-le n piece within in
    let front : length (line ++ take n piece) ≡ length line + length (take n piece) = length-append line (take n piece) in
    let used : len - length line ≤ length piece = omega arith in
    let same : length line + (len - length line) ≡ len = omega arith in
    let spends = goes.spends in
    let small = stands.1.0 in
    record {
      some = omega arith;
      within = used;
      stands = goes.stands;
      spends = omega arith;
      rest = λ more ended frame r.
          goes.rest (line ++ (piece ++ more)) (drop (len - length line) piece ++ more) ended frame (is_line line piece more n len size small few found inside)
          (sym (drop_two line piece more (len - length line) used) ∙ ap (λ k. drop k (line ++ (piece ++ more))) same) r;
    }

pub line_fault : (rules : Rules) (m : Message) (place : ℕ) (line piece : List ℕ) (n len size : ℕ) (fault : FrameFault) → Stands rules (stage.Line m place line) → n ≤ 256 - length line
    → LineOf (line ++ take n piece) len size → len ≤ length (line ++ take n piece)
    → ((fault ≡ ReadFault) → ⊥) → ((bytes : List ℕ) (ended : Bool) → IsLine bytes len size → Chunks rules.max place m bytes ended (Refused fault))
    → Faults rules (stage.Line m place line) piece fault
line_fault rules m place line piece n len size fault stands few found inside other refused = record {
  of_bytes = other;
  rest = λ _ more ended. refused (line ++ (piece ++ more)) ended (is_line line piece more n len size stands.1.0 few found inside);
}

-- the LF after a chunk's data
pub break_goes : (rules : Rules) (m : Message) (place : ℕ) (piece : List ℕ) → 0 < length piece → Stands rules (stage.Break m place true) → get_or piece 0 0 ≡ 10
    → Goes rules (stage.Break m place true) (stage.Line m (past place 2) []) piece 1
break_goes rules m place [] some stands is = absurd (omega arith)
break_goes rules m place (b ∷ x) some stands is = record {
  some = lit≤ tt;
  within = omega arith;
  stands = (stands, open_nothing);
  spends = omega arith;
  rest = λ more ended frame r. subst (λ n. AfterData rules.max place m (13 ∷ (n ∷ (x ++ more))) ended frame) (sym is) r;
}

-- the end of input in a line
pub line_ends : (rules : Rules) (m : Message) (place : ℕ) (line : List ℕ) → Stands rules (stage.Line m place line) → Rest rules (stage.Line m place line) [] true (Refused Cut)
line_ends rules m place line stands = frames.open_line place m (line ++ []) true (Refused Cut) (subst IsOpenLine (sym (append-nil line)) stands.1) refl
