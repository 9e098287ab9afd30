-- What a crash leaves since the moment behind a call.
use Rattle.std.proofs.Common.{◌≡◌, ℕ, ◌≤◌, suc, List, [], ◌∷◌, ◌++◌, length, refl, sym, ap, subst, arith, append-nil, length-append}
use Rattle.ocm_disk.specs.declared.disk.Disk.{Ghosts}
use Rattle.ocm_entry.specs.declared.entries.Entry.{Entry}
use Rattle.ocm_store.specs.declared.stores.Store.{Store}
use Rattle.ocm_store.specs.declared.terms.Terms.{Terms}
use Rattle.ocm_store.specs.Acts.{StandsLegally}
use Rattle.ocm_store.specs.Courses.{CourseAt, CoursesTie, CoursesWithMoments, LeavesAlong, LeavesSince}
use Rattle.ocm_store.specs.Stores.{disk_of, terms_of}
use Rattle.ocm_store.proofs.Runs.{courses-leave, courses-stand}

module _ {D : Type 0} (disk : Ghosts D) where
  pub courses-with-moments : CoursesWithMoments disk
  courses-with-moments old new [] [] same = (same, refl)
  courses-with-moments old new [] (t ∷ earlier) course = absurd course
  courses-with-moments old new (e ∷ before) [] course = absurd course
  courses-with-moments old new (e ∷ before) (t ∷ earlier) (mid, so_far, acts, is) =
      let so = courses-with-moments old mid before earlier so_far in ((mid, so.0, acts), ap suc so.1)

  -- a course of two parts
  cut : (old new : Store D disk) (done later : List Entry) (earlier newer : List ℕ) → length newer ≡ length later → CourseAt disk old (later ++ done) (newer ++ earlier) new
      → (mid : Store D disk) × CourseAt disk old done earlier mid × CourseAt disk mid later newer new
  cut old new done [] earlier [] same course = (new, course, refl)
  cut old new done [] earlier (t ∷ newer) same course = absurd (omega (arith, same))
  cut old new done (e ∷ before) earlier [] same course = absurd (omega (arith, same))
  cut old new done (e ∷ before) earlier (t ∷ newer) same (last, so_far, acts, is) =
      let parts = cut old last done before earlier newer (omega (arith, same)) so_far in (parts.0, parts.1, (last, parts.2, acts, is))

  -- the moment behind the newest call is that of the disk
  newest : (old new : Store D disk) (done : List Entry) (at : ℕ) (earlier : List ℕ) → CourseAt disk old done (at ∷ earlier) new → disk.moment (disk_of new) ≡ at
  newest old new [] at earlier course = absurd course
  newest old new (e ∷ before) at earlier (mid, so_far, acts, is) = is

module _ {D : Type 0} (disk : Ghosts D) (only_now : (d : D) (c : List ℕ) → disk.left_since d (disk.moment d) c → disk.may_leave d c) where
  tied : (old new : Store D disk) (k done later : List Entry) (newer earlier : List ℕ) (at : ℕ) → disk.tells → StandsLegally disk old k [] → length (at ∷ earlier) ≡ length done
      → CourseAt disk old (later ++ done) (newer ++ (at ∷ earlier)) new → LeavesSince disk (disk_of new) at (LeavesAlong (terms_of old) k done later)
  tied old new k done later newer earlier at tells s many course =
      let all : length (newer ++ (at ∷ earlier)) ≡ length (later ++ done) = (courses-with-moments disk old new (later ++ done) (newer ++ (at ∷ earlier)) course).1 in
      let same : length newer ≡ length later = omega (arith, all, length-append newer (at ∷ earlier), length-append later done, many) in
      let parts = cut disk old new done later (at ∷ earlier) newer same course in
      let stood = courses-stand disk old parts.0 k [] done s (courses-with-moments disk old parts.0 done (at ∷ earlier) parts.1).0 in
      let there = subst (λ (h : List Entry). StandsLegally disk parts.0 k h) (append-nil done) stood.1 in
      let leaves = courses-leave disk only_now tells parts.0 new k done later there (courses-with-moments disk parts.0 new later newer parts.2).0 in
      let then = newest disk old parts.0 done at earlier parts.1 in (
        subst (λ (t : ℕ). t ≤ disk.moment (disk_of new)) then leaves.later,
        λ c left. subst (λ (t : Terms). LeavesAlong t k done later c) stood.0 (leaves.each c (subst (λ (t : ℕ). disk.left_since (disk_of new) t c) (sym then) left)),
      )

  pub courses-tie : CoursesTie disk
  courses-tie = λ tells old new k done later moments at s course behind.
      tied old new k done later behind.0 behind.1 at tells s behind.3 (subst (λ (ts : List ℕ). CourseAt disk old (later ++ done) ts new) behind.2 course)
