-- What stands after several calls, and what a crash leaves at any moment of them.
use Rattle.std.proofs.Common.{◌≡◌, inl, inr, ℕ, List, [], ◌∷◌, ◌++◌, Some, None, refl, sym, ap, ◌∙◌, subst, append-nil}
use Rattle.ocm_disk.specs.Disk.{LeavesOnly}
use Rattle.ocm_disk.specs.declared.disk.Disk.{Ghosts}
use Rattle.ocm_disk.proofs.Moments.{started}
use Rattle.ocm_entry.specs.declared.entries.Entry.{Entry}
use Rattle.ocm_journal.proofs.Moving.{joined, weaker}
use Rattle.ocm_store.specs.declared.stores.Store.{Store}
use Rattle.ocm_store.specs.declared.terms.Terms.{Terms}
use Rattle.ocm_store.specs.Acts.{StandsLegally}
use Rattle.ocm_store.specs.Courses.{Course, CoursesKeep, CoursesLeave, CoursesStand, LeavesAlong, LeavesAtPlace, MomentsHavePlaces, next_ask}
use Rattle.ocm_store.specs.Stores.{IsLegalUnder, LeavesNext, disk_of, terms_of}
use Rattle.ocm_store.proofs.Exits.{leaves-in_flight}

-- one call more leaves the places behind it
with-later : (terms : Terms) (k done before : List Entry) (e : Entry) (c : List ℕ) → LeavesAtPlace terms k done before c → LeavesAtPlace terms k done (e ∷ before) c
with-later terms k done before e c (newer, behind, is, next) = by_newer newer is next
  where
    by_newer : (l : List Entry) → before ≡ l ++ behind → LeavesNext terms k (behind ++ done) (next_ask l) c → LeavesAtPlace terms k done (e ∷ before) c
    by_newer [] all left = (e ∷ [], behind, ap (λ (m : List Entry). e ∷ m) all, leaves-in_flight terms k (behind ++ done) e.ask c left)
    by_newer (f ∷ rest) all left = (e ∷ f ∷ rest, behind, ap (λ (m : List Entry). e ∷ m) all, left)

pub moments-have-places : MomentsHavePlaces
moments-have-places terms k done [] c left = ([], [], refl, left)
moments-have-places terms k done (e ∷ before) c (inl here) = (e ∷ [], before, refl, here)
moments-have-places terms k done (e ∷ before) c (inr earlier) = with-later terms k done before e c (moments-have-places terms k done before c earlier)

module _ {D : Type 0} (disk : Ghosts D) where
  -- the terms stay
  course-terms : (old new : Store D disk) (later : List Entry) → Course disk old later new → terms_of new ≡ terms_of old
  course-terms old new [] same = ap (λ (s : Store D disk). terms_of s) same
  course-terms old new (e ∷ before) (mid, so_far, acts) = acts.terms ∙ course-terms old mid before so_far

  -- each call stands behind those before it
  course-legal : (old new : Store D disk) (k done later : List Entry) → StandsLegally disk old k done → Course disk old later new → StandsLegally disk new k (later ++ done)
  course-legal old new k done [] s same = subst (λ (x : Store D disk). StandsLegally disk x k done) (sym same) s
  course-legal old new k done (e ∷ before) s (mid, so_far, acts) =
      let here = course-legal old mid k done before s so_far in
      record {
        stands = acts.stands k (before ++ done) here;
        legal = subst (λ (t : Terms). IsLegalUnder t k (e ∷ (before ++ done))) (sym acts.terms) (acts.legal k (before ++ done) here);
      }

  pub courses-stand : CoursesStand disk
  courses-stand = λ old new k done later s course. (course-terms old new later course, course-legal old new k done later s course)

  -- a course of two parts
  cut-course : (old new : Store D disk) (done later : List Entry) → Course disk old (later ++ done) new → (mid : Store D disk) × Course disk old done mid × Course disk mid later new
  cut-course old new done [] course = (new, course, refl)
  cut-course old new done (e ∷ before) (last, so_far, acts) = let cut = cut-course old last done before so_far in (cut.0, cut.1, (last, cut.2, acts))

module _ {D : Type 0} (disk : Ghosts D) (only_now : (d : D) (c : List ℕ) → disk.left_since d (disk.moment d) c → disk.may_leave d c) where
  course-leaves : (old new : Store D disk) (k done later : List Entry) → disk.tells → StandsLegally disk old k done → Course disk old later new
      → LeavesOnly disk.moment disk.left_since (disk_of old) (disk_of new) (LeavesAlong (terms_of old) k done later)
  course-leaves old new k done [] tells s same =
      subst (λ (x : Store D disk). LeavesOnly disk.moment disk.left_since (disk_of old) (disk_of x) (LeavesNext (terms_of old) k done None)) (sym same)
      (started disk.moment disk.left_since (disk_of old) (LeavesNext (terms_of old) k done None) (λ c left. s.stands.leaves tells c (only_now (disk_of old) c left)))
  course-leaves old new k done (e ∷ before) tells s (mid, so_far, acts) =
      let terms = terms_of old in
      let here = course-legal disk old mid k done before s so_far in
      let call = subst (λ (t : Terms). LeavesOnly disk.moment disk.left_since (disk_of mid) (disk_of new) (LeavesNext t k (before ++ done) (Some e.ask))) (course-terms disk old mid before so_far)
      (acts.any_moment tells k (before ++ done) here) in
      joined disk.moment disk.left_since (disk_of old) (disk_of mid) (disk_of new) (LeavesAlong terms k done (e ∷ before))
      (weaker disk.moment disk.left_since (disk_of old) (disk_of mid) (LeavesAlong terms k done before) (LeavesAlong terms k done (e ∷ before)) (course-leaves old mid k done before tells s so_far) (λ c left. inr left))
      (weaker disk.moment disk.left_since (disk_of mid) (disk_of new) (LeavesNext terms k (before ++ done) (Some e.ask)) (LeavesAlong terms k done (e ∷ before)) call (λ c left. inl left))

  pub courses-leave : CoursesLeave disk
  courses-leave = λ tells old new k done later s course. course-leaves old new k done later tells s course

  pub courses-keep : CoursesKeep disk
  courses-keep = λ old new k done later s course.
      let cut = cut-course disk old new done later course in
      let there = subst (λ (h : List Entry). StandsLegally disk cut.0 k h) (append-nil done) (course-legal disk old cut.0 k [] done s cut.1) in (
        cut.0,
        cut.1,
        cut.2,
        there,
        λ tells. subst (λ (t : Terms). LeavesOnly disk.moment disk.left_since (disk_of cut.0) (disk_of new) (LeavesAlong t k done later)) (course-terms disk old cut.0 done cut.1)
            (course-leaves cut.0 new k done later tells there cut.2),
      )
